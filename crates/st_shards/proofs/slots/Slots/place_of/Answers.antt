use Rattle.std.proofs.Common.{◌≡◌, ◌≤◌, not, false, rules, length, subst, sym}
use Rattle.std.specs.List.{AllWithin}
use Rattle.std.proofs.lemmas.List.Sorted.{IsPartitionPoint-from_clause}
use Rattle.st_key.specs.Spans.{key_less}
use Rattle.st_model.specs.declared.piece.Piece.{Piece}
use Rattle.st_model.specs.Partition.{IsPartition}
use Rattle.st_shards.proofs.Cuts.{place_facts}
use Rattle.st_shards.proofs.slots.Slots.place_of.Goals as goal

pub returns-clause-held : goal.returns-clause-held
returns-clause-held c = λ parts lt.
    let e = c.as_slice-pieces.ensures in
    let point =
    IsPartitionPoint-from_clause (λ (piece : Piece). not (key_less c.args.key.now piece.end)) _ _ c.partition_point.ensures.partitioned
    (c.pieces_are_found.ensures.parted c.args.key.now c.as_slice-pieces.result.now (subst IsPartition (sym e) parts)) (λ a r q k. search rules) in
    let both = place_facts c.args.self.now c.as_slice-pieces.result.now c.args.key.now c.partition_point.result e point in
    c.pieces_are_found.ensures.found c.args.self.now c.args.key.now c.partition_point.result parts both.0 both.1 lt

pub returns-clause-in_range : goal.returns-clause-in_range
returns-clause-in_range c = λ parts below.
    let e = c.as_slice-pieces.ensures in
    let point =
    IsPartitionPoint-from_clause (λ (piece : Piece). not (key_less c.args.key.now piece.end)) _ _ c.partition_point.ensures.partitioned
    (c.pieces_are_found.ensures.parted c.args.key.now c.as_slice-pieces.result.now (subst IsPartition (sym e) parts)) (λ a r q k. search rules) in
    let both = place_facts c.args.self.now c.as_slice-pieces.result.now c.args.key.now c.partition_point.result e point in
    c.pieces_are_found.ensures.in_range c.args.self.now c.args.key.now c.partition_point.result parts both.0 both.1
    (subst (λ ps. c.partition_point.result ≤ length ps) e c.partition_point.ensures.bound) below

pub returns-clause-past : goal.returns-clause-past
returns-clause-past c = λ parts same test.
    let e = c.as_slice-pieces.ensures in
    let point =
    IsPartitionPoint-from_clause (λ (piece : Piece). not (key_less c.args.key.now piece.end)) _ _ c.partition_point.ensures.partitioned
    (c.pieces_are_found.ensures.parted c.args.key.now c.as_slice-pieces.result.now (subst IsPartition (sym e) parts)) (λ a r q k. search rules) in
    let both = place_facts c.args.self.now c.as_slice-pieces.result.now c.args.key.now c.partition_point.result e point in
    c.pieces_change_at_a_place.ensures.uncut test c.args.key.now c.args.self.now
    (subst (λ n. AllWithin (λ (piece : Piece). key_less c.args.key.now piece.end ≡ false) c.args.self.now 0 n) same both.0)

pub returns-clause-ended : goal.returns-clause-ended
returns-clause-ended c = λ parts.
    let e = c.as_slice-pieces.ensures in
    let point =
    IsPartitionPoint-from_clause (λ (piece : Piece). not (key_less c.args.key.now piece.end)) _ _ c.partition_point.ensures.partitioned
    (c.pieces_are_found.ensures.parted c.args.key.now c.as_slice-pieces.result.now (subst IsPartition (sym e) parts)) (λ a r q k. search rules) in
    (place_facts c.args.self.now c.as_slice-pieces.result.now c.args.key.now c.partition_point.result e point).0

pub returns-clause-ending : goal.returns-clause-ending
returns-clause-ending c = λ parts.
    let e = c.as_slice-pieces.ensures in
    let point =
    IsPartitionPoint-from_clause (λ (piece : Piece). not (key_less c.args.key.now piece.end)) _ _ c.partition_point.ensures.partitioned
    (c.pieces_are_found.ensures.parted c.args.key.now c.as_slice-pieces.result.now (subst IsPartition (sym e) parts)) (λ a r q k. search rules) in
    (place_facts c.args.self.now c.as_slice-pieces.result.now c.args.key.now c.partition_point.result e point).1
