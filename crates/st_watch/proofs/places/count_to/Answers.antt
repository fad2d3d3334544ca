use Rattle.std.proofs.Common.{◌≡◌, true, false, not, rules}
use Rattle.std.proofs.lemmas.Bool.{not-false, not-true}
use Rattle.std.proofs.lemmas.List.Sorted.{IsPartitionPoint-from_clause}
use Rattle.std.specs.List.Sorted.{IsPartitionPoint}
use Rattle.st_key.specs.Spans.{key_less}
use Rattle.st_watch.specs.declared.entry.Entry.{Entry}
use Rattle.st_watch.proofs.Lists.{all-below, all-from}
use Rattle.st_watch.proofs.Order.{parted-to}
use Rattle.st_watch.proofs.places.count_to.Goals as goal

module _ (c : goal.After-partition_point) where
  point : IsPartitionPoint (λ (e : Entry). not (key_less c.args.key.now e.standing.key) ≡ true) (λ e. not (key_less c.args.key.now e.standing.key) ≡ false) c.args.entries.now c.partition_point.result
  point =
      IsPartitionPoint-from_clause (λ (e : Entry). not (key_less c.args.key.now e.standing.key)) c.args.entries.now c.partition_point.result c.partition_point.ensures.partitioned
      (parted-to c.args.key.now c.args.entries.now c.requires) (λ a r q k. search rules)

pub returns-clause-first : goal.returns-clause-first
returns-clause-first c =
    all-below (λ (e : Entry). key_less c.args.key.now e.standing.key ≡ false) c.partition_point.result c.args.entries.now
    (λ k d low high. not-true _ ((point c).0 k d low high))

pub returns-clause-others : goal.returns-clause-others
returns-clause-others c =
    all-from (λ (e : Entry). key_less c.args.key.now e.standing.key ≡ true) c.partition_point.result c.args.entries.now
    (λ k d low high. not-false _ ((point c).1 k d low high))
