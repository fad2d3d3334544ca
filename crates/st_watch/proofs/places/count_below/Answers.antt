use Rattle.std.proofs.Common.{◌≡◌, true, false, rules}
use Rattle.std.proofs.lemmas.List.Sorted.{IsPartitionPoint-from_clause}
use Rattle.std.specs.List.Sorted.{IsPartitionPoint}
use Rattle.st_key.specs.Spans.{key_less}
use Rattle.st_watch.specs.declared.entry.Entry.{Entry}
use Rattle.st_watch.proofs.Lists.{all-below, all-from}
use Rattle.st_watch.proofs.Order.{parted-below}
use Rattle.st_watch.proofs.places.count_below.Goals as goal

module _ (c : goal.After-partition_point) where
  point : IsPartitionPoint (λ (e : Entry). key_less e.standing.key c.args.key.now ≡ true) (λ e. key_less e.standing.key c.args.key.now ≡ false) c.args.entries.now c.partition_point.result
  point =
      IsPartitionPoint-from_clause (λ (e : Entry). key_less e.standing.key c.args.key.now) c.args.entries.now c.partition_point.result c.partition_point.ensures.partitioned
      (parted-below c.args.key.now c.args.entries.now c.requires) (λ a r q k. search rules)

pub returns-clause-first : goal.returns-clause-first
returns-clause-first c = all-below (λ (e : Entry). key_less e.standing.key c.args.key.now ≡ true) c.partition_point.result c.args.entries.now (point c).0

pub returns-clause-others : goal.returns-clause-others
returns-clause-others c = all-from (λ (e : Entry). key_less e.standing.key c.args.key.now ≡ false) c.partition_point.result c.args.entries.now (point c).1
