use Rattle.std.proofs.Common.{◌≡◌, ℕ, List, map, take}
use Rattle.st_key.specs.Spans.{Span}
use Rattle.st_model.specs.Partition.{IsPartition}
use Rattle.st_model.specs.Pieces.{ends_of}
use Rattle.st_shards.specs.Blank.{blank, cut_all}
use Rattle.st_shards.proofs.slots.Slots.cut_at_ends.Given as goal

abbrev pub invariant-loop-range : goal.invariant-loop-range
invariant-loop-range l = record {
  parted : IsPartition l.self;
  cut : (since : ℕ) (parts : List Span) → l.initial.self ≡ map (blank since) parts
      → l.self ≡ map (blank since) (cut_all parts (ends_of (take l.range-index l.ranges)));
}
