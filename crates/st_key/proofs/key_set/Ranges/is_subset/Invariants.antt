use Rattle.std.proofs.Common.{◌≡◌, drop, IsTrue}
use Rattle.std.specs.List.{list_all}
use Rattle.st_key.specs.Parts.{lies_in}
use Rattle.st_key.specs.Spans.{is_canonical}
use Rattle.st_key.proofs.key_set.Ranges.is_subset.Given as goal

-- what is left of both tells what all tells
abbrev pub invariant-loop-piece : goal.invariant-loop-piece
invariant-loop-piece l = record {
  same : list_all (lies_in l.left) (drop l.piece-index l.piece-items) ≡ list_all (lies_in l.other) l.self;
  canonical : IsTrue (is_canonical l.left);
}
