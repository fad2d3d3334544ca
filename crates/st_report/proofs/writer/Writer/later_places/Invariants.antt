use Rattle.std.proofs.Common.{◌≡◌, ◌++◌, codes, decimal, take}
use Rattle.std.specs.List.{flat_map}
use Rattle.st_report.proofs.writer.Writer.later_places.Given as goal

-- the places so far
abbrev pub invariant-loop-place : goal.invariant-loop-place
invariant-loop-place l =
    l.self.bytes.items ≡ l.fn.self.bytes.items ++ flat_map (λ next. codes "," ++ decimal next) (take l.place-index l.places)
