use Rattle.std.proofs.Common.{◌≡◌, ◌++◌, ◌-◌}
use Rattle.std.specs.Option.{option_map}
use Rattle.st_meta.specs.Reading.{spans_at}
use Rattle.st_meta.proofs.reading.take_ranges.Given as goal

-- those so far, and what is left
abbrev pub invariant-loop : goal.invariant-loop
invariant-loop l = option_map (λ later. l.ranges.items ++ later) (spans_at (l.count - l.counter) l.rest) ≡ spans_at l.count l.bytes
