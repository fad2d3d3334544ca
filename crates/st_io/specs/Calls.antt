-- Calls of which some fail by their number.
use Rattle.std.specs.Prelude.{ℕ, Bool, List, if◌then◌else◌, ◌==◌}
use Rattle.std.specs.List.{list_any}
use Rattle.st_io.specs.Faults.{one_more}

-- the numbers of the calls that fail, from 1, how many calls were made, and how many of them failed
pub record Calls : Type 0 where
  pub fails : List ℕ
  pub made : ℕ
  pub faults : ℕ

-- before the first call
abbrev pub no_calls : List ℕ → Calls
no_calls fails = record { fails = fails; made = 0; faults = 0 }

-- whether the next call fails
abbrev pub next_fails : Calls → Bool
next_fails calls = list_any (λ number. number == one_more calls.made) calls.fails

-- after the next call
abbrev pub after_next : Calls → Calls
after_next calls =
    record calls { made = one_more calls.made; faults = if next_fails calls then one_more calls.faults else calls.faults }
