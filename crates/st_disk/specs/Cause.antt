-- When a disk may say that it failed.
use Rattle.std.specs.Prelude.{◌≤◌, ◌+◌, ◌-◌, ◌^◌, ℕ, min}
use Rattle.st_disk.specs.History.{risen}

-- A count of faults never falls, and a call fails only where it rose in that call, or stands at its end.
pub record HasCause (before now : ℕ) (failed : Type 0) : Type 0 where
  pub never_falls : before ≤ now
  pub rose : failed → risen before ≤ now

-- two counts as one
abbrev pub together : ℕ → ℕ → ℕ
together inner own = min (inner + own) (2 ^ 64 - 1)
