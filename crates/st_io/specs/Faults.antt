-- Counts of faults. They rise by one at a time, and stand still at the last u64.
use Rattle.std.specs.Prelude.{ℕ, ◌+◌, ◌-◌, ◌^◌, ◌≤◌, min}

-- the count after one more
abbrev pub one_more : ℕ → ℕ
one_more count = min (count + 1) (2 ^ 64 - 1)

-- a count rose, or stands at the last u64
abbrev pub Rose : ℕ → ℕ → Type 0
Rose before now = one_more before ≤ now
