-- When a fuse lets no call pass any more.
use Rattle.std.specs.Prelude.{ℕ, ◌==◌, Bool, false, Option, Some, None}

-- so many calls have passed as may
abbrev pub is_spent : Option ℕ → ℕ → Bool
is_spent None passed = false
is_spent (Some passes) passed = passed == passes
