-- When bytes are refused for their number.
use Rattle.std.specs.Prelude.{◌≡◌, ℕ, ◌<◌, ◌≤◌, Result, Ok, Err}
use Rattle.st_key.specs.declared.stored.KeyRefusal.{KeyRefusal}
use Rattle.st_key.specs.declared.stored.KeyRefusal.TheVariants as why_key
use Rattle.st_key.specs.declared.stored.ValueRefusal.{ValueRefusal}
use Rattle.st_key.specs.declared.stored.ValueRefusal.TheVariants as why_value

-- `KeyTooLong`, with the length, exactly where it is above the limit
abbrev pub RefusesLongKey : {K : Type 0} → ℕ → ℕ → Result K KeyRefusal → Type 0
RefusesLongKey limit len (Ok key) = len ≤ limit
RefusesLongKey limit len (Err (why_key.KeyTooLong refused)) = (limit < len) × (refused ≡ len)
RefusesLongKey limit len (Err why_key.NoMemory) = len ≤ limit

-- `ValueTooLong`, with the length, exactly where it is above the limit
abbrev pub RefusesLongValue : {V : Type 0} → ℕ → ℕ → Result V ValueRefusal → Type 0
RefusesLongValue limit len (Ok value) = len ≤ limit
RefusesLongValue limit len (Err (why_value.ValueTooLong refused)) = (limit < len) × (refused ≡ len)
RefusesLongValue limit len (Err why_value.NoMemory) = len ≤ limit
