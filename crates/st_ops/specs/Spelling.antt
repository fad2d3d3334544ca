-- The spelling of operations. Numbers are little-endian.
use Rattle.std.specs.Prelude.{ℕ, List, [], ◌∷◌, ◌++◌, length}
use Rattle.std.specs.List.{flat_map}
use Rattle.st_num.specs.Number.{little_bytes}
use Rattle.st_ops.specs.declared.op.Op.{Op}
use Rattle.st_ops.specs.declared.op.Op.TheVariants.{Set, Clear, SnapItem, SnapEnd, Commit}

-- two fields: both lengths in four bytes each, and then the fields
abbrev pub fields : List ℕ → List ℕ → List ℕ
fields first second = little_bytes 4 (length first) ++ little_bytes 4 (length second) ++ first ++ second

-- an operation is its tag, and behind it what it has
abbrev pub spelled : Op → List ℕ
spelled (Set key value) = 1 ∷ fields key value
spelled (Clear begin end) = 2 ∷ fields begin end
spelled (SnapItem key value) = 3 ∷ fields key value
spelled SnapEnd = 4 ∷ []
spelled Commit = 5 ∷ []

-- a list is its operations one after another
abbrev pub spelt : List Op → List ℕ
spelt ops = flat_map spelled ops
