-- Where bytes break the grammar, said of the grammar alone.
use Rattle.std.specs.Prelude.{◌≡◌, ℕ, ◌≤◌, List, ◌++◌, length}
use Rattle.st_ops.specs.declared.op.Op.{Op}
use Rattle.st_ops.specs.declared.op.OpsRefusal.{OpsRefusal}
use Rattle.st_ops.specs.declared.op.OpsRefusal.TheVariants.{BadOps, NoMemory}
use Rattle.st_ops.specs.Grammar.{IsPayload}
use Rattle.st_ops.specs.Spelling.{spelt}

-- the bytes before the place spell the first operations of some payload
pub record IsReached (bytes : List ℕ) (place : ℕ) : Type 0 where
  pub before : List Op
  pub after : List Op
  pub rest : List ℕ
  pub payload : IsPayload (before ++ after)
  pub spells : bytes ≡ spelt before ++ rest
  pub place_is : length (spelt before) ≡ place

-- the last such place: there stands the tag of the first operation that breaks the grammar, or the bytes end and more must come
pub record BreaksAt (bytes : List ℕ) (place : ℕ) : Type 0 where
  pub reached : IsReached bytes place
  pub last : (other : ℕ) → IsReached bytes other → other ≤ place

-- what a refusal tells of the bytes
abbrev pub Tells : List ℕ → OpsRefusal → Type 0
Tells bytes (BadOps at) = BreaksAt bytes at
Tells bytes NoMemory = Unit {0}
