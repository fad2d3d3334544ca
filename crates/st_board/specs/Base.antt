-- What a base had at first, and what operations make of it.
use Rattle.std.specs.Prelude.{◌≡◌, ◌⊎◌, ℕ, Bool, true, List, [], ◌∷◌, ◌++◌, fold, Option, IsTrue}
use Rattle.std.specs.List.{AllByRecursion, list_all}
use Rattle.st_fold.specs.Map.{Map}
use Rattle.st_key.specs.Spans.{all_keys, within}
use Rattle.st_meta.specs.Stored.{sets_of, stored}
use Rattle.st_meta.specs.declared.state.Meta.{Meta}
use Rattle.st_model.specs.declared.piece.Phase.TheVariants.{Readable}
use Rattle.st_model.specs.declared.piece.Piece.{Piece}
use Rattle.st_mutation.specs.Effect.{value_by}
use Rattle.st_mutation.specs.declared.batch.Mutation.{Mutation}
use Rattle.st_mutation.specs.declared.batch.Mutation.TheVariants as write
use Rattle.st_ops.specs.Grammar.{Fits, is_change}
use Rattle.st_ops.specs.declared.op.Op.{Op}
use Rattle.st_ops.specs.declared.op.Op.TheVariants.{Set, Clear, SnapItem, SnapEnd, Commit}

-- all keys in one piece that is served
abbrev pub all_served : List Piece
all_served = record { begin = []; end = 255 ∷ []; phase = Readable } ∷ []

-- a number is one of these
abbrev pub Among : ℕ → List ℕ → Type 0
Among version [] = ⊥
Among version (other ∷ later) = (other ≡ version) ⊎ Among version later

-- a set of a user's key, or a clear
abbrev pub IsWrite : Mutation → Type 0
IsWrite (write.Set key value) = within all_keys key ≡ true
IsWrite (write.Clear span) = Unit {0}
IsWrite (write.Atomic op key operand) = ⊥

-- sets and clears, each clear of some keys, whose fields have lengths of four bytes
pub record AreChanges (ops : List Op) : Type 0 where
  pub changes : IsTrue (list_all is_change ops)
  pub fits : AllByRecursion Fits ops

-- the same of an operation
abbrev pub IsOfUsers : Op → Type 0
IsOfUsers (Set key value) = within all_keys key ≡ true
IsOfUsers (Clear begin end) = Unit {0}
IsOfUsers (SnapItem key value) = ⊥
IsOfUsers SnapEnd = ⊥
IsOfUsers Commit = ⊥

-- operations change keys of users, and at last store this state
pub record LeadTo (meta : Meta) (ops : List Op) : Type 0 where
  pub changes : List Op
  pub whole : ops ≡ changes ++ sets_of (stored meta)
  pub users : AllByRecursion IsOfUsers changes

-- What a store had when a life opened: whether it had no frame, and the pairs of the available keys.
pub record Store : Type 0 where
  pub fresh : Bool
  pub pairs : Map

-- the value of a key behind an operation, where it had this one before
abbrev pub value_by_op : List ℕ → Option (List ℕ) → Op → Option (List ℕ)
value_by_op key before (Set set value) = value_by key before (write.Set set value)
value_by_op key before (Clear begin end) = value_by key before (write.Clear (record { begin = begin; end = end }))
value_by_op key before (SnapItem item value) = before
value_by_op key before SnapEnd = before
value_by_op key before Commit = before

-- and behind several
abbrev pub value_behind : List ℕ → Option (List ℕ) → List Op → Option (List ℕ)
value_behind key before ops = fold (value_by_op key) before ops
