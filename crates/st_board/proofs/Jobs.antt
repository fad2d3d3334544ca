-- What jobs do to a key.
use Rattle.std.proofs.Common.{◌≡◌, ◌∙◌, ◌++◌, Bool, false, cond, ℕ, List, Option, bytes_eq, refl, sym, ap}
use Rattle.std.proofs.lemmas.Bool.{false_from_ne_true, false≢true}
use Rattle.std.proofs.lemmas.List.Sums.{fold-append}
use Rattle.st_fold.specs.Effects.{equal_bytes}
use Rattle.st_key.specs.Spans.{all_keys, within}
use Rattle.st_meta.specs.Stored.{assigned_key, available_key, sets_of, stored, version_key}
use Rattle.st_meta.specs.declared.state.Meta.{Meta}
use Rattle.st_ops.specs.declared.op.Op.{Op}
use Rattle.st_board.specs.Base.{value_behind, value_by_op}
use Rattle.st_board.specs.Kept.{IsUsers}

pub behind-append : (key : List ℕ) (before : Option (List ℕ)) (first second : List Op) → value_behind key before (first ++ second) ≡ value_behind key (value_behind key before first) second
behind-append key before first second = fold-append (value_by_op key) before first second

-- ---- the stored state

-- a user's key is no other one
not-users : (key other : List ℕ) → IsUsers key → within all_keys other ≡ false → bytes_eq key other ≡ false
not-users key other users is = false_from_ne_true (bytes_eq key other) (λ one. false≢true (sym is ∙ ap (within all_keys) (sym (equal_bytes key other one)) ∙ users))

skipped : (t : Bool) (taken left : Option (List ℕ)) → t ≡ false → cond t taken left ≡ left
skipped t taken left is = ap (λ b. cond b taken left) is

-- what stores a state leaves the keys of users
pub behind-stored : (key : List ℕ) (before : Option (List ℕ)) (meta : Meta) → IsUsers key → value_behind key before (sets_of (stored meta)) ≡ before
behind-stored key before meta users =
    skipped (bytes_eq key version_key) _ _ (not-users key version_key users refl)
    ∙ skipped (bytes_eq key available_key) _ _ (not-users key available_key users refl)
    ∙ skipped (bytes_eq key assigned_key) _ before (not-users key assigned_key users refl)
