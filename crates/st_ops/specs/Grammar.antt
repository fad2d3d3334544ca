-- Which lists of operations a payload may have: any number of sets and clears, then snapshot items whose keys rise, then
-- at most one SnapEnd, then one Commit, and nothing after it.
use Rattle.std.specs.Prelude.{◌≡◌, ℕ, ◌<◌, ◌^◌, Bool, true, false, ◌&&◌, List, [], ◌∷◌, ◌++◌, length, IsTrue}
use Rattle.std.specs.List.{AllByRecursion, list_all}
use Rattle.std.specs.Ordering.{nat_cmp, is_lt}
use Rattle.std.specs.Cmp.Lexicographic.{slice_cmp}
use Rattle.st_ops.specs.declared.op.Op.{Op}
use Rattle.st_ops.specs.declared.op.Op.TheVariants.{Set, Clear, SnapItem, SnapEnd, Commit}

-- a comes before b in the lexicographic order of bytes
abbrev pub less : List ℕ → List ℕ → Bool
less a b = is_lt (slice_cmp nat_cmp a b)

-- nothing at all
abbrev pub is_nothing : List Op → Bool
is_nothing [] = true
is_nothing (op ∷ ops) = false

-- Commit, and nothing after it
abbrev pub is_commit : List Op → Bool
is_commit (Commit ∷ ops) = is_nothing ops
is_commit ops = false

-- at most one SnapEnd, and Commit
abbrev pub is_ending : List Op → Bool
is_ending (SnapEnd ∷ ops) = is_commit ops
is_ending ops = is_commit ops

-- items whose keys rise from above this one, and the ending
abbrev pub has_form_above : List ℕ → List Op → Bool
has_form_above last (SnapItem key value ∷ ops) = less last key && has_form_above key ops
has_form_above last ops = is_ending ops

-- sets and clears, each clear of some keys; then items whose keys rise; then the ending
abbrev pub has_form : List Op → Bool
has_form (Set key value ∷ ops) = has_form ops
has_form (Clear begin end ∷ ops) = less begin end && has_form ops
has_form (SnapItem key value ∷ ops) = has_form_above key ops
has_form ops = is_ending ops

-- the lengths of the operation's fields have four bytes
abbrev pub Fits : Op → Type 0
Fits (Set key value) = (length key < 2 ^ 32) × (length value < 2 ^ 32)
Fits (Clear begin end) = (length begin < 2 ^ 32) × (length end < 2 ^ 32)
Fits (SnapItem key value) = (length key < 2 ^ 32) × (length value < 2 ^ 32)
Fits SnapEnd = Unit {0}
Fits Commit = Unit {0}

-- a list that has a spelling
pub record IsPayload (ops : List Op) : Type 0 where
  pub form : IsTrue (has_form ops)
  pub fits : AllByRecursion Fits ops

-- The parts of such a list.

-- a set, or a clear of some keys
abbrev pub is_change : Op → Bool
is_change (Set key value) = true
is_change (Clear begin end) = less begin end
is_change op = false

-- items whose keys rise from above this one
abbrev pub are_items_above : List ℕ → List Op → Bool
are_items_above last [] = true
are_items_above last (SnapItem key value ∷ ops) = less last key && are_items_above key ops
are_items_above last (op ∷ ops) = false

-- items whose keys rise
abbrev pub are_items : List Op → Bool
are_items [] = true
are_items (SnapItem key value ∷ ops) = are_items_above key ops
are_items (op ∷ ops) = false

-- changes, then items, then the ending
pub record HasParts (ops : List Op) : Type 0 where
  pub changes : List Op
  pub items : List Op
  pub ending : List Op
  pub parts : ops ≡ changes ++ items ++ ending
  pub are_changes : IsTrue (list_all is_change changes)
  pub are_items : IsTrue (are_items items)
  pub is_ending : IsTrue (is_ending ending)
