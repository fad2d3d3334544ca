-- The version in the making behind stored mutations.
use Rattle.std.proofs.Common.{◌≡◌, ◌∙◌, ◌<◌, ◌++◌, ℕ, List, [], ◌∷◌, fold, map, Option, Some, None, IfSome, refl, sym, ap, subst}
use Rattle.std.specs.Option.{option_map, option_map_or}
use Rattle.std.proofs.lemmas.List.Sums.{fold-append}
use Rattle.std.proofs.lemmas.List.{map-append}
use Rattle.st_key.specs.Spans.{all_keys}
use Rattle.st_mutation.specs.Clip.{clipped, value_by_part}
use Rattle.st_mutation.specs.Effect.{value_by}
use Rattle.st_mutation.specs.declared.batch.Batch.{Batch}
use Rattle.st_mutation.specs.declared.batch.Mutation.{Mutation}
use Rattle.st_mutation.specs.declared.batch.Mutation.TheVariants.{Set, Clear, Atomic}
use Rattle.st_versioned.specs.Apart.{AreApart}
use Rattle.st_versioned.specs.Root.{Pairs, Row, decided, over, value_at}
use Rattle.st_versioned.specs.Window.{Kept, Versions, changed}
use Rattle.st_versioned.specs.Writing.{written}
use Rattle.st_versioned.specs.declared.change.Change.TheVariants as change
use Rattle.st_board.specs.Storing.{making_root, stored_in, stored_parts, all_stored, with_stored}
use Rattle.st_board.specs.Stands.{all_served}
use Rattle.st_board.specs.Tells.{MakesTo}
use Rattle.st_course.specs.Sent.{stored_as, value_of}
use Rattle.st_board.proofs.Deciding.{ClearsSome, WritesDecide, part-some, stored-some}
use Rattle.st_board.proofs.Effects.{makes-clear, makes-set, stored-effect, stored_value}
use Rattle.st_board.proofs.Telling.{makes-value}

-- a root behind what is stored, and the mutations that are noted of it
abbrev pub root_with : ℕ → Option Mutation → List Row → List Row
root_with version None root = root
root_with version (Some (Set key value)) root = written version (change.Set key value) root
root_with version (Some (Clear span)) root = written version (change.Clear span) root
root_with version (Some (Atomic op key operand)) root = root

abbrev pub noted : ℕ → Option Mutation → List (ℕ × Mutation)
noted version None = []
noted version (Some (Set key value)) = (version, Set key value) ∷ []
noted version (Some (Clear span)) = (version, Clear span) ∷ []
noted version (Some (Atomic op key operand)) = []

abbrev pub kept_at : ℕ → List Row → Kept
kept_at version root = record { version = version; root = root }

-- what a stored mutation leaves as it was
pub record SameButMaking (before after : Versions) : Type 0 where
  pub forgotten : after.forgotten ≡ before.forgotten
  pub newest : after.newest ≡ before.newest
  pub roots : after.roots ≡ before.roots

pub with-making : (version : ℕ) (root : List Row) (s : Option Mutation) (window : Versions) → window.making ≡ Some (kept_at version root)
    → (with_stored s window).making ≡ Some (kept_at version (root_with version s root))
with-making version root None window is = is
with-making version root (Some (Set key value)) window is = ap (option_map (changed (change.Set key value))) is
with-making version root (Some (Clear span)) window is = ap (option_map (changed (change.Clear span))) is
with-making version root (Some (Atomic op key operand)) window is = is

no_more : {X : Type 0} → (xs : List X) → xs ≡ xs ++ []
no_more [] = refl
no_more (x ∷ xs) = ap (λ l. x ∷ l) (no_more xs)

pub with-noted : (version : ℕ) (root : List Row) (s : Option Mutation) (window : Versions) → window.making ≡ Some (kept_at version root)
    → (with_stored s window).mutations ≡ window.mutations ++ noted version s
with-noted version root None window is = no_more window.mutations
with-noted version root (Some (Set key value)) window is = ap (λ (m : Option Kept). window.mutations ++ option_map_or (λ kept. (kept.version, Set key value) ∷ []) m []) is
with-noted version root (Some (Clear span)) window is = ap (λ (m : Option Kept). window.mutations ++ option_map_or (λ kept. (kept.version, Clear span) ∷ []) m []) is
with-noted version root (Some (Atomic op key operand)) window is = no_more window.mutations

pub with-same : (s : Option Mutation) (window : Versions) → SameButMaking window (with_stored s window)
with-same None window = record { forgotten = refl; newest = refl; roots = refl }
with-same (Some (Set key value)) window = record { forgotten = refl; newest = refl; roots = refl }
with-same (Some (Clear span)) window = record { forgotten = refl; newest = refl; roots = refl }
with-same (Some (Atomic op key operand)) window = record { forgotten = refl; newest = refl; roots = refl }

-- what is decided in the making, where this is the value of the key now, and the mutations that are noted lead from its value at
-- the durable version to it
pub record Making (log : List Batch) (base : Pairs) (durable newest version : ℕ) (window : Versions) (key : List ℕ) (now : Option (List ℕ)) : Type 0 where
  pub root : List Row
  pub is : window.making ≡ Some (kept_at version root)
  pub apart : AreApart root
  pub makes : MakesTo log durable newest version key (decided root key) now
  pub leads : fold (value_by key) (value_of log durable key) (map (λ made. made.1) window.mutations) ≡ now

module _ (log : List Batch) (base : Pairs) (durable newest version : ℕ) (key : List ℕ) (later : newest < version) (has : value_at base key ≡ value_of log durable key) where
  leads-noted : (s : Option Mutation) (now : Option (List ℕ)) → fold (value_by key) now (map (λ made. made.1) (noted version s)) ≡ stored_value key now s
  leads-noted None now = refl
  leads-noted (Some (Set other value)) now = refl
  leads-noted (Some (Clear span)) now = refl
  leads-noted (Some (Atomic op other operand)) now = refl

  -- what the root in the making says of the key is its value now
  pub value-now : (window : Versions) (now : Option (List ℕ)) → Making log base durable newest version window key now → over (making_root window) base key ≡ now
  value-now window now making =
      ap (λ (m : Option Kept). over (option_map_or (λ kept. kept.root) m []) base key) making.is
      ∙ makes-value log key durable newest version (value_at base key) now (decided making.root key) has making.makes

  module _ (writing : WritesDecide) where
    makes-stored : (s : Option Mutation) (root : List Row) (now : Option (List ℕ)) → AreApart root → IfSome s ClearsSome → MakesTo log durable newest version key (decided root key) now
        → MakesTo log durable newest version key (decided (root_with version s root) key) (stored_value key now s)
    makes-stored None root now apart some makes = makes
    makes-stored (Some (Set other value)) root now apart some makes =
        subst (λ d. MakesTo log durable newest version key d (value_by key now (Set other value))) (sym (writing.decides version (change.Set other value) root key apart tt))
        (makes-set log durable newest version key later other value (decided root key) now makes)
    makes-stored (Some (Clear span)) root now apart some makes =
        subst (λ d. MakesTo log durable newest version key d (value_by key now (Clear span))) (sym (writing.decides version (change.Clear span) root key apart some))
        (makes-clear log durable newest version key later span (decided root key) now makes)
    makes-stored (Some (Atomic op other operand)) root now apart some makes = makes

    apart-stored : (s : Option Mutation) (root : List Row) → AreApart root → IfSome s ClearsSome → AreApart (root_with version s root)
    apart-stored None root apart some = apart
    apart-stored (Some (Set other value)) root apart some = writing.apart version (change.Set other value) root apart tt
    apart-stored (Some (Clear span)) root apart some = writing.apart version (change.Clear span) root apart some
    apart-stored (Some (Atomic op other operand)) root apart some = apart

    -- the window behind one mutation
    making-stored : (window : Versions) (now : Option (List ℕ)) (mutation : Mutation) → ClearsSome mutation → Making log base durable newest version window key now
        → Making log base durable newest version (stored_in base window mutation) key (value_by key now mutation)
    making-stored window now mutation some making = record {
      root = root_with version stored making.root;
      is = with-making version making.root stored window making.is;
      apart = apart-stored stored making.root making.apart stored_some;
      makes = subst (λ v. MakesTo log durable newest version key (decided (root_with version stored making.root) key) v) effect (makes-stored stored making.root now making.apart stored_some making.makes);
      leads =
          ap (λ ms. fold (value_by key) (value_of log durable key) (map (λ made. made.1) ms)) (with-noted version making.root stored window making.is)
          ∙ ap (fold (value_by key) (value_of log durable key)) (map-append (λ made. made.1) window.mutations (noted version stored))
          ∙ fold-append (value_by key) (value_of log durable key) (map (λ made. made.1) window.mutations) (map (λ made. made.1) (noted version stored))
          ∙ ap (λ v. fold (value_by key) v (map (λ made. made.1) (noted version stored))) making.leads
          ∙ leads-noted stored now
          ∙ effect;
    }
      where
        before : List ℕ → Option (List ℕ)
        before = over (making_root window) base

        stored : Option Mutation
        stored = stored_as mutation before

        stored_some : IfSome stored ClearsSome
        stored_some = stored-some mutation before some

        effect : stored_value key now stored ≡ value_by key now mutation
        effect = stored-effect key now mutation before (value-now window now making)

    module _ (inside : (mutation : Mutation) (now : Option (List ℕ)) → value_by_part key now (clipped mutation all_keys) ≡ value_by key now mutation) where
      -- the window behind one mutation, where all keys are served
      pub making-part : (window : Versions) (now : Option (List ℕ)) (mutation : Mutation) → Making log base durable newest version window key now
          → Making log base durable newest version (stored_parts base all_served window mutation) key (value_by key now mutation)
      making-part window now mutation making =
          subst (Making log base durable newest version (stored_parts base all_served window mutation) key) (inside mutation now) (by_part (clipped mutation all_keys) (part-some mutation all_keys))
        where
          by_part : (part : Option Mutation) → IfSome part ClearsSome → Making log base durable newest version (option_map_or (stored_in base window) part window) key (value_by_part key now part)
          by_part None some = making
          by_part (Some part) some = making-stored window now part some making

      -- and behind several
      pub making-all : (window : Versions) (now : Option (List ℕ)) (mutations : List Mutation) → Making log base durable newest version window key now
          → Making log base durable newest version (all_stored base all_served window mutations) key (fold (value_by key) now mutations)
      making-all window now [] making = making
      making-all window now (mutation ∷ mutations) making =
          making-all (stored_parts base all_served window mutation) (value_by key now mutation) mutations (making-part window now mutation making)
