-- A version in the making goes on behind what is stored.
use Rattle.std.proofs.Common.{◌≡◌, ◌∙◌, Option, Some, None, IsSome, Result, Ok, Err, OnOk, OnErr, refl, sym, ap, subst}
use Rattle.std.specs.Option.{option_map}
use Rattle.st_mutation.specs.declared.batch.Mutation.{Mutation}
use Rattle.st_mutation.specs.declared.batch.Mutation.TheVariants.{Set, Clear, Atomic}
use Rattle.st_versioned.specs.Window.{Kept, Stands, Versions, abandoned, with_change, with_mutation}
use Rattle.st_versioned.specs.declared.change.Change.{Change}
use Rattle.st_versioned.specs.declared.change.Change.TheVariants as change
use Rattle.st_board.specs.Making.{GoesOn, IsGoing}
use Rattle.st_board.specs.Storing.{with_stored}

still : (f : Kept → Kept) (o : Option Kept) → IsSome o → IsSome (option_map f o)
still f None is = is
still f (Some kept) is = refl

pub making-still : (s : Option Mutation) (window : Versions) → IsSome window.making → IsSome (with_stored s window).making
making-still None window is = is
making-still (Some (Set key value)) window is = still _ window.making is
making-still (Some (Clear span)) window is = still _ window.making is
making-still (Some (Atomic op key operand)) window is = is

module _ (changed : (window : Versions) (c : Change) → abandoned (with_change c window) ≡ abandoned window) (mutated : (window : Versions) (m : Mutation) → Stands window → abandoned (with_mutation m window) ≡ abandoned window) where
  pub undone : (s : Option Mutation) (window : Versions) → Stands window → abandoned (with_stored s window) ≡ abandoned window
  undone None window stands = refl
  undone (Some (Set key value)) window stands = changed (with_mutation (Set key value) window) (change.Set key value) ∙ mutated window (Set key value) stands
  undone (Some (Clear span)) window stands = changed (with_mutation (Clear span) window) (change.Clear span) ∙ mutated window (Clear span) stands
  undone (Some (Atomic op key operand)) window stands = refl

  -- where it is stored, or nothing is
  pub goes-stored : {A E : Type 0} → (r : Result A E) (s : Option Mutation) (before after : Versions) → IsGoing before
      → OnOk r (after ≡ with_stored s before) → OnOk r (Stands after) → OnErr r (after ≡ before) → GoesOn before after
  goes-stored (Ok a) s before after is ok stands err = record {
    going = record { making = subst (λ (w : Versions). IsSome w.making) (sym ok) (making-still s before is.making); stands = stands };
    undone = ap abandoned ok ∙ undone s before is.stands;
  }
  goes-stored (Err e) s before after is ok stands err =
      subst (GoesOn before) (sym err) (record { going = is; undone = refl })

pub goes-same : (window : Versions) → IsGoing window → GoesOn window window
goes-same window is = record { going = is; undone = refl }

pub goes-through : (first second third : Versions) → GoesOn first second → GoesOn second third → GoesOn first third
goes-through first second third a b = record { going = b.going; undone = b.undone ∙ a.undone }
