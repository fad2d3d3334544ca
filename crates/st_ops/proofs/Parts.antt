-- A list has the form exactly where it has the parts.
use Rattle.std.proofs.Common.{◌≡◌, Bool, true, false, ◌&&◌, ℕ, List, [], ◌∷◌, ◌++◌, refl, ap}
use Rattle.std.specs.List.{list_all}
use Rattle.st_ops.specs.declared.op.Op.{Op}
use Rattle.st_ops.specs.declared.op.Op.TheVariants.{Set, Clear, SnapItem, SnapEnd, Commit}
use Rattle.st_ops.specs.Grammar.{less, is_ending, has_form_above, has_form, is_change, are_items_above, are_items, HasParts}

both_true : (a b : Bool) → (a && b) ≡ true → (a ≡ true) × (b ≡ true)
both_true true b e = (refl, e)
both_true false b e = absurd cc

and_true : (a b : Bool) → a ≡ true → b ≡ true → (a && b) ≡ true
and_true true b p q = q
and_true false b p q = absurd cc

ending_above : (last : List ℕ) (ops : List Op) → is_ending ops ≡ true → has_form_above last ops ≡ true
ending_above last [] e = e
ending_above last (Set key value ∷ ops) e = e
ending_above last (Clear begin end ∷ ops) e = e
ending_above last (SnapItem key value ∷ ops) e = absurd cc
ending_above last (SnapEnd ∷ ops) e = e
ending_above last (Commit ∷ ops) e = e

ending_has_form : (ops : List Op) → is_ending ops ≡ true → has_form ops ≡ true
ending_has_form [] e = e
ending_has_form (Set key value ∷ ops) e = absurd cc
ending_has_form (Clear begin end ∷ ops) e = absurd cc
ending_has_form (SnapItem key value ∷ ops) e = absurd cc
ending_has_form (SnapEnd ∷ ops) e = e
ending_has_form (Commit ∷ ops) e = e

items_above : (last : List ℕ) (items ending : List Op) → are_items_above last items ≡ true → is_ending ending ≡ true → has_form_above last (items ++ ending) ≡ true
items_above last [] ending e f = ending_above last ending f
items_above last (Set key value ∷ ops) ending e f = absurd cc
items_above last (Clear begin end ∷ ops) ending e f = absurd cc
items_above last (SnapItem key value ∷ ops) ending e f =
    let parts = both_true (less last key) (are_items_above key ops) e in
    and_true (less last key) (has_form_above key (ops ++ ending)) parts.0 (items_above key ops ending parts.1 f)
items_above last (SnapEnd ∷ ops) ending e f = absurd cc
items_above last (Commit ∷ ops) ending e f = absurd cc

items_joined : (items ending : List Op) → are_items items ≡ true → is_ending ending ≡ true → has_form (items ++ ending) ≡ true
items_joined [] ending e f = ending_has_form ending f
items_joined (Set key value ∷ ops) ending e f = absurd cc
items_joined (Clear begin end ∷ ops) ending e f = absurd cc
items_joined (SnapItem key value ∷ ops) ending e f = items_above key ops ending e f
items_joined (SnapEnd ∷ ops) ending e f = absurd cc
items_joined (Commit ∷ ops) ending e f = absurd cc

pub joined : (changes items ending : List Op) → list_all is_change changes ≡ true → are_items items ≡ true → is_ending ending ≡ true
    → has_form (changes ++ items ++ ending) ≡ true
joined [] items ending c e f = items_joined items ending e f
joined (Set key value ∷ changes) items ending c e f = joined changes items ending c e f
joined (Clear begin end ∷ changes) items ending c e f =
    let parts = both_true (less begin end) (list_all is_change changes) c in
    and_true (less begin end) (has_form (changes ++ items ++ ending)) parts.0 (joined changes items ending parts.1 e f)
joined (SnapItem key value ∷ changes) items ending c e f = absurd cc
joined (SnapEnd ∷ changes) items ending c e f = absurd cc
joined (Commit ∷ changes) items ending c e f = absurd cc

record ItemsParts (last : List ℕ) (ops : List Op) : Type 0 where
  items : List Op
  ending : List Op
  parts : ops ≡ items ++ ending
  are_items : are_items_above last items ≡ true
  is_ending : is_ending ending ≡ true

only_ending : (last : List ℕ) (ops : List Op) → is_ending ops ≡ true → ItemsParts last ops
only_ending last ops e = record { items = []; ending = ops; parts = refl; are_items = refl; is_ending = e }

items_parted : (last : List ℕ) (ops : List Op) → has_form_above last ops ≡ true → ItemsParts last ops
items_parted last [] e = absurd cc
items_parted last (Set key value ∷ ops) e = absurd cc
items_parted last (Clear begin end ∷ ops) e = absurd cc
items_parted last (SnapItem key value ∷ ops) e =
    let here = both_true (less last key) (has_form_above key ops) e in
    let later = items_parted key ops here.1 in
    record {
      items = SnapItem key value ∷ later.items;
      ending = later.ending;
      parts = ap (λ (l : List Op). SnapItem key value ∷ l) later.parts;
      are_items = and_true (less last key) (are_items_above key later.items) here.0 later.are_items;
      is_ending = later.is_ending;
    }
items_parted last (SnapEnd ∷ ops) e = only_ending last (SnapEnd ∷ ops) e
items_parted last (Commit ∷ ops) e = only_ending last (Commit ∷ ops) e

one_more : (op : Op) (ops : List Op) → is_change op ≡ true → HasParts ops → HasParts (op ∷ ops)
one_more op ops is later = record {
  changes = op ∷ later.changes;
  items = later.items;
  ending = later.ending;
  parts = ap (λ (l : List Op). op ∷ l) later.parts;
  are_changes = and_true (is_change op) (list_all is_change later.changes) is later.are_changes;
  are_items = later.are_items;
  is_ending = later.is_ending;
}

pub parted : (ops : List Op) → has_form ops ≡ true → HasParts ops
parted [] e = absurd cc
parted (Set key value ∷ ops) e = one_more (Set key value) ops refl (parted ops e)
parted (Clear begin end ∷ ops) e =
    let here = both_true (less begin end) (has_form ops) e in
    one_more (Clear begin end) ops here.0 (parted ops here.1)
parted (SnapItem key value ∷ ops) e =
    let later = items_parted key ops e in
    record {
      changes = [];
      items = SnapItem key value ∷ later.items;
      ending = later.ending;
      parts = ap (λ (l : List Op). SnapItem key value ∷ l) later.parts;
      are_changes = refl;
      are_items = later.are_items;
      is_ending = later.is_ending;
    }
parted (SnapEnd ∷ ops) e = record { changes = []; items = []; ending = SnapEnd ∷ ops; parts = refl; are_changes = refl; are_items = refl; is_ending = e }
parted (Commit ∷ ops) e = record { changes = []; items = []; ending = Commit ∷ ops; parts = refl; are_changes = refl; are_items = refl; is_ending = e }
