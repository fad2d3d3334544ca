-- The last item of a list, and what more words than a line may have change.
use Rattle.std.proofs.Common.{◌≡◌, ℕ, ◌-◌, ◌<◌, Bool, ◌||◌, ◌==◌, List, [], ◌∷◌, length, map, find, cond, true, false, set, get_or, take, option_map, Option, Some, None, slice_get, suc, refl, sym, ap, ◌∙◌, arith}
use Rattle.std.specs.List.{list_any}
use Rattle.std.proofs.lemmas.Bool.{ne_eqb}
use Rattle.st_script.specs.declared.form.Form.{Form}
use Rattle.st_script.specs.declared.form.Form.TheVariants as form
use Rattle.st_script.specs.declared.form.Place.{Place}
use Rattle.st_script.specs.declared.form.Place.TheVariants as place
use Rattle.st_script.specs.Draft.{Drafted, on_last, last_of}
use Rattle.st_script.specs.Words.{is_empty}
use Rattle.st_script.specs.Lines.{form_of}
use Rattle.st_script.specs.Reading.{judge, judge_known}

pub list_any-map : {A B : Type 0} (test : B → Bool) (f : A → B) (xs : List A) → list_any (λ x. test (f x)) xs ≡ list_any test (map f xs)
list_any-map test f [] = refl
list_any-map test f (x ∷ xs) = ap (λ v. test (f x) || v) (list_any-map test f xs)

-- what is found among the images, and then looked at
pub find-map : {A B C : Type 0} (test : B → Bool) (f : A → B) (g : B → C) (xs : List A) → option_map (λ x. g (f x)) (find (λ x. test (f x)) xs) ≡ option_map g (find test (map f xs))
find-map test f g [] = refl
find-map test f g (x ∷ xs) = elim (test (f x)) as (λ v.
    option_map (λ y. g (f y)) (cond v (Some x) (find (λ y. test (f y)) xs)) ≡ option_map g (cond v (Some (f x)) (find test (map f xs))))
    [ true ↦ refl | false ↦ find-map test f g xs ]

-- the last item of n, written over
pub on_last-set : {A : Type 0} (f : A → A) (xs : List A) (n : ℕ) (last : A) → n ≡ length xs → 0 < n → last ≡ get_or xs (n - 1) last → on_last f xs ≡ set xs (n - 1) (f last)
on_last-set f [] n last size some e = absurd (omega arith)
on_last-set f (x ∷ []) n last size some e = let first : n - 1 ≡ 0 = omega arith in ap (λ y. f y ∷ []) (sym (rw first at e)) ∙ rw first refl
on_last-set f (x ∷ y ∷ xs) n last size some e =
    let m : ℕ = length (y ∷ xs) in
    let at : n - 1 ≡ suc (m - 1) = omega arith in
    let before = on_last-set f (y ∷ xs) m last refl (omega arith) (rw at at e) in
    ap (λ zs. x ∷ zs) before ∙ rw at refl

pub on_last-none : {A : Type 0} (f : A → A) (xs : List A) (n : ℕ) → n ≡ length xs → (0 < n → ⊥) → on_last f xs ≡ xs
on_last-none f [] n size none = refl
on_last-none f (x ∷ xs) n size none = absurd (none (omega arith))

pub last_of-last : {A : Type 0} (xs : List A) → slice_get xs (length xs - 1) ≡ last_of xs
last_of-last [] = refl
last_of-last (x ∷ []) = refl
last_of-last (x ∷ y ∷ xs) = let at : length (x ∷ y ∷ xs) - 1 ≡ suc (length (y ∷ xs) - 1) = omega arith in rw at (last_of-last (y ∷ xs))

pub is_empty-length : {A : Type 0} (xs : List A) → (length xs == 0) ≡ is_empty xs
is_empty-length [] = refl
is_empty-length (x ∷ xs) = ne_eqb (length (x ∷ xs)) 0 (λ e. omega arith)

-- two lists of more words than a line may have, with the same first ones
module _ (a b c d e f g h i j : List ℕ) (more others : List (List ℕ)) where
  abbrev after_first_word : List (List ℕ) → List (List ℕ)
  after_first_word rest = b ∷ c ∷ d ∷ e ∷ f ∷ g ∷ h ∷ i ∷ j ∷ rest

  beyond : (draft : Drafted) (known : Option Form) → judge_known draft known a (after_first_word more) ≡ judge_known draft known a (after_first_word others)
  beyond draft None = refl
  beyond draft (Some form.Storage) = refl
  beyond draft (Some (form.Option setting)) = refl
  beyond draft (Some form.Own) = refl
  beyond draft (Some form.Log) = refl
  beyond draft (Some form.Batch) = refl
  beyond draft (Some form.Set) = refl
  beyond draft (Some form.Clear) = refl
  beyond draft (Some (form.Atomic op)) = refl
  beyond draft (Some form.Life) = refl
  beyond draft (Some form.Ask) = refl
  beyond draft (Some form.Last) = refl
  beyond draft (Some form.Do) = refl
  beyond draft (Some form.Close) = refl
  beyond draft (Some form.Kill) = refl
  beyond draft (Some form.End) = refl

  judge_beyond : (draft : Drafted) → judge draft (a ∷ after_first_word more) ≡ judge draft (a ∷ after_first_word others)
  judge_beyond draft = at draft.place
    where
      same : (here : Drafted) → judge_known here (form_of a) a (after_first_word more) ≡ judge_known here (form_of a) a (after_first_word others)
      same here = beyond here (form_of a)

      at : (p : Place) → judge (record draft { place = p }) (a ∷ after_first_word more) ≡ judge (record draft { place = p }) (a ∷ after_first_word others)
      at place.Start = refl
      at place.Head = same (record draft { place = place.Head })
      at place.Log = same (record draft { place = place.Log })
      at place.Batch = same (record draft { place = place.Batch })
      at place.Life = same (record draft { place = place.Life })
      at place.Closed = same (record draft { place = place.Closed })
      at place.Ended = same (record draft { place = place.Ended })

-- no more than the first ten words of a line matter
pub judge-take : (draft : Drafted) (words : List (List ℕ)) → judge draft (take 10 words) ≡ judge draft words
judge-take draft [] = refl
judge-take draft (a ∷ []) = refl
judge-take draft (a ∷ b ∷ []) = refl
judge-take draft (a ∷ b ∷ c ∷ []) = refl
judge-take draft (a ∷ b ∷ c ∷ d ∷ []) = refl
judge-take draft (a ∷ b ∷ c ∷ d ∷ e ∷ []) = refl
judge-take draft (a ∷ b ∷ c ∷ d ∷ e ∷ f ∷ []) = refl
judge-take draft (a ∷ b ∷ c ∷ d ∷ e ∷ f ∷ g ∷ []) = refl
judge-take draft (a ∷ b ∷ c ∷ d ∷ e ∷ f ∷ g ∷ h ∷ []) = refl
judge-take draft (a ∷ b ∷ c ∷ d ∷ e ∷ f ∷ g ∷ h ∷ i ∷ []) = refl
judge-take draft (a ∷ b ∷ c ∷ d ∷ e ∷ f ∷ g ∷ h ∷ i ∷ j ∷ more) = judge_beyond a b c d e f g h i j [] more draft
