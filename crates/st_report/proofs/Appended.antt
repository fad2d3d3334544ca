-- Texts that are written one after another.
use Rattle.std.proofs.Common.{◌≡◌, ◌∙◌, ℕ, List, [], ◌∷◌, ◌++◌, append_assoc, ap, codes, refl}
use Rattle.std.specs.Prelude.{Result, Ok, Err, OnOk}
use Rattle.std.specs.List.{flat_map}
use Rattle.std.proofs.lemmas.Grind.{flat_map-append}
use Rattle.std.proofs.lemmas.List.{append-nil}
use Rattle.st_report.specs.Text.{Line, line_text, spaced}

-- what the last writer adds, where it succeeds, gives the whole
pub ends : {A E : Type 0} (r : Result A E) (new so_far last whole : List ℕ) → OnOk r (new ≡ so_far ++ last) → so_far ++ last ≡ whole → OnOk r (new ≡ whole)
ends (Ok x) new so_far last whole h e = h ∙ e
ends (Err e) new so_far last whole _ _ = tt

-- a label and its last word
pub labelled : {A E : Type 0} (r : Result A E) (new old label word : List ℕ) → OnOk r (new ≡ old ++ (label ++ spaced word)) → OnOk r (new ≡ old ++ (label ++ flat_map spaced (word ∷ [])))
labelled r new old label word h = rw (append-nil (spaced word)) h

pub label_and_two : (old label first second : List ℕ) → (old ++ (label ++ spaced first)) ++ spaced second ≡ old ++ (label ++ flat_map spaced (first ∷ second ∷ []))
label_and_two old label first second = simp (append_assoc, append-nil)

-- a line of a label and three parts
pub line_of_three : (old label a b c n : List ℕ) → ((((old ++ label) ++ a) ++ b) ++ c) ++ n ≡ old ++ ((label ++ ((a ++ (b ++ (c ++ []))) ++ n)) ++ [])
line_of_three old label a b c n = simp (append_assoc, append-nil)

pub answer_is : (old word number : List ℕ) (places result : Line) → ((((old ++ word) ++ spaced number) ++ flat_map spaced places) ++ flat_map spaced result) ++ codes "\n" ≡ old ++ line_text (word ∷ number ∷ (places ++ result))
answer_is old word number places result = simp (flat_map-append, append_assoc)

pub life_is : (old : List ℕ) (opened : Line) (events answers : List Line) (ended : Line)
    → (((old ++ line_text opened) ++ flat_map line_text events) ++ flat_map line_text answers) ++ line_text ended
    ≡ old ++ flat_map line_text (opened ∷ (events ++ (answers ++ ended ∷ [])))
life_is old opened events answers ended = simp (flat_map-append, append_assoc, append-nil)

pub report_is : (lives faults : List Line) (last : Line)
    → (([] ++ flat_map line_text lives) ++ flat_map line_text faults) ++ line_text last ≡ flat_map line_text (lives ++ (faults ++ last ∷ []))
report_is lives faults last = simp (flat_map-append, append_assoc, append-nil)

pub flat_map-flat_map : {A B : Type 0} (f : B → List ℕ) (g : A → List B) (xs : List A) → flat_map f (flat_map g xs) ≡ flat_map (λ x. flat_map f (g x)) xs
flat_map-flat_map f g [] = refl
flat_map-flat_map f g (x ∷ xs) = flat_map-append f (g x) (flat_map g xs) ∙ ap (λ rest. flat_map f (g x) ++ rest) (flat_map-flat_map f g xs)
