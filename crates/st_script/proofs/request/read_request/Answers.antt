use Rattle.std.proofs.Common.{◌≡◌, ℕ, List, [], ◌∷◌, length, map, Err, refl, arith, ltb-true, ltb-false}
use Rattle.std.proofs.lemmas.List.{length-map}
use Rattle.st_fold.specs.declared.plan.Kind.TheVariants as kind
use Rattle.st_script.specs.Requests.{request_of}
use Rattle.st_script.proofs.request.read_request.Goals as goal
use Rattle.st_script.proofs.request.read_request.Goals.{in_default-via-then-words-lt3, in_default-via-else-words-lt3+else-words-lt4+then-words-lt7, in_default-via-else-words-lt3+else-words-lt4+else-words-lt7+else-words-lt8}

-- no request has another number of words
of_no_request : (words : List (List ℕ)) → (length words ≡ 3 → ⊥) → (length words ≡ 7 → ⊥) → request_of words ≡ Err kind.Word
of_no_request [] three seven = refl
of_no_request (a ∷ []) three seven = refl
of_no_request (a ∷ b ∷ []) three seven = refl
of_no_request (a ∷ b ∷ c ∷ []) three seven = absurd (three refl)
of_no_request (a ∷ b ∷ c ∷ d ∷ []) three seven = refl
of_no_request (a ∷ b ∷ c ∷ d ∷ e ∷ []) three seven = refl
of_no_request (a ∷ b ∷ c ∷ d ∷ e ∷ f ∷ []) three seven = refl
of_no_request (a ∷ b ∷ c ∷ d ∷ e ∷ f ∷ g ∷ []) three seven = absurd (seven refl)
of_no_request (a ∷ b ∷ c ∷ d ∷ e ∷ f ∷ g ∷ h ∷ others) three seven = refl

pub returns-in_default : goal.returns-in_default
returns-in_default c =
    let words : List (List ℕ) = map (λ word. word.now) c.args.words.now in
    let size : length words ≡ length c.args.words.now = length-map c.args.words.now (λ word. word.now) in
    elim c.in_default.branch [
      | in_default-via-then-words-lt3 w ↦ of_no_request words (λ e. omega (arith, ltb-true, ltb-false)) (λ e. omega (arith, ltb-true, ltb-false))
      | in_default-via-else-words-lt3+else-words-lt4+then-words-lt7 w ↦ of_no_request words (λ e. omega (arith, ltb-true, ltb-false)) (λ e. omega (arith, ltb-true, ltb-false))
      | in_default-via-else-words-lt3+else-words-lt4+else-words-lt7+else-words-lt8 w ↦ of_no_request words (λ e. omega (arith, ltb-true, ltb-false)) (λ e. omega (arith, ltb-true, ltb-false))
    ]
