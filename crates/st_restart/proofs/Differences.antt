-- Where maps differ first.
use Rattle.std.proofs.Common.{◌≡◌, ◌∙◌, ◌&&◌, ℕ, Bool, true, false, cond, bytes_eq, List, [], ◌∷◌, Option, Some, None, refl, sym, ap}
use Rattle.std.specs.Ordering.{is_eq, nat_cmp}
use Rattle.std.specs.Cmp.Lexicographic.{slice_cmp}
use Rattle.std.specs.declared.cmp.Ordering.{Ordering}
use Rattle.std.specs.declared.cmp.Ordering.TheVariants.{Less, Equal, Greater}
use Rattle.std.proofs.lemmas.Bool.{false≢true}
use Rattle.std.proofs.lemmas.Map.Lookups.{exact_bytes}
use Rattle.std.proofs.lemmas.Map.Text.{is_eq-slice_cmp}
use Rattle.st_fold.specs.Map.{Map}
use Rattle.st_key.specs.Parts.{least}
use Rattle.st_restart.specs.Agreement.{first_difference, same_pair}
use Rattle.st_restart.proofs.Users.{and_left, and_right}

same-bytes : (a b : List ℕ) → bytes_eq a b ≡ true → a ≡ b
same-bytes a b is = exact_bytes a b (tied (slice_cmp nat_cmp a b) (is_eq-slice_cmp a b ∙ is))
  where
    tied : (o : Ordering) → is_eq o ≡ true → o ≡ Equal
    tied Less e = absurd (false≢true e)
    tied Equal e = refl
    tied Greater e = absurd (false≢true e)

-- without a difference they are one
pub no-difference : (one other : Map) → first_difference one other ≡ None → one ≡ other
no-difference [] [] none = refl
no-difference [] (other ∷ others) none = absurd (cc (none))
no-difference (one ∷ ones) [] none = absurd (cc (none))
no-difference (one ∷ ones) (other ∷ others) none = by_test (same_pair one other) refl (no-difference ones others)
  where
    by_test : (t : Bool) → same_pair one other ≡ t → (first_difference ones others ≡ None → ones ≡ others) → one ∷ ones ≡ other ∷ others
    by_test true is later =
        let keys = same-bytes one.0 other.0 (and_left (bytes_eq one.0 other.0) (bytes_eq one.1 other.1) is) in
        let values = same-bytes one.1 other.1 (and_right (bytes_eq one.0 other.0) (bytes_eq one.1 other.1) is) in
        let rest = later (sym (ap (λ (t : Bool). cond t (first_difference ones others) (Some (least one.0 other.0))) is) ∙ none) in
        λ i. (keys i, values i) ∷ rest i
    by_test false isnt later = absurd (cc (sym (ap (λ (t : Bool). cond t (first_difference ones others) (Some (least one.0 other.0))) isnt) ∙ none))
