use Rattle.std.proofs.Common.{◌≡◌, ℕ, List, ◌∷◌, true, false, refl, subst}
use Rattle.std.proofs.lemmas.Cmp.{same_from_slice_cmp_tested}
use Rattle.std.specs.Cmp.Lexicographic.{slice_cmp}
use Rattle.std.specs.Ordering.{MatchOrdering, nat_cmp, is_lt, ordering_then}
use Rattle.std.specs.declared.cmp.Ordering.{Ordering}
use Rattle.std.specs.declared.cmp.Ordering.TheVariants.{Less, Equal, Greater}
use Rattle.st_key.specs.Spans.{key_less}
use Rattle.st_watch.proofs.places.is_less.Goals as goal

-- the first bytes decide, unless they are equal
step : (o rest : Ordering) → MatchOrdering o (is_lt (ordering_then o rest) ≡ true) (is_lt (ordering_then o rest) ≡ is_lt rest) (is_lt (ordering_then o rest) ≡ false)
step Less rest = refl
step Equal rest = refl
step Greater rest = refl

more : (x y : ℕ) (xs ys : List ℕ) (o : Ordering) → o ≡ nat_cmp x y → MatchOrdering o (key_less (x ∷ xs) (y ∷ ys) ≡ true) (key_less (x ∷ xs) (y ∷ ys) ≡ key_less xs ys) (key_less (x ∷ xs) (y ∷ ys) ≡ false)
more x y xs ys o e =
    subst (λ p. MatchOrdering o (is_lt (ordering_then p (slice_cmp nat_cmp xs ys)) ≡ true) (is_lt (ordering_then p (slice_cmp nat_cmp xs ys)) ≡ key_less xs ys) (is_lt (ordering_then p (slice_cmp nat_cmp xs ys)) ≡ false)) e (step o (slice_cmp nat_cmp xs ys))

pub returns : goal.returns
returns c = same_from_slice_cmp_tested nat_cmp is_lt key_less refl (λ _ _. refl) (λ _ _. refl) more c.args.a.now c.args.b.now _ c.lt.ensures
