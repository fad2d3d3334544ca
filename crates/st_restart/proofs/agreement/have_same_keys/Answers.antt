use Rattle.std.proofs.Common.{◌≡◌, ◌∙◌, ℕ, Bool, true, false, List, IsTrue, refl, sym, subst}
use Rattle.std.proofs.lemmas.Bool.{false≢true}
use Rattle.st_key.specs.Spans.{IsSubset}
use Rattle.st_restart.proofs.agreement.have_same_keys.Goals as goal

pub returns-then-not-is_subset : goal.returns-then-not-is_subset
returns-then-not-is_subset c = (
  λ is. absurd (false≢true is),
  λ same. absurd (false≢true (sym c.if-not-is_subset.true ∙ c.is_subset.ensures.subset.1 (subst (IsSubset c.args.one.now) same (λ key is. is)))),
)

pub returns : goal.returns
returns c = (
  λ is. c.one_canonical_form.ensures c.args.one.now c.args.other.now c.pieces.ensures.canonical c.pieces-2.ensures.canonical
      (λ key. both _ _ (c.is_subset.ensures.subset.0 c.if-not-is_subset.false key) (c.is_subset-2.ensures.subset.0 is key)),
  λ same. c.is_subset-2.ensures.subset.1 (subst (λ spans. IsSubset spans c.args.one.now) same (λ key is. is)),
)
  where
    both : (a b : Bool) → (IsTrue a → IsTrue b) → (IsTrue b → IsTrue a) → a ≡ b
    both true true one other = refl
    both true false one other = sym (one refl)
    both false true one other = other refl
    both false false one other = refl
