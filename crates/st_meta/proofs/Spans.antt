-- One range of a list that is read.
use Rattle.std.proofs.Common.{◌≡◌, ◌∙◌, ◌-◌, ◌+◌, ◌<◌, ℕ, suc, List, [], ◌∷◌, ◌++◌, Option, Some, None, refl, sym, ap, append_assoc, arith, option_and_then}
use Rattle.std.specs.Option.{option_map}
use Rattle.st_key.specs.Spans.{Span}
use Rattle.st_meta.specs.Reading.{range_at, spans_at}

-- a place before the end
pub one_more : (i count : ℕ) → i < count → count - i ≡ suc (count - (i + 1))
one_more i count inside = omega arith

pub spans-none : (i count : ℕ) (rest : List ℕ) → i < count → range_at rest ≡ None → spans_at (count - i) rest ≡ None
spans-none i count rest inside none =
    ap (λ (n : ℕ). spans_at n rest) (one_more i count inside)
    ∙ ap (option_and_then (λ (first : Span × List ℕ). option_and_then (λ (later : List Span). Some (first.0 ∷ later)) (spans_at (count - (i + 1)) first.1))) none

joined : (done : List Span) (span : Span) (o : Option (List Span))
    → option_map (λ (later : List Span). done ++ later) (option_and_then (λ (later : List Span). Some (span ∷ later)) o) ≡ option_map (λ (later : List Span). (done ++ span ∷ []) ++ later) o
joined done span None = refl
joined done span (Some later) = ap (λ (l : List Span). Some l) (sym (append_assoc done (span ∷ []) later))

pub spans-more : (i count : ℕ) (rest : List ℕ) (done : List Span) (span : Span) (behind : List ℕ) → i < count → range_at rest ≡ Some (span, behind)
    → option_map (λ (later : List Span). (done ++ span ∷ []) ++ later) (spans_at (count - (i + 1)) behind) ≡ option_map (λ (later : List Span). done ++ later) (spans_at (count - i) rest)
spans-more i count rest done span behind inside is =
    sym (ap (λ (n : ℕ). option_map (λ (later : List Span). done ++ later) (spans_at n rest)) (one_more i count inside)
    ∙ ap (λ (o : Option (Span × List ℕ)). option_map (λ (later : List Span). done ++ later)
    (option_and_then (λ (first : Span × List ℕ). option_and_then (λ (later : List Span). Some (first.0 ∷ later)) (spans_at (count - (i + 1)) first.1)) o)) is
    ∙ joined done span (spans_at (count - (i + 1)) behind))
