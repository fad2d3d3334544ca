-- One step of putting a span into a list: out is what was written, r what the span has grown to, and p is at place i.
use Rattle.std.proofs.Common.{arith, ◌≡◌, ℕ, ◌+◌, ◌-◌, ◌<◌, true, false, List, [], ◌∷◌, ◌++◌, suc, length, take, drop, get_or, refl, sym, ap, ◌∙◌, append_assoc, add-one}
use Rattle.std.proofs.Math.Seq.{drop-cons}
use Rattle.std.proofs.lemmas.List.{take_all, length-drop}
use Rattle.std.specs.List.{AppendsClones, each_same}
use Rattle.st_key.specs.Parts.{hull, with_span}
use Rattle.st_key.specs.Spans.{Span, key_less}

-- the span at place i, and those after it
rest_at : (ps : List Span) (i : ℕ) (p : Span) → i < length ps → p ≡ get_or ps i p → drop i ps ≡ p ∷ drop (i + 1) ps
rest_at ps i p i_in is_p = drop-cons ps i p i_in ∙ rw add-one (ap (λ q. q ∷ drop (suc i) ps) (sym is_p))

-- p ends below r
pub passed : (out ps all : List Span) (i : ℕ) (p r : Span) → i < length ps → p ≡ get_or ps i p → key_less p.end r.begin ≡ true
    → out ++ with_span (drop i ps) r ≡ all → (out ++ p ∷ []) ++ with_span (drop (i + 1) ps) r ≡ all
passed out ps all i p r i_in is_p below so_far =
    append_assoc out (p ∷ []) (with_span (drop (i + 1) ps) r)
    ∙ ap (λ l. out ++ l) (sym (rw (rest_at ps i p i_in is_p, below) refl)) ∙ so_far

-- p touches r
pub touched : (out ps all : List Span) (i : ℕ) (p r : Span) → i < length ps → p ≡ get_or ps i p → key_less p.end r.begin ≡ false
    → key_less r.end p.begin ≡ false → out ++ with_span (drop i ps) r ≡ all → out ++ with_span (drop (i + 1) ps) (hull r p) ≡ all
touched out ps all i p r i_in is_p below above so_far =
    ap (λ l. out ++ l) (sym (rw (rest_at ps i p i_in is_p, below, above) refl)) ∙ so_far

-- p begins above r
pub placed : (out ps all : List Span) (i : ℕ) (p r : Span) → i < length ps → p ≡ get_or ps i p → key_less p.end r.begin ≡ false
    → key_less r.end p.begin ≡ true → out ++ with_span (drop i ps) r ≡ all → (out ++ r ∷ []) ++ drop i ps ≡ all
placed out ps all i p r i_in is_p below above so_far =
    append_assoc out (r ∷ []) (drop i ps)
    ∙ ap (λ l. out ++ l) (sym (rw (rest_at ps i p i_in is_p, below, above) refl)) ∙ so_far

-- the spans from place i on, cloned, follow
pub followed : (written new ps qs all : List Span) (i : ℕ) → qs ≡ ps
    → AppendsClones (λ x y. y ≡ x) written new (take (length qs - i) (drop i qs)) → written ++ drop i ps ≡ all → new ≡ all
followed written new ps qs all i same h e =
    let rest : take (length qs - i) (drop i qs) ≡ drop i ps =
    take_all (length qs - i) (drop i qs) (omega (arith, length-drop i qs)) ∙ ap (λ l. drop i l) same in
    h.1 ∙ ap (λ l. written ++ l) (each_same (take (length qs - i) (drop i qs)) h.0 h.2 ∙ rest) ∙ e
