-- The rows that are shown.
use Rattle.std.proofs.Common.{◌≡◌, ◌∙◌, ◌+◌, ◌-◌, ◌<◌, ℕ, zero, suc, Bool, true, false, cond, ◌&&◌, nat_lt, List, [], ◌∷◌, ◌++◌, Option, Some, None, append_assoc, le-leb, length, length-append, refl, sym, ap, subst, arith}
use Rattle.std.proofs.lemmas.Bool.{lt-leb}
use Rattle.std.proofs.lemmas.List.{append-nil}
use Rattle.st_fold.specs.declared.request.Answer.TheVariants.{Rows}
use Rattle.st_fold.specs.Map.{Map}
use Rattle.st_fold.specs.Reading.{rows_of, size_of, taken}
use Rattle.st_key.specs.Spans.{Span, within}
use Rattle.st_session.specs.Seen.{IsMapOf}
use Rattle.st_session.specs.Walking.{AreShown, IsFrom, IsNext, ahead, way}
use Rattle.st_session.proofs.Next.{from-inside}

pub shown-none : (rows bytes : ℕ) (pairs : Map) → AreShown rows bytes pairs [] rows bytes pairs
shown-none rows bytes pairs = record { whole = refl; first = refl }

less-itself : (n : ℕ) → nat_lt n n ≡ false
less-itself n = lt-leb (suc n) n (omega arith)

less-more : (n m : ℕ) → nat_lt n (n + suc m) ≡ true
less-more n m = le-leb (suc n) (n + suc m) (omega arith)

pub shown-more : (rows bytes : ℕ) (pairs shown : Map) (r b : ℕ) (pair : List ℕ × List ℕ) (left : Map) → AreShown rows bytes pairs shown r b (pair ∷ left) → 0 < r → 0 < b
    → AreShown rows bytes pairs (shown ++ pair ∷ []) (r - 1) (b - size_of pair) left
shown-more rows bytes pairs shown r b pair left are some_rows some_bytes = record {
  whole = are.whole ∙ rw append_assoc refl;
  first = are.first ∙ ap (λ (t : Bool). shown ++ cond t (pair ∷ taken (r - 1) (b - size_of pair) left) []) (ap (λ (t : Bool). t && nat_lt 0 b) (le-leb 1 r some_rows) ∙ le-leb 1 b some_bytes)
      ∙ rw append_assoc refl;
}

-- nothing is left
pub shown-all : (rows bytes : ℕ) (pairs shown : Map) (r b : ℕ) → AreShown rows bytes pairs shown r b [] → Rows shown false ≡ rows_of rows bytes pairs
shown-all rows bytes pairs shown r b are =
    let same : taken rows bytes pairs ≡ shown = are.first ∙ append-nil shown in
    let whole : pairs ≡ shown = are.whole ∙ append-nil shown in
    (λ i. Rows shown (sym (less-itself (length shown)) i))
    ∙ (λ i. Rows (sym same i) (nat_lt (length (sym same i)) (length (sym whole i))))

-- a pair is left, and no row or no byte
pub shown-cut : (rows bytes : ℕ) (pairs shown : Map) (r b : ℕ) (pair : List ℕ × List ℕ) (left : Map) → AreShown rows bytes pairs shown r b (pair ∷ left)
    → (nat_lt 0 r && nat_lt 0 b) ≡ false → Rows shown true ≡ rows_of rows bytes pairs
shown-cut rows bytes pairs shown r b pair left are spent =
    let same : taken rows bytes pairs ≡ shown =
    are.first ∙ ap (λ (t : Bool). shown ++ cond t (pair ∷ taken (r - 1) (b - size_of pair) left) []) spent ∙ append-nil shown in
    (λ i. Rows shown (sym (less-more (length shown) (length left)) i))
    ∙ (λ i. Rows shown (nat_lt (length shown) (sym (length-append shown (pair ∷ left)) i)))
    ∙ (λ i. Rows (sym same i) (nat_lt (length (sym same i)) (length (sym are.whole i))))

pub no-rows : (r b : ℕ) → r ≡ 0 → (nat_lt 0 r && nat_lt 0 b) ≡ false
no-rows r b none = ap (λ (t : Bool). t && nat_lt 0 b) (lt-leb 1 r (omega arith))

pub no-bytes : (r b : ℕ) → b ≡ 0 → (nat_lt 0 r && nat_lt 0 b) ≡ false
no-bytes r b none = by_test (nat_lt 0 r)
  where
    by_test : (t : Bool) → (t && nat_lt 0 b) ≡ false
    by_test true = lt-leb 1 b (omega arith)
    by_test false = refl

-- where the rows stand that are shown: from this key on, the rest of each map that has the values
pub record StandsAt (value : List ℕ → Option (List ℕ)) (back : Bool) (span : Span) (rows bytes : ℕ) (shown : Map) (r b : ℕ) (key : List ℕ) (or_equal : Bool) : Type 0 where
  pub from : IsFrom back key or_equal span
  pub shown_so : (pairs : Map) → IsMapOf value span pairs → AreShown rows bytes (way back span pairs) shown r b (ahead back key or_equal span pairs)

module _ (value : List ℕ → Option (List ℕ)) (back : Bool) (span : Span) (rows bytes : ℕ) where
  pub stands-first : (key : List ℕ) (or_equal : Bool) → IsFrom back key or_equal span → ((pairs : Map) → ahead back key or_equal span pairs ≡ way back span pairs)
      → StandsAt value back span rows bytes [] rows bytes key or_equal
  stands-first key or_equal from whole = record {
    from = from;
    shown_so = λ pairs map. subst (AreShown rows bytes (way back span pairs) [] rows bytes) (sym (whole pairs)) (shown-none rows bytes (way back span pairs));
  }

  module _ (shown : Map) (r b : ℕ) (key : List ℕ) (or_equal : Bool) (at : StandsAt value back span rows bytes shown r b key or_equal) where
    pub stands-next : (pair : List ℕ × List ℕ) → ((pairs : Map) → IsMapOf value span pairs → IsNext back key or_equal span pairs (Some pair))
        → within span pair.0 ≡ true → 0 < r → 0 < b → StandsAt value back span rows bytes (shown ++ pair ∷ []) (r - 1) (b - size_of pair) pair.0 false
    stands-next pair next inside some_rows some_bytes = record {
      from = from-inside back span pair.0 inside;
      shown_so = λ pairs map.
          shown-more rows bytes (way back span pairs) shown r b pair (ahead back pair.0 false span pairs)
          (subst (AreShown rows bytes (way back span pairs) shown r b) (next pairs map) (at.shown_so pairs map)) some_rows some_bytes;
    }

    pub stands-so : (pair : List ℕ × List ℕ) (more : Map) (less : ℕ) → ((pairs : Map) → IsMapOf value span pairs → IsNext back key or_equal span pairs (Some pair))
        → within span pair.0 ≡ true → 0 < r → 0 < b → more ≡ shown ++ pair ∷ [] → less ≡ b - size_of pair
        → StandsAt value back span rows bytes more (r - 1) less pair.0 false
    stands-so pair more less next inside some_rows some_bytes is is_less =
        subst (λ (t : Map). StandsAt value back span rows bytes t (r - 1) less pair.0 false) (sym is)
        (subst (λ (n : ℕ). StandsAt value back span rows bytes (shown ++ pair ∷ []) (r - 1) n pair.0 false) (sym is_less) (stands-next pair next inside some_rows some_bytes))

    pub stands-cut : (pair : List ℕ × List ℕ) → ((pairs : Map) → IsMapOf value span pairs → IsNext back key or_equal span pairs (Some pair))
        → (nat_lt 0 r && nat_lt 0 b) ≡ false → (pairs : Map) → IsMapOf value span pairs → Rows shown true ≡ rows_of rows bytes (way back span pairs)
    stands-cut pair next spent pairs map =
        shown-cut rows bytes (way back span pairs) shown r b pair (ahead back pair.0 false span pairs)
        (subst (AreShown rows bytes (way back span pairs) shown r b) (next pairs map) (at.shown_so pairs map)) spent

    pub stands-all : ((pairs : Map) → IsMapOf value span pairs → IsNext back key or_equal span pairs None)
        → (pairs : Map) → IsMapOf value span pairs → Rows shown false ≡ rows_of rows bytes (way back span pairs)
    stands-all next pairs map =
        shown-all rows bytes (way back span pairs) shown r b (subst (AreShown rows bytes (way back span pairs) shown r b) (next pairs map) (at.shown_so pairs map))
