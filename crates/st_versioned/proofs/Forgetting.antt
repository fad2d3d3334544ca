-- Rows that were written above a version.
use Rattle.std.proofs.Common.{◌≡◌, ◌∙◌, ◌≤◌, ◌<◌, ◌+◌, ◌⊎◌, inl, inr, ℕ, suc, Bool, true, false, cond, not, ◌&&◌, ◌||◌, nat_le, nat_lt, leb-true, leb-false, le-leb, List, [], ◌∷◌, filter, map, Option, Some, None, refl, sym, ap, subst, arith}
use Rattle.std.proofs.lemmas.Bool.{and_from, and_left, and_parts, and_right, false_from_ne_true, false≢true, lt-leb, not-true, or_cases, or_left, or_right}
use Rattle.std.specs.List.{AllByRecursion}
use Rattle.st_ptree.specs.Entries.{key_cmp, same}
use Rattle.std.specs.FinMap.Entries as entries
use Rattle.st_versioned.specs.Apart.{AreApart, AreFrom, IsBelow}
use Rattle.st_versioned.specs.Writing.{made_above}
use Rattle.st_versioned.specs.Root.{Decision, Row, decided, decision_above}
use Rattle.st_versioned.specs.declared.entry.Dated.{Dated}
use Rattle.st_versioned.proofs.Bases.{same_equal, same_itself}
use Rattle.st_versioned.proofs.Puts.{beside, not-same}
use Rattle.st_versioned.proofs.Reaching.{In, Says, all-filter, apart-filter, covers, decision_of, every, filter-in, in-all, in-filter, last-covering, said, says, weaker}

module _ (version : ℕ) (rows : List Row) (apart : AreApart rows) where
  abbrev newer : Row → Bool
  newer row = nat_lt version row.1.version

  apart-above : AreApart (made_above version rows)
  apart-above = apart-filter newer rows apart

  pub decided-above : (key : List ℕ) → decided (made_above version rows) key ≡ decision_above version (decided rows key)
  decided-above key = by_decision (decided rows key) (says key rows apart)
    where
      by_decision : (d : Decision) → Says key rows d → decided (made_above version rows) key ≡ decision_above version d
      by_decision None none = said key (made_above version rows) apart-above None (all-filter newer (λ row. covers key row ≡ false) rows none)
      by_decision (Some found) (row, there, covered, is) =
          let one : row.1.version ≡ found.0 = cc (is) in
          by_test (newer row) refl ∙ ap (λ (v : ℕ). cond (nat_lt version v) (Some found) None) one
        where
          by_test : (t : Bool) → nat_lt version row.1.version ≡ t → decided (made_above version rows) key ≡ cond (nat_lt version row.1.version) (Some found) None
          by_test true new =
              said key (made_above version rows) apart-above (Some found) (row, in-filter newer rows row there new, covered, is)
              ∙ sym (ap (λ (t : Bool). cond t (Some found) None) new)
          by_test false old =
              said key (made_above version rows) apart-above None
              (every (λ other. covers key other ≡ false) (made_above version rows) (λ other in_new. false_from_ne_true (covers key other) (λ covers_too.
              let kept = filter-in newer rows other in_new in
              let both : Some row ≡ Some other = sym (last-covering key rows row apart there covered) ∙ last-covering key rows other apart kept.0 covers_too in
              let same_row : row ≡ other = cc (both) in
              false≢true (sym old ∙ ap newer same_row ∙ kept.1))))
              ∙ sym (ap (λ (t : Bool). cond t (Some found) None) old)

-- where all were written above the version, all are kept
pub kept-above : (version first : ℕ) (rows : List Row) → version < first → AreFrom first rows → rows ≡ made_above version rows
kept-above version first [] above from = refl
kept-above version first (row ∷ rows) above from =
    let le : first ≤ row.1.version = from.0 in
    ap (λ (l : List Row). row ∷ l) (kept-above version first rows above from.1)
    ∙ sym (ap (λ (t : Bool). cond t (row ∷ made_above version rows) (made_above version rows)) (le-leb (suc version) row.1.version (omega arith)))

-- ---- one row after another

-- one of the pairs is an old one of the row's key
abbrev pub hits : ℕ → List Row → Row → Bool
hits version [] row = false
hits version (pair ∷ pairs) row = (nat_le pair.1.version version && same pair.0 row.0) || hits version pairs row

-- without the keys of old pairs
abbrev pub swept : ℕ → List Row → List Row → List Row
swept version pairs rows = filter (λ row. not (hits version pairs row)) rows

twice : (p q : Row → Bool) (rows : List Row) → filter q (filter p rows) ≡ filter (λ row. p row && q row) rows
twice p q [] = refl
twice p q (row ∷ rows) = by_tests (p row) (twice p q rows)
  where
    by_tests : (t : Bool) → filter q (filter p rows) ≡ filter (λ r. p r && q r) rows → filter q (cond t (row ∷ filter p rows) (filter p rows)) ≡ cond (t && q row) (row ∷ filter (λ r. p r && q r) rows) (filter (λ r. p r && q r) rows)
    by_tests true rest = ap (λ (l : List Row). cond (q row) (row ∷ l) l) rest
    by_tests false rest = rest

agree : (p q : Row → Bool) (rows : List Row) → AllByRecursion (λ row. p row ≡ q row) rows → filter p rows ≡ filter q rows
agree p q [] all = refl
agree p q (row ∷ rows) all = λ i. cond (all.0 i) (row ∷ agree p q rows all.1 i) (agree p q rows all.1 i)

nots : (a b : Bool) → not a && not b ≡ not (a || b)
nots true b = refl
nots false b = refl

nothing-and : (b : Bool) → not (false || b) ≡ not b
nothing-and b = refl

pub swept-nothing : (version : ℕ) (rows : List Row) → swept version [] rows ≡ rows
swept-nothing version [] = refl
swept-nothing version (row ∷ rows) = ap (λ (l : List Row). row ∷ l) (swept-nothing version rows)

-- an old pair, whose key is taken out, and a new one
pub swept-old : (version : ℕ) (pair : Row) (pairs : List Row) (rows : List Row) → nat_le pair.1.version version ≡ true → swept version (pair ∷ pairs) rows ≡ swept version pairs (entries.where_key key_cmp (λ k. not (same pair.0 k)) rows)
swept-old version pair pairs rows old = sym
    (twice (λ row. not (same pair.0 row.0)) (λ row. not (hits version pairs row)) rows
    ∙ agree (λ row. not (same pair.0 row.0) && not (hits version pairs row)) (λ row. not (hits version (pair ∷ pairs) row)) rows
    (every (λ row. (not (same pair.0 row.0) && not (hits version pairs row)) ≡ not (hits version (pair ∷ pairs) row)) rows
    (λ row there. nots (same pair.0 row.0) (hits version pairs row) ∙ ap (λ (t : Bool). not ((t && same pair.0 row.0) || hits version pairs row)) (sym old))))

pub swept-new : (version : ℕ) (pair : Row) (pairs : List Row) (rows : List Row) → nat_le pair.1.version version ≡ false → swept version (pair ∷ pairs) rows ≡ swept version pairs rows
swept-new version pair pairs rows new =
    agree (λ row. not (hits version (pair ∷ pairs) row)) (λ row. not (hits version pairs row)) rows
    (every (λ row. not (hits version (pair ∷ pairs) row) ≡ not (hits version pairs row)) rows (λ row there. ap (λ (t : Bool). not ((t && same pair.0 row.0) || hits version pairs row)) new))

module _ (version : ℕ) where
  hit : (row : Row) (rows : List Row) → In row rows → nat_le row.1.version version ≡ true → hits version (rows) row ≡ true
  hit row [] there old = absurd there
  hit row (other ∷ rows) (inl is) old =
      or_left (nat_le other.1.version version && same other.0 row.0) (hits version (rows) row)
      (and_from (nat_le other.1.version version) (same other.0 row.0) (ap (λ (r : Row). nat_le r.1.version version) is ∙ old) (ap (λ (r : Row). same r.0 row.0) is ∙ same_itself row.0))
  hit row (other ∷ rows) (inr there) old = or_right (nat_le other.1.version version && same other.0 row.0) (hits version (rows) row) (hit row rows there old)

  hit-by : (row : Row) (rows : List Row) → hits version (rows) row ≡ true → (other : Row) × In other rows × (nat_le other.1.version version ≡ true) × (other.0 ≡ row.0)
  hit-by row [] is = absurd (false≢true is)
  hit-by row (other ∷ rows) is = by_case (hit-by row rows) (or_cases (nat_le other.1.version version && same other.0 row.0) (hits version (rows) row) is)
    where
      by_case : (hits version (rows) row ≡ true → (o : Row) × In o rows × (nat_le o.1.version version ≡ true) × (o.0 ≡ row.0))
          → ((nat_le other.1.version version && same other.0 row.0) ≡ true) ⊎ (hits version (rows) row ≡ true) → (o : Row) × In o (other ∷ rows) × (nat_le o.1.version version ≡ true) × (o.0 ≡ row.0)
      by_case rest (inl here) = let parts = and_parts (nat_le other.1.version version) (same other.0 row.0) here in (other, inl refl, parts.0, same_equal other.0 row.0 parts.1)
      by_case rest (inr later) = let found = rest later in (found.0, inr found.1, found.2, found.3)

-- all of the rows' own pairs
pub swept-all : (version : ℕ) (rows : List Row) → AreApart rows → swept version (rows) rows ≡ made_above version rows
swept-all version rows apart =
    agree (λ row. not (hits version (rows) row)) (λ row. nat_lt version row.1.version) rows
    (every (λ row. not (hits version (rows) row) ≡ nat_lt version row.1.version) rows (λ row there. by_test row there (nat_le row.1.version version) refl))
  where
    by_test : (row : Row) → In row rows → (t : Bool) → nat_le row.1.version version ≡ t → not (hits version (rows) row) ≡ nat_lt version row.1.version
    by_test row there true old =
        let le : row.1.version ≤ version = leb-true _ _ old in
        ap not (hit version row rows there old) ∙ sym (lt-leb (suc version) row.1.version (omega arith))
    by_test row there false new =
        let lt : version < row.1.version = leb-false row.1.version version new in
        ap not (false_from_ne_true (hits version (rows) row) (λ is.
        let found = hit-by version row rows is in
        none found.0 found.1 found.2 found.3 (beside rows apart found.0 row found.1 there)))
        ∙ sym (le-leb (suc version) row.1.version lt)
      where
        none : (other : Row) → In other rows → nat_le other.1.version version ≡ true → other.0 ≡ row.0 → (other ≡ row) ⊎ (IsBelow other row ⊎ IsBelow row other) → ⊥
        none other in_rows old one (inl is) = false≢true (sym new ∙ sym (ap (λ (r : Row). nat_le r.1.version version) is) ∙ old)
        none other in_rows old one (inr (inl below)) = not-same other.0 row.0 below.0 one
        none other in_rows old one (inr (inr below)) = not-same row.0 other.0 below.0 (sym one)

-- what was written above a version is from the next one on
pub from-next : (version : ℕ) (rows new : List Row) → new ≡ made_above version rows → AreFrom (version + 1) new
from-next version rows new is = subst (AreFrom (version + 1)) (sym is)
    (every (λ row. version + 1 ≤ row.1.version) (made_above version rows) (λ row there.
    let lt : suc version ≤ row.1.version = leb-true (suc version) row.1.version (filter-in (λ (r : Row). nat_lt version r.1.version) rows row there).1 in omega (arith, lt)))
