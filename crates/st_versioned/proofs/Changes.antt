-- Rows behind a change.
use Rattle.std.proofs.Common.{◌≡◌, ◌∙◌, ◌≤◌, ◌++◌, ℕ, Bool, true, false, cond, not, ◌&&◌, List, [], ◌∷◌, filter, Option, Some, None, refl, sym, ap, subst}
use Rattle.std.proofs.lemmas.Bool.{and_from, and_left, and_parts, and_right, false_from_ne_true, false≢true, not-true, not_from_true}
use Rattle.std.specs.FinMap.Entries as entries
use Rattle.std.specs.List.{AllByRecursion}
use Rattle.st_key.specs.KeyOrder.{alone_after, less_after, less_asym, less_irrefl, less_le_trans, le_less_trans, less_trans}
use Rattle.st_key.specs.Spans.{Span, key_less, within}
use Rattle.st_ptree.specs.Entries.{key_cmp}
use Rattle.st_versioned.specs.Apart.{AreApart, AreFrom, EndsBy, HasKey}
use Rattle.st_versioned.specs.Root.{Decision, Row, behind, decided, reaches, same}
use Rattle.st_versioned.specs.Writing.{cut_at, with_row, without_span, written}
use Rattle.st_versioned.specs.declared.change.Change.{Change}
use Rattle.st_versioned.specs.declared.change.Change.TheVariants.{Set, Clear, Erase}
use Rattle.st_versioned.specs.declared.entry.Dated.{Dated}
use Rattle.st_versioned.specs.declared.entry.Entry.TheVariants.{Value, ClearTo}
use Rattle.st_versioned.proofs.Bases.{same_equal, same_itself}
use Rattle.st_versioned.proofs.Cutting.{IsCut, is-cut_at}
use Rattle.st_versioned.proofs.Puts.{AreCut, apart-put, decided-put-in, decided-put-out, not-same, stays-put}
use Rattle.st_versioned.proofs.Reaching.{In, Says, all-filter, apart-filter, covers, decision_of, every, filter-in, in-all, in-filter, said, says, unreached, weaker}

-- from a key on, and not below another
from-below : (a b c : List ℕ) → key_less b a ≡ false → key_less c b ≡ false → key_less c a ≡ false
from-below a b c ab bc = false_from_ne_true (key_less c a) (λ ca. by_test ca (key_less b c) refl)
  where
    by_test : key_less c a ≡ true → (t : Bool) → key_less b c ≡ t → ⊥
    by_test ca true bc_less = false≢true (sym ab ∙ less_trans b c a bc_less ca)
    by_test ca false cb = false≢true (sym bc ∙ le_less_trans_2 ca cb)
      where
        le_less_trans_2 : key_less c a ≡ true → key_less b c ≡ false → key_less c b ≡ true
        le_less_trans_2 ca cb = less_le_trans c a b ca ab

-- the rows decide nothing in the span, and the same elsewhere
pub record IsErased (span : Span) (old new : List Row) : Type 0 where
  pub apart : AreApart new
  pub decides : (key : List ℕ) → decided new key ≡ cond (within span key) None (decided old key)
  pub here : AreCut span.begin new
  pub free : AllByRecursion (λ row. key_less row.0 span.begin ≡ false → key_less row.0 span.end ≡ false) new
  pub from : (version : ℕ) → AreFrom version old → AreFrom version new

-- ---- what is taken out between two keys at which the rows are cut

module _ (span : Span) (ordered : key_less span.begin span.end ≡ true) (rows : List Row) (apart : AreApart rows) (first : AreCut span.begin rows) (last : AreCut span.end rows) where
  outside : Row → Bool
  outside row = not (within span row.0)

  abbrev left : List Row
  left = filter (λ row. not (within span row.0)) rows

  apart-left : AreApart left
  apart-left = apart-filter (λ row. not (within span row.0)) rows apart

  -- a row that is left is below the span or behind it
  free-left : AllByRecursion (λ row. key_less row.0 span.begin ≡ false → key_less row.0 span.end ≡ false) left
  free-left = every (λ row. key_less row.0 span.begin ≡ false → key_less row.0 span.end ≡ false) left
      (λ row there from. false_from_ne_true (key_less row.0 span.end) (λ less.
      false≢true (sym (not-true (within span row.0) (filter-in (λ r. not (within span r.0)) rows row there).1) ∙ and_from (not (key_less row.0 span.begin)) (key_less row.0 span.end) (ap not from) less)))

  none-inside : (key : List ℕ) → within span key ≡ true → AllByRecursion (λ row. covers key row ≡ false) left
  none-inside key inside = every (λ row. covers key row ≡ false) left (λ row there. by_side row there (key_less row.0 span.begin) refl)
    where
      parts : (not (key_less key span.begin) ≡ true) × (key_less key span.end ≡ true)
      parts = and_parts (not (key_less key span.begin)) (key_less key span.end) inside

      by_side : (row : Row) → In row left → (t : Bool) → key_less row.0 span.begin ≡ t → covers key row ≡ false
      by_side row there true less =
          and_right (not (key_less key row.0)) (reaches key row.0 row.1.entry)
          (unreached key row.0 span.begin row.1.entry less (in-all (λ r. key_less r.0 span.begin ≡ true → EndsBy span.begin r.1.entry) row rows first (filter-in (λ r. not (within span r.0)) rows row there).0 less) (not-true (key_less key span.begin) parts.0))
      by_side row there false from =
          and_left (not (key_less key row.0)) (reaches key row.0 row.1.entry)
          (not_from_true (key_less key row.0) (less_le_trans key span.end row.0 parts.1 (in-all (λ r. key_less r.0 span.begin ≡ false → key_less r.0 span.end ≡ false) row left free-left there from)))

  -- a row that covers a key outside of the span is left
  left-outside : (key : List ℕ) → within span key ≡ false → (row : Row) → In row rows → covers key row ≡ true → In row left
  left-outside key off row there covered = in-filter (λ r. not (within span r.0)) rows row there (ap not (false_from_ne_true (within span row.0) none))
    where
      reached : (not (key_less key row.0) ≡ true) × (reaches key row.0 row.1.entry ≡ true)
      reached = and_parts (not (key_less key row.0)) (reaches key row.0 row.1.entry) covered

      none : within span row.0 ≡ true → ⊥
      none inside =
          let parts = and_parts (not (key_less row.0 span.begin)) (key_less row.0 span.end) inside in
          let from : key_less key span.begin ≡ false = from-below span.begin row.0 key (not-true (key_less row.0 span.begin) parts.0) (not-true (key_less key row.0) reached.0) in
          let behind : key_less key span.end ≡ false = false_from_ne_true (key_less key span.end) (λ less. false≢true (sym off ∙ and_from (not (key_less key span.begin)) (key_less key span.end) (ap not from) less)) in
          let ends = in-all (λ r. key_less r.0 span.end ≡ true → EndsBy span.end r.1.entry) row rows last there parts.1 in
          false≢true (sym (unreached key row.0 span.end row.1.entry parts.1 ends behind) ∙ reached.1)

  decides-left : (key : List ℕ) → decided left key ≡ cond (within span key) None (decided rows key)
  decides-left key = by_test (within span key) refl
    where
      by_decision : within span key ≡ false → (d : Decision) → Says key rows d → Says key left d
      by_decision off None none = all-filter (λ row. not (within span row.0)) (λ row. covers key row ≡ false) rows none
      by_decision off (Some found) (row, there, covered, is) = (row, left-outside key off row there covered, covered, is)

      by_test : (t : Bool) → within span key ≡ t → decided left key ≡ cond t None (decided rows key)
      by_test true inside = said key left apart-left None (none-inside key inside)
      by_test false off = said key left apart-left (decided rows key) (by_decision off (decided rows key) (says key rows apart))

  pub is-erased : IsErased span rows left
  is-erased = record {
    apart = apart-left;
    decides = decides-left;
    here = all-filter (λ row. not (within span row.0)) (λ row. key_less row.0 span.begin ≡ true → EndsBy span.begin row.1.entry) rows first;
    free = free-left;
    from = λ version from. all-filter (λ row. not (within span row.0)) (λ row. version ≤ row.1.version) rows from;
  }

-- after the two cuts
pub erased : (span : Span) → key_less span.begin span.end ≡ true → (rows : List Row) → AreApart rows → IsErased span rows (without_span span rows)
erased span ordered rows apart = record {
  apart = taken.apart;
  decides = λ key. taken.decides key ∙ ap (λ (d : Decision). cond (within span key) None d) (second.same key ∙ first.same key);
  here = taken.here;
  free = taken.free;
  from = λ version from. taken.from version (second.from version (first.from version from));
}
  where
    one : List Row
    one = cut_at span.begin rows

    first : IsCut span.begin rows (cut_at span.begin rows)
    first = is-cut_at span.begin rows apart

    second : IsCut span.end (cut_at span.begin rows) (cut_at span.end (cut_at span.begin rows))
    second = is-cut_at span.end (cut_at span.begin rows) first.apart

    taken : IsErased span (cut_at span.end (cut_at span.begin rows)) (without_span span rows)
    taken = is-erased span ordered (cut_at span.end (cut_at span.begin rows)) second.apart (second.below span.begin (less_asym span.begin span.end ordered) first.here) second.here

-- ---- what is written

pub record IsChanged (version : ℕ) (change : Change) (old new : List Row) : Type 0 where
  pub apart : AreApart new
  pub decides : (key : List ℕ) → decided new key ≡ behind (decided old key) version change key
  pub from : (first : ℕ) → first ≤ version → AreFrom first old → AreFrom first new

cleared : (version : ℕ) (span : Span) (rows left : List Row) → key_less span.begin span.end ≡ true → IsErased span rows left
    → IsChanged version (Clear span) rows (with_row span.begin version (ClearTo span.end) left)
cleared version span rows left ordered erased = record {
  apart = apart-new;
  decides = decides;
  from = λ first le from. stays-put span.begin v (λ row. first ≤ row.1.version) left erased.apart (erased.from first from) le;
}
  where
    v : Dated
    v = record { version = version; entry = ClearTo span.end }

    apart-new : AreApart (entries.put key_cmp span.begin v left)
    apart-new = apart-put span.begin v left erased.apart erased.here
        (weaker (λ row. key_less row.0 span.begin ≡ false → key_less row.0 span.end ≡ false) (λ row. key_less span.begin row.0 ≡ true → key_less row.0 span.end ≡ false)
        (λ row from less. from (less_asym span.begin row.0 less)) left erased.free)

    decides : (key : List ℕ) → decided (entries.put key_cmp span.begin v left) key ≡ cond (within span key) (Some (version, None)) (decided rows key)
    decides key = by_test (within span key) refl (erased.decides key)
      where
        by_test : (t : Bool) → within span key ≡ t → decided left key ≡ cond t None (decided rows key) → decided (entries.put key_cmp span.begin v left) key ≡ cond t (Some (version, None)) (decided rows key)
        by_test true inside before = decided-put-in span.begin v left key apart-new inside
        by_test false off before =
            decided-put-out span.begin v left key erased.apart apart-new off
            (weaker (λ row. key_less row.0 span.begin ≡ false → key_less row.0 span.end ≡ false) (λ row. row.0 ≡ span.begin → covers key row ≡ false)
            (λ row from one. absurd (false≢true (sym (from (ap (λ (k : List ℕ). key_less k span.begin) one ∙ less_irrefl span.begin)) ∙ ap (λ (k : List ℕ). key_less k span.end) one ∙ ordered))) left erased.free)
            ∙ before

was-set : (version : ℕ) (key value : List ℕ) (rows one two : List Row) → IsCut key rows one → IsCut (key ++ 0 ∷ []) one two
    → IsChanged version (Set key value) rows (with_row key version (Value value) two)
was-set version key value rows one two first second = record {
  apart = apart-new;
  decides = decides;
  from = λ least le from. stays-put key v (λ row. least ≤ row.1.version) two second.apart (second.from least (first.from least from)) le;
}
  where
    v : Dated
    v = record { version = version; entry = Value value }

    next : List ℕ
    next = key ++ 0 ∷ []

    cut : AreCut key two
    cut = second.below key (less_asym key next (less_after key)) first.here

    apart-new : AreApart (entries.put key_cmp key v two)
    apart-new = apart-put key v two second.apart cut (every (λ row. key_less key row.0 ≡ true → Unit {0}) two (λ row there less. tt))

    decides : (other : List ℕ) → decided (entries.put key_cmp key v two) other ≡ cond (same other key) (Some (version, Some value)) (decided rows other)
    decides other = by_test (same other key) refl
      where
        -- the old row of the key reaches no other one
        old : same other key ≡ false → AllByRecursion (λ row. row.0 ≡ key → covers other row ≡ false) two
        old off = weaker (λ row. key_less row.0 next ≡ true → EndsBy next row.1.entry) (λ row. row.0 ≡ key → covers other row ≡ false)
            (λ row ends here. by_side row ends here (key_less other row.0) refl) two second.here
          where
            by_side : (row : Row) → (key_less row.0 next ≡ true → EndsBy next row.1.entry) → row.0 ≡ key → (t : Bool) → key_less other row.0 ≡ t → covers other row ≡ false
            by_side row ends here true less = and_left (not (key_less other row.0)) (reaches other row.0 row.1.entry) (not_from_true (key_less other row.0) less)
            by_side row ends here false from =
                let below : key_less row.0 next ≡ true = ap (λ (k : List ℕ). key_less k next) here ∙ less_after key in
                let behind : key_less other next ≡ false = false_from_ne_true (key_less other next) (λ less.
                false≢true (sym off ∙ ap (λ (k : List ℕ). same k key) (alone_after key other (ap (key_less other) (sym here) ∙ from) less) ∙ same_itself key)) in
                and_right (not (key_less other row.0)) (reaches other row.0 row.1.entry) (unreached other row.0 next row.1.entry below (ends below) behind)

        by_test : (t : Bool) → same other key ≡ t → decided (entries.put key_cmp key v two) other ≡ cond t (Some (version, Some value)) (decided rows other)
        by_test true is =
            decided-put-in key v two other apart-new
            (and_from (not (key_less other key)) (same other key) (ap not (ap (λ (k : List ℕ). key_less k key) (same_equal other key is) ∙ less_irrefl key)) is)
        by_test false off =
            decided-put-out key v two other second.apart apart-new (and_right (not (key_less other key)) (same other key) off) (old off)
            ∙ second.same other ∙ first.same other

pub is-changed : (version : ℕ) (change : Change) (rows : List Row) → AreApart rows → HasKey change → IsChanged version change rows (written version change rows)
is-changed version (Set key value) rows apart has_key =
    let first = is-cut_at key rows apart in
    was-set version key value rows (cut_at key rows) (cut_at (key ++ 0 ∷ []) (cut_at key rows)) first (is-cut_at (key ++ 0 ∷ []) (cut_at key rows) first.apart)
is-changed version (Clear span) rows apart has_key = cleared version span rows (without_span span rows) has_key (erased span has_key rows apart)
is-changed version (Erase span) rows apart has_key =
    let taken = erased span has_key rows apart in
    record { apart = taken.apart; decides = taken.decides; from = λ first le from. taken.from first from }
