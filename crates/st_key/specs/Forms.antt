-- Canonical lists of spans stay so where a span is put in or taken out.
use Rattle.std.proofs.Common.{◌≡◌, ℕ, Bool, true, false, ◌&&◌, List, [], ◌∷◌, ◌++◌, refl, ◌∙◌, subst, inl, inr}
use Rattle.std.proofs.Math.Bool.{cond}
use Rattle.std.proofs.lemmas.Bool.{cond_both, and_parts, and_from, and_left, or_left, cases_Bool}
use Rattle.std.proofs.lemmas.List.Folds.{list_all-append}
use Rattle.std.specs.List.{list_all}
use Rattle.st_key.specs.KeyOrder.{less_irrefl, less_trans, less_asym, less_connected, le_less_trans, less_le_trans}
use Rattle.st_key.specs.Members.{less-least, less-greatest}
use Rattle.st_key.specs.Parts.{least, greatest, hull, part_below, part_from, with_span, without_span}
use Rattle.st_key.specs.Spans.{Span, key_less, is_canonical}

-- every span begins above the key
abbrev pub all_above : List ℕ → List Span → Bool
all_above key spans = list_all (λ span. key_less key span.begin) spans

-- the parts of what a first span and the later ones keep to
pub record IsFirst (s : Span) (later : List Span) : Type 0 where
  pub filled : key_less s.begin s.end ≡ true
  pub apart : all_above s.end later ≡ true
  pub rest : is_canonical later ≡ true

pub first : (s : Span) (later : List Span) → is_canonical (s ∷ later) ≡ true → IsFirst s later
first s later h =
    let both = and_parts (key_less s.begin s.end && all_above s.end later) (is_canonical later) h in
    let left = and_parts (key_less s.begin s.end) (all_above s.end later) both.0 in
    record { filled = left.0; apart = left.1; rest = both.1 }

pub canonical-cons : (s : Span) (later : List Span) → key_less s.begin s.end ≡ true → all_above s.end later ≡ true
    → is_canonical later ≡ true → is_canonical (s ∷ later) ≡ true
canonical-cons s later filled apart rest =
    and_from (key_less s.begin s.end && all_above s.end later) (is_canonical later)
    (and_from (key_less s.begin s.end) (all_above s.end later) filled apart) rest

-- what begins above a key begins above each lesser one
pub above_less : (a b : List ℕ) (l : List Span) → key_less a b ≡ true → all_above b l ≡ true → all_above a l ≡ true
above_less a b [] ab h = refl
above_less a b (t ∷ l) ab h =
    let parts = and_parts (key_less b t.begin) (all_above b l) h in
    and_from (key_less a t.begin) (all_above a l) (less_trans a b t.begin ab parts.0) (above_less a b l ab parts.1)

-- the lesser of two keys is above neither
least_le_left : (a b : List ℕ) → key_less a (least a b) ≡ false
least_le_left a b = less-least a a b ∙ and_left (key_less a a) (key_less a b) (less_irrefl a)

greatest_ge_left : (a b : List ℕ) → key_less (greatest a b) a ≡ false
greatest_ge_left a b =
    cond_both (key_less a b) b a (λ m. key_less m a ≡ false) (λ ab. less_asym a b ab) (λ _. less_irrefl a)

greatest_ge_right : (a b : List ℕ) → key_less (greatest a b) b ≡ false
greatest_ge_right a b = cond_both (key_less a b) b a (λ m. key_less m b ≡ false) (λ _. less_irrefl b) (λ ab. ab)

-- a hull has a key
pub hull_filled : (r s : Span) → key_less r.begin r.end ≡ true → key_less (hull r s).begin (hull r s).end ≡ true
hull_filled r s filled =
    less-greatest (least r.begin s.begin) r.end s.end
    ∙ or_left (key_less (least r.begin s.begin) r.end) (key_less (least r.begin s.begin) s.end)
    (le_less_trans (least r.begin s.begin) r.begin r.end (least_le_left r.begin s.begin) filled)

above-with_span : (b : List ℕ) (ps : List Span) (r : Span) → all_above b ps ≡ true → key_less b r.begin ≡ true
    → all_above b (with_span ps r) ≡ true
above-with_span b [] r h br = and_from (key_less b r.begin) true br refl
above-with_span b (s ∷ later) r h br =
    let parts = and_parts (key_less b s.begin) (all_above b later) h in
    let P : List Span → Type 0 = λ l. all_above b l ≡ true in
    cond_both (key_less s.end r.begin) (s ∷ with_span later r)
    (cond (key_less r.end s.begin) (r ∷ s ∷ later) (with_span later (hull r s))) P
    (λ _. and_from (key_less b s.begin) (all_above b (with_span later r)) parts.0 (above-with_span b later r parts.1 br))
    (λ _. cond_both (key_less r.end s.begin) (r ∷ s ∷ later) (with_span later (hull r s)) P
    (λ _. and_from (key_less b r.begin) (all_above b (s ∷ later)) br h)
    (λ _. above-with_span b later (hull r s) parts.1
    (less-least b r.begin s.begin ∙ and_from (key_less b r.begin) (key_less b s.begin) br parts.0)))

pub canonical-with_span : (ps : List Span) (r : Span) → is_canonical ps ≡ true → key_less r.begin r.end ≡ true
    → is_canonical (with_span ps r) ≡ true
canonical-with_span [] r h filled = canonical-cons r [] filled refl refl
canonical-with_span (s ∷ later) r h filled =
    let f = first s later h in
    let P : List Span → Type 0 = λ l. is_canonical l ≡ true in
    cond_both (key_less s.end r.begin) (s ∷ with_span later r)
    (cond (key_less r.end s.begin) (r ∷ s ∷ later) (with_span later (hull r s))) P
    (λ sr. canonical-cons s (with_span later r) f.filled (above-with_span s.end later r f.apart sr)
    (canonical-with_span later r f.rest filled))
    (λ _. cond_both (key_less r.end s.begin) (r ∷ s ∷ later) (with_span later (hull r s)) P
    (λ rs. canonical-cons r (s ∷ later) filled
    (and_from (key_less r.end s.begin) (all_above r.end later) rs
    (above_less r.end s.end later (less_trans r.end s.begin s.end rs f.filled) f.apart)) h)
    (λ _. canonical-with_span later (hull r s) f.rest (hull_filled r s filled)))

above-part_below : (b key : List ℕ) (s : Span) → key_less b s.begin ≡ true → all_above b (part_below s key) ≡ true
above-part_below b key s bs =
    cond_both (key_less s.begin key) (record { begin = s.begin; end = least key s.end } ∷ []) [] (λ l. all_above b l ≡ true)
    (λ _. and_from (key_less b s.begin) true bs refl) (λ _. refl)

above-part_from : (b key : List ℕ) (s : Span) → key_less b s.begin ≡ true → all_above b (part_from s key) ≡ true
above-part_from b key s bs =
    cond_both (key_less key s.end) (record { begin = greatest s.begin key; end = s.end } ∷ []) [] (λ l. all_above b l ≡ true)
    (λ _. and_from (key_less b (greatest s.begin key)) true
    (less-greatest b s.begin key ∙ or_left (key_less b s.begin) (key_less b key) bs) refl)
    (λ _. refl)

-- what is left of a span begins where the span did, or above
above-parts : (b : List ℕ) (s r : Span) (l : List Span) → key_less b s.begin ≡ true → all_above b l ≡ true
    → all_above b (part_below s r.begin ++ (part_from s r.end ++ l)) ≡ true
above-parts b s r l bs h =
    list_all-append (λ t. key_less b t.begin) (part_below s r.begin) (part_from s r.end ++ l)
    ∙ and_from (all_above b (part_below s r.begin)) (all_above b (part_from s r.end ++ l)) (above-part_below b r.begin s bs)
    (list_all-append (λ t. key_less b t.begin) (part_from s r.end) l
    ∙ and_from (all_above b (part_from s r.end)) (all_above b l) (above-part_from b r.end s bs) h)

above-without_span : (b : List ℕ) (ps : List Span) (r : Span) → all_above b ps ≡ true → all_above b (without_span ps r) ≡ true
above-without_span b [] r h = refl
above-without_span b (s ∷ later) r h =
    let parts = and_parts (key_less b s.begin) (all_above b later) h in
    above-parts b s r (without_span later r) parts.0 (above-without_span b later r parts.1)

-- the upper part before what lies above the span
canonical-part_from : (s : Span) (e : List ℕ) (l : List Span) → key_less s.begin s.end ≡ true → all_above s.end l ≡ true
    → is_canonical l ≡ true → is_canonical (part_from s e ++ l) ≡ true
canonical-part_from s e l filled apart h =
    cond_both (key_less e s.end) (record { begin = greatest s.begin e; end = s.end } ∷ []) [] (λ p. is_canonical (p ++ l) ≡ true)
    (λ es. canonical-cons (record { begin = greatest s.begin e; end = s.end }) l
    (cond_both (key_less s.begin e) e s.begin (λ m. key_less m s.end ≡ true) (λ _. es) (λ _. filled)) apart h)
    (λ _. h)

-- the lower part before the upper part
canonical-part_below : (s r : Span) (l : List Span) → key_less s.begin s.end ≡ true → key_less r.begin r.end ≡ true
    → all_above s.end l ≡ true → is_canonical (part_from s r.end ++ l) ≡ true
    → is_canonical (part_below s r.begin ++ (part_from s r.end ++ l)) ≡ true
canonical-part_below s r l filled r_filled apart h =
    cond_both (key_less s.begin r.begin) (record { begin = s.begin; end = least r.begin s.end } ∷ []) []
    (λ p. is_canonical (p ++ (part_from s r.end ++ l)) ≡ true)
    (λ sr. canonical-cons (record { begin = s.begin; end = least r.begin s.end }) (part_from s r.end ++ l)
    (less-least s.begin r.begin s.end ∙ and_from (key_less s.begin r.begin) (key_less s.begin s.end) sr filled)
    (list_all-append (λ t. key_less (least r.begin s.end) t.begin) (part_from s r.end) l
    ∙ and_from (all_above (least r.begin s.end) (part_from s r.end)) (all_above (least r.begin s.end) l)
    upper_apart later_apart) h)
    (λ _. h)
  where
    low_end : key_less (least r.begin s.end) r.end ≡ true
    low_end = le_less_trans (least r.begin s.end) r.begin r.end (least_le_left r.begin s.end) r_filled

    upper_apart : all_above (least r.begin s.end) (part_from s r.end) ≡ true
    upper_apart =
        cond_both (key_less r.end s.end) (record { begin = greatest s.begin r.end; end = s.end } ∷ []) []
        (λ p. all_above (least r.begin s.end) p ≡ true)
        (λ _. and_from (key_less (least r.begin s.end) (greatest s.begin r.end)) true
        (less_le_trans (least r.begin s.end) r.end (greatest s.begin r.end) low_end (greatest_ge_right s.begin r.end)) refl)
        (λ _. refl)

    later_apart : all_above (least r.begin s.end) l ≡ true
    later_apart =
        cond_both (key_less s.end r.begin) s.end r.begin (λ m. all_above m l ≡ true)
        (λ _. apart) (λ sr. apart_le r.begin sr)
      where
        apart_le : (m : List ℕ) → key_less s.end m ≡ false → all_above m l ≡ true
        apart_le m sm =
            elim (cases_Bool (key_less m s.end)) [
              | inl ms ↦ above_less m s.end l ms apart
              | inr ms ↦ subst (λ e. all_above e l ≡ true) (less_connected s.end m sm ms) apart
            ]

pub canonical-without_span : (ps : List Span) (r : Span) → is_canonical ps ≡ true → key_less r.begin r.end ≡ true
    → is_canonical (without_span ps r) ≡ true
canonical-without_span [] r h filled = refl
canonical-without_span (s ∷ later) r h filled =
    let f = first s later h in
    let apart = above-without_span s.end later r f.apart in
    canonical-part_below s r (without_span later r) f.filled filled apart
    (canonical-part_from s r.end (without_span later r) f.filled apart (canonical-without_span later r f.rest filled))
