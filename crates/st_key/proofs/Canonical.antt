-- Two canonical lists of spans that hold the same keys are equal.
use Rattle.std.proofs.Common.{◌≡◌, ℕ, Bool, true, false, not, ◌&&◌, ◌||◌, List, [], ◌∷◌, refl, sym, ap, ◌∙◌, subst, inl, inr, Some}
use Rattle.std.proofs.lemmas.Bool.{and_parts, and_from, or_cases, or_left, or_from, false_from_ne_true, both_ways, not-true, not_from_false, cases_Bool}
use Rattle.std.specs.List.{slice_get}
use Rattle.st_key.specs.Forms.{all_above, above_less, canonical-cons, first}
use Rattle.st_key.specs.KeyOrder.{less_irrefl, less_trans, less_asym, less_connected, less_le_trans}
use Rattle.st_key.specs.Spans.{Span, key_less, within, holds, is_canonical}

-- a key of spans that begin above another key is above that
pub held_above : (b k : List ℕ) (l : List Span) → all_above b l ≡ true → holds l k ≡ true → key_less b k ≡ true
held_above b k [] h held = cc
held_above b k (t ∷ l) h held =
    let parts = and_parts (key_less b t.begin) (all_above b l) h in
    elim (or_cases (within t k) (holds l k) held) [
      | inl in_t ↦
          let ends = and_parts (not (key_less k t.begin)) (key_less k t.end) in_t in
          less_le_trans b t.begin k parts.0 (not-true (key_less k t.begin) ends.0)
      | inr in_l ↦ held_above b k l parts.1 in_l
    ]

-- no key is below the first span of a canonical list
first_is_least : (s : Span) (later : List Span) (k : List ℕ) → is_canonical (s ∷ later) ≡ true → holds (s ∷ later) k ≡ true
    → key_less k s.begin ≡ false
first_is_least s later k h held =
    let f = first s later h in
    elim (or_cases (within s k) (holds later k) held) [
      | inl in_s ↦
          let ends = and_parts (not (key_less k s.begin)) (key_less k s.end) in_s in
          not-true (key_less k s.begin) ends.0
      | inr in_later ↦ less_asym s.begin k (less_trans s.begin s.end k f.filled (held_above s.end k later f.apart in_later))
    ]

within_begin : (s : Span) → key_less s.begin s.end ≡ true → within s s.begin ≡ true
within_begin s filled =
    and_from (not (key_less s.begin s.begin)) (key_less s.begin s.end)
    (not_from_false (key_less s.begin s.begin) (less_irrefl s.begin)) filled

-- the end of the first span of a canonical list is held by none
pub end_is_free : (s : Span) (later : List Span) → is_canonical (s ∷ later) ≡ true → holds (s ∷ later) s.end ≡ false
end_is_free s later h =
    let f = first s later h in
    or_from (within s s.end) (holds later s.end)
    (and_false (not (key_less s.end s.begin)) (key_less s.end s.end) (less_irrefl s.end))
    (false_from_ne_true (holds later s.end) (λ held. both_ways (key_less s.end s.end) (less_irrefl s.end) (held_above s.end s.end later f.apart held)))
  where
    and_false : (x y : Bool) → y ≡ false → (x && y) ≡ false
    and_false true y e = e
    and_false false y e = refl

-- the list of more keys begins no higher
begins_no_higher : (s t : Span) (ss ts : List Span) → is_canonical (s ∷ ss) ≡ true → is_canonical (t ∷ ts) ≡ true
    → ((k : List ℕ) → holds (s ∷ ss) k ≡ holds (t ∷ ts) k) → key_less t.begin s.begin ≡ false
begins_no_higher s t ss ts a b same =
    first_is_least s ss t.begin a
    (same t.begin ∙ or_left (within t t.begin) (holds ts t.begin) (within_begin t (first t ts b).filled))

-- nor does its first span end lower
ends_no_lower : (s t : Span) (ss ts : List Span) → is_canonical (s ∷ ss) ≡ true → is_canonical (t ∷ ts) ≡ true
    → ((k : List ℕ) → holds (s ∷ ss) k ≡ holds (t ∷ ts) k) → s.begin ≡ t.begin → key_less s.end t.end ≡ false
ends_no_lower s t ss ts a b same begins =
    false_from_ne_true (key_less s.end t.end) (λ ends.
    both_ways (holds (s ∷ ss) s.end) (end_is_free s ss a)
    (same s.end ∙ or_left (within t s.end) (holds ts s.end)
    (and_from (not (key_less s.end t.begin)) (key_less s.end t.end)
    (not_from_false (key_less s.end t.begin)
    (subst (λ m. key_less s.end m ≡ false) begins (less_asym s.begin s.end (first s ss a).filled))) ends)))

same_ends : (s t : Span) → s.begin ≡ t.begin → s.end ≡ t.end → s ≡ t
same_ends s t begins ends =
    let with_end : List ℕ → List ℕ → Span = λ e b. record { begin = b; end = e } in
    ap (with_end s.end) begins ∙ ap (λ e. with_end e t.begin) ends

pub one_form : (a b : List Span) → is_canonical a ≡ true → is_canonical b ≡ true
    → ((k : List ℕ) → holds a k ≡ holds b k) → a ≡ b
one_form [] [] a b same = refl
one_form [] (t ∷ ts) a b same =
    let held = or_left (within t t.begin) (holds ts t.begin) (within_begin t (first t ts b).filled) in
    let e : false ≡ true = same t.begin ∙ held in cc
one_form (s ∷ ss) [] a b same =
    let held = or_left (within s s.begin) (holds ss s.begin) (within_begin s (first s ss a).filled) in
    let e : true ≡ false = sym held ∙ same s.begin in cc
one_form (s ∷ ss) (t ∷ ts) a b same =
    let back : (k : List ℕ) → holds (t ∷ ts) k ≡ holds (s ∷ ss) k = λ k. sym (same k) in
    let begins : s.begin ≡ t.begin =
    less_connected s.begin t.begin (begins_no_higher t s ts ss b a back) (begins_no_higher s t ss ts a b same) in
    let ends : s.end ≡ t.end =
    less_connected s.end t.end (ends_no_lower s t ss ts a b same begins)
    (ends_no_lower t s ts ss b a back (sym begins)) in
    let firsts = same_ends s t begins ends in
    let rests : ss ≡ ts = one_form ss ts (first s ss a).rest (first t ts b).rest (rest_same firsts) in
    cc
  where
    -- a key of the first span is in no later one
    apart_from : (u : Span) (us : List Span) (k : List ℕ) → is_canonical (u ∷ us) ≡ true → within u k ≡ true → holds us k ≡ false
    apart_from u us k c in_u =
        let ends = and_parts (not (key_less k u.begin)) (key_less k u.end) in_u in
        false_from_ne_true (holds us k) (λ held.
        both_ways (key_less u.end k) (less_asym k u.end ends.1) (held_above u.end k us (first u us c).apart held))

    rest_same : s ≡ t → (k : List ℕ) → holds ss k ≡ holds ts k
    rest_same e k =
        elim (cases_Bool (within s k)) [
          | inl in_s ↦ apart_from s ss k a in_s ∙ sym (apart_from t ts k b (subst (λ u. within u k ≡ true) e in_s))
          | inr out_s ↦
              let out_t : within t k ≡ false = subst (λ u. within u k ≡ false) e out_s in
              sym (or_out (within s k) (holds ss k) out_s) ∙ same k ∙ or_out (within t k) (holds ts k) out_t
        ]
      where
        or_out : (x y : Bool) → x ≡ false → (x || y) ≡ y
        or_out x y e = rw e refl

-- one span more behind a span: it begins above that one's end
pub behind-more : (s t : Span) (later : List Span) → key_less s.begin s.end ≡ true → key_less t.begin t.end ≡ true
    → is_canonical (s ∷ t ∷ later) ≡ (key_less s.end t.begin && is_canonical (t ∷ later))
behind-more s t later filled next = by_tests (key_less s.end t.begin) (is_canonical (t ∷ later)) refl refl
  where
    broken : (key_less s.end t.begin && is_canonical (t ∷ later)) ≡ false → is_canonical (s ∷ t ∷ later) ≡ (key_less s.end t.begin && is_canonical (t ∷ later))
    broken none =
        false_from_ne_true (is_canonical (s ∷ t ∷ later)) (λ canonical.
        let f = first s (t ∷ later) canonical in
        both_ways (key_less s.end t.begin && is_canonical (t ∷ later)) none
        (and_from (key_less s.end t.begin) (is_canonical (t ∷ later)) (and_parts (key_less s.end t.begin) (all_above s.end later) f.apart).0 f.rest))
        ∙ sym none

    by_tests : (a b : Bool) → key_less s.end t.begin ≡ a → is_canonical (t ∷ later) ≡ b → is_canonical (s ∷ t ∷ later) ≡ (key_less s.end t.begin && is_canonical (t ∷ later))
    by_tests true true apart rest =
        canonical-cons s (t ∷ later) filled
        (and_from (key_less s.end t.begin) (all_above s.end later) apart (above_less s.end t.end later (less_trans s.end t.begin t.end apart next) (first t later rest).apart))
        rest
        ∙ sym (and_from (key_less s.end t.begin) (is_canonical (t ∷ later)) apart rest)
    by_tests true false apart rest = broken (λ i. apart i && rest i)
    by_tests false b apart rest = broken (ap (λ (x : Bool). x && is_canonical (t ∷ later)) apart)

-- and where the first of the spans behind it is known
pub behind-first : (s next : Span) (later : List Span) → Some next ≡ slice_get later 0 → key_less s.begin s.end ≡ true → key_less next.begin next.end ≡ true
    → is_canonical (s ∷ later) ≡ (key_less s.end next.begin && is_canonical later)
behind-first s next [] is filled next_filled = absurd (cc (is))
behind-first s next (t ∷ later) is filled next_filled =
    let one : next ≡ t = cc (is) in
    subst (λ (x : Span). is_canonical (s ∷ t ∷ later) ≡ (key_less s.end x.begin && is_canonical (t ∷ later))) (sym one)
    (behind-more s t later filled (subst (λ (x : Span). key_less x.begin x.end ≡ true) one next_filled))
