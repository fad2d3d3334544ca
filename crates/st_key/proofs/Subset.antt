-- Whether one canonical list has the keys of another.
use Rattle.std.proofs.Common.{◌≡◌, ℕ, zero, suc, ◌+◌, ◌<◌, arith, drop-cons, get_or, length, Bool, true, false, cond, not, ◌&&◌, ◌||◌, List, [], ◌∷◌, drop, refl, sym, ap, subst, ◌∙◌, inl, inr}
use Rattle.std.proofs.lemmas.Bool.{and_parts, and_from, or_left, or_right, or_from, both_ways, true_from_ne_false, or_cases}
use Rattle.std.specs.List.{list_all, prefix_len}
use Rattle.st_key.specs.Forms.{above_less, all_above, first}
use Rattle.st_key.specs.KeyOrder.{less_irrefl, less_trans, less_asym, less_le_trans}
use Rattle.st_key.specs.Parts.{begins_by, ending_from, has_all, lies_in}
use Rattle.st_key.specs.Spans.{Span, IsSubset, key_less, within, holds, is_canonical}
use Rattle.st_key.proofs.Cover.{covers_from, misses_from}

-- lists whose spans all lie in others have their keys
pub subset_from : (few many : List Span) → list_all (lies_in many) few ≡ true → IsSubset few many
subset_from [] many all key held = absurd (cc (held))
subset_from (s ∷ few) many all key held =
    let parts = and_parts (lies_in many s) (list_all (lies_in many) few) all in
    elim (or_cases (within s key) (holds few key) held) [
      | inl here ↦ covers_from many s parts.0 key here
      | inr later ↦ subset_from few many parts.1 key later
    ]

-- and each span of a list whose keys others have lies in one of them
pub lies_from : (few many : List Span) → is_canonical few ≡ true → is_canonical many ≡ true → IsSubset few many → list_all (lies_in many) few ≡ true
lies_from [] many rises canonical subset = refl
lies_from (s ∷ few) many rises canonical subset =
    let f = first s few rises in
    and_from (lies_in many s) (list_all (lies_in many) few)
    (true_from_ne_false (lies_in many s) (λ none.
    let missed = misses_from many s canonical f.filled none in
    both_ways (holds many missed.0) missed.2 (subset missed.0 (or_left (within s missed.0) (holds few missed.0) missed.1))))
    (lies_from few many f.rest canonical (λ key held. subset key (or_right (within s key) (holds few key) held)))

-- a span that ends below another one's end hasn't all of its keys
ends_short : (s span : Span) → key_less s.end span.end ≡ true → has_all span.begin span.end s ≡ false
ends_short s span short = by_test (not (key_less span.begin s.begin)) (ap not short)
  where
    by_test : (a : Bool) → not (key_less s.end span.end) ≡ false → (a && not (key_less s.end span.end)) ≡ false
    by_test true e = e
    by_test false e = refl

module _ (key : List ℕ) (s : Span) (spans : List Span) where
  ending-more : key_less s.end key ≡ true → ending_from (s ∷ spans) key ≡ ending_from spans key
  ending-more below =
      let n = prefix_len (λ s. key_less s.end key) spans in
      let one : 1 + n ≡ suc n = omega arith in
      ap (λ (t : Bool). drop (cond t (1 + n) 0) (s ∷ spans)) below ∙ ap (λ (m : ℕ). drop m (s ∷ spans)) one

  ending-here : key_less s.end key ≡ false → ending_from (s ∷ spans) key ≡ s ∷ spans
  ending-here here = ap (λ (t : Bool). drop (cond t (1 + prefix_len (λ s. key_less s.end key) spans) 0) (s ∷ spans)) here

-- those that end below the key are of no use to a span that ends at it or above it
lies-ending : (spans : List Span) (key : List ℕ) (span : Span) → key_less span.end key ≡ false → lies_in spans span ≡ lies_in (ending_from spans key) span
lies-ending [] key span ends = refl
lies-ending (s ∷ spans) key span ends = by_test (key_less s.end key) refl (lies-ending spans key span ends)
  where
    by_test : (t : Bool) → key_less s.end key ≡ t → lies_in spans span ≡ lies_in (ending_from spans key) span → lies_in (s ∷ spans) span ≡ lies_in (ending_from (s ∷ spans) key) span
    by_test true below later =
        ap (λ (t : Bool). t || lies_in spans span) (ends_short s span (less_le_trans s.end key span.end below ends))
        ∙ later ∙ ap (λ (l : List Span). lies_in l span) (sym (ending-more key s spans below))
    by_test false here later = ap (λ (l : List Span). lies_in l span) (sym (ending-here key s spans here))

pub canonical-ending : (spans : List Span) (key : List ℕ) → is_canonical spans ≡ true → is_canonical (ending_from spans key) ≡ true
canonical-ending [] key canonical = refl
canonical-ending (s ∷ spans) key canonical = by_test (key_less s.end key) refl (canonical-ending spans key (first s spans canonical).rest)
  where
    by_test : (t : Bool) → key_less s.end key ≡ t → is_canonical (ending_from spans key) ≡ true → is_canonical (ending_from (s ∷ spans) key) ≡ true
    by_test true below later = ap is_canonical (ending-more key s spans below) ∙ later
    by_test false here later = ap is_canonical (ending-here key s spans here) ∙ canonical

-- the first one that ends there isn't below it
first-ending : (spans : List Span) (key : List ℕ) (s : Span) (later : List Span) → ending_from spans key ≡ s ∷ later → key_less s.end key ≡ false
first-ending [] key s later is = absurd (cc (is))
first-ending (t ∷ spans) key s later is = by_test (key_less t.end key) refl (first-ending spans key s later)
  where
    by_test : (b : Bool) → key_less t.end key ≡ b → (ending_from spans key ≡ s ∷ later → key_less s.end key ≡ false) → key_less s.end key ≡ false
    by_test true below rest = rest (sym (ending-more key t spans below) ∙ is)
    by_test false here rest =
        let same : t ∷ spans ≡ s ∷ later = sym (ending-here key t spans here) ∙ is in
        let one : t ≡ s = cc (same) in
        ap (λ (x : Span). key_less x.end key) (sym one) ∙ here

-- a span that begins above another one's begin hasn't all of its keys
begins_late : (span : Span) (spans : List Span) → all_above span.begin spans ≡ true → lies_in spans span ≡ false
begins_late span [] above = refl
begins_late span (s ∷ spans) above =
    let parts = and_parts (key_less span.begin s.begin) (all_above span.begin spans) above in
    or_from (has_all span.begin span.end s) (lies_in spans span)
    (ap (λ (t : Bool). not t && not (key_less s.end span.end)) parts.0)
    (begins_late span spans parts.1)

-- so among those that end at a span's end or above it the first one tells whether the span lies in one
lies-first : (spans : List Span) (span : Span) → is_canonical spans ≡ true → ((s : Span) (later : List Span) → spans ≡ s ∷ later → key_less s.end span.end ≡ false) → lies_in spans span ≡ begins_by spans span.begin
lies-first [] span canonical reaches = refl
lies-first (s ∷ spans) span canonical reaches = by_test (key_less span.begin s.begin) refl
  where
    ends : key_less s.end span.end ≡ false
    ends = reaches s spans refl

    by_test : (t : Bool) → key_less span.begin s.begin ≡ t → lies_in (s ∷ spans) span ≡ not (key_less span.begin s.begin)
    by_test true late =
        let f = first s spans canonical in
        or_from (has_all span.begin span.end s) (lies_in spans span) (ap (λ (t : Bool). not t && not (key_less s.end span.end)) late)
        (begins_late span spans (above_less span.begin s.end spans (less_trans span.begin s.begin s.end late f.filled) f.apart))
        ∙ sym (ap not late)
    by_test false early =
        or_left (has_all span.begin span.end s) (lies_in spans span) (and_from (not (key_less span.begin s.begin)) (not (key_less s.end span.end)) (ap not early) (ap not ends))
        ∙ sym (ap not early)

-- each span of a list that begins above a key ends above it too
ends_above : (key : List ℕ) (spans : List Span) → is_canonical spans ≡ true → all_above key spans ≡ true → (many : List Span) → list_all (lies_in many) spans ≡ list_all (lies_in (ending_from many key)) spans
ends_above key [] canonical above many = refl
ends_above key (s ∷ spans) canonical above many =
    let f = first s spans canonical in
    let parts = and_parts (key_less key s.begin) (all_above key spans) above in
    let ends : key_less s.end key ≡ false = less_asym key s.end (less_trans key s.begin s.end parts.0 f.filled) in
    (λ i. lies-ending many key s ends i && ends_above key spans f.rest parts.1 many i)

-- One step along the list.
step : (many : List Span) (s : Span) (later : List Span) → is_canonical many ≡ true → is_canonical (s ∷ later) ≡ true
    → list_all (lies_in many) (s ∷ later) ≡ (begins_by (ending_from many s.end) s.begin && list_all (lies_in (ending_from many s.end)) later)
step many s later canonical rises =
    let f = first s later rises in
    let itself : lies_in many s ≡ begins_by (ending_from many s.end) s.begin =
    lies-ending many s.end s (less_irrefl s.end)
    ∙ lies-first (ending_from many s.end) s (canonical-ending many s.end canonical) (λ t others is. first-ending many s.end t others is) in
    (λ i. itself i && ends_above s.end later f.rest f.apart many i)

-- what is left of a canonical list is one
canonical-drop : (spans : List Span) (i : ℕ) → is_canonical spans ≡ true → is_canonical (drop i spans) ≡ true
canonical-drop spans zero canonical = canonical
canonical-drop [] (suc i) canonical = refl
canonical-drop (s ∷ spans) (suc i) canonical = canonical-drop spans i (first s spans canonical).rest

-- the same at a place of the list
pub step-at : (many few : List Span) (i : ℕ) (s : Span) → i < length few → s ≡ get_or few i s → is_canonical many ≡ true → is_canonical few ≡ true
    → list_all (lies_in many) (drop i few) ≡ (begins_by (ending_from many s.end) s.begin && list_all (lies_in (ending_from many s.end)) (drop (i + 1) few))
step-at many few i s inside is canonical rises =
    let one : i + 1 ≡ suc i = omega arith in
    let here : drop i few ≡ s ∷ drop (i + 1) few =
    drop-cons few i s inside ∙ ap (λ (x : Span). x ∷ drop (suc i) few) (sym is) ∙ ap (λ (n : ℕ). s ∷ drop n few) (sym one) in
    ap (list_all (lies_in many)) here
    ∙ step many s (drop (i + 1) few) canonical (subst (λ (l : List Span). is_canonical l ≡ true) here (canonical-drop few i rises))
