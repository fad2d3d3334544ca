-- What a value spells is read, and what is read is what the value spells.
use Rattle.std.proofs.Common.{◌≡◌, ◌∙◌, ◌+◌, ◌^◌, ◌<◌, ◌≤◌, ◌&&◌, ℕ, zero, suc, Bool, true, false, cond, not, leb, ltb, List, [], ◌∷◌, ◌++◌, length, take, drop, get_or, Option, Some, None, All, IfOk, IfSome, Result, Ok, Err, refl, sym, ap, subst, append_assoc, length-append, length-take, arith, option_and_then}
use Rattle.std.proofs.lemmas.Bool.{and_from, and_parts, ltb-false, le-ltb, leb-true}
use Rattle.std.proofs.lemmas.List.{drop_at, get_or-drop, get_or_default, take-append-drop, take_at}
use Rattle.std.proofs.lemmas.Option.{same_Some}
use Rattle.std.specs.List.{flat_map, list_all}
use Rattle.st_num.specs.Numbers.{length-bytes_low_first}
use Rattle.st_key.specs.Spans.{Span, is_canonical, key_less}
use Rattle.st_num.specs.Number.{little_bytes, little_number, number_at}
use Rattle.st_ops.specs.Reading.{cut}
use Rattle.st_meta.specs.Reading.{checked, number_of, range_at, ranges_of, risen, sized_at, spans_at}
use Rattle.st_meta.specs.Stored.{SpellsRanges, ff, is_range, range_bytes, sized}

-- the laws of numbers as bytes
abbrev pub Put : Type 0
Put = (count number : ℕ) (before behind : List ℕ) → number < 256 ^ count → number_at count (before ++ little_bytes count number ++ behind) (length before) ≡ Some number

abbrev pub Taken : Type 0
Taken = (count number at : ℕ) (bytes : List ℕ) → All (λ byte. byte < 256) bytes → number_at count bytes at ≡ Some number → take count (drop at bytes) ≡ little_bytes count number

abbrev pub AreBytes : List ℕ → Type 0
AreBytes bytes = (i : ℕ) → get_or bytes i 0 < 256

each_small : (bytes : List ℕ) → AreBytes bytes → All (λ byte. byte < 256) bytes
each_small bytes small i d inside = rw (get_or_default bytes i d 0 inside) (small i)

AreBytes-drop : (n : ℕ) (bytes : List ℕ) → AreBytes bytes → AreBytes (drop n bytes)
AreBytes-drop n bytes small i = rw get_or-drop (small (n + i))

-- a chain of two steps that gives something
and_then_some : {A B : Type 0} → (f : A → Option B) (o : Option A) (y : B) → option_and_then f o ≡ Some y → (x : A) × (o ≡ Some x) × (f x ≡ Some y)
and_then_some f None y is = absurd (cc (is))
and_then_some f (Some x) y is = (x, refl, is)

if_some : {A : Type 0} → (b : Bool) (x y : A) → cond b (Some x) None ≡ Some y → (b ≡ true) × (x ≡ y)
if_some true x y is = (refl, same_Some x y is)
if_some false x y is = absurd (cc (is))

is_range_parts : (span : Span) → is_range span ≡ true → (length span.begin ≤ 10001) × (length span.end ≤ 10001)
is_range_parts span is =
    let one = and_parts (key_less span.begin span.end && leb (length span.begin) 10001 && leb (length span.end) 10001) (not (key_less ff span.end)) is in
    let two = and_parts (key_less span.begin span.end && leb (length span.begin) 10001) (leb (length span.end) 10001) one.0 in
    let three = and_parts (key_less span.begin span.end) (leb (length span.begin) 10001) two.0 in
    (leb-true _ _ three.1, leb-true _ _ two.1)

module _ (put : Put) where
  number-front : (count number : ℕ) (behind : List ℕ) → number < 256 ^ count → number_at count (little_bytes count number ++ behind) 0 ≡ Some number
  number-front count number behind small = put count number [] behind small

  sized-again : (bytes rest : List ℕ) → length bytes < 2 ^ 32 → sized_at (sized bytes ++ rest) ≡ Some (bytes, rest)
  sized-again bytes rest fits =
      let n = length bytes in
      let four : length (little_bytes 4 n) ≡ 4 = length-bytes_low_first 0 4 n in
      let parts : sized bytes ++ rest ≡ little_bytes 4 n ++ (bytes ++ rest) = append_assoc (little_bytes 4 n) bytes rest in
      let number : number_at 4 (sized bytes ++ rest) 0 ≡ Some n = ap (λ (l : List ℕ). number_at 4 l 0) parts ∙ number-front 4 n (bytes ++ rest) (omega arith) in
      let behind : drop 4 (sized bytes ++ rest) ≡ bytes ++ rest = ap (drop 4) parts ∙ drop_at (little_bytes 4 n) (bytes ++ rest) 4 (sym four) in
      let enough : ltb (length (bytes ++ rest)) n ≡ false = le-ltb _ _ (omega (arith, length-append bytes rest)) in
      ap (option_and_then (λ (len : ℕ). cut len (drop 4 (sized bytes ++ rest)))) number
      ∙ ap (cut n) behind
      ∙ rw (enough, take_at bytes rest n refl, drop_at bytes rest n refl) refl

  range-again : (span : Span) (rest : List ℕ) → is_range span ≡ true → range_at (range_bytes span ++ rest) ≡ Some (span, rest)
  range-again span rest is =
      let bounds = is_range_parts span is in
      ap range_at (append_assoc (sized span.begin) (sized span.end) rest)
      ∙ ap (option_and_then (λ (begin : List ℕ × List ℕ). option_and_then (λ (end : List ℕ × List ℕ). checked (record { begin = begin.0; end = end.0 }) end.1) (sized_at begin.1)))
      (sized-again span.begin (sized span.end ++ rest) (omega (arith, bounds.0)))
      ∙ ap (option_and_then (λ (end : List ℕ × List ℕ). checked (record { begin = span.begin; end = end.0 }) end.1)) (sized-again span.end rest (omega (arith, bounds.1)))
      ∙ ap (λ (t : Bool). cond t (Some (span, rest)) None) is

  spans-again : (spans : List Span) → list_all is_range spans ≡ true → spans_at (length spans) (flat_map range_bytes spans) ≡ Some spans
  spans-again [] all = refl
  spans-again (span ∷ spans) all =
      let parts = and_parts (is_range span) (list_all is_range spans) all in
      ap (option_and_then (λ (first : Span × List ℕ). option_and_then (λ (later : List Span). Some (first.0 ∷ later)) (spans_at (length spans) first.1))) (range-again span (flat_map range_bytes spans) parts.0)
      ∙ ap (option_and_then (λ (later : List Span). Some (span ∷ later))) (spans-again spans parts.1)

  pub ranges-again : (value : List ℕ) (spans : List Span) → SpellsRanges value spans → ranges_of value ≡ Some spans
  ranges-again value spans spells =
      let n = length spans in
      let behind = flat_map range_bytes spans in
      let four : length (little_bytes 4 n) ≡ 4 = length-bytes_low_first 0 4 n in
      ap ranges_of spells.spelled
      ∙ ap (option_and_then (λ (count : ℕ). option_and_then risen (spans_at count (drop 4 (little_bytes 4 n ++ behind))))) (number-front 4 n behind (omega (arith, spells.fits)))
      ∙ ap (λ (l : List ℕ). option_and_then risen (spans_at n l)) (drop_at (little_bytes 4 n) behind 4 (sym four))
      ∙ ap (option_and_then risen) (spans-again spans spells.ranges)
      ∙ ap (λ (t : Bool). cond t (Some spans) None) spells.canonical

  pub number-again : (version : ℕ) → version < 2 ^ 64 → number_of (little_bytes 8 version) ≡ Some version
  number-again version small = number-front 8 version [] (omega arith)

module _ (taken : Taken) where
  -- what was cut is the front and the rest
  cut_takes : (len : ℕ) (bytes : List ℕ) (x : List ℕ × List ℕ) → AreBytes bytes → cut len bytes ≡ Some x
      → (bytes ≡ x.0 ++ x.1) × (length x.0 ≡ len) × AreBytes x.1
  cut_takes len bytes x small e = by_test (ltb (length bytes) len) refl e
    where
      by_test : (t : Bool) → ltb (length bytes) len ≡ t → cond t None (Some (take len bytes, drop len bytes)) ≡ Some x → (bytes ≡ x.0 ++ x.1) × (length x.0 ≡ len) × AreBytes x.1
      by_test true short is = absurd (cc (is))
      by_test false long is =
          let enough : len ≤ length bytes = ltb-false _ _ long in
          subst (λ (y : List ℕ × List ℕ). (bytes ≡ y.0 ++ y.1) × (length y.0 ≡ len) × AreBytes y.1) (same_Some (take len bytes, drop len bytes) x is)
          (sym (take-append-drop len bytes), omega (arith, length-take len bytes), AreBytes-drop len bytes small)

  number_small : (number : ℕ) (bytes : List ℕ) → AreBytes bytes → number_at 4 bytes 0 ≡ Some number → number < 2 ^ 32
  number_small number bytes small e = by_test (ltb (length bytes) 4) e
    where
      by_test : (t : Bool) → cond t None (Some (little_number 4 bytes)) ≡ Some number → number < 2 ^ 32
      by_test true e = absurd (cc (e))
      by_test false e =
          let is : little_number 4 bytes ≡ number = same_Some (little_number 4 bytes) number e in
          omega (arith, is, small 0, small 1, small 2, small 3)

  sized-takes : (bytes : List ℕ) (x : List ℕ × List ℕ) → AreBytes bytes → sized_at bytes ≡ Some x → (bytes ≡ sized x.0 ++ x.1) × AreBytes x.1
  sized-takes bytes x small e =
      let found = and_then_some (λ (len : ℕ). cut len (drop 4 bytes)) (number_at 4 bytes 0) x e in
      let parts = cut_takes found.0 (drop 4 bytes) x (AreBytes-drop 4 bytes small) found.2 in
      let number : take 4 bytes ≡ little_bytes 4 found.0 = taken 4 found.0 0 bytes (each_small bytes small) found.1 in (
        sym (take-append-drop 4 bytes)
            ∙ (λ i. number i ++ parts.0 i)
            ∙ ap (λ (n : ℕ). little_bytes 4 n ++ (x.0 ++ x.1)) (sym parts.1)
            ∙ sym (append_assoc (little_bytes 4 (length x.0)) x.0 x.1),
        parts.2,
      )

  range-takes : (bytes : List ℕ) (x : Span × List ℕ) → AreBytes bytes → range_at bytes ≡ Some x → (bytes ≡ range_bytes x.0 ++ x.1) × (is_range x.0 ≡ true) × AreBytes x.1
  range-takes bytes x small e =
      let one = and_then_some (λ (begin : List ℕ × List ℕ). option_and_then (λ (end : List ℕ × List ℕ). checked (record { begin = begin.0; end = end.0 }) end.1) (sized_at begin.1)) (sized_at bytes) x e in
      let two = and_then_some (λ (end : List ℕ × List ℕ). checked (record { begin = one.0.0; end = end.0 }) end.1) (sized_at one.0.1) x one.2 in
      let span : Span = record { begin = one.0.0; end = two.0.0 } in
      let first = sized-takes bytes one.0 small one.1 in
      let second = sized-takes one.0.1 two.0 first.1 two.1 in
      let last = if_some (is_range span) (span, two.0.1) x two.2 in
      subst (λ (y : Span × List ℕ). (bytes ≡ range_bytes y.0 ++ y.1) × (is_range y.0 ≡ true) × AreBytes y.1) last.1
      (first.0 ∙ ap (λ (l : List ℕ). sized span.begin ++ l) second.0 ∙ sym (append_assoc (sized span.begin) (sized span.end) two.0.1), last.0, second.1)

  spans-takes : (count : ℕ) (bytes : List ℕ) (spans : List Span) → AreBytes bytes → spans_at count bytes ≡ Some spans
      → (bytes ≡ flat_map range_bytes spans) × (length spans ≡ count) × (list_all is_range spans ≡ true)
  spans-takes zero [] spans small e =
      let none : [] ≡ spans = same_Some [] spans e in
      subst (λ (l : List Span). ([] ≡ flat_map range_bytes l) × (length l ≡ 0) × (list_all is_range l ≡ true)) none (refl, refl, refl)
  spans-takes zero (byte ∷ bytes) spans small e = absurd (cc (e))
  spans-takes (suc count) bytes spans small e =
      let one = and_then_some (λ (first : Span × List ℕ). option_and_then (λ (later : List Span). Some (first.0 ∷ later)) (spans_at count first.1)) (range_at bytes) spans e in
      let two = and_then_some (λ (later : List Span). Some (one.0.0 ∷ later)) (spans_at count one.0.1) spans one.2 in
      let first = range-takes bytes one.0 small one.1 in
      let later = spans-takes count one.0.1 two.0 first.2 two.1 in
      subst (λ (l : List Span). (bytes ≡ flat_map range_bytes l) × (length l ≡ suc count) × (list_all is_range l ≡ true)) (same_Some (one.0.0 ∷ two.0) spans two.2)
      (first.0 ∙ ap (λ (l : List ℕ). range_bytes one.0.0 ++ l) later.0, ap suc later.1, and_from (is_range one.0.0) (list_all is_range two.0) first.1 later.2)

  ranges-take : (value : List ℕ) (spans : List Span) → AreBytes value → ranges_of value ≡ Some spans → SpellsRanges value spans
  ranges-take value spans small e =
      let one = and_then_some (λ (count : ℕ). option_and_then risen (spans_at count (drop 4 value))) (number_at 4 value 0) spans e in
      let two = and_then_some risen (spans_at one.0 (drop 4 value)) spans one.2 in
      let parts = spans-takes one.0 (drop 4 value) two.0 (AreBytes-drop 4 value small) two.1 in
      let last = if_some (is_canonical two.0) two.0 spans two.2 in
      let number : take 4 value ≡ little_bytes 4 one.0 = taken 4 one.0 0 value (each_small value small) one.1 in
      let fits = number_small one.0 value small one.1 in
      subst (λ (l : List Span). SpellsRanges value l) last.1
      (record {
        spelled = sym (take-append-drop 4 value) ∙ (λ i. number i ++ parts.0 i) ∙ ap (λ (n : ℕ). little_bytes 4 n ++ flat_map range_bytes two.0) (sym parts.1);
        canonical = last.0;
        ranges = parts.2;
        fits = omega (arith, parts.1, fits);
      })

  ranges-found : (value : List ℕ) → AreBytes value → (o : Option (List Span)) → o ≡ ranges_of value → IfSome o (λ spans. SpellsRanges value spans)
  ranges-found value small None is = tt
  ranges-found value small (Some spans) is = ranges-take value spans small (sym is)

  pub ranges-answer : {E : Type 0} (value : List ℕ) → AreBytes value → (r : Result (Option (List Span)) E) → IfOk r (λ found. found ≡ ranges_of value)
      → IfOk r (λ found. IfSome found (λ spans. SpellsRanges value spans))
  ranges-answer value small (Ok found) is = ranges-found value small found is
  ranges-answer value small (Err e) is = tt
