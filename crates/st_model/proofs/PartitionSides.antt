-- The part of a span that has a key, where the span is cut.
use Rattle.std.proofs.Common.{◌≡◌, ℕ, Bool, true, false, not, ◌&&◌, ◌||◌, List, [], ◌∷◌, ◌++◌, refl, sym, ap, ◌∙◌, inl, inr, Some, None}
use Rattle.std.specs.List.{flat_map, fold, list_any}
use Rattle.std.specs.Option.{option_map}
use Rattle.std.proofs.Math.Bool.{cond}
use Rattle.std.proofs.lemmas.Bool.{cases_Bool, cond_both, and_parts, and_cases, and_from, and_left, and_right, or_from, or_parts, not_from_true, not_from_false, not-true, both_ways, false_from_ne_true, cond-true, cond-false}
use Rattle.std.proofs.lemmas.List.Concat.{flat_map-append}
use Rattle.st_key.specs.Spans.{Span, key_less, within, holds, all_keys}
use Rattle.st_key.specs.KeyOrder.{less_irrefl, less_asym, le_less_trans, less_le_trans}
use Rattle.st_model.specs.Pieces.{cut_span, ends_of, cut_keys, lies_in}
use Rattle.st_model.specs.Partition.{Tiles, holder, cuts, side}
use Rattle.st_model.proofs.PartitionTiles.{ge_trans, inside, tiles-flat_map, holder-flat_map, of_holder}

-- tests with one answer
pub same_test : (x y : Bool) → (y ≡ true → x ≡ true) → (y ≡ false → x ≡ false) → x ≡ y
same_test x true t f = t refl
same_test x false t f = f refl

-- the part has the key
pub side-in : (key place : List ℕ) (span : Span) → within span key ≡ true → within (side key place span) key ≡ true
side-in key place span w =
    let ends = and_parts (not (key_less key span.begin)) (key_less key span.end) w in
    cond_both (cuts place span)
    (cond (key_less key place) (record { begin = span.begin; end = place }) (record { begin = place; end = span.end })) span
    (λ s. within s key ≡ true)
    (λ _. cond_both (key_less key place) (record { begin = span.begin; end = place }) (record { begin = place; end = span.end })
    (λ s. within s key ≡ true)
    (λ low. and_from (not (key_less key span.begin)) (key_less key place) ends.0 low)
    (λ high. and_from (not (key_less key place)) (key_less key span.end) (not_from_false (key_less key place) high) ends.1))
    (λ _. w)

-- the place doesn't cut the part
pub side-uncut : (key place : List ℕ) (span : Span) → cuts place (side key place span) ≡ false
side-uncut key place span =
    cond_both (cuts place span)
    (cond (key_less key place) (record { begin = span.begin; end = place }) (record { begin = place; end = span.end })) span
    (λ s. cuts place s ≡ false)
    (λ _. cond_both (key_less key place) (record { begin = span.begin; end = place }) (record { begin = place; end = span.end })
    (λ s. cuts place s ≡ false)
    (λ _. and_right (key_less span.begin place) (key_less place place) (less_irrefl place))
    (λ _. and_left (key_less place place) (key_less place span.end) (less_irrefl place)))
    (λ e. e)

-- the first span lies in the second
pub record IsSub (inner outer : Span) : Type 0 where
  pub low : key_less inner.begin outer.begin ≡ false
  pub high : key_less outer.end inner.end ≡ false

pub side-sub : (key place : List ℕ) (span : Span) → IsSub (side key place span) span
side-sub key place span =
    cond_both (cuts place span)
    (cond (key_less key place) (record { begin = span.begin; end = place }) (record { begin = place; end = span.end })) span
    (λ s. IsSub s span)
    (λ cut.
    let ends = and_parts (key_less span.begin place) (key_less place span.end) cut in
    cond_both (key_less key place) (record { begin = span.begin; end = place }) (record { begin = place; end = span.end })
    (λ s. IsSub s span)
    (λ _. record { low = less_irrefl span.begin; high = less_asym place span.end ends.1 })
    (λ _. record { low = less_asym span.begin place ends.0; high = less_irrefl span.end }))
    (λ _. record { low = less_irrefl span.begin; high = less_irrefl span.end })

-- what doesn't cut a span doesn't cut what lies in it
pub uncut_in : (place : List ℕ) (inner outer : Span) → IsSub inner outer → cuts place outer ≡ false → cuts place inner ≡ false
uncut_in place inner outer sub uncut =
    false_from_ne_true (cuts place inner) (λ cut.
    let ends = and_parts (key_less inner.begin place) (key_less place inner.end) cut in
    both_ways (cuts place outer) uncut
    (and_from (key_less outer.begin place) (key_less place outer.end)
    (le_less_trans outer.begin inner.begin place sub.low ends.0)
    (less_le_trans place inner.end outer.end ends.1 sub.high)))

-- in a span that a place doesn't cut, each key lies on the side of the place where the begin lies
pub begin_side : (place key : List ℕ) (span : Span) → within span key ≡ true → cuts place span ≡ false
    → key_less span.begin place ≡ key_less key place
begin_side place key span w uncut =
    let ends = and_parts (not (key_less key span.begin)) (key_less key span.end) w in
    let low : key_less key span.begin ≡ false = not-true (key_less key span.begin) ends.0 in
    same_test (key_less span.begin place) (key_less key place)
    (λ below. le_less_trans span.begin key place low below)
    (λ above.
    let inner : key_less place span.end ≡ true = le_less_trans place key span.end above ends.1 in
    elim (and_cases (key_less span.begin place) (key_less place span.end) uncut) [
      | inl e ↦ e
      | inr e ↦ absurd (both_ways (key_less place span.end) e inner)
    ])

-- and where the end lies
pub end_side : (place key : List ℕ) (span : Span) → within span key ≡ true → cuts place span ≡ false
    → not (key_less place span.end) ≡ key_less key place
end_side place key span w uncut =
    let ends = and_parts (not (key_less key span.begin)) (key_less key span.end) w in
    let low : key_less key span.begin ≡ false = not-true (key_less key span.begin) ends.0 in
    same_test (not (key_less place span.end)) (key_less key place)
    (λ below.
    let inner : key_less span.begin place ≡ true = le_less_trans span.begin key place low below in
    elim (and_cases (key_less span.begin place) (key_less place span.end) uncut) [
      | inl e ↦ absurd (both_ways (key_less span.begin place) e inner)
      | inr e ↦ not_from_false (key_less place span.end) e
    ])
    (λ above. not_from_true (key_less place span.end) (le_less_trans place key span.end above ends.1))

-- a span that neither end of another cuts lies in it where one of its keys does
pub lies_in-within : (inner outer : Span) (key : List ℕ) → within inner key ≡ true → cuts outer.begin inner ≡ false
    → cuts outer.end inner ≡ false → lies_in inner outer ≡ within outer key
lies_in-within inner outer key w low high =
    ap (λ b. not b && not (key_less outer.end inner.end)) (begin_side outer.begin key inner w low)
    ∙ ap (λ b. not (key_less key outer.begin) && b) (end_side outer.end key inner w high)

-- ---- all keys, cut at the ends of spans

pub tiles-cut_span : (place : List ℕ) (span : Span) → key_less span.begin span.end ≡ true
    → Tiles (λ s. s) span.begin span.end (cut_span place span)
tiles-cut_span place span some =
    cond_both (cuts place span) (record { begin = span.begin; end = place } ∷ record { begin = place; end = span.end } ∷ []) (span ∷ [])
    (λ l. Tiles (λ s. s) span.begin span.end l)
    (λ cut. let ends = and_parts (key_less span.begin place) (key_less place span.end) cut in (refl, ends.0, (refl, ends.1, refl)))
    (λ _. (refl, some, refl))

pub tiles-cut_all : (places : List (List ℕ)) (low high : List ℕ) (parts : List Span) → Tiles (λ s. s) low high parts
    → Tiles (λ s. s) low high (fold (λ ps key. flat_map (cut_span key) ps) parts places)
tiles-cut_all [] low high parts h = h
tiles-cut_all (place ∷ places) low high parts h =
    tiles-cut_all places low high (flat_map (cut_span place) parts)
    (tiles-flat_map (λ s. s) (λ s. s) (cut_span place) (tiles-cut_span place) low high parts h)

pub tiles-cut_keys : (spans : List Span) → Tiles (λ s. s) all_keys.begin all_keys.end (cut_keys spans)
tiles-cut_keys spans = tiles-cut_all (ends_of spans) all_keys.begin all_keys.end (all_keys ∷ []) (refl, refl, refl)

holder-cut_span : (key place : List ℕ) (span : Span) → within span key ≡ true
    → holder (λ s. s) (cut_span place span) key ≡ Some (side key place span)
holder-cut_span key place span w =
    let ends = and_parts (not (key_less key span.begin)) (key_less key span.end) w in
    let left : Span = record { begin = span.begin; end = place } in
    let right : Span = record { begin = place; end = span.end } in
    elim (cases_Bool (cuts place span)) [
      | inl cut ↦
          ap (λ l. holder (λ (s : Span). s) l key) (cond-true (cuts place span) (left ∷ right ∷ []) (span ∷ []) cut)
          ∙ (elim (cases_Bool (key_less key place)) [
            | inl low ↦
                cond-true (within left key) (Some left) (holder (λ s. s) (right ∷ []) key)
                (and_from (not (key_less key span.begin)) (key_less key place) ends.0 low)
                ∙ ap Some (sym (cond-true (key_less key place) left right low))
            | inr high ↦
                cond-false (within left key) (Some left) (holder (λ s. s) (right ∷ []) key)
                (and_right (not (key_less key span.begin)) (key_less key place) high)
                ∙ (cond-true (within right key) (Some right) None
                (and_from (not (key_less key place)) (key_less key span.end) (not_from_false (key_less key place) high) ends.1)
                ∙ ap Some (sym (cond-false (key_less key place) left right high)))
          ]
          ∙ ap Some (sym (cond-true (cuts place span) (cond (key_less key place) left right) span cut)))
      | inr uncut ↦
          ap (λ l. holder (λ (s : Span). s) l key) (cond-false (cuts place span) (left ∷ right ∷ []) (span ∷ []) uncut)
          ∙ (cond-true (within span key) (Some span) None w
          ∙ ap Some (sym (cond-false (cuts place span) (cond (key_less key place) left right) span uncut)))
    ]

-- a part of all keys that has a key, and that none of the places cuts
pub record IsPart (places : List (List ℕ)) (parts : List Span) (key : List ℕ) (part : Span) : Type 0 where
  pub found : holder (λ s. s) parts key ≡ Some part
  pub has : within part key ≡ true
  pub uncut : list_any (λ place. cuts place part) places ≡ false

-- after the cuts the key's part lies in the one of before, and is cut by none of the places
cut_all-part : (places : List (List ℕ)) (low high key : List ℕ) (parts : List Span) (part : Span)
    → Tiles (λ s. s) low high parts → holder (λ s. s) parts key ≡ Some part → within part key ≡ true
    → (final : Span) × IsPart places (fold (λ ps place. flat_map (cut_span place) ps) parts places) key final × IsSub final part
cut_all-part [] low high key parts part h found has = (
  part,
  record { found = found; has = has; uncut = refl },
  record { low = less_irrefl part.begin; high = less_irrefl part.end },
)
cut_all-part (place ∷ places) low high key parts part h found has =
    let next : holder (λ s. s) (flat_map (cut_span place) parts) key ≡ Some (side key place part) =
    holder-flat_map (λ s. s) (λ s. s) (cut_span place) (tiles-cut_span place) low high parts key h
    ∙ (of_holder (λ s. s) key (λ s. holder (λ (t : Span). t) (cut_span place s) key) (side key place)
    (λ s _ w. holder-cut_span key place s w) low high parts h
    ∙ ap (option_map (side key place)) found) in
    let rest =
    cut_all-part places low high key (flat_map (cut_span place) parts) (side key place part)
    (tiles-flat_map (λ s. s) (λ s. s) (cut_span place) (tiles-cut_span place) low high parts h) next (side-in key place part has) in (
      rest.0,
      record {
        found = rest.1.found;
        has = rest.1.has;
        uncut =
            or_from (cuts place rest.0) (list_any (λ p. cuts p rest.0) places)
            (uncut_in place rest.0 (side key place part) rest.2 (side-uncut key place part)) rest.1.uncut;
      },
      record {
        low = ge_trans rest.0.begin (side key place part).begin part.begin rest.2.low (side-sub key place part).low;
        high = ge_trans part.end (side key place part).end rest.0.end (side-sub key place part).high rest.2.high;
      },
    )

-- each key below ff has its part
pub cut_keys-part : (spans : List Span) (key : List ℕ) → key_less key all_keys.end ≡ true
    → (part : Span) × IsPart (ends_of spans) (cut_keys spans) key part
cut_keys-part spans key below =
    let has : within all_keys key ≡ true = inside all_keys key (none_less key) below in
    let all =
    cut_all-part (ends_of spans) all_keys.begin all_keys.end key (all_keys ∷ []) all_keys (refl, refl, refl)
    (cond-true (within all_keys key) (Some all_keys) None has) has in
    (all.0, all.1)
  where
    none_less : (k : List ℕ) → key_less k [] ≡ false
    none_less [] = refl
    none_less (x ∷ xs) = refl

-- spans whose ends don't cut a part have its begin where they have any of its keys
pub holds-begin : (spans : List Span) (part : Span) (key : List ℕ) → within part key ≡ true
    → list_any (λ place. cuts place part) (ends_of spans) ≡ false → holds spans part.begin ≡ holds spans key
holds-begin [] part key has uncut = refl
holds-begin (span ∷ spans) part key has uncut =
    let first = or_parts (cuts span.begin part) (cuts span.end part || list_any (λ place. cuts place part) (ends_of spans)) uncut in
    let second = or_parts (cuts span.end part) (list_any (λ place. cuts place part) (ends_of spans)) first.1 in
    ap (λ b. (not b && key_less part.begin span.end) || holds spans part.begin) (begin_side span.begin key part has first.0)
    ∙ (ap (λ b. (not (key_less key span.begin) && b) || holds spans part.begin) (begin_side span.end key part has second.0)
    ∙ ap (λ b. within span key || b) (holds-begin spans part key has second.1))

uncut-append : (places others : List (List ℕ)) (part : Span) → list_any (λ place. cuts place part) (places ++ others) ≡ false
    → (list_any (λ place. cuts place part) places ≡ false) × (list_any (λ place. cuts place part) others ≡ false)
uncut-append [] others part h = (refl, h)
uncut-append (place ∷ places) others part h =
    let parts = or_parts (cuts place part) (list_any (λ p. cuts p part) (places ++ others)) h in
    let rest = uncut-append places others part parts.1 in
    (or_from (cuts place part) (list_any (λ p. cuts p part) places) parts.0 rest.0, rest.1)

pub uncut-both : (spans others : List Span) (part : Span) → list_any (λ place. cuts place part) (ends_of (spans ++ others)) ≡ false
    → (list_any (λ place. cuts place part) (ends_of spans) ≡ false) × (list_any (λ place. cuts place part) (ends_of others) ≡ false)
uncut-both spans others part h =
    uncut-append (ends_of spans) (ends_of others) part
    (ap (λ l. list_any (λ place. cuts place part) l) (sym (flat_map-append (λ (span : Span). span.begin ∷ span.end ∷ []) spans others)) ∙ h)
