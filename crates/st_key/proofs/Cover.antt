-- A span whose keys a canonical list holds lies in one span of the list.
use Rattle.std.proofs.Common.{◌≡◌, ℕ, Bool, true, false, not, ◌&&◌, ◌||◌, List, [], ◌∷◌, refl, sym, ◌∙◌, inl, inr}
use Rattle.std.proofs.lemmas.Bool.{and_parts, and_from, and_cases, or_cases, or_left, or_right, or_from, or_parts, not-true, not-false, not_from_false, cases_Bool}
use Rattle.std.specs.List.{list_any}
use Rattle.st_key.specs.Forms.{first}
use Rattle.st_key.specs.KeyOrder.{less_irrefl, less_trans, less_asym, less_le_trans}
use Rattle.st_key.specs.Parts.{has_all}
use Rattle.st_key.specs.Spans.{Span, key_less, within, holds, is_canonical, Covers, Misses}
use Rattle.st_key.proofs.Canonical.{held_above, end_is_free}

pub covers_from : (ps : List Span) (r : Span) → list_any (λ s. has_all r.begin r.end s) ps ≡ true → Covers ps r
covers_from [] r h k in_r = cc
covers_from (s ∷ later) r h k in_r =
    elim (or_cases (has_all r.begin r.end s) (list_any (λ s. has_all r.begin r.end s) later) h) [
      | inl lies ↦
          let sides = and_parts (not (key_less r.begin s.begin)) (not (key_less s.end r.end)) lies in
          let ends = and_parts (not (key_less k r.begin)) (key_less k r.end) in_r in
          let low : key_less k s.begin ≡ false =
          below (key_less k s.begin) (λ ks. less_le_trans k s.begin r.begin ks (not-true (key_less r.begin s.begin) sides.0))
          (not-true (key_less k r.begin) ends.0) in
          or_left (within s k) (holds later k)
          (and_from (not (key_less k s.begin)) (key_less k s.end) (not_from_false (key_less k s.begin) low)
          (less_le_trans k r.end s.end ends.1 (not-true (key_less s.end r.end) sides.1)))
      | inr rest ↦ or_right (within s k) (holds later k) (covers_from later r rest k in_r)
    ]
  where
    below : (x : Bool) → (x ≡ true → key_less k r.begin ≡ true) → key_less k r.begin ≡ false → x ≡ false
    below true h e = sym (h refl) ∙ e
    below false h e = refl

-- a key between two others that no span holds
pub record IsGap (ps : List Span) (low high gap : List ℕ) : Type 0 where
  pub above : key_less low gap ≡ true
  pub below : key_less gap high ≡ true
  pub free : holds ps gap ≡ false

-- where the list holds low, and no span reaches from there to high, there is a gap between
gap_in : (ps : List Span) (low high : List ℕ) → is_canonical ps ≡ true → holds ps low ≡ true
    → list_any (λ s. has_all low high s) ps ≡ false
    → (gap : List ℕ) × IsGap ps low high gap
gap_in [] low high h held none = cc
gap_in (s ∷ later) low high h held none =
    let f = first s later h in
    let nones = or_parts (has_all low high s)
    (list_any (λ s. has_all low high s) later) none in
    elim (cases_Bool (within s low)) [
      | inl in_s ↦
          let ends = and_parts (not (key_less low s.begin)) (key_less low s.end) in_s in
          (s.end, record { above = ends.1; below = reaches ends.0 nones.0; free = end_is_free s later h })
      | inr out_s ↦
          let in_later : holds later low ≡ true = sym (or_out (within s low) (holds later low) out_s) ∙ held in
          let found = gap_in later low high f.rest in_later nones.1 in (
            found.0,
            record {
              above = found.1.above;
              below = found.1.below;
              free = or_from (within s found.0) (holds later found.0)
                  (past found.0 (less_trans s.end low found.0 (held_above s.end low later f.apart in_later) found.1.above))
                  found.1.free;
            },
          )
    ]
  where
    or_out : (x y : Bool) → x ≡ false → (x || y) ≡ y
    or_out x y e = rw e refl

    reaches : not (key_less low s.begin) ≡ true → has_all low high s ≡ false → key_less s.end high ≡ true
    reaches begins lies =
        elim (and_cases (not (key_less low s.begin)) (not (key_less s.end high)) lies)
        [ inl later_begin ↦ cc | inr ends_below ↦ not-false (key_less s.end high) ends_below ]

    past : (k : List ℕ) → key_less s.end k ≡ true → within s k ≡ false
    past k sk = and_out (not (key_less k s.begin)) (key_less k s.end) (less_asym s.end k sk)
      where
        and_out : (x y : Bool) → y ≡ false → (x && y) ≡ false
        and_out true y e = e
        and_out false y e = refl

pub misses_from : (ps : List Span) (r : Span) → is_canonical ps ≡ true → key_less r.begin r.end ≡ true
    → list_any (λ s. has_all r.begin r.end s) ps ≡ false → Misses ps r
misses_from ps r h filled none =
    elim (cases_Bool (holds ps r.begin)) [
      | inl held ↦
          let found = gap_in ps r.begin r.end h held none in
          (found.0, inside found.0 found.1.above found.1.below, found.1.free)
      | inr free ↦ (r.begin, at_begin, free)
    ]
  where
    inside : (k : List ℕ) → key_less r.begin k ≡ true → key_less k r.end ≡ true → within r k ≡ true
    inside k low high =
        and_from (not (key_less k r.begin)) (key_less k r.end)
        (not_from_false (key_less k r.begin) (less_asym r.begin k low)) high

    at_begin : within r r.begin ≡ true
    at_begin =
        and_from (not (key_less r.begin r.begin)) (key_less r.begin r.end)
        (not_from_false (key_less r.begin r.begin) (less_irrefl r.begin)) filled
