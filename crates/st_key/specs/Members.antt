-- Which keys the parts of spans hold.
use Rattle.std.proofs.Common.{◌≡◌, ℕ, Bool, true, false, not, ◌&&◌, ◌||◌, List, [], ◌∷◌, ◌++◌, refl, sym, ap, ◌∙◌}
use Rattle.std.proofs.Math.Bool.{cond}
use Rattle.std.proofs.lemmas.Bool.{cond_both}
use Rattle.std.proofs.lemmas.List.Folds.{list_any-append}
use Rattle.st_key.specs.KeyOrder.{less_trans, less_le_trans}
use Rattle.st_key.specs.Parts.{least, greatest, hull, part_below, part_from, with_span, without_span}
use Rattle.st_key.specs.Spans.{Span, key_less, within, holds}

-- a test that is implied by another adds nothing to it
and_implied : (x y : Bool) → (x ≡ true → y ≡ true) → x ≡ (x && y)
and_implied true y h = sym (h refl)
and_implied false y h = refl

or_implied : (x y : Bool) → (y ≡ true → x ≡ true) → x ≡ (x || y)
or_implied true y h = refl
or_implied false true h = h refl
or_implied false false h = refl

and_swap : (x y : Bool) → (x && y) ≡ (y && x)
and_swap true true = refl
and_swap true false = refl
and_swap false true = refl
and_swap false false = refl

or_swap : (x y : Bool) → (x || y) ≡ (y || x)
or_swap true true = refl
or_swap true false = refl
or_swap false true = refl
or_swap false false = refl

-- a key is below the lesser of two keys if it is below both
pub less-least : (k a b : List ℕ) → key_less k (least a b) ≡ (key_less k a && key_less k b)
less-least k a b =
    cond_both (key_less b a) b a (λ m. key_less k m ≡ (key_less k a && key_less k b))
    (λ ba. and_implied (key_less k b) (key_less k a) (λ kb. less_trans k b a kb ba) ∙ and_swap (key_less k b) (key_less k a))
    (λ ba. and_implied (key_less k a) (key_less k b) (λ ka. less_le_trans k a b ka ba))

-- a key is below the greater of two keys if it is below one of them
pub less-greatest : (k a b : List ℕ) → key_less k (greatest a b) ≡ (key_less k a || key_less k b)
less-greatest k a b =
    cond_both (key_less a b) b a (λ m. key_less k m ≡ (key_less k a || key_less k b))
    (λ ab. or_implied (key_less k b) (key_less k a) (λ ka. less_trans k a b ka ab) ∙ or_swap (key_less k b) (key_less k a))
    (λ ab. or_implied (key_less k a) (key_less k b) (λ kb. less_le_trans k b a kb ab))

-- two ranges of numbers make one if neither ends before the other begins
between : (below_r below_s in_r in_s : Bool) → (below_r ≡ true → in_s ≡ true) → (below_s ≡ true → in_r ≡ true)
    → (not (below_r && below_s) && (in_r || in_s)) ≡ ((not below_r && in_r) || (not below_s && in_s))
between true true in_r in_s h g = refl
between true false true true h g = refl
between true false false true h g = refl
between true false in_r false h g = cc (h refl)
between false true true in_s h g = refl
between false true false in_s h g = cc (g refl)
between false false true in_s h g = refl
between false false false in_s h g = refl

-- the hull of spans that touch or meet has their keys alone
pub within-hull : (r s : Span) (k : List ℕ) → key_less s.end r.begin ≡ false → key_less r.end s.begin ≡ false
    → within (hull r s) k ≡ (within r k || within s k)
within-hull r s k sr rs =
    ap (λ t. not t && key_less k (greatest r.end s.end)) (less-least k r.begin s.begin)
    ∙ ap (λ t. not (key_less k r.begin && key_less k s.begin) && t) (less-greatest k r.end s.end)
    ∙ between (key_less k r.begin) (key_less k s.begin) (key_less k r.end) (key_less k s.end)
    (λ kr. less_le_trans k r.begin s.end kr sr) (λ ks. less_le_trans k s.begin r.end ks rs)

passed : (s r l : Bool) → (s || (l || r)) ≡ ((s || l) || r)
passed true r l = refl
passed false r l = refl

merged : (s r l : Bool) → (l || (r || s)) ≡ ((s || l) || r)
merged true true true = refl
merged true true false = refl
merged true false true = refl
merged true false false = refl
merged false true true = refl
merged false true false = refl
merged false false true = refl
merged false false false = refl

pub holds-with_span : (ps : List Span) (r : Span) (k : List ℕ) → holds (with_span ps r) k ≡ (holds ps k || within r k)
holds-with_span [] r k = or_swap (within r k) false
holds-with_span (s ∷ later) r k =
    let P : List Span → Type 0 = λ l. holds l k ≡ ((within s k || holds later k) || within r k) in
    cond_both (key_less s.end r.begin) (s ∷ with_span later r)
    (cond (key_less r.end s.begin) (r ∷ s ∷ later) (with_span later (hull r s))) P
    (λ _. ap (λ t. within s k || t) (holds-with_span later r k) ∙ passed (within s k) (within r k) (holds later k))
    (λ sr. cond_both (key_less r.end s.begin) (r ∷ s ∷ later) (with_span later (hull r s)) P
    (λ _. or_swap (within r k) (within s k || holds later k))
    (λ rs. holds-with_span later (hull r s) k ∙ ap (λ t. holds later k || t) (within-hull r s k sr rs)
    ∙ merged (within s k) (within r k) (holds later k)))

-- the key is in the span, and below the other key
holds-part_below : (s : Span) (b k : List ℕ) → holds (part_below s b) k ≡ (within s k && key_less k b)
holds-part_below s b k =
    cond_both (key_less s.begin b) (record { begin = s.begin; end = least b s.end } ∷ []) []
    (λ l. holds l k ≡ (within s k && key_less k b))
    (λ _. or_swap (not (key_less k s.begin) && key_less k (least b s.end)) false
    ∙ ap (λ t. not (key_less k s.begin) && t) (less-least k b s.end)
    ∙ regroup (not (key_less k s.begin)) (key_less k b) (key_less k s.end))
    (λ sb. nothing (key_less k s.begin) (key_less k s.end) (key_less k b) (λ kb. less_le_trans k b s.begin kb sb))
  where
    regroup : (x y z : Bool) → (x && (y && z)) ≡ ((x && z) && y)
    regroup true y z = and_swap y z
    regroup false y z = refl

    nothing : (low in_s in_b : Bool) → (in_b ≡ true → low ≡ true) → false ≡ ((not low && in_s) && in_b)
    nothing true in_s in_b h = refl
    nothing false in_s true h = cc (h refl)
    nothing false true false h = refl
    nothing false false false h = refl

-- the key is in the span, and not below the other key
holds-part_from : (s : Span) (e k : List ℕ) → holds (part_from s e) k ≡ (within s k && not (key_less k e))
holds-part_from s e k =
    cond_both (key_less e s.end) (record { begin = greatest s.begin e; end = s.end } ∷ []) []
    (λ l. holds l k ≡ (within s k && not (key_less k e)))
    (λ _. or_swap (not (key_less k (greatest s.begin e)) && key_less k s.end) false
    ∙ ap (λ t. not t && key_less k s.end) (less-greatest k s.begin e)
    ∙ regroup (key_less k s.begin) (key_less k e) (key_less k s.end))
    (λ es. nothing (not (key_less k s.begin)) (key_less k s.end) (key_less k e) (λ ks. less_le_trans k s.end e ks es))
  where
    regroup : (x y z : Bool) → (not (x || y) && z) ≡ ((not x && z) && not y)
    regroup true y z = refl
    regroup false true true = refl
    regroup false true false = refl
    regroup false false true = refl
    regroup false false false = refl

    nothing : (high in_s in_e : Bool) → (in_s ≡ true → in_e ≡ true) → false ≡ ((high && in_s) && not in_e)
    nothing false in_s in_e h = refl
    nothing true false in_e h = refl
    nothing true true true h = refl
    nothing true true false h = cc (h refl)

pub holds-without_span : (ps : List Span) (r : Span) (k : List ℕ)
    → holds (without_span ps r) k ≡ (holds ps k && not (within r k))
holds-without_span [] r k = refl
holds-without_span (s ∷ later) r k =
    list_any-append (λ t. within t k) (part_below s r.begin) (part_from s r.end ++ without_span later r)
    ∙ ap (λ t. holds (part_below s r.begin) k || t) (list_any-append (λ t. within t k) (part_from s r.end) (without_span later r))
    ∙ ap (λ t. t || (holds (part_from s r.end) k || holds (without_span later r) k)) (holds-part_below s r.begin k)
    ∙ ap (λ t. (within s k && key_less k r.begin) || (t || holds (without_span later r) k)) (holds-part_from s r.end k)
    ∙ ap (λ t. (within s k && key_less k r.begin) || ((within s k && not (key_less k r.end)) || t)) (holds-without_span later r k)
    ∙ outside (within s k) (holds later k) (key_less k r.begin) (key_less k r.end)
  where
    outside : (s l low in_r : Bool) → ((s && low) || ((s && not in_r) || (l && not (not low && in_r)))) ≡ ((s || l) && not (not low && in_r))
    outside true true true in_r = refl
    outside true true false true = refl
    outside true true false false = refl
    outside true false true in_r = refl
    outside true false false true = refl
    outside true false false false = refl
    outside false true true in_r = refl
    outside false true false true = refl
    outside false true false false = refl
    outside false false true in_r = refl
    outside false false false in_r = refl
