-- Parts of updates inside spans.
use Rattle.std.proofs.Common.{◌≡◌, ◌∙◌, ◌<◌, ◌+◌, ◌&&◌, ◌++◌, ◌∷◌, ℕ, Bool, true, false, not, cond, List, [], map, take, length, get_or, Option, Some, None, refl, sym, ap}
use Rattle.std.specs.List.{cons_option}
use Rattle.std.specs.Option.{option_map}
use Rattle.std.proofs.lemmas.List.{take_more, map-append}
use Rattle.std.proofs.lemmas.List.Elements.{filter_map-append}
use Rattle.st_key.specs.KeyOrder.{less_asym, less_connected, less_irrefl, less_le_trans, le_less_trans}
use Rattle.st_key.specs.Parts.{greatest, least}
use Rattle.st_key.specs.Spans.{Span, key_less, within}
use Rattle.st_mutation.specs.declared.batch.Mutation.{Mutation}
use Rattle.st_mutation.specs.declared.batch.Mutation.TheVariants.{Set, Clear, Atomic}
use Rattle.st_mutation.specs.Clip.{clipped, not_empty}
use Rattle.st_adding.specs.Updates.{Update, part_in, updates_in}

item_more : {X : Type 0} → (xs : List X) (i : ℕ) (x : X) → i < length xs → x ≡ get_or xs i x → take (i + 1) xs ≡ take i xs ++ x ∷ []
item_more xs i x inside is = take_more xs i x inside ∙ ap (λ y. take i xs ++ y ∷ []) (sym is)

-- a loop's step over updates, and over mutations of one version
pub parts_more : (span : Span) (updates : List Update) (i : ℕ) (update : Update) → i < length updates → update ≡ get_or updates i update
    → updates_in span (take (i + 1) updates) ≡ updates_in span (take i updates) ++ updates_in span (update ∷ [])
parts_more span updates i update inside is =
    ap (updates_in span) (item_more updates i update inside is) ∙ filter_map-append (part_in span) (take i updates) (update ∷ [])

pub parts_of_more : (span : Span) (version : ℕ) (mutations : List Mutation) (i : ℕ) (mutation : Mutation) → i < length mutations → mutation ≡ get_or mutations i mutation
    → updates_in span (map (λ m. (version, m)) (take (i + 1) mutations)) ≡ updates_in span (map (λ m. (version, m)) (take i mutations)) ++ updates_in span ((version, mutation) ∷ [])
parts_of_more span version mutations i mutation inside is =
    ap (λ (ms : List Mutation). updates_in span (map (λ m. (version, m)) ms)) (item_more mutations i mutation inside is)
    ∙ ap (updates_in span) (map-append (λ m. (version, m)) (take i mutations) (mutation ∷ []))
    ∙ filter_map-append (part_in span) (map (λ m. (version, m)) (take i mutations)) ((version, mutation) ∷ [])

-- the span lies inside the other
pub record LiesIn (inner outer : Span) : Type 0 where
  pub begin : key_less inner.begin outer.begin ≡ false
  pub end : key_less outer.end inner.end ≡ false

greatest_again : (s o i : List ℕ) → key_less i o ≡ false → greatest (greatest s o) i ≡ greatest s i
greatest_again s o i from = by_test (key_less s o) refl
  where
    or_same : (t : Bool) → key_less o i ≡ t → greatest o i ≡ i
    or_same true oi = ap (λ (b : Bool). cond b i o) oi
    or_same false oi = ap (λ (b : Bool). cond b i o) oi ∙ less_connected o i oi from

    by_test : (t : Bool) → key_less s o ≡ t → greatest (greatest s o) i ≡ greatest s i
    by_test true so =
        ap (λ (b : Bool). greatest (cond b o s) i) so
        ∙ or_same (key_less o i) refl
        ∙ sym (ap (λ (b : Bool). cond b i s) (less_le_trans s o i so from))
    by_test false so = ap (λ (b : Bool). greatest (cond b o s) i) so

least_again : (s o i : List ℕ) → key_less o i ≡ false → least (least s o) i ≡ least s i
least_again s o i up_to = by_test (key_less o s) refl
  where
    or_same : (t : Bool) → key_less i o ≡ t → least o i ≡ i
    or_same true io = ap (λ (b : Bool). cond b i o) io
    or_same false io = ap (λ (b : Bool). cond b i o) io ∙ less_connected o i up_to io

    by_test : (t : Bool) → key_less o s ≡ t → least (least s o) i ≡ least s i
    by_test true os =
        ap (λ (b : Bool). least (cond b o s) i) os
        ∙ or_same (key_less i o) refl
        ∙ sym (ap (λ (b : Bool). cond b i s) (le_less_trans i o s up_to os))
    by_test false os = ap (λ (b : Bool). least (cond b o s) i) os

not_less_greatest : (h i : List ℕ) → key_less (greatest h i) h ≡ false
not_less_greatest h i = by_test (key_less h i) refl
  where
    by_test : (t : Bool) → key_less h i ≡ t → key_less (greatest h i) h ≡ false
    by_test true hi = ap (λ (b : Bool). key_less (cond b i h) h) hi ∙ less_asym h i hi
    by_test false hi = ap (λ (b : Bool). key_less (cond b i h) h) hi ∙ less_irrefl h

not_less_least : (m j : List ℕ) → key_less m (least m j) ≡ false
not_less_least m j = by_test (key_less j m) refl
  where
    by_test : (t : Bool) → key_less j m ≡ t → key_less m (least m j) ≡ false
    by_test true jm = ap (λ (b : Bool). key_less m (cond b j m)) jm ∙ less_asym j m jm
    by_test false jm = ap (λ (b : Bool). key_less m (cond b j m)) jm ∙ less_irrefl m

-- where nothing lies between two keys, nothing lies between keys inside them
still_empty : (h i m j : List ℕ) → key_less h m ≡ false → key_less (greatest h i) (least m j) ≡ false
still_empty h i m j empty = by_test (key_less (greatest h i) (least m j)) refl
  where
    by_test : (t : Bool) → key_less (greatest h i) (least m j) ≡ t → key_less (greatest h i) (least m j) ≡ false
    by_test true some =
        let more : key_less h (least m j) ≡ true = le_less_trans h (greatest h i) (least m j) (not_less_greatest h i) some in
        let no : key_less h m ≡ true = less_le_trans h (least m j) m more (not_less_least m j) in
        cc
    by_test false none = none

-- a key outside a span is outside each span that lies in it
still_outside : (inner outer : Span) (key : List ℕ) → LiesIn inner outer → within outer key ≡ false → within inner key ≡ false
still_outside inner outer key lies out = by_tests (key_less key inner.begin) refl (key_less key inner.end) refl
  where
    not_before : (t : Bool) → key_less key outer.begin ≡ t → key_less key inner.begin ≡ false → key_less key outer.begin ≡ false
    not_before true before inside = let no : key_less key inner.begin ≡ true = less_le_trans key outer.begin inner.begin before lies.begin in cc
    not_before false before inside = before

    by_tests : (s : Bool) → key_less key inner.begin ≡ s → (t : Bool) → key_less key inner.end ≡ t → within inner key ≡ false
    by_tests true begin t end = ap (λ (b : Bool). not b && key_less key inner.end) begin
    by_tests false begin true end =
        let from : key_less key outer.begin ≡ false = not_before (key_less key outer.begin) refl begin in
        let below : key_less key outer.end ≡ true = less_le_trans key inner.end outer.end end lies.end in
        let in_outer : within outer key ≡ true = ap (λ (b : Bool). not b && key_less key outer.end) from ∙ below in
        let no : true ≡ false = sym in_outer ∙ out in
        cc
    by_tests false begin false end = ap (λ (b : Bool). not b && key_less key inner.end) begin ∙ end

-- the part of a part
abbrev again : Span → Option Mutation → Option Mutation
again to None = None
again to (Some mutation) = clipped mutation to

kept_again : (mutation : Mutation) (inner : Span) (kept : Bool) → (kept ≡ false → clipped mutation inner ≡ None)
    → again inner (cond kept (Some mutation) None) ≡ clipped mutation inner
kept_again mutation inner true out = refl
kept_again mutation inner false out = sym (out refl)

kept_clear : (span both inner : Span) (kept : Bool) → clipped (Clear both) inner ≡ clipped (Clear span) inner → (kept ≡ false → clipped (Clear span) inner ≡ None)
    → again inner (option_map Clear (cond kept (Some both) None)) ≡ clipped (Clear span) inner
kept_clear span both inner true same out = same
kept_clear span both inner false same out = sym (out refl)

-- the part inside a span that lies in another one is the part of the part inside that one
clipped_again : (mutation : Mutation) (inner outer : Span) → LiesIn inner outer → again inner (clipped mutation outer) ≡ clipped mutation inner
clipped_again (Set key value) inner outer lies =
    kept_again (Set key value) inner (within outer key) (λ out. ap (λ (t : Bool). cond t (Some (Set key value)) None) (still_outside inner outer key lies out))
clipped_again (Atomic op key operand) inner outer lies =
    kept_again (Atomic op key operand) inner (within outer key) (λ out. ap (λ (t : Bool). cond t (Some (Atomic op key operand)) None) (still_outside inner outer key lies out))
clipped_again (Clear span) inner outer lies =
    let low = greatest span.begin outer.begin in
    let high = least span.end outer.end in
    let begins : greatest low inner.begin ≡ greatest span.begin inner.begin = greatest_again span.begin outer.begin inner.begin lies.begin in
    let ends : least high inner.end ≡ least span.end inner.end = least_again span.end outer.end inner.end lies.end in
    kept_clear span (record { begin = low; end = high }) inner (key_less low high)
    (λ i. option_map Clear (not_empty (record { begin = begins i; end = ends i })))
    (λ empty.
    ap (λ (t : Bool). option_map Clear (cond t (Some (record { begin = greatest span.begin inner.begin; end = least span.end inner.end })) None))
    ((λ i. key_less (sym begins i) (sym ends i)) ∙ still_empty low inner.begin high inner.end empty))

again_more : (inner : Span) (version : ℕ) (part whole : Option Mutation) (rest done : List Update) → again inner part ≡ whole → updates_in inner rest ≡ done
    → updates_in inner (cons_option (option_map (λ m. (version, m)) part) rest) ≡ cons_option (option_map (λ m. (version, m)) whole) done
again_more inner version None whole rest done is later = later ∙ ap (λ (w : Option Mutation). cons_option (option_map (λ m. (version, m)) w) done) is
again_more inner version (Some part) whole rest done is later = λ i. cons_option (option_map (λ m. (version, m)) (is i)) (later i)

pub updates_again : (inner outer : Span) (updates : List Update) → LiesIn inner outer → updates_in inner (updates_in outer updates) ≡ updates_in inner updates
updates_again inner outer [] lies = refl
updates_again inner outer (update ∷ updates) lies =
    again_more inner update.0 (clipped update.1 outer) (clipped update.1 inner) (updates_in outer updates) (updates_in inner updates)
    (clipped_again update.1 inner outer lies)
    (updates_again inner outer updates lies)

-- both sides of a key lie in the span that it cuts
pub below_lies : (span : Span) (key : List ℕ) → key_less key span.end ≡ true → LiesIn (record { begin = span.begin; end = key }) span
below_lies span key below = record { begin = less_irrefl span.begin; end = less_asym key span.end below }

pub from_lies : (span : Span) (key : List ℕ) → key_less span.begin key ≡ true → LiesIn (record { begin = key; end = span.end }) span
from_lies span key above = record { begin = less_asym span.begin key above; end = less_irrefl span.end }
