-- An operation that is read is the one that is spelled, and one that is spelled is read.
use Rattle.std.proofs.Common.{◌≡◌, ◌∙◌, ℕ, suc, ◌+◌, ◌^◌, ◌<◌, ◌≤◌, Bool, true, false, cond, eqb, ltb, List, [], ◌∷◌, ◌++◌, length, get_or, take, drop, Some, None, All, refl, sym, ap, subst, append_assoc, length-take, length-append, arith}
use Rattle.std.proofs.lemmas.Bool.{eqb-true, ltb-false, le-ltb}
use Rattle.std.proofs.lemmas.List.{take_at, drop_at, take-append-drop, get_or-drop, get_or_default}
use Rattle.std.proofs.lemmas.Option.{same_Some}
use Rattle.st_num.specs.Number.{number_at, little_bytes, little_number}
use Rattle.st_ops.specs.declared.op.Op.{Op}
use Rattle.st_ops.specs.declared.op.Op.TheVariants.{Set, Clear, SnapItem, SnapEnd, Commit}
use Rattle.st_ops.specs.Grammar.{Fits}
use Rattle.st_ops.specs.Reading.{cut, fields_at, two_at, op_at}
use Rattle.st_ops.specs.Spelling.{fields, spelled}
use Rattle.st_ops.proofs.Steps.{map_some, cut_some, FieldsAre, fields_are}

-- the laws of numbers as bytes
pub record Numbers : Type 0 where
  pub put : (count number : ℕ) (before behind : List ℕ) → number < 256 ^ count
      → number_at count (before ++ little_bytes count number ++ behind) (length before) ≡ Some number
  pub taken : (count number at : ℕ) (bytes : List ℕ) → All (λ byte. byte < 256) bytes
      → number_at count bytes at ≡ Some number → take count (drop at bytes) ≡ little_bytes count number

abbrev pub AreBytes : List ℕ → Type 0
AreBytes bytes = (i : ℕ) → get_or bytes i 0 < 256

each_small : (bytes : List ℕ) → AreBytes bytes → All (λ byte. byte < 256) bytes
each_small bytes small i d inside = rw (get_or_default bytes i d 0 inside) (small i)

AreBytes-drop : (n : ℕ) (bytes : List ℕ) → AreBytes bytes → AreBytes (drop n bytes)
AreBytes-drop n bytes small i = rw get_or-drop (small (n + i))

-- a number of four bytes is small
number_small : (at number : ℕ) (bytes : List ℕ) → AreBytes bytes → number_at 4 bytes at ≡ Some number → number < 2 ^ 32
number_small at number bytes small e =
    by (ltb (length bytes) (at + 4)) e
  where
    rest : List ℕ
    rest = drop at bytes

    there : AreBytes rest
    there = AreBytes-drop at bytes small

    by : (b : Bool) → cond b None (Some (little_number 4 rest)) ≡ Some number → number < 2 ^ 32
    by true e = absurd cc
    by false e =
        let is : little_number 4 rest ≡ number = same_Some _ _ e in
        omega (arith, is, there 0, there 1, there 2, there 3)

-- what was cut is the front and the rest
cut_takes : (len : ℕ) (bytes : List ℕ) (x : List ℕ × List ℕ) → AreBytes bytes → cut len bytes ≡ Some x
    → (bytes ≡ x.0 ++ x.1) × (length x.0 ≡ len) × AreBytes x.1
cut_takes len bytes x small e =
    let parts = cut_some len bytes x e in
    let enough : len ≤ length bytes = ltb-false _ _ parts.0 in
    subst (λ (y : List ℕ × List ℕ). (bytes ≡ y.0 ++ y.1) × (length y.0 ≡ len) × AreBytes y.1) parts.1
    (sym (take-append-drop len bytes), omega (arith, length-take len bytes), AreBytes-drop len bytes small)

cut_again : (front rest : List ℕ) → cut (length front) (front ++ rest) ≡ Some (front, rest)
cut_again front rest =
    let enough : ltb (length (front ++ rest)) (length front) ≡ false = le-ltb _ _ (omega (arith, length-append front rest)) in
    rw (enough, take_at front rest (length front) refl, drop_at front rest (length front) refl) refl

-- two fields that were read
pub record FieldsTake (bytes first second rest : List ℕ) : Type 0 where
  pub parts : bytes ≡ fields first second ++ rest
  pub first_fits : length first < 2 ^ 32
  pub second_fits : length second < 2 ^ 32
  pub small : AreBytes rest

regroup_fields : (a b first second rest : List ℕ) → a ++ (b ++ (first ++ (second ++ rest))) ≡ a ++ b ++ first ++ second ++ rest
regroup_fields a b first second rest = sym (simp append_assoc)

fields_take : Numbers → (bytes : List ℕ) (x : List ℕ × List ℕ × List ℕ) → AreBytes bytes → fields_at bytes ≡ Some x → FieldsTake bytes x.0 x.1 x.2
fields_take numbers bytes x small e =
    let f = fields_are bytes x e in
    let behind = drop 8 bytes in
    let one = cut_takes f.first_len behind f.one (AreBytes-drop 8 bytes small) f.one_is in
    let two = cut_takes f.second_len f.one.1 f.two one.2 f.two_is in
    let a : take 4 bytes ≡ little_bytes 4 f.first_len = numbers.taken 4 f.first_len 0 bytes (each_small bytes small) f.first_is in
    let b : take 4 (drop 4 bytes) ≡ little_bytes 4 f.second_len = numbers.taken 4 f.second_len 4 bytes (each_small bytes small) f.second_is in
    let a' : take 4 bytes ≡ little_bytes 4 (length f.one.0) = a ∙ ap (λ (n : ℕ). little_bytes 4 n) (sym one.1) in
    let b' : take 4 (drop 4 bytes) ≡ little_bytes 4 (length f.two.0) = b ∙ ap (λ (n : ℕ). little_bytes 4 n) (sym two.1) in
    let eight : drop 4 (drop 4 bytes) ≡ behind = drop-drop' bytes in
    let cuts : bytes ≡ take 4 bytes ++ (take 4 (drop 4 bytes) ++ behind) =
    sym (take-append-drop 4 bytes)
    ∙ ap (λ (l : List ℕ). take 4 bytes ++ l) (sym (take-append-drop 4 (drop 4 bytes)) ∙ ap (λ (l : List ℕ). take 4 (drop 4 bytes) ++ l) eight) in
    let tail : behind ≡ f.one.0 ++ (f.two.0 ++ f.two.1) = one.0 ∙ ap (λ (l : List ℕ). f.one.0 ++ l) two.0 in
    let whole : bytes ≡ fields f.one.0 f.two.0 ++ f.two.1 =
    cuts ∙ ap (λ (l : List ℕ). take 4 bytes ++ (take 4 (drop 4 bytes) ++ l)) tail
    ∙ ap (λ (l : List ℕ). l ++ (take 4 (drop 4 bytes) ++ (f.one.0 ++ (f.two.0 ++ f.two.1)))) a'
    ∙ ap (λ (l : List ℕ). little_bytes 4 (length f.one.0) ++ (l ++ (f.one.0 ++ (f.two.0 ++ f.two.1)))) b'
    ∙ regroup_fields (little_bytes 4 (length f.one.0)) (little_bytes 4 (length f.two.0)) f.one.0 f.two.0 f.two.1 in
    subst (λ (y : List ℕ × List ℕ × List ℕ). FieldsTake bytes y.0 y.1 y.2) f.all_is
    (record {
      parts = whole;
      first_fits = omega (arith, one.1, number_small 0 f.first_len bytes small f.first_is);
      second_fits = omega (arith, two.1, number_small 4 f.second_len bytes small f.second_is);
      small = two.2;
    })
  where
    drop-drop' : (l : List ℕ) → drop 4 (drop 4 l) ≡ drop 8 l
    drop-drop' [] = refl
    drop-drop' (a ∷ []) = refl
    drop-drop' (a ∷ b ∷ []) = refl
    drop-drop' (a ∷ b ∷ c ∷ []) = refl
    drop-drop' (a ∷ b ∷ c ∷ d ∷ l) = refl

fields_found : (bytes : List ℕ) (x : List ℕ × List ℕ × List ℕ) → FieldsAre bytes x → fields_at bytes ≡ Some x
fields_found bytes x f = rw (f.first_is, f.second_is, f.one_is, f.two_is) (ap (λ (y : List ℕ × List ℕ × List ℕ). Some y) f.all_is)

fields_again : Numbers → (first second rest : List ℕ) → length first < 2 ^ 32 → length second < 2 ^ 32
    → fields_at (fields first second ++ rest) ≡ Some (first, second, rest)
fields_again numbers first second rest first_fits second_fits =
    let a = little_bytes 4 (length first) in
    let b = little_bytes 4 (length second) in
    let parts = sym (regroup_fields a b first second rest) in
    let second_there = numbers.put 4 (length second) a (first ++ (second ++ rest)) (omega arith) in
    let found = fields_found (a ++ (b ++ (first ++ (second ++ rest)))) (first, second, rest) (record {
      first_len = length first;
      second_len = length second;
      one = (first, second ++ rest);
      two = (second, rest);
      first_is = numbers.put 4 (length first) [] (b ++ (first ++ (second ++ rest))) (omega arith);
      second_is = ap (λ (l : List ℕ). number_at 4 l 4) (sym (append_assoc a b (first ++ (second ++ rest)))) ∙ second_there;
      one_is = cut_again first (second ++ rest);
      two_is = cut_again second rest;
      all_is = refl;
    }) in
    ap fields_at parts ∙ found

-- an operation that was read
pub record OpTakes (bytes : List ℕ) (op : Op) (rest : List ℕ) : Type 0 where
  pub parts : bytes ≡ spelled op ++ rest
  pub fits : Fits op
  pub small : AreBytes rest

pub op_takes : Numbers → (bytes : List ℕ) (x : Op × List ℕ) → AreBytes bytes → op_at bytes ≡ Some x → OpTakes bytes x.0 x.1
op_takes numbers [] x small e = absurd cc
op_takes numbers (tag ∷ bytes) x small e =
    by (eqb tag 1) (eqb tag 2) (eqb tag 3) (eqb tag 4) (eqb tag 5) refl refl refl refl refl e
  where
    behind_tag : AreBytes bytes
    behind_tag i = small (suc i)

    made : (y : Op × List ℕ) → OpTakes (tag ∷ bytes) y.0 y.1 → y ≡ x → OpTakes (tag ∷ bytes) x.0 x.1
    made y takes same = subst (λ (z : Op × List ℕ). OpTakes (tag ∷ bytes) z.0 z.1) same takes

    fields_of : (f : List ℕ → List ℕ → Op) → two_at f bytes ≡ Some x → (y : List ℕ × List ℕ × List ℕ) × FieldsTake bytes y.0 y.1 y.2 × ((f y.0 y.1, y.2) ≡ x)
    fields_of f e =
        let found = map_some (fields_at bytes) (λ found. (f found.0 found.1, found.2)) x e in
        (found.0, fields_take numbers bytes found.0 behind_tag found.1, found.2)

    tagged : (n : ℕ) (f g rest : List ℕ) → true ≡ eqb tag n → bytes ≡ fields f g ++ rest → tag ∷ bytes ≡ n ∷ fields f g ++ rest
    tagged n f g rest is parts = let same : tag ≡ n = eqb-true _ _ (sym is) in rw same (ap (λ (l : List ℕ). n ∷ l) parts)

    by : (one two three four five : Bool) → one ≡ eqb tag 1 → two ≡ eqb tag 2 → three ≡ eqb tag 3 → four ≡ eqb tag 4 → five ≡ eqb tag 5
        → cond one (two_at Set bytes) (cond two (two_at Clear bytes) (cond three (two_at SnapItem bytes) (cond four (Some (SnapEnd, bytes)) (cond five (Some (Commit, bytes)) None)))) ≡ Some x
        → OpTakes (tag ∷ bytes) x.0 x.1
    by true two three four five a b c d f e =
        let y = fields_of Set e in
        made (Set y.0.0 y.0.1, y.0.2) (record { parts = tagged 1 y.0.0 y.0.1 y.0.2 a y.1.parts; fits = (y.1.first_fits, y.1.second_fits); small = y.1.small }) y.2
    by false true three four five a b c d f e =
        let y = fields_of Clear e in
        made (Clear y.0.0 y.0.1, y.0.2) (record { parts = tagged 2 y.0.0 y.0.1 y.0.2 b y.1.parts; fits = (y.1.first_fits, y.1.second_fits); small = y.1.small }) y.2
    by false false true four five a b c d f e =
        let y = fields_of SnapItem e in
        made (SnapItem y.0.0 y.0.1, y.0.2) (record { parts = tagged 3 y.0.0 y.0.1 y.0.2 c y.1.parts; fits = (y.1.first_fits, y.1.second_fits); small = y.1.small }) y.2
    by false false false true five a b c d f e =
        let same : tag ≡ 4 = eqb-true _ _ (sym d) in
        made (SnapEnd, bytes) (record { parts = ap (λ (n : ℕ). n ∷ bytes) same; fits = tt; small = behind_tag }) (same_Some _ _ e)
    by false false false false true a b c d f e =
        let same : tag ≡ 5 = eqb-true _ _ (sym f) in
        made (Commit, bytes) (record { parts = ap (λ (n : ℕ). n ∷ bytes) same; fits = tt; small = behind_tag }) (same_Some _ _ e)
    by false false false false false a b c d f e = absurd cc

pub op_again : Numbers → (op : Op) (rest : List ℕ) → Fits op → op_at (spelled op ++ rest) ≡ Some (op, rest)
op_again numbers (Set key value) rest fits = rw (fields_again numbers key value rest fits.0 fits.1) refl
op_again numbers (Clear begin end) rest fits = rw (fields_again numbers begin end rest fits.0 fits.1) refl
op_again numbers (SnapItem key value) rest fits = rw (fields_again numbers key value rest fits.0 fits.1) refl
op_again numbers SnapEnd rest fits = refl
op_again numbers Commit rest fits = refl
