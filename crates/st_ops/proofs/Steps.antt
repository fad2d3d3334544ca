-- The reading of a payload, an operation at a time.
use Rattle.std.proofs.Common.{◌≡◌, ◌∙◌, ℕ, suc, ◌+◌, ◌-◌, ◌<◌, ◌≤◌, Bool, true, false, cond, eqb, ltb, List, [], ◌∷◌, ◌++◌, length, take, drop, Option, Some, None, Result, Ok, Err, refl, sym, ap, subst, append_assoc, append-nil, length-drop, length-append, arith}
use Rattle.std.specs.Option.{option_map, option_and_then}
use Rattle.std.specs.Result.{result_map_both}
use Rattle.std.proofs.lemmas.Option.{same_Some}
use Rattle.st_num.specs.Number.{number_at}
use Rattle.st_ops.specs.declared.op.Op.{Op}
use Rattle.st_ops.specs.declared.op.Op.TheVariants.{Set, Clear, SnapItem, SnapEnd, Commit}
use Rattle.st_ops.specs.declared.stage.Stage.{Stage}
use Rattle.st_ops.specs.declared.stage.Stage.TheVariants.{Changes}
use Rattle.st_ops.specs.Reading.{cut, fields_at, two_at, op_at, stage_after, is_done, next_at, read_on, reading}

pub bind_some : {A B : Type 0} (o : Option A) (f : A → Option B) (y : B) → option_and_then f o ≡ Some y → (x : A) × (o ≡ Some x) × (f x ≡ Some y)
bind_some None f y e = absurd cc
bind_some (Some x) f y e = (x, refl, e)

pub map_some : {A B : Type 0} (o : Option A) (f : A → B) (y : B) → option_map f o ≡ Some y → (x : A) × (o ≡ Some x) × (f x ≡ y)
map_some None f y e = absurd cc
map_some (Some x) f y e = (x, refl, same_Some _ _ e)

-- what `cut` gives where there are enough bytes
pub cut_some : (len : ℕ) (bytes : List ℕ) (x : List ℕ × List ℕ) → cut len bytes ≡ Some x → (ltb (length bytes) len ≡ false) × ((take len bytes, drop len bytes) ≡ x)
cut_some len bytes x e =
    by (ltb (length bytes) len) e
  where
    by : (b : Bool) → cond b None (Some (take len bytes, drop len bytes)) ≡ Some x → (b ≡ false) × ((take len bytes, drop len bytes) ≡ x)
    by true e = absurd cc
    by false e = (refl, same_Some _ _ e)

cut_shorter : (len : ℕ) (bytes : List ℕ) (x : List ℕ × List ℕ) → cut len bytes ≡ Some x → length x.1 ≤ length bytes
cut_shorter len bytes x e =
    let parts = (cut_some len bytes x e).1 in
    let rest : drop len bytes ≡ x.1 = ap (λ (p : List ℕ × List ℕ). p.1) parts in
    rw (← rest) (omega (arith, length-drop len bytes))

-- the steps of two fields that are whole
pub record FieldsAre (bytes : List ℕ) (x : List ℕ × List ℕ × List ℕ) : Type 0 where
  pub first_len : ℕ
  pub second_len : ℕ
  pub one : List ℕ × List ℕ
  pub two : List ℕ × List ℕ
  pub first_is : number_at 4 bytes 0 ≡ Some first_len
  pub second_is : number_at 4 bytes 4 ≡ Some second_len
  pub one_is : cut first_len (drop 8 bytes) ≡ Some one
  pub two_is : cut second_len one.1 ≡ Some two
  pub all_is : (one.0, two.0, two.1) ≡ x

pub fields_are : (bytes : List ℕ) (x : List ℕ × List ℕ × List ℕ) → fields_at bytes ≡ Some x → FieldsAre bytes x
fields_are bytes x e =
    let a = bind_some (number_at 4 bytes 0) (λ first_len. option_and_then (λ second_len. option_and_then (λ first. option_and_then (λ second. Some (first.0, second.0, second.1)) (cut second_len first.1)) (cut first_len (drop 8 bytes))) (number_at 4 bytes 4)) x e in
    let b = bind_some (number_at 4 bytes 4) (λ second_len. option_and_then (λ first. option_and_then (λ second. Some (first.0, second.0, second.1)) (cut second_len first.1)) (cut a.0 (drop 8 bytes))) x a.2 in
    let c = bind_some (cut a.0 (drop 8 bytes)) (λ first. option_and_then (λ second. Some (first.0, second.0, second.1)) (cut b.0 first.1)) x b.2 in
    let d = bind_some (cut b.0 c.0.1) (λ second. Some (c.0.0, second.0, second.1)) x c.2 in
    record { first_len = a.0; second_len = b.0; one = c.0; two = d.0; first_is = a.1; second_is = b.1; one_is = c.1; two_is = d.1; all_is = same_Some (c.0.0, d.0.0, d.0.1) x d.2 }

fields_shorter : (bytes : List ℕ) (x : List ℕ × List ℕ × List ℕ) → fields_at bytes ≡ Some x → length x.2 ≤ length bytes
fields_shorter bytes x e =
    let f = fields_are bytes x e in
    let rest : f.two.1 ≡ x.2 = ap (λ (p : List ℕ × List ℕ × List ℕ). p.2) f.all_is in
    rw (← rest) (omega (arith, cut_shorter f.first_len (drop 8 bytes) f.one f.one_is, cut_shorter f.second_len f.one.1 f.two f.two_is, length-drop 8 bytes))

two_shorter : (op : List ℕ → List ℕ → Op) (bytes : List ℕ) (x : Op × List ℕ) → two_at op bytes ≡ Some x → length x.1 ≤ length bytes
two_shorter op bytes x e =
    let f = map_some (fields_at bytes) (λ found. (op found.0 found.1, found.2)) x e in
    let rest : f.0.2 ≡ x.1 = ap (λ (p : Op × List ℕ). p.1) f.2 in
    rw (← rest) (fields_shorter bytes f.0 f.1)

-- an operation has a tag
pub op_shorter : (bytes : List ℕ) (x : Op × List ℕ) → op_at bytes ≡ Some x → length x.1 < length bytes
op_shorter [] x e = absurd cc
op_shorter (tag ∷ bytes) x e =
    by (eqb tag 1) (eqb tag 2) (eqb tag 3) (eqb tag 4) (eqb tag 5) e
  where
    whole : (made : Op × List ℕ) → length made.1 ≤ length bytes → Some made ≡ Some x → length x.1 < suc (length bytes)
    whole made le e =
        let rest : made.1 ≡ x.1 = ap (λ (p : Op × List ℕ). p.1) (same_Some _ _ e) in
        rw (← rest) (omega arith)

    by : (one two three four five : Bool)
        → cond one (two_at Set bytes) (cond two (two_at Clear bytes) (cond three (two_at SnapItem bytes) (cond four (Some (SnapEnd, bytes)) (cond five (Some (Commit, bytes)) None)))) ≡ Some x
        → length x.1 < suc (length bytes)
    by true two three four five e = omega (arith, two_shorter Set bytes x e)
    by false true three four five e = omega (arith, two_shorter Clear bytes x e)
    by false false true four five e = omega (arith, two_shorter SnapItem bytes x e)
    by false false false true five e = whole (SnapEnd, bytes) (omega arith) e
    by false false false false true e = whole (Commit, bytes) (omega arith) e
    by false false false false false e = absurd cc

pub next_is : (stage : Stage) (bytes : List ℕ) (x : Op × Stage × List ℕ) → next_at stage bytes ≡ Some x → (op_at bytes ≡ Some (x.0, x.2)) × (stage_after stage x.0 ≡ Some x.1)
next_is stage bytes x e =
    let a = bind_some (op_at bytes) (λ found. option_and_then (λ next. Some (found.0, next, found.1)) (stage_after stage found.0)) x e in
    let b = bind_some (stage_after stage a.0.0) (λ next. Some (a.0.0, next, a.0.1)) x a.2 in
    let same : (a.0.0, b.0, a.0.1) ≡ x = same_Some _ _ b.2 in
    subst (λ (y : Op × Stage × List ℕ). (op_at bytes ≡ Some (y.0, y.2)) × (stage_after stage y.0 ≡ Some y.1)) same (a.1, b.1)

pub not_empty : (bytes : List ℕ) → false ≡ eqb (length bytes) 0 → 0 < length bytes
not_empty [] e = absurd cc
not_empty (tag ∷ bytes) e = omega arith

-- a reading with operations before it
abbrev pub behind : List Op → Result (List Op) ℕ → Result (List Op) ℕ
behind ops read = result_map_both (λ more. ops ++ more) (λ left. left) read

behind-none : (read : Result (List Op) ℕ) → behind [] read ≡ read
behind-none (Ok ops) = refl
behind-none (Err left) = refl

regroup : (ops : List Op) (op : Op) (read : Result (List Op) ℕ) → behind ops (behind (op ∷ []) read) ≡ behind (ops ++ op ∷ []) read
regroup ops op (Ok more) = ap (λ (l : List Op). Ok l) (sym (append_assoc ops (op ∷ []) more))
regroup ops op (Err left) = refl

-- the operations so far lead to the reading of all bytes
pub record Leads (bytes : List ℕ) (ops : List Op) (stage : Stage) (rest : List ℕ) : Type 0 where
  pub room : length rest + length ops ≤ length bytes
  pub read : behind ops (read_on (length bytes - length ops) stage rest) ≡ read_on (length bytes) Changes bytes

pub leads_first : (bytes : List ℕ) → Leads bytes [] Changes bytes
leads_first bytes =
    let all : length bytes - 0 ≡ length bytes = omega arith in
    record { room = omega arith; read = behind-none _ ∙ ap (λ (n : ℕ). read_on n Changes bytes) all }

-- one step of a reading
pub one_read : (count : ℕ) (stage : Stage) (rest : List ℕ) (x : Op × Stage × List ℕ) → 0 < length rest → next_at stage rest ≡ Some x → read_on (suc count) stage rest ≡ behind (x.0 ∷ []) (read_on count x.1 x.2)
one_read count stage [] x full e = absurd (omega arith)
one_read count stage (tag ∷ rest) x full e = rw e refl

pub broken : (count : ℕ) (stage : Stage) (rest : List ℕ) → 0 < length rest → next_at stage rest ≡ None → read_on (suc count) stage rest ≡ Err (length rest)
broken count stage [] full e = absurd (omega arith)
broken count stage (tag ∷ rest) full e = rw e refl

pub leads_next : (bytes : List ℕ) (ops : List Op) (stage : Stage) (rest : List ℕ) (x : Op × Stage × List ℕ)
    → Leads bytes ops stage rest → 0 < length rest → next_at stage rest ≡ Some x → Leads bytes (ops ++ x.0 ∷ []) x.1 x.2
leads_next bytes ops stage rest x so_far full e =
    let shorter = op_shorter rest (x.0, x.2) (next_is stage rest x e).0 in
    let more = length-append ops (x.0 ∷ []) in
    let count : length bytes - length ops ≡ suc (length bytes - length (ops ++ x.0 ∷ [])) = omega (arith, more, so_far.room) in
    let step : read_on (length bytes - length ops) stage rest ≡ behind (x.0 ∷ []) (read_on (length bytes - length (ops ++ x.0 ∷ [])) x.1 x.2) =
    ap (λ (n : ℕ). read_on n stage rest) count ∙ one_read (length bytes - length (ops ++ x.0 ∷ [])) stage rest x full e in
    record {
      room = omega (arith, more, so_far.room);
      read = sym (regroup ops x.0 _) ∙ ap (behind ops) (sym step) ∙ so_far.read;
    }

pub leads_astray : (bytes : List ℕ) (ops : List Op) (stage : Stage) (rest : List ℕ) (left : ℕ)
    → Leads bytes ops stage rest → 0 < length rest → next_at stage rest ≡ None → left ≡ length rest → reading bytes ≡ Err (length bytes - left)
leads_astray bytes ops stage rest left so_far full e is =
    let count : length bytes - length ops ≡ suc (length bytes - length ops - 1) = omega (arith, so_far.room) in
    let stops : read_on (length bytes - length ops) stage rest ≡ Err (length rest) =
    ap (λ (n : ℕ). read_on n stage rest) count ∙ broken (length bytes - length ops - 1) stage rest full e in
    let all : read_on (length bytes) Changes bytes ≡ Err (length rest) = sym so_far.read ∙ ap (behind ops) stops in
    rw (all, is) refl

pub leads_to_end : (bytes : List ℕ) (ops : List Op) (stage : Stage) (rest : List ℕ)
    → Leads bytes ops stage rest → length rest ≡ 0 → is_done stage ≡ true → reading bytes ≡ Ok ops
leads_to_end bytes ops stage [] so_far none e =
    let stops : read_on (length bytes - length ops) stage [] ≡ Ok [] = rw e refl in
    let all : read_on (length bytes) Changes bytes ≡ Ok ops = sym so_far.read ∙ ap (behind ops) stops ∙ ap (λ (l : List Op). Ok l) (append-nil ops) in
    rw all refl
leads_to_end bytes ops stage (tag ∷ rest) so_far none e = absurd (omega arith)

pub leads_too_short : (bytes : List ℕ) (ops : List Op) (stage : Stage) (rest : List ℕ)
    → Leads bytes ops stage rest → length rest ≡ 0 → is_done stage ≡ false → reading bytes ≡ Err (length bytes)
leads_too_short bytes ops stage [] so_far none e =
    let stops : read_on (length bytes - length ops) stage [] ≡ Err 0 = rw e refl in
    let all : read_on (length bytes) Changes bytes ≡ Err 0 = sym so_far.read ∙ ap (behind ops) stops in
    let whole : length bytes - 0 ≡ length bytes = omega arith in
    rw (all, whole) refl
leads_too_short bytes ops stage (tag ∷ rest) so_far none e = absurd (omega arith)
