-- The two laws: what is read spells a payload, and a payload that is spelled is read.
use Rattle.std.proofs.Common.{◌≡◌, ◌∙◌, ℕ, zero, suc, ◌<◌, ◌≤◌, Bool, true, false, cond, ◌&&◌, List, [], ◌∷◌, ◌++◌, length, Option, Some, None, Result, Ok, Err, refl, sym, ap, subst, length-append, arith}
use Rattle.std.specs.Option.{option_map_or}
use Rattle.std.specs.Result.{result_map_both}
use Rattle.std.specs.List.{AllByRecursion}
use Rattle.std.specs.Prelude.{IfOk}
use Rattle.std.specs.Global.{Vec}
use Rattle.st_ops.specs.declared.op.Op.{Op}
use Rattle.st_ops.specs.declared.op.Op.TheVariants.{Set, Clear, SnapItem, SnapEnd, Commit}
use Rattle.st_ops.specs.declared.op.OpsRefusal.{OpsRefusal}
use Rattle.st_ops.specs.declared.stage.Stage.{Stage}
use Rattle.st_ops.specs.declared.stage.Stage.TheVariants.{Changes, Items, Ended, Done}
use Rattle.st_ops.specs.Grammar.{less, is_nothing, is_commit, has_form_above, has_form, Fits, IsPayload}
use Rattle.st_ops.specs.Reading.{stage_after, is_done, next_at, read_on, reading, Answers}
use Rattle.st_ops.specs.Spelling.{spelled, spelt}
use Rattle.st_ops.proofs.Fields.{Numbers, AreBytes, op_takes, op_again}
use Rattle.st_ops.proofs.Steps.{behind, one_read, next_is}

-- the lists that may follow at a stage
abbrev pub accepts : Stage → List Op → Bool
accepts Changes ops = has_form ops
accepts (Items last) ops = has_form_above last ops
accepts Ended ops = is_commit ops
accepts Done ops = is_nothing ops

tested : (b : Bool) (stage : Stage) (ops : List Op) → (b && accepts stage ops) ≡ option_map_or (λ next. accepts next ops) (cond b (Some stage) None) false
tested true stage ops = refl
tested false stage ops = refl

-- a list that begins with an operation may follow where the operation may, and the rest behind it
pub accepts-cons : (stage : Stage) (op : Op) (ops : List Op) → accepts stage (op ∷ ops) ≡ option_map_or (λ next. accepts next ops) (stage_after stage op) false
accepts-cons Changes (Set key value) ops = refl
accepts-cons Changes (Clear begin end) ops = tested (less begin end) Changes ops
accepts-cons Changes (SnapItem key value) ops = refl
accepts-cons Changes SnapEnd ops = refl
accepts-cons Changes Commit ops = refl
accepts-cons (Items last) (Set key value) ops = refl
accepts-cons (Items last) (Clear begin end) ops = refl
accepts-cons (Items last) (SnapItem key value) ops = tested (less last key) (Items key) ops
accepts-cons (Items last) SnapEnd ops = refl
accepts-cons (Items last) Commit ops = refl
accepts-cons Ended (Set key value) ops = refl
accepts-cons Ended (Clear begin end) ops = refl
accepts-cons Ended (SnapItem key value) ops = refl
accepts-cons Ended SnapEnd ops = refl
accepts-cons Ended Commit ops = refl
accepts-cons Done (Set key value) ops = refl
accepts-cons Done (Clear begin end) ops = refl
accepts-cons Done (SnapItem key value) ops = refl
accepts-cons Done SnapEnd ops = refl
accepts-cons Done Commit ops = refl

pub accepts-nil : (stage : Stage) → accepts stage [] ≡ is_done stage
accepts-nil Changes = refl
accepts-nil (Items last) = refl
accepts-nil Ended = refl
accepts-nil Done = refl

pub accepted : (o : Option Stage) (f : Stage → Bool) → option_map_or f o false ≡ true → (next : Stage) × (o ≡ Some next) × (f next ≡ true)
accepted None f e = absurd cc
accepted (Some next) f e = (next, refl, e)

ok_is : {A : Type 0} (x y : A) → ◌≡◌ {A = Result A ℕ} (Ok x) (Ok y) → x ≡ y
ok_is x y e = cc

-- what is read spells operations that may follow
pub record Reads (stage : Stage) (bytes : List ℕ) (ops : List Op) : Type 0 where
  pub form : accepts stage ops ≡ true
  pub fits : AllByRecursion Fits ops
  pub spells : bytes ≡ spelt ops

pub read_takes : Numbers → (count : ℕ) (stage : Stage) (bytes : List ℕ) (ops : List Op) → AreBytes bytes → read_on count stage bytes ≡ Ok ops → Reads stage bytes ops
read_takes numbers count stage [] ops small e =
    by (is_done stage) refl e
  where
    by : (b : Bool) → b ≡ is_done stage → cond {A = Result (List Op) ℕ} b (Ok []) (Err 0) ≡ Ok ops → Reads stage [] ops
    by true is e = subst (λ (l : List Op). Reads stage [] l) (ok_is _ _ e) (record { form = accepts-nil stage ∙ sym is; fits = tt; spells = refl })
    by false is e = absurd cc
read_takes numbers zero stage (tag ∷ bytes) ops small e = absurd cc
read_takes numbers (suc count) stage (tag ∷ bytes) ops small e =
    by (next_at stage (tag ∷ bytes)) refl e (λ next rest more small e. read_takes numbers count next rest more small e)
  where
    all : List ℕ
    all = tag ∷ bytes

    then : (x : Op × Stage × List ℕ) → next_at stage all ≡ Some x → (r : Result (List Op) ℕ) → r ≡ read_on count x.1 x.2
        → behind (x.0 ∷ []) r ≡ Ok ops → ((next : Stage) (rest : List ℕ) (more : List Op) → AreBytes rest → read_on count next rest ≡ Ok more → Reads next rest more) → Reads stage all ops
    then x is (Ok more) r e later =
        let next = next_is stage all x is in
        let takes = op_takes numbers all (x.0, x.2) small next.0 in
        let rest = later x.1 x.2 more takes.small (sym r) in
        let form : accepts stage (x.0 ∷ more) ≡ true = accepts-cons stage x.0 more ∙ ap (λ (o : Option Stage). option_map_or (λ next. accepts next more) o false) next.1 ∙ rest.form in
        subst (λ (l : List Op). Reads stage all l) (ok_is _ _ e)
        (record { form = form; fits = (takes.fits, rest.fits); spells = takes.parts ∙ ap (λ (l : List ℕ). spelled x.0 ++ l) rest.spells })
    then x is (Err left) r e later = absurd cc

    by : (o : Option (Op × Stage × List ℕ)) → o ≡ next_at stage all
        → option_map_or (λ found. result_map_both (λ ops. found.0 ∷ ops) (λ left. left) (read_on count found.1 found.2)) o (Err (length all)) ≡ Ok ops
        → ((next : Stage) (rest : List ℕ) (more : List Op) → AreBytes rest → read_on count next rest ≡ Ok more → Reads next rest more) → Reads stage all ops
    by None is e later = absurd cc
    by (Some x) is e later = then x (sym is) (read_on count x.1 x.2) refl e later

-- an operation has a byte at least
pub spelled_some : (op : Op) (rest : List ℕ) → 0 < length (spelled op ++ rest)
spelled_some (Set key value) rest = omega arith
spelled_some (Clear begin end) rest = omega arith
spelled_some (SnapItem key value) rest = omega arith
spelled_some SnapEnd rest = omega arith
spelled_some Commit rest = omega arith

pub length-spelt : (ops : List Op) → length ops ≤ length (spelt ops)
length-spelt [] = omega arith
length-spelt (op ∷ ops) = omega (arith, length-spelt ops, spelled_some op [], length-append (spelled op) (spelt ops), length-append (spelled op) [])

-- an operation that may follow is the next
pub next_again : Numbers → (stage next : Stage) (op : Op) (rest : List ℕ) → Fits op → stage_after stage op ≡ Some next → next_at stage (spelled op ++ rest) ≡ Some (op, next, rest)
next_again numbers stage next op rest fits is = rw (op_again numbers op rest fits, is) refl

pub read_again : Numbers → (count : ℕ) (stage : Stage) (ops : List Op) → accepts stage ops ≡ true → AllByRecursion Fits ops → length ops ≤ count
    → read_on count stage (spelt ops) ≡ Ok ops
read_again numbers count stage [] form fits enough = let done : is_done stage ≡ true = sym (accepts-nil stage) ∙ form in rw done refl
read_again numbers zero stage (op ∷ ops) form fits enough = absurd (omega arith)
read_again numbers (suc count) stage (op ∷ ops) form fits enough =
    let next = accepted (stage_after stage op) (λ next. accepts next ops) (sym (accepts-cons stage op ops) ∙ form) in
    let later = read_again numbers count next.0 ops next.2 fits.1 (omega arith) in
    let step = one_read count stage (spelled op ++ spelt ops) (op, next.0, spelt ops) (spelled_some op (spelt ops)) (next_again numbers stage next.0 op (spelt ops) fits.0 next.1) in
    step ∙ ap (behind (op ∷ [])) later

both : (r : Result (List Op) ℕ) (ops : List Op) (f : ℕ → ℕ) → result_map_both (λ l. l) f r ≡ Ok ops → r ≡ Ok ops
both (Ok l) ops f e = e
both (Err left) ops f e = absurd cc

pub reading_takes : Numbers → (bytes : List ℕ) (ops : List Op) → AreBytes bytes → reading bytes ≡ Ok ops → IsPayload ops × (bytes ≡ spelt ops)
reading_takes numbers bytes ops small e =
    let reads = read_takes numbers (length bytes) Changes bytes ops small (both (read_on (length bytes) Changes bytes) ops _ e) in
    (record { form = reads.form; fits = reads.fits }, reads.spells)

pub reading_again : Numbers → (ops : List Op) → IsPayload ops → reading (spelt ops) ≡ Ok ops
reading_again numbers ops payload =
    let read = read_again numbers (length (spelt ops)) Changes ops payload.form payload.fits (length-spelt ops) in
    rw read refl

pub one_payload : Numbers → (a b : List Op) → IsPayload a → IsPayload b → spelt a ≡ spelt b → a ≡ b
one_payload numbers a b fits_a fits_b same = ok_is a b (sym (reading_again numbers a fits_a) ∙ ap reading same ∙ reading_again numbers b fits_b)

pub is_found : Numbers → (bytes : List ℕ) (r : Result (Vec Op) OpsRefusal) → AreBytes bytes → Answers r (reading bytes)
    → IfOk r (λ ops. IsPayload ops.items × (bytes ≡ spelt ops.items))
is_found numbers bytes (Ok ops) small answers = reading_takes numbers bytes ops.items small answers
is_found numbers bytes (Err refusal) small answers = tt

pub is_only : Numbers → (bytes : List ℕ) (r : Result (Vec Op) OpsRefusal) → Answers r (reading bytes)
    → (ops : List Op) → IsPayload ops → bytes ≡ spelt ops → Answers r (Ok ops)
is_only numbers bytes r answers ops payload spells =
    subst (λ (read : Result (List Op) ℕ). Answers r read) (ap reading spells ∙ reading_again numbers ops payload) answers
