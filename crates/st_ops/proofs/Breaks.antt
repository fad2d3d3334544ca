-- The place that a reading tells is the last that some payload reaches.
use Rattle.std.proofs.Common.{◌≡◌, ◌∙◌, ℕ, zero, suc, ◌+◌, ◌-◌, ◌≤◌, Bool, true, false, cond, List, [], ◌∷◌, ◌++◌, length, Option, Some, None, Result, Ok, Err, refl, sym, ap, append_assoc, length-append, arith}
use Rattle.std.specs.Option.{option_map_or}
use Rattle.std.specs.Result.{result_map_both}
use Rattle.std.specs.List.{AllByRecursion}
use Rattle.std.specs.Prelude.{IfErr}
use Rattle.std.specs.Global.{Vec}
use Rattle.st_ops.specs.declared.op.Op.{Op}
use Rattle.st_ops.specs.declared.op.Op.TheVariants.{Commit}
use Rattle.st_ops.specs.declared.op.OpsRefusal.{OpsRefusal}
use Rattle.st_ops.specs.declared.op.OpsRefusal.TheVariants as why
use Rattle.st_ops.specs.declared.stage.Stage.{Stage}
use Rattle.st_ops.specs.declared.stage.Stage.TheVariants.{Changes, Items, Ended, Done}
use Rattle.st_ops.specs.Breaks.{BreaksAt, Tells}
use Rattle.st_ops.specs.Grammar.{Fits}
use Rattle.st_ops.specs.Reading.{stage_after, is_done, next_at, read_on, reading, Answers}
use Rattle.st_ops.specs.Spelling.{spelled, spelt}
use Rattle.st_ops.proofs.Fields.{Numbers, AreBytes, op_takes}
use Rattle.st_ops.proofs.Payloads.{length-spelt, accepts, accepts-cons, accepted, next_again, spelled_some}
use Rattle.st_ops.proofs.Steps.{behind, next_is, one_read, op_shorter}

-- operations that a list may end with at a stage
abbrev completion : Stage → List Op
completion Changes = Commit ∷ []
completion (Items last) = Commit ∷ []
completion Ended = Commit ∷ []
completion Done = []

accepts-completion : (stage : Stage) → accepts stage (completion stage) ≡ true
accepts-completion Changes = refl
accepts-completion (Items last) = refl
accepts-completion Ended = refl
accepts-completion Done = refl

completion-fits : (stage : Stage) → AllByRecursion Fits (completion stage)
completion-fits Changes = (tt, tt)
completion-fits (Items last) = (tt, tt)
completion-fits Ended = (tt, tt)
completion-fits Done = tt

err_is : (x y : ℕ) → ◌≡◌ {A = Result (List Op) ℕ} (Err x) (Err y) → x ≡ y
err_is x y e = cc

-- operations before so many bytes that are left, which may follow at a stage
pub record Reached (stage : Stage) (bytes : List ℕ) (left : ℕ) : Type 0 where
  pub before : List Op
  pub after : List Op
  pub rest : List ℕ
  pub form : accepts stage (before ++ after) ≡ true
  pub fits : AllByRecursion Fits (before ++ after)
  pub spells : bytes ≡ spelt before ++ rest
  pub left_is : left ≡ length rest

nothing_read : (stage : Stage) (bytes : List ℕ) (left : ℕ) → length bytes ≡ left → Reached stage bytes left
nothing_read stage bytes left e = record { before = []; after = completion stage; rest = bytes; form = accepts-completion stage; fits = completion-fits stage; spells = refl; left_is = sym e }

err_of_none : (stage : Stage) (left : ℕ) (b : Bool) → ◌≡◌ {A = Result (List Op) ℕ} (cond b (Ok []) (Err 0)) (Err left) → 0 ≡ left
err_of_none stage left true e = absurd cc
err_of_none stage left false e = err_is 0 left e

pub read_reaches : Numbers → (count : ℕ) (stage : Stage) (bytes : List ℕ) (left : ℕ) → AreBytes bytes → read_on count stage bytes ≡ Err left → Reached stage bytes left
read_reaches numbers count stage [] left small e = nothing_read stage [] left (err_of_none stage left (is_done stage) e)
read_reaches numbers zero stage (tag ∷ bytes) left small e = nothing_read stage (tag ∷ bytes) left (err_is _ _ e)
read_reaches numbers (suc count) stage (tag ∷ bytes) left small e =
    by (next_at stage (tag ∷ bytes)) refl e (λ next rest small e. read_reaches numbers count next rest left small e)
  where
    all : List ℕ
    all = tag ∷ bytes

    then : (x : Op × Stage × List ℕ) → next_at stage all ≡ Some x → (r : Result (List Op) ℕ) → r ≡ read_on count x.1 x.2
        → behind (x.0 ∷ []) r ≡ Err left → ((next : Stage) (rest : List ℕ) → AreBytes rest → read_on count next rest ≡ Err left → Reached next rest left) → Reached stage all left
    then x is (Ok more) r e later = absurd cc
    then x is (Err other) r e later =
        let next = next_is stage all x is in
        let takes = op_takes numbers all (x.0, x.2) small next.0 in
        let reached = later x.1 x.2 takes.small (sym r ∙ e) in
        record {
          before = x.0 ∷ reached.before;
          after = reached.after;
          rest = reached.rest;
          form = accepts-cons stage x.0 (reached.before ++ reached.after)
              ∙ ap (λ (o : Option Stage). option_map_or (λ next. accepts next (reached.before ++ reached.after)) o false) next.1 ∙ reached.form;
          fits = (takes.fits, reached.fits);
          spells = takes.parts ∙ ap (λ (l : List ℕ). spelled x.0 ++ l) reached.spells ∙ sym (append_assoc (spelled x.0) (spelt reached.before) reached.rest);
          left_is = reached.left_is;
        }

    by : (o : Option (Op × Stage × List ℕ)) → o ≡ next_at stage all
        → option_map_or (λ found. result_map_both (λ ops. found.0 ∷ ops) (λ left. left) (read_on count found.1 found.2)) o (Err (length all)) ≡ Err left
        → ((next : Stage) (rest : List ℕ) → AreBytes rest → read_on count next rest ≡ Err left → Reached next rest left) → Reached stage all left
    by None is e later = nothing_read stage all left (err_is _ _ e)
    by (Some x) is e later = then x (sym is) (read_on count x.1 x.2) refl e later

-- no more is left than there was
read_left : (count : ℕ) (stage : Stage) (bytes : List ℕ) (left : ℕ) → read_on count stage bytes ≡ Err left → left ≤ length bytes
read_left count stage [] left e = omega (arith, err_of_none stage left (is_done stage) e)
read_left zero stage (tag ∷ bytes) left e = omega (arith, err_is _ _ e)
read_left (suc count) stage (tag ∷ bytes) left e =
    by (next_at stage (tag ∷ bytes)) refl e (λ next rest e. read_left count next rest left e)
  where
    all : List ℕ
    all = tag ∷ bytes

    then : (x : Op × Stage × List ℕ) → next_at stage all ≡ Some x → (r : Result (List Op) ℕ) → r ≡ read_on count x.1 x.2
        → behind (x.0 ∷ []) r ≡ Err left → ((next : Stage) (rest : List ℕ) → read_on count next rest ≡ Err left → left ≤ length rest) → left ≤ length all
    then x is (Ok more) r e later = absurd cc
    then x is (Err other) r e later = omega (arith, later x.1 x.2 (sym r ∙ e), op_shorter all (x.0, x.2) (next_is stage all x is).0)

    by : (o : Option (Op × Stage × List ℕ)) → o ≡ next_at stage all
        → option_map_or (λ found. result_map_both (λ ops. found.0 ∷ ops) (λ left. left) (read_on count found.1 found.2)) o (Err (length all)) ≡ Err left
        → ((next : Stage) (rest : List ℕ) → read_on count next rest ≡ Err left → left ≤ length rest) → left ≤ length all
    by None is e later = omega (arith, err_is _ _ e)
    by (Some x) is e later = then x (sym is) (read_on count x.1 x.2) refl e later

behind_err : (op : Op) (r : Result (List Op) ℕ) (left : ℕ) → behind (op ∷ []) r ≡ Err left → r ≡ Err left
behind_err op (Ok more) left e = absurd cc
behind_err op (Err other) left e = e

-- no payload goes on further
pub reads_furthest : Numbers → (count : ℕ) (stage : Stage) (before after : List Op) (rest : List ℕ) (left : ℕ)
    → accepts stage (before ++ after) ≡ true → AllByRecursion Fits (before ++ after) → length before ≤ count
    → read_on count stage (spelt before ++ rest) ≡ Err left → left ≤ length rest
reads_furthest numbers count stage [] after rest left form fits enough e = read_left count stage rest left e
reads_furthest numbers zero stage (op ∷ before) after rest left form fits enough e = absurd (omega arith)
reads_furthest numbers (suc count) stage (op ∷ before) after rest left form fits enough e =
    let next = accepted (stage_after stage op) (λ next. accepts next (before ++ after)) (sym (accepts-cons stage op (before ++ after)) ∙ form) in
    let behind_op = spelt before ++ rest in
    let parts : spelt (op ∷ before) ++ rest ≡ spelled op ++ behind_op = append_assoc (spelled op) (spelt before) rest in
    let step = one_read count stage (spelled op ++ behind_op) (op, next.0, behind_op) (spelled_some op behind_op) (next_again numbers stage next.0 op behind_op fits.0 next.1) in
    let stops : read_on count next.0 behind_op ≡ Err left = behind_err op (read_on count next.0 behind_op) left (sym step ∙ sym (ap (λ (l : List ℕ). read_on (suc count) stage l) parts) ∙ e) in
    reads_furthest numbers count next.0 before after rest left next.2 fits.1 (omega arith) stops

left_of : (r : Result (List Op) ℕ) (f : ℕ → ℕ) (at : ℕ) → result_map_both (λ l. l) f r ≡ Err at → (left : ℕ) × (r ≡ Err left) × (f left ≡ at)
left_of (Ok l) f at e = absurd cc
left_of (Err left) f at e = (left, refl, err_is _ _ e)

broken_at : Numbers → (bytes : List ℕ) (at : ℕ) → AreBytes bytes → reading bytes ≡ Err at → BreaksAt bytes at
broken_at numbers bytes at small e =
    let l = left_of (read_on (length bytes) Changes bytes) (λ left. length bytes - left) at e in
    let r = read_reaches numbers (length bytes) Changes bytes l.0 small l.1 in
    let size : length bytes ≡ length (spelt r.before) + length r.rest = ap length r.spells ∙ length-append (spelt r.before) r.rest in
    record {
      reached = record {
        before = r.before;
        after = r.after;
        rest = r.rest;
        payload = record { form = r.form; fits = r.fits };
        spells = r.spells;
        place_is = omega (arith, size, r.left_is, l.2);
      };
      last = λ other o.
          let all : length bytes ≡ length (spelt o.before) + length o.rest = ap length o.spells ∙ length-append (spelt o.before) o.rest in
          let left : l.0 ≤ length o.rest = reads_furthest numbers (length bytes) Changes o.before o.after o.rest l.0 o.payload.form o.payload.fits (omega (arith, all, length-spelt o.before)) (ap (λ (b : List ℕ). read_on (length bytes) Changes b) (sym o.spells) ∙ l.1) in
          omega (arith, all, left, o.place_is, l.2);
    }

pub is_broken : Numbers → (bytes : List ℕ) (r : Result (Vec Op) OpsRefusal) → AreBytes bytes → Answers r (reading bytes) → IfErr r (Tells bytes)
is_broken numbers bytes (Ok ops) small answers = tt
is_broken numbers bytes (Err (why.BadOps at)) small answers = broken_at numbers bytes at small answers
is_broken numbers bytes (Err why.NoMemory) small answers = tt
