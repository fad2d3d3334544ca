-- Steps of a schedule, one after the other.
use Rattle.std.proofs.Common.{◌≡◌, ◌∙◌, ◌+◌, ◌||◌, ℕ, zero, suc, not, Bool, true, false, cond, List, [], ◌∷◌, fold, length, Option, Some, None, is_none, IfSome, refl, sym, ap, subst, zero-add}
use Rattle.std.proofs.Math.Nat.{suc-add}
use Rattle.std.specs.Option.{option_map_or}
use Rattle.st_core.specs.Acts.{reached_by}
use Rattle.st_core.specs.Driving.{HasMade}
use Rattle.st_core.specs.Server.{Serving}
use Rattle.st_core.specs.declared.refusal.DriveRefusal.{DriveRefusal}
use Rattle.st_core.specs.declared.refusal.DriveRefusal.TheVariants.{Device, NoMemory}
use Rattle.st_disk.specs.History.{History}
use Rattle.st_engine.specs.Store.{Kept}
use Rattle.st_fold.specs.declared.plan.Act.{Act}
use Rattle.st_fold.specs.declared.plan.Act.TheVariants as act
use Rattle.st_fold.specs.declared.plan.Do.{Do}
use Rattle.st_fold.specs.declared.plan.Do.TheVariants as step_of
use Rattle.st_fold.specs.declared.report.Event.{Event}
use Rattle.st_model.specs.Schedule.{Halt, LeadsTo, Progress, Stage, close_on, do_act, do_poll, event_of, events_of_poll, has_open, make, may_do, next, on_line, poll_first, walk, with_event}
use Rattle.st_model.specs.Trace.{due}
use Rattle.st_life.specs.Play.{Start, stage_of}
use Rattle.st_life.specs.Readers.{Reading, polled}
use Rattle.st_life.specs.Running.{ActStops, Acts, IsAt, LeadsOn, Playing, RefusesAct, Stops, StopsOn}
use Rattle.st_life.proofs.Polls.{poll_first-none}
use Rattle.st_life.proofs.Telling.{if-all, if-both, if-map}

-- ---- steps

module _ (stage : Stage Kept) where
  walk-over : (p : Progress Kept) (n : ℕ) → next stage p ≡ None → walk stage n p ≡ p
  walk-over p zero e = refl
  walk-over p (suc n) e = ap (λ o. option_map_or (walk stage n) o p) e

  walk-add : (m n : ℕ) (p : Progress Kept) → walk stage (m + n) p ≡ walk stage n (walk stage m p)
  walk-add zero n p = ap (λ k. walk stage k p) (zero-add n)
  walk-add (suc m) n p =
      rw suc-add
      (elim (next stage p) as (λ o. next stage p ≡ o → option_map_or (walk stage (m + n)) o p ≡ walk stage n (option_map_or (walk stage m) o p)) [
        | None ↦ λ e. sym (walk-over p n e)
        | Some later ↦ λ e. walk-add m n later
      ] refl)

  pub leads-nowhere : (p : Progress Kept) → LeadsTo stage p p
  leads-nowhere p = (0, refl)

  pub leads-on : (p q r : Progress Kept) → LeadsTo stage p q → LeadsTo stage q r → LeadsTo stage p r
  leads-on p q r (m, e) (n, f) = (m + n, f ∙ ap (walk stage n) e ∙ sym (walk-add m n p))

  pub leads-once : (p q : Progress Kept) → next stage p ≡ Some q → LeadsTo stage p q
  leads-once p q e = (1, sym (ap (λ o. option_map_or (walk stage 0) o p) e))

-- ---- the next step, by what is left

by-halt : (stage : Stage Kept) (p : Progress Kept) (lines : List (Do × ℕ)) → p.lines ≡ lines → p.halt ≡ None → next stage p ≡ next stage (record p { lines = lines; halt = None })
by-halt stage p lines is unhalted = ap (next stage) (λ i. record p { lines = is i; halt = unhalted i })

-- a line that was done as often as it says
pub next-zero : (stage : Stage Kept) (p : Progress Kept) (one : Do) (later : List (Do × ℕ)) → p.lines ≡ (one, 0) ∷ later → p.halt ≡ None
    → next stage p ≡ Some (record p { lines = later })
next-zero stage p one later is unhalted = by-halt stage p ((one, 0) ∷ later) is unhalted ∙ ap (λ (h : Option Halt). Some (record p { lines = later; halt = h })) (sym unhalted)

-- a line
pub next-line : (stage : Stage Kept) (p : Progress Kept) (one : Do) (times : ℕ) (later : List (Do × ℕ)) → p.lines ≡ (one, suc times) ∷ later → p.halt ≡ None
    → next stage p ≡ Some (on_line stage p one times later)
next-line stage p one times later is unhalted = rw (unhalted, is) refl

-- the closing
pub next-close : (stage : Stage Kept) (p : Progress Kept) → p.lines ≡ [] → p.halt ≡ None → next stage p ≡ close_on stage p (due stage.given p.state)
next-close stage p is unhalted = rw (unhalted, is) refl

-- the same with other lines left
pub with-lines : {D P : Type 0} → (told : D → Option History) (h : History) (from to : List (Do × ℕ)) (playing : Playing D P) (progress : Progress Kept)
    → IsAt told h from playing progress → IsAt told h to playing (record progress { lines = to })
with-lines told h from to playing progress at = record {
  lines_are = refl;
  trace = at.trace;
  state = at.state;
  sessions = at.sessions;
  unhalted = at.unhalted;
  calls = at.calls;
  made_are = at.made_are;
  count = at.count;
  synced = at.synced;
  unbroken = at.unbroken;
}

abbrev Lines : Type 0
Lines = List (Do × ℕ)

abbrev flush-lines : (times : ℕ) → Lines → Lines
flush-lines times later = (step_of.Act act.Began, 1) ∷ (step_of.Act act.Durable, 1) ∷ (step_of.Flush, times) ∷ later

or-second : (a b : Bool) → b ≡ true → (a || b) ≡ true
or-second true b is = refl
or-second false b is = is

may-some : (start : Start) (progress : Progress Kept) (event : Event) → event_of (stage_of start) progress act.Durable ≡ Some event → may_do (stage_of start) progress act.Durable ≡ true
may-some start progress event is = ap (λ (o : Option Event). not (is_none o)) is

module _ {D P : Type 0} (told : D → Option History) (start : Start) (before : Option History) where
  abbrev Leads : (from to : Lines) → (old new : Playing D P) → Type 0
  Leads from to old new = LeadsOn told start before from to old new

  pub lead-nowhere : (lines : Lines) (p : Playing D P) → Leads lines lines p p
  lead-nowhere lines p = if-all before _ (λ h progress at. (progress, leads-nowhere (stage_of start) progress, at))

  pub lead-on : (a b c : Lines) (old mid new : Playing D P) → Leads a b old mid → Leads b c mid new → Leads a c old new
  lead-on a b c old mid new first second =
      if-both before _ _ _ (λ h one two progress at.
      let there = one progress at in
      let behind = two there.0 there.2 in
      (behind.0, leads-on (stage_of start) progress there.0 behind.0 there.1 behind.1, behind.2)) first second

  pub lead-stops : (a b : Lines) (old mid new : Playing D P) (why : DriveRefusal) → Leads a b old mid → StopsOn told start before b mid new why → StopsOn told start before a old new why
  lead-stops a b old mid new why first second =
      if-both before _ _ _ (λ h one two progress at.
      let there = one progress at in
      let stops = two there.0 there.2 in
      record {
        last = stops.last;
        leads = leads-on (stage_of start) progress there.0 stops.last there.1 stops.leads;
        lines = stops.lines;
        before = stops.before;
        at = stops.at;
        board = stops.board;
        reading = stops.reading;
        by = stops.by;
      }) first second

  -- memory was wanting
  pub stops-here : (lines : Lines) (old new : Playing D P) → reached_by new.server.board ≡ reached_by old.server.board → new.reading ≡ old.reading → StopsOn told start before lines old new NoMemory
  stops-here lines old new board reading = if-all before _ (λ h progress at. record {
    last = progress;
    leads = leads-nowhere (stage_of start) progress;
    lines = lines;
    before = old;
    at = at;
    board = board;
    reading = reading;
    by = tt;
  })

  -- a line is over
  pub lead-zero : (one : Do) (later : Lines) (p : Playing D P) → Leads ((one, 0) ∷ later) later p p
  lead-zero one later p = if-all before _ (λ h progress at. (
    record progress { lines = later },
    leads-once (stage_of start) progress (record progress { lines = later }) (next-zero (stage_of start) progress one later at.lines_are at.unhalted),
    with-lines told h ((one, 0) ∷ later) later p progress at,
  ))

  -- ---- acts

  pub act-leads : (action : Act) (done : Bool) (times : ℕ) (later : Lines) (old new : Playing D P) → Acts told start before action done old new
      → Leads ((step_of.Act action, suc times) ∷ later) (cond done ((step_of.Act action, times) ∷ later) later) old new
  act-leads action done times later old new acts = if-map before _ _ (of done) acts
    where
      line : Lines
      line = (step_of.Act action, suc times) ∷ later

      of : (done : Bool) (h : History)
          → ((lines : Lines) (progress : Progress Kept) → IsAt told h lines old progress → (may_do (stage_of start) progress action ≡ done) × IsAt told h lines new (cond done (do_act (stage_of start) progress action) progress))
          → (progress : Progress Kept) → IsAt told h line old progress
          → (later' : Progress Kept) × LeadsTo (stage_of start) progress later' × IsAt told h (cond done ((step_of.Act action, times) ∷ later) later) new later'
      of true h acted progress at =
          let more : Lines = (step_of.Act action, times) ∷ later in
          let p : Progress Kept = record progress { lines = more } in
          let does = acted more p (with-lines told h line more old progress at) in (
            do_act (stage_of start) p action,
            leads-once (stage_of start) progress (do_act (stage_of start) p action)
                (next-line (stage_of start) progress (step_of.Act action) times later at.lines_are at.unhalted ∙ ap (λ (t : Bool). Some (cond t (do_act (stage_of start) p action) (record progress { lines = later }))) does.0),
            does.1,
          )
      of false h acted progress at =
          let p : Progress Kept = record progress { lines = later } in
          let does = acted later p (with-lines told h line later old progress at) in (
            p,
            leads-once (stage_of start) progress p
                (next-line (stage_of start) progress (step_of.Act action) times later at.lines_are at.unhalted
                ∙ ap (λ (t : Bool). Some (cond t (do_act (stage_of start) (record progress { lines = (step_of.Act action, times) ∷ later }) action) p)) does.0),
            does.1,
          )

  -- an act that is refused, at a line where it is what comes next
  pub refuse-at : (h : History) (lines : Lines) (action : Act) (why : DriveRefusal) (old new : Playing D P) → reached_by new.server.board ≡ reached_by old.server.board → new.reading ≡ old.reading
      → (progress : Progress Kept) → (at : IsAt told h lines old progress)
      → ActStops told start h at.calls progress new.server.engine.disk action why
      → ((event : Event) → event_of (stage_of start) progress act.Durable ≡ Some event → action ≡ act.Durable
      → (left : Lines) × (next (stage_of start) progress ≡ Some (make (stage_of start) (record progress { lines = left }) act.Durable event)))
      → Stops told start h progress new why
  refuse-at h lines action NoMemory old new board reading progress at refused comes = record {
    last = progress;
    leads = leads-nowhere (stage_of start) progress;
    lines = lines;
    before = old;
    at = at;
    board = board;
    reading = reading;
    by = tt;
  }
  refuse-at h lines action (Device refusal) old new board reading progress at (is_durable, event, comes_of, stops) comes =
      let there = comes event comes_of is_durable in record {
        last = progress;
        leads = leads-nowhere (stage_of start) progress;
        lines = lines;
        before = old;
        at = at;
        board = board;
        reading = reading;
        by = (there.0, event, there.1, stops);
      }

  pub act-stops : (action : Act) (times : ℕ) (later : Lines) (old new : Playing D P) (why : DriveRefusal) → reached_by new.server.board ≡ reached_by old.server.board → new.reading ≡ old.reading
      → RefusesAct told start before action old new why → StopsOn told start before ((step_of.Act action, suc times) ∷ later) old new why
  act-stops action times later old new why board reading refuses = if-map before _ _ (λ h refused progress at.
      refuse-at h ((step_of.Act action, suc times) ∷ later) action why old new board reading progress at (refused ((step_of.Act action, suc times) ∷ later) progress at)
      (λ event is durable.
      let more : Lines = (step_of.Act act.Durable, times) ∷ later in (
        more,
        next-line (stage_of start) progress (step_of.Act action) times later at.lines_are at.unhalted
            ∙ ap (λ (a : Act). Some (on_line (stage_of start) progress (step_of.Act a) times later)) durable
            ∙ ap (λ (t : Bool). Some (cond t (do_act (stage_of start) (record progress { lines = more }) act.Durable) (record progress { lines = later }))) (may-some start progress event is)
            ∙ ap (λ (o : Option Event). Some (option_map_or (make (stage_of start) (record progress { lines = more }) act.Durable) o (record progress { lines = more }))) is,
      ))) refuses

  -- ---- a commit from its beginning to its end

  -- one of the two may be done
  flush-some : (h : History) (times : ℕ) (later : Lines) (old : Playing D P) (progress : Progress Kept) → IsAt told h ((step_of.Flush, suc times) ∷ later) old progress
      → (may_do (stage_of start) progress act.Began || may_do (stage_of start) progress act.Durable) ≡ true
      → LeadsTo (stage_of start) progress (record progress { lines = flush-lines times later })
  flush-some h times later old progress at may =
      leads-once (stage_of start) progress (record progress { lines = flush-lines times later })
      (next-line (stage_of start) progress step_of.Flush times later at.lines_are at.unhalted
      ∙ ap (λ (t : Bool). Some (cond t (record progress { lines = flush-lines times later }) (record progress { lines = later }))) may)

  -- the first part of a step that began
  flush-begins : (times : ℕ) (later : Lines) (old mid : Playing D P) → Acts told start before act.Began true old mid
      → Leads ((step_of.Flush, suc times) ∷ later) ((step_of.Act act.Durable, 1) ∷ (step_of.Flush, times) ∷ later) old mid
  flush-begins times later old mid acts = if-map before _ _ of acts
    where
      rest : Lines
      rest = (step_of.Act act.Durable, 1) ∷ (step_of.Flush, times) ∷ later

      of : (h : History)
          → ((lines : Lines) (progress : Progress Kept) → IsAt told h lines old progress → (may_do (stage_of start) progress act.Began ≡ true) × IsAt told h lines mid (do_act (stage_of start) progress act.Began))
          → (progress : Progress Kept) → IsAt told h ((step_of.Flush, suc times) ∷ later) old progress
          → (later' : Progress Kept) × LeadsTo (stage_of start) progress later' × IsAt told h rest mid later'
      of h acted progress at =
          let may = (acted ((step_of.Flush, suc times) ∷ later) progress at).0 in
          let p : Progress Kept = record progress { lines = flush-lines times later } in
          let zero-line : Lines = (step_of.Act act.Began, 0) ∷ rest in
          let q : Progress Kept = record progress { lines = zero-line } in
          let does = acted zero-line q (with-lines told h ((step_of.Flush, suc times) ∷ later) zero-line old progress at) in
          let there = do_act (stage_of start) q act.Began in
          let first : LeadsTo (stage_of start) progress p = flush-some h times later old progress at (ap (λ (t : Bool). t || may_do (stage_of start) progress act.Durable) may) in
          let second : LeadsTo (stage_of start) p there =
          leads-once (stage_of start) p there
          (next-line (stage_of start) p (step_of.Act act.Began) 0 rest refl at.unhalted ∙ ap (λ (t : Bool). Some (cond t there (record p { lines = rest }))) does.0) in
          let third : LeadsTo (stage_of start) there (record there { lines = rest }) =
          leads-once (stage_of start) there (record there { lines = rest }) (next-zero (stage_of start) there (step_of.Act act.Began) rest does.1.lines_are does.1.unhalted) in (
            record there { lines = rest },
            leads-on (stage_of start) progress p (record there { lines = rest }) first (leads-on (stage_of start) p there (record there { lines = rest }) second third),
            with-lines told h zero-line rest mid there does.1,
          )

  -- or of one that has a commit in flight
  flush-ends : (times : ℕ) (later : Lines) (old mid : Playing D P) → Acts told start before act.Began false old mid
      → IfSome before (λ h. (progress : Progress Kept) → IsAt told h ((step_of.Flush, suc times) ∷ later) old progress
      → may_do (stage_of start) progress act.Durable ≡ true
      → (later' : Progress Kept) × LeadsTo (stage_of start) progress later' × IsAt told h ((step_of.Act act.Durable, 1) ∷ (step_of.Flush, times) ∷ later) mid later')
  flush-ends times later old mid acts = if-map before _ _ of acts
    where
      rest : Lines
      rest = (step_of.Act act.Durable, 1) ∷ (step_of.Flush, times) ∷ later

      of : (h : History)
          → ((lines : Lines) (progress : Progress Kept) → IsAt told h lines old progress → (may_do (stage_of start) progress act.Began ≡ false) × IsAt told h lines mid progress)
          → (progress : Progress Kept) → IsAt told h ((step_of.Flush, suc times) ∷ later) old progress → may_do (stage_of start) progress act.Durable ≡ true
          → (later' : Progress Kept) × LeadsTo (stage_of start) progress later' × IsAt told h rest mid later'
      of h acted progress at may =
          let p : Progress Kept = record progress { lines = flush-lines times later } in
          let q : Progress Kept = record progress { lines = rest } in
          let does = acted rest q (with-lines told h ((step_of.Flush, suc times) ∷ later) rest old progress at) in
          let zero-line : Lines = (step_of.Act act.Began, 0) ∷ rest in
          let first : LeadsTo (stage_of start) progress p = flush-some h times later old progress at (or-second (may_do (stage_of start) progress act.Began) (may_do (stage_of start) progress act.Durable) may) in
          let second : LeadsTo (stage_of start) p q =
          leads-once (stage_of start) p q
          (next-line (stage_of start) p (step_of.Act act.Began) 0 rest refl at.unhalted ∙ ap (λ (t : Bool). Some (cond t (do_act (stage_of start) (record progress { lines = zero-line }) act.Began) q)) does.0) in
          (q, leads-on (stage_of start) progress p q first second, does.1)

  pub flush-leads : (begun ended : Bool) (times : ℕ) (later : Lines) (old mid new : Playing D P) → Acts told start before act.Began begun old mid → Acts told start before act.Durable ended mid new
      → Leads ((step_of.Flush, suc times) ∷ later) (cond (begun || ended) ((step_of.Flush, times) ∷ later) later) old new
  flush-leads true ended times later old mid new first second =
      let next = (step_of.Flush, times) ∷ later in
      lead-on ((step_of.Flush, suc times) ∷ later) ((step_of.Act act.Durable, 1) ∷ next) next old mid new (flush-begins times later old mid first)
      (durable-over ended times later mid new second)
    where
      durable-over : (ended : Bool) (times : ℕ) (later : Lines) (mid new : Playing D P) → Acts told start before act.Durable ended mid new
          → Leads ((step_of.Act act.Durable, 1) ∷ (step_of.Flush, times) ∷ later) ((step_of.Flush, times) ∷ later) mid new
      durable-over true times later mid new acts =
          lead-on _ ((step_of.Act act.Durable, 0) ∷ (step_of.Flush, times) ∷ later) _ mid new new (act-leads act.Durable true 0 ((step_of.Flush, times) ∷ later) mid new acts)
          (lead-zero (step_of.Act act.Durable) ((step_of.Flush, times) ∷ later) new)
      durable-over false times later mid new acts = act-leads act.Durable false 0 ((step_of.Flush, times) ∷ later) mid new acts
  flush-leads false true times later old mid new first second =
      if-both before _ _ _ of (if-both before _ _ _ (λ h a b. (a, b)) first second) (flush-ends times later old mid first)
    where
      rest : Lines
      rest = (step_of.Act act.Durable, 1) ∷ (step_of.Flush, times) ∷ later

      of : (h : History)
          → ((lines : Lines) (progress : Progress Kept) → IsAt told h lines old progress → (may_do (stage_of start) progress act.Began ≡ false) × IsAt told h lines mid progress)
          × ((lines : Lines) (progress : Progress Kept) → IsAt told h lines mid progress → (may_do (stage_of start) progress act.Durable ≡ true) × IsAt told h lines new (do_act (stage_of start) progress act.Durable))
          → ((progress : Progress Kept) → IsAt told h ((step_of.Flush, suc times) ∷ later) old progress → may_do (stage_of start) progress act.Durable ≡ true
          → (later' : Progress Kept) × LeadsTo (stage_of start) progress later' × IsAt told h rest mid later')
          → (progress : Progress Kept) → IsAt told h ((step_of.Flush, suc times) ∷ later) old progress
          → (later' : Progress Kept) × LeadsTo (stage_of start) progress later' × IsAt told h ((step_of.Flush, times) ∷ later) new later'
      of h (acted, ended) ends progress at =
          let at-mid = (acted ((step_of.Flush, suc times) ∷ later) progress at).1 in
          let may = (ended ((step_of.Flush, suc times) ∷ later) progress at-mid).0 in
          let there = ends progress at may in
          let zero-line : Lines = (step_of.Act act.Durable, 0) ∷ (step_of.Flush, times) ∷ later in
          let q : Progress Kept = record there.0 { lines = zero-line } in
          let does = ended zero-line q (with-lines told h rest zero-line mid there.0 there.2) in
          let behind = do_act (stage_of start) q act.Durable in
          let last : Progress Kept = record behind { lines = (step_of.Flush, times) ∷ later } in
          let second : LeadsTo (stage_of start) there.0 behind =
          leads-once (stage_of start) there.0 behind
          (next-line (stage_of start) there.0 (step_of.Act act.Durable) 0 ((step_of.Flush, times) ∷ later) there.2.lines_are there.2.unhalted
          ∙ ap (λ (t : Bool). Some (cond t behind (record there.0 { lines = (step_of.Flush, times) ∷ later }))) does.0) in
          let third : LeadsTo (stage_of start) behind last =
          leads-once (stage_of start) behind last (next-zero (stage_of start) behind (step_of.Act act.Durable) ((step_of.Flush, times) ∷ later) does.1.lines_are does.1.unhalted) in (
            last,
            leads-on (stage_of start) progress there.0 last there.1 (leads-on (stage_of start) there.0 behind last second third),
            with-lines told h zero-line ((step_of.Flush, times) ∷ later) new behind does.1,
          )
  flush-leads false false times later old mid new first second = if-map before _ _ of (if-both before _ _ _ (λ h a b. (a, b)) first second)
    where
      of : (h : History)
          → ((lines : Lines) (progress : Progress Kept) → IsAt told h lines old progress → (may_do (stage_of start) progress act.Began ≡ false) × IsAt told h lines mid progress)
          × ((lines : Lines) (progress : Progress Kept) → IsAt told h lines mid progress → (may_do (stage_of start) progress act.Durable ≡ false) × IsAt told h lines new progress)
          → (progress : Progress Kept) → IsAt told h ((step_of.Flush, suc times) ∷ later) old progress
          → (later' : Progress Kept) × LeadsTo (stage_of start) progress later' × IsAt told h later new later'
      of h (acted, ended) progress at =
          let here : Lines = (step_of.Flush, suc times) ∷ later in
          let one = acted here progress at in
          let two = ended here progress one.1 in
          let p : Progress Kept = record progress { lines = later } in (
            p,
            leads-once (stage_of start) progress p
                (next-line (stage_of start) progress step_of.Flush times later at.lines_are at.unhalted
                ∙ (λ i. Some (cond (one.0 i || two.0 i) (record progress { lines = flush-lines times later }) p))),
            with-lines told h here later new progress two.1,
          )

  -- its beginning is refused: memory was wanting
  pub flush-begins-not : (times : ℕ) (later : Lines) (old new : Playing D P) (why : DriveRefusal) → reached_by new.server.board ≡ reached_by old.server.board → new.reading ≡ old.reading
      → RefusesAct told start before act.Began old new why → StopsOn told start before ((step_of.Flush, suc times) ∷ later) old new why
  flush-begins-not times later old new why board reading refuses = if-map before _ _ (λ h refused progress at.
      refuse-at h ((step_of.Flush, suc times) ∷ later) act.Began why old new board reading progress at (refused ((step_of.Flush, suc times) ∷ later) progress at)
      (λ event is durable. absurd (cc (durable)))) refuses

  -- the end of a commit is refused there
  pub flush-stops : (begun : Bool) (times : ℕ) (later : Lines) (old mid new : Playing D P) (why : DriveRefusal) → Acts told start before act.Began begun old mid
      → reached_by new.server.board ≡ reached_by mid.server.board → new.reading ≡ mid.reading → RefusesAct told start before act.Durable mid new why
      → StopsOn told start before ((step_of.Flush, suc times) ∷ later) old new why
  flush-stops true times later old mid new why first board reading refuses =
      lead-stops ((step_of.Flush, suc times) ∷ later) ((step_of.Act act.Durable, 1) ∷ (step_of.Flush, times) ∷ later) old mid new why
      (flush-begins times later old mid first) (act-stops act.Durable 0 ((step_of.Flush, times) ∷ later) mid new why board reading refuses)
  flush-stops false times later old mid new NoMemory first board reading refuses = if-map before _ _ of first
    where
      of : (h : History)
          → ((lines : Lines) (progress : Progress Kept) → IsAt told h lines old progress → (may_do (stage_of start) progress act.Began ≡ false) × IsAt told h lines mid progress)
          → (progress : Progress Kept) → IsAt told h ((step_of.Flush, suc times) ∷ later) old progress → Stops told start h progress new NoMemory
      of h acted progress at = record {
        last = progress;
        leads = leads-nowhere (stage_of start) progress;
        lines = (step_of.Flush, suc times) ∷ later;
        before = mid;
        at = (acted ((step_of.Flush, suc times) ∷ later) progress at).1;
        board = board;
        reading = reading;
        by = tt;
      }
  flush-stops false times later old mid new (Device refusal) first board reading refuses =
      if-both before _ _ _ of (if-both before _ _ _ (λ h a b. (a, b)) first refuses)
      (if-both before _ _ _ (λ h a b. (a, b)) (flush-ends times later old mid first)
      (act-stops act.Durable 0 ((step_of.Flush, times) ∷ later) mid new (Device refusal) board reading refuses))
    where
      here : Lines
      here = (step_of.Flush, suc times) ∷ later

      rest : Lines
      rest = (step_of.Act act.Durable, 1) ∷ (step_of.Flush, times) ∷ later

      of : (h : History)
          → ((lines : Lines) (progress : Progress Kept) → IsAt told h lines old progress → (may_do (stage_of start) progress act.Began ≡ false) × IsAt told h lines mid progress)
          × ((lines : Lines) (progress : Progress Kept) → (at : IsAt told h lines mid progress) → ActStops told start h at.calls progress new.server.engine.disk act.Durable (Device refusal))
          → ((progress : Progress Kept) → IsAt told h here old progress → may_do (stage_of start) progress act.Durable ≡ true
          → (later' : Progress Kept) × LeadsTo (stage_of start) progress later' × IsAt told h rest mid later')
          × ((progress : Progress Kept) → IsAt told h rest mid progress → Stops told start h progress new (Device refusal))
          → (progress : Progress Kept) → IsAt told h here old progress → Stops told start h progress new (Device refusal)
      of h (acted, refused) (ends, stopped) progress at =
          let why = refused here progress (acted here progress at).1 in
          let there = ends progress at (may-some start progress why.1 why.2) in
          let stops = stopped there.0 there.2 in
          record {
            last = stops.last;
            leads = leads-on (stage_of start) progress there.0 stops.last there.1 stops.leads;
            lines = stops.lines;
            before = stops.before;
            at = stops.at;
            board = stops.board;
            reading = stops.reading;
            by = stops.by;
          }

  -- ---- polls

  module _ (reader : ℕ) (old new : Playing D P)
      (server : new.server ≡ old.server) (reading : new.reading ≡ polled start.given reader (length old.server.board.trace) old.server.board.state old.reading)
      (silent : events_of_poll start.given reader old.server.board.state old.reading.sessions ≡ []) where
    -- a poll is the one of the schedule
    pub polled-at : (h : History) (lines : Lines) (progress : Progress Kept) → IsAt told h lines old progress → IsAt told h lines new (do_poll (stage_of start) progress reader)
    polled-at h lines progress at =
        let sessions : poll_first start.given reader (length progress.trace) progress.state progress.sessions ≡ new.reading.sessions =
        (λ i. poll_first start.given reader (length (at.trace i)) (at.state i) (at.sessions i)) ∙ sym (ap (λ (r : Reading). r.sessions) reading) in
        let none : events_of_poll start.given reader progress.state progress.sessions ≡ [] =
        (λ i. events_of_poll start.given reader (at.state i) (at.sessions i)) ∙ silent in
        let is : do_poll (stage_of start) progress reader ≡ record progress { sessions = new.reading.sessions } =
        (λ i. fold (with_event start.given) (record progress { sessions = sessions i }) (none i)) in
        subst (λ (p : Progress Kept). IsAt told h lines new p) (sym is) (record {
          lines_are = at.lines_are;
          trace = at.trace ∙ sym (ap (λ (s : Serving D P). s.board.trace) server);
          state = at.state ∙ sym (ap (λ (s : Serving D P). s.board.state) server);
          sessions = refl;
          unhalted = at.unhalted;
          calls = at.calls;
          made_are = subst (λ (s : Serving D P). HasMade told h s.engine at.calls progress.engine) (sym server) at.made_are;
          count = at.count;
          synced = at.synced;
          unbroken = ap (λ (s : Serving D P). s.engine.broken) server ∙ at.unbroken;
        })

    pub poll-leads : (done : Bool) (times : ℕ) (later : Lines) → done ≡ has_open reader old.reading.sessions
        → Leads ((step_of.Poll reader, suc times) ∷ later) (cond done ((step_of.Poll reader, times) ∷ later) later) old new
    poll-leads true times later waits = if-all before _ (λ h progress at.
        let here : Lines = (step_of.Poll reader, suc times) ∷ later in
        let more : Lines = (step_of.Poll reader, times) ∷ later in
        let p : Progress Kept = record progress { lines = more } in (
          do_poll (stage_of start) p reader,
          leads-once (stage_of start) progress (do_poll (stage_of start) p reader)
              (next-line (stage_of start) progress (step_of.Poll reader) times later at.lines_are at.unhalted
              ∙ ap (λ (t : Bool). Some (cond t (do_poll (stage_of start) p reader) (record progress { lines = later }))) (ap (has_open reader) at.sessions ∙ sym waits)),
          polled-at h more p (with-lines told h here more old progress at),
        ))
    poll-leads false times later waits = if-all before _ (λ h progress at.
        let here : Lines = (step_of.Poll reader, suc times) ∷ later in
        let p : Progress Kept = record progress { lines = later } in
        let same : old.reading.sessions ≡ new.reading.sessions =
        sym (ap (λ (r : Reading). r.sessions) reading ∙ poll_first-none start.given reader (length old.server.board.trace) old.server.board.state old.reading.sessions (sym waits)) in (
          p,
          leads-once (stage_of start) progress p
              (next-line (stage_of start) progress (step_of.Poll reader) times later at.lines_are at.unhalted
              ∙ ap (λ (t : Bool). Some (cond t (do_poll (stage_of start) (record progress { lines = (step_of.Poll reader, times) ∷ later }) reader) p)) (ap (has_open reader) at.sessions ∙ sym waits)),
          record {
            lines_are = refl;
            trace = at.trace ∙ sym (ap (λ (s : Serving D P). s.board.trace) server);
            state = at.state ∙ sym (ap (λ (s : Serving D P). s.board.state) server);
            sessions = at.sessions ∙ same;
            unhalted = at.unhalted;
            calls = at.calls;
            made_are = subst (λ (s : Serving D P). HasMade told h s.engine at.calls progress.engine) (sym server) at.made_are;
            count = at.count;
            synced = at.synced;
            unbroken = ap (λ (s : Serving D P). s.engine.broken) server ∙ at.unbroken;
          },
        ))
