-- Lines of a schedule, and its closing.
use Rattle.std.proofs.Common.{◌≡◌, ◌∙◌, ◌+◌, ◌-◌, ◌<◌, ◌≤◌, if◌then◌else◌, ℕ, suc, not, Bool, true, false, cond, List, [], ◌∷◌, ◌++◌, length, Option, Some, None, is_none, is_some, Result, Ok, Err, refl, sym, ap, subst, arith, append_assoc}
use Rattle.std.proofs.lemmas.Option.{same_Some}
use Rattle.std.specs.List.{AllByRecursion, find, list_any, range_with_len}
use Rattle.std.specs.Option.{option_map, option_map_or}
use Rattle.st_board.specs.Stands.{all_served}
use Rattle.st_core.specs.Acts.{event_of as event_in, reached_by}
use Rattle.st_core.specs.Driving.{HasMade}
use Rattle.st_core.specs.Server.{Serving}
use Rattle.st_core.specs.declared.refusal.DriveRefusal.{DriveRefusal}
use Rattle.st_core.specs.declared.refusal.DriveRefusal.TheVariants.{Device, NoMemory}
use Rattle.st_disk.specs.History.{History, risen}
use Rattle.st_engine.specs.Engine.{Mounted}
use Rattle.st_engine.specs.Store.{Kept}
use Rattle.st_fold.specs.declared.plan.Act.{Act}
use Rattle.st_fold.specs.declared.plan.Act.TheVariants as act
use Rattle.st_fold.specs.declared.plan.Do.{Do}
use Rattle.st_fold.specs.declared.report.Event.{Event}
use Rattle.st_fold.specs.declared.report.Event.TheVariants.{Applied, Began, Durable}
use Rattle.st_mutation.specs.declared.batch.Batch.{Batch}
use Rattle.st_model.specs.Pieces.{wants_block, wants_fetch}
use Rattle.st_model.specs.Schedule.{Progress, close_on, do_act, do_poll, events_of_poll, has_open, make, next, readers_at_end}
use Rattle.st_model.specs.State.{Given, Opening, State, next_batch}
use Rattle.st_model.specs.Trace.{commit_due, commit_version, due}
use Rattle.st_queue.specs.declared.frame.QueueRefusal.TheVariants as queue
use Rattle.st_life.specs.Play.{Start, stage_of}
use Rattle.st_life.specs.Readers.{Reading, polled}
use Rattle.st_life.specs.Running.{Acts, EngineBehind, IsAt, IsTurnOf, LeadsOn, Playing, PlaysOut, RefusesAct, StopsOn}
use Rattle.st_life.proofs.Leading.{lead-nowhere, lead-on, lead-stops, lead-zero, leads-once, next-close, polled-at, refuse-at}
use Rattle.st_life.proofs.Polls.{poll_first-none, stays_shut}
use Rattle.st_life.proofs.Telling.{if-all, if-map}

-- what is due makes its event, where all keys are served
pub due-some : (given : Given) (state : State) (action : Act) → state.pieces ≡ all_served → due given state ≡ Some action → is_some (event_in given state action) ≡ true
due-some given state action served is = by_flight state.flight refl
  where
    rest : Option Act
    rest = if commit_due given state then Some act.Began
        else (if list_any wants_block state.pieces then Some act.Block
        else (if list_any (wants_fetch state.durable) state.pieces then Some act.Start
        else option_map (λ batch. act.Apply) (next_batch given state)))

    no-pieces : (if list_any wants_block state.pieces then Some act.Block
        else (if list_any (wants_fetch state.durable) state.pieces then Some act.Start
        else option_map (λ batch. act.Apply) (next_batch given state))) ≡ option_map (λ batch. act.Apply) (next_batch given state)
    no-pieces = ap (λ pieces. if list_any wants_block pieces then Some act.Block
        else (if list_any (wants_fetch state.durable) pieces then Some act.Start
        else option_map (λ batch. act.Apply) (next_batch given state))) served

    by_next : (o : Option Batch) → next_batch given state ≡ o → option_map (λ (batch : Batch). act.Apply) o ≡ Some action → is_some (event_in given state action) ≡ true
    by_next None none e = absurd (cc (e))
    by_next (Some batch) some e =
        subst (λ (a : Act). is_some (event_in given state a) ≡ true) (same_Some act.Apply action e)
        (ap (λ (o : Option Batch). is_some (option_map (λ (batch : Batch). Applied batch.version) o)) some)

    by_due : (t : Bool) → commit_due given state ≡ t → (if t then Some act.Began
        else option_map (λ (batch : Batch). act.Apply) (next_batch given state)) ≡ Some action → is_some (event_in given state action) ≡ true
    by_due true some e =
        subst (λ (a : Act). is_some (event_in given state a) ≡ true) (same_Some act.Began action e)
        (ap (λ (t : Bool). is_some (cond t (Some (Began (commit_version given state))) None)) some)
    by_due false none e = by_next (next_batch given state) refl e

    by_flight : (flight : Option Opening) → state.flight ≡ flight → is_some (event_in given state action) ≡ true
    by_flight (Some flight) some =
        let is_durable : Some act.Durable ≡ Some action = sym (ap (λ (o : Option Opening). if not (is_none o) then Some act.Durable else rest) some) ∙ is in
        subst (λ (a : Act). is_some (event_in given state a) ≡ true) (same_Some act.Durable action is_durable)
        (ap (λ (o : Option Opening). is_some (option_map (λ (f : Opening). Durable f.version) o)) some)
    by_flight None none =
        by_due (commit_due given state) refl
        (ap (λ (o : Option Act). if commit_due given state then Some act.Began else o) (sym no-pieces)
        ∙ sym (ap (λ (o : Option Opening). if not (is_none o) then Some act.Durable else rest) none) ∙ is)

abbrev Lines : Type 0
Lines = List (Do × ℕ)

find-after : (test : ℕ → Bool) (first later : List ℕ) → AllByRecursion (λ reader. test reader ≡ false) first → find test (first ++ later) ≡ find test later
find-after test [] later shut = refl
find-after test (reader ∷ first) later shut = rw shut.0 (find-after test first later shut.1)

all-push : {A : Type 0} (Q : A → Type 0) (xs : List A) (x : A) → AllByRecursion Q xs → Q x → AllByRecursion Q (xs ++ x ∷ [])
all-push Q [] x all here = (here, tt)
all-push Q (y ∷ ys) x all here = (all.0, all-push Q ys x all.1 here)

all-map : {A : Type 0} (Q R : A → Type 0) → ((x : A) → Q x → R x) → (xs : List A) → AllByRecursion Q xs → AllByRecursion R xs
all-map Q R f [] all = tt
all-map Q R f (x ∷ xs) all = (f x all.0, all-map Q R f xs all.1)

-- the readers from one on, and those of the end
abbrev pub readers-from : ℕ → List ℕ
readers-from reader = range_with_len reader (65 - reader) ++ 0 ∷ []

pub readers-next : (reader : ℕ) → reader < 65 → readers-from reader ≡ reader ∷ readers-from (reader + 1)
readers-next reader below =
    let count : 65 - reader ≡ suc (65 - (reader + 1)) = omega arith in
    ap (λ n. range_with_len reader n ++ 0 ∷ []) count

pub readers-last : (reader : ℕ) → 65 ≤ reader → readers-from reader ≡ 0 ∷ []
readers-last reader past =
    let count : 65 - reader ≡ 0 = omega arith in
    ap (λ n. range_with_len reader n ++ 0 ∷ []) count

module _ {D P : Type 0} (told : D → Option History) (start : Start) (before : Option History) where
  abbrev Leads : (from to : Lines) → (old new : Playing D P) → Type 0
  Leads from to old new = LeadsOn told start before from to old new

  -- ---- a line

  -- how far a line is after some of its times
  abbrev pub OnLine : Do → (count times : ℕ) → (old now : Playing D P) → Type 0
  OnLine one count times old now = (later : Lines) → Leads ((one, count) ∷ later) ((one, count - times) ∷ later) old now

  pub line-begins : (one : Do) (count : ℕ) (old : Playing D P) → OnLine one count 0 old old
  line-begins one count old later =
      let same : count - 0 ≡ count = omega arith in
      subst (λ n. Leads ((one, count) ∷ later) ((one, n) ∷ later) old old) (sym same) (lead-nowhere told start before ((one, count) ∷ later) old)

  line-step : (one : Do) (count times : ℕ) (done : Bool) (old now new : Playing D P) → times < count → OnLine one count times old now
      → ((times : ℕ) (later : Lines) → Leads ((one, times + 1) ∷ later) (cond done ((one, times) ∷ later) later) now new)
      → (later : Lines) → Leads ((one, count) ∷ later) (cond done ((one, count - (times + 1)) ∷ later) later) old new
  line-step one count times done old now new below on does later =
      let left : count - times ≡ (count - (times + 1)) + 1 = omega arith in
      lead-on told start before _ ((one, (count - (times + 1)) + 1) ∷ later) _ old now new
      (subst (λ n. Leads ((one, count) ∷ later) ((one, n) ∷ later) old now) left (on later)) (does (count - (times + 1)) later)

  -- it was done once more
  pub line-more : (one : Do) (count times : ℕ) (done : Bool) (old now new : Playing D P) → times < count → OnLine one count times old now
      → ((times : ℕ) (later : Lines) → Leads ((one, times + 1) ∷ later) (cond done ((one, times) ∷ later) later) now new) → done ≡ true
      → OnLine one count (times + 1) old new
  line-more one count times done old now new below on does is later =
      subst (λ (t : Bool). Leads ((one, count) ∷ later) (cond t ((one, count - (times + 1)) ∷ later) later) old new) is
      (line-step one count times done old now new below on does later)

  -- it is left
  pub line-left : (one : Do) (count times : ℕ) (done : Bool) (old now new : Playing D P) → times < count → OnLine one count times old now
      → ((times : ℕ) (later : Lines) → Leads ((one, times + 1) ∷ later) (cond done ((one, times) ∷ later) later) now new) → done ≡ false
      → (later : Lines) → Leads ((one, count) ∷ later) later old new
  line-left one count times done old now new below on does is later =
      subst (λ (t : Bool). Leads ((one, count) ∷ later) (cond t ((one, count - (times + 1)) ∷ later) later) old new) is
      (line-step one count times done old now new below on does later)

  -- it was done as often as it says
  pub line-ends : (one : Do) (count times : ℕ) (old now : Playing D P) → count ≤ times → OnLine one count times old now
      → (later : Lines) → Leads ((one, count) ∷ later) later old now
  line-ends one count times old now past on later =
      let none : count - times ≡ 0 = omega arith in
      lead-on told start before _ ((one, 0) ∷ later) _ old now now (subst (λ n. Leads ((one, count) ∷ later) ((one, n) ∷ later) old now) none (on later)) (lead-zero told start before one later now)

  -- it was refused
  pub line-stops : (one : Do) (count times : ℕ) (why : DriveRefusal) (old now new : Playing D P) → times < count → OnLine one count times old now
      → ((times : ℕ) (later : Lines) → StopsOn told start before ((one, times + 1) ∷ later) now new why)
      → (later : Lines) → StopsOn told start before ((one, count) ∷ later) old new why
  line-stops one count times why old now new below on stops later =
      let left : count - times ≡ (count - (times + 1)) + 1 = omega arith in
      lead-stops told start before _ ((one, (count - (times + 1)) + 1) ∷ later) old now new why
      (subst (λ n. Leads ((one, count) ∷ later) ((one, n) ∷ later) old now) left (on later)) (stops (count - (times + 1)) later)

  -- ---- what is due

  pub close-acts : (action : Act) (old new : Playing D P) → due start.given old.server.board.state ≡ Some action → Acts told start before action true old new → Leads [] [] old new
  close-acts action old new is acts = if-map before _ _ (λ h acted progress at.
      let does = acted [] progress at in (
        do_act (stage_of start) progress action,
        leads-once (stage_of start) progress (do_act (stage_of start) progress action)
            (next-close (stage_of start) progress at.lines_are at.unhalted ∙ ap (close_on (stage_of start) progress) (ap (due start.given) at.state ∙ is)),
        does.1,
      )) acts

  pub close-stops : (action : Act) (old new : Playing D P) (why : DriveRefusal) → due start.given old.server.board.state ≡ Some action
      → reached_by new.server.board ≡ reached_by old.server.board → new.reading ≡ old.reading → RefusesAct told start before action old new why → StopsOn told start before [] old new why
  close-stops action old new why is board reading refuses = if-map before _ _ (λ h refused progress at.
      refuse-at told start before h [] action why old new board reading progress at (refused [] progress at)
      (λ event comes durable. (
        [],
        next-close (stage_of start) progress at.lines_are at.unhalted ∙ ap (close_on (stage_of start) progress) (ap (due start.given) at.state ∙ is)
            ∙ ap (λ (a : Act). Some (do_act (stage_of start) progress a)) durable
            ∙ ap (λ (o : Option Event). Some (option_map_or (make (stage_of start) progress act.Durable) o progress)) comes
            ∙ ap (λ (l : Lines). Some (make (stage_of start) (record progress { lines = l }) act.Durable event)) at.lines_are,
      ))) refuses

  -- ---- the polls of the closing

  -- what comes next at rest
  next-at-rest : (now : Playing D P) (readers : List ℕ) → IsTurnOf start.given readers now → (h : History) (progress : Progress Kept) → IsAt told h [] now progress
      → next (stage_of start) progress ≡ option_map (do_poll (stage_of start) progress) (find (λ reader. has_open reader now.reading.sessions) readers)
  next-at-rest now readers turn h progress at =
      next-close (stage_of start) progress at.lines_are at.unhalted ∙ ap (close_on (stage_of start) progress) (ap (due start.given) at.state ∙ turn.rest)
      ∙ ap (option_map (do_poll (stage_of start) progress))
      (ap (λ sessions. find (λ reader. has_open reader sessions) readers_at_end) at.sessions
      ∙ ap (find (λ reader. has_open reader now.reading.sessions)) turn.order ∙ find-after (λ reader. has_open reader now.reading.sessions) turn.polled readers turn.shut)

  -- nothing comes
  pub turns-over : (from : Lines) (old new : Playing D P) → Leads from [] old new → IsTurnOf start.given [] new → PlaysOut told start before from old new
  turns-over from old new leads turn = if-map before _ _ (λ h led progress at.
      let there = led progress at in
      (there.0, there.1, there.2, next-at-rest new [] turn h there.0 there.2)) leads

  -- how far the polls of a reader are
  abbrev pub InTurn : ℕ → (old now : Playing D P) → Type 0
  InTurn reader old now = (later : List ℕ) → IsTurnOf start.given (reader ∷ later) old → Leads [] [] old now × IsTurnOf start.given (reader ∷ later) now

  pub turn-begins : (reader : ℕ) (old : Playing D P) → InTurn reader old old
  turn-begins reader old later turn = (lead-nowhere told start before [] old, turn)

  module _ (reader : ℕ) (old now new : Playing D P) (server : new.server ≡ now.server)
      (reading : new.reading ≡ polled start.given reader (length now.server.board.trace) now.server.board.state now.reading)
      (silent : events_of_poll start.given reader now.server.board.state now.reading.sessions ≡ []) where
    -- one poll more
    pub turn-more : InTurn reader old now → has_open reader now.reading.sessions ≡ true → InTurn reader old new
    turn-more in_turn waits later turn =
        let both = in_turn later turn in
        let there = both.1 in
        let step : Leads [] [] now new = if-all before _ (λ h progress at. (
          do_poll (stage_of start) progress reader,
          leads-once (stage_of start) progress (do_poll (stage_of start) progress reader)
              (next-at-rest now (reader ∷ later) there h progress at
              ∙ ap (λ (t : Bool). option_map (do_poll (stage_of start) progress) (cond t (Some reader) (find (λ r. has_open r now.reading.sessions) later))) waits),
          polled-at told start before reader now new server reading silent h [] progress at,
        )) in (
          lead-on told start before [] [] [] old now new both.0 step,
          record {
            rest = ap (λ (s : Serving D P). due start.given s.board.state) server ∙ there.rest;
            polled = there.polled;
            order = there.order;
            shut = all-map (λ r. has_open r now.reading.sessions ≡ false) (λ r. has_open r new.reading.sessions ≡ false)
                (λ r shut. ap (λ (rs : Reading). has_open r rs.sessions) reading
                ∙ stays_shut start.given reader (length now.server.board.trace) now.server.board.state r now.reading.sessions shut) there.polled there.shut;
          },
        )

    -- the reader has no open request
    pub turn-over : InTurn reader old now → has_open reader now.reading.sessions ≡ false
        → (later : List ℕ) → IsTurnOf start.given (reader ∷ later) old → Leads [] [] old new × IsTurnOf start.given later new
    turn-over in_turn shut later turn =
        let both = in_turn later turn in
        let there = both.1 in
        let same : new.reading.sessions ≡ now.reading.sessions =
        ap (λ (rs : Reading). rs.sessions) reading ∙ poll_first-none start.given reader (length now.server.board.trace) now.server.board.state now.reading.sessions shut in (
          if-map before _ _ (λ h led progress at.
              let behind = led progress at in
              (behind.0, behind.1, still-at h behind.0 same behind.2)) both.0,
          record {
            rest = ap (λ (s : Serving D P). due start.given s.board.state) server ∙ there.rest;
            polled = there.polled ++ reader ∷ [];
            order = there.order ∙ sym (append_assoc there.polled (reader ∷ []) later);
            shut = subst (λ sessions. AllByRecursion (λ r. has_open r sessions ≡ false) (there.polled ++ reader ∷ [])) (sym same)
                (all-push (λ r. has_open r now.reading.sessions ≡ false) there.polled reader there.shut shut);
          },
        )
      where
        still-at : (h : History) (progress : Progress Kept) → new.reading.sessions ≡ now.reading.sessions → IsAt told h [] now progress → IsAt told h [] new progress
        still-at h progress same at = record {
          lines_are = at.lines_are;
          trace = at.trace ∙ sym (ap (λ (s : Serving D P). s.board.trace) server);
          state = at.state ∙ sym (ap (λ (s : Serving D P). s.board.state) server);
          sessions = at.sessions ∙ sym same;
          unhalted = at.unhalted;
          calls = at.calls;
          made_are = subst (λ (s : Serving D P). HasMade told h s.engine at.calls progress.engine) (sym server) at.made_are;
          count = at.count;
          synced = at.synced;
          unbroken = ap (λ (s : Serving D P). s.engine.broken) server ∙ at.unbroken;
        }

  pub all-readers : (old : Playing D P) → due start.given old.server.board.state ≡ None → IsTurnOf start.given (readers-from 1) old
  unfolding readers_at_end
  all-readers old rest = record { rest = rest; polled = []; order = refl; shut = tt }

-- ---- the engine meanwhile

-- nothing failed
pub record IsStill {D : Type 0} (count : D → ℕ) (old new : Mounted D) : Type 0 where
  pub faults : count new.disk ≡ count old.disk
  pub broken : new.broken ≡ old.broken

pub still-here : {D : Type 0} → (count : D → ℕ) (engine : Mounted D) → IsStill count engine engine
still-here count engine = record { faults = refl; broken = refl }

-- what comes behind steps that nothing failed
pub still-then : {D T : Type 0} → (count : D → ℕ) (old mid new : Mounted D) (result : Result T DriveRefusal) → IsStill count old mid → EngineBehind count mid new result → EngineBehind count old new result
still-then count old mid new (Ok done) still behind = (behind.0 ∙ still.faults, behind.1 ∙ still.broken)
still-then count old mid new (Err (Device (queue.DiskFault faults))) still behind = (behind.0, subst (λ n. risen n ≤ count new.disk) still.faults behind.1)
still-then count old mid new (Err (Device (queue.Broken faults))) still behind = sym still.broken ∙ behind
still-then count old mid new (Err (Device (queue.Full long limit))) still behind = tt
still-then count old mid new (Err (Device (queue.Damaged file at))) still behind = behind
still-then count old mid new (Err (Device queue.NoMemory)) still behind = behind
still-then count old mid new (Err NoMemory) still behind = tt

pub still-ok : {D T : Type 0} → (count : D → ℕ) (old mid new : Mounted D) (result : Result T DriveRefusal) (done : T) → result ≡ Ok done → IsStill count old mid → EngineBehind count mid new result → IsStill count old new
still-ok count old mid new result done is still behind =
    let both : EngineBehind {D = _} {T = _} count mid new (Ok done) = subst (EngineBehind count mid new) is behind in
    record { faults = both.0 ∙ still.faults; broken = both.1 ∙ still.broken }
