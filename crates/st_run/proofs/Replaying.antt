-- A run over a disk that tells its history: its lives are demanded, follow their schedules, and leave a disk that opens behind them.
use Rattle.std.proofs.Common.{◌≡◌, ◌∙◌, ◌≤◌, ◌⊎◌, ⊎_elim, inl, inr, ℕ, suc, Bool, true, false, ◌&&◌, bytes_eq, if◌then◌else◌, List, [], ◌∷◌, map, length, Option, Some, None, is_some, is_none, Result, Ok, Err, IfSome, IsTrue, MatchResult, refl, sym, ap, subst, arith}
use Rattle.std.proofs.lemmas.Bool.{false≢true}
use Rattle.std.proofs.lemmas.Option.{same_Some}
use Rattle.std.proofs.lemmas.Slice.Eq.{bytes_eq-Decides}
use Rattle.std.proofs.lemmas.List.Elements.{All-from_recursion}
use Rattle.std.specs.List.{AllByRecursion}
use Rattle.std.specs.Result.{IsOkAnd}
use Rattle.st_disk.specs.History.{Files, History, MayLeave, fresh, seen}
use Rattle.st_engine.specs.Store.{Kept, mount_of}
use Rattle.st_fold.specs.declared.plan.LifePlan.{LifePlan}
use Rattle.st_fold.specs.declared.plan.Script.{Script}
use Rattle.st_fold.specs.declared.report.Damage.{Damage}
use Rattle.st_fold.specs.declared.report.Ending.{Ending}
use Rattle.st_fold.specs.declared.report.Ending.TheVariants as ending
use Rattle.st_fold.specs.declared.report.Fault.{Fault}
use Rattle.st_fold.specs.declared.report.Fault.TheVariants as fault
use Rattle.st_fold.specs.declared.report.ForeignPart.{ForeignPart}
use Rattle.st_fold.specs.declared.report.ForeignPart.TheVariants as part
use Rattle.st_fold.specs.Endings.{status_of}
use Rattle.st_fold.specs.Map.{Map}
use Rattle.st_fold.specs.declared.report.Life.{Life}
use Rattle.st_key.specs.Parts.{least}
use Rattle.st_key.specs.Spans.{all_keys}
use Rattle.st_life.specs.Ended.{IsCutOff, IsFaultOf, IsPlayedOut, OpensBehind, WritesWhole, fault_at, is_failure}
use Rattle.st_life.specs.Leaving.{leaves}
use Rattle.st_life.specs.Play.{Start, stage_of, start_on, start_with}
use Rattle.st_life.specs.declared.ended.LifeEnded.{LifeEnded}
use Rattle.st_model.specs.Report.{AreLives, Begun, HasCause, IsDemanded, MayFollow, MayOpen, MayOpenAfter, ends_life, given_by, is_faulted, lives_of, IsLife}
use Rattle.st_model.specs.Schedule.{BreaksOff, Halt, Plays, blown, ending_by, no_block, past_limit}
use Rattle.st_model.specs.State.{Given, Opening, State}
use Rattle.st_model.specs.Trace.{state_after}
use Rattle.st_queue.specs.Frames.{Damage as Place}
use Rattle.st_restart.specs.After.{OpenBehind, OpenTo}
use Rattle.st_restart.specs.Agreement.{Agrees, first_difference, opening_of}
use Rattle.st_restart.specs.Opened.{opened}
use Rattle.st_restart.specs.Opened.{Opened as Opens}
use Rattle.st_run.specs.Lived.{IsBegun, IsLived, IsUnbegun, IsUnwritten, LivesOn, ToldUnwritten}
use Rattle.st_run.specs.Opening.{IsFault, IsForeign}
use Rattle.st_run.specs.Ran.{LeadsOn, RunsOn}
use Rattle.st_run.specs.Replayed.{AreReplayed, EndsWith, IsLeft, IsOfRun, IsReplayed, OnOpened, OpensAs, Runs}
use Rattle.st_run.specs.declared.lives.Ran.{Ran}
use Rattle.st_run.proofs.Running.{untouched}

-- ---- what a life begins with

abbrev ok-of : {T E : Type 0} → T → Result T E → T
ok-of other (Ok one) = one
ok-of other (Err why) = other

start-parts : (given : Given) (plan : LifePlan) (opens : Result Opens Damage) (mount : Result Kept Place) (start : Start) → start_with given plan opens mount ≡ Ok start
    → (start.given ≡ given) × (start.plan ≡ plan) × IsOkAnd opens (λ one. start.opening ≡ opening_of one)
start-parts given plan (Ok one) (Ok kept) start is =
    (ap (λ r. (ok-of start r).given) (sym is), ap (λ r. (ok-of start r).plan) (sym is), ap (λ r. (ok-of start r).opening) (sym is))
start-parts given plan (Err damage) (Ok kept) start is = cc (is)
start-parts given plan opens (Err place) start is = cc (is)

at-opening : (P : Opening → Type 0) (Q : Opens → Type 0) (opens : Result Opens Damage) (opening : Opening) → IsOkAnd opens (λ one. opening ≡ opening_of one) → IsOkAnd opens (λ one. P (opening_of one) × Q one) → P opening
at-opening P Q (Ok one) opening is may = subst P (sym is) may.0
at-opening P Q (Err damage) opening is may = absurd is

-- ---- faults

failure-cause : (script : Script) (begun : List Begun) (why : Option Fault) → is_failure why ≡ true → HasCause script begun why
failure-cause script begun (Some (fault.Device faults)) is = tt
failure-cause script begun (Some fault.Memory) is = tt
failure-cause script begun None is = tt
failure-cause script begun (Some fault.Words) is = tt
failure-cause script begun (Some (fault.Script line kind)) is = tt
failure-cause script begun (Some (fault.Read faults)) is = tt
failure-cause script begun (Some (fault.Peer faults)) is = absurd (false≢true is)
failure-cause script begun (Some (fault.Damaged damage)) is = tt
failure-cause script begun (Some (fault.Full long limit)) is = tt
failure-cause script begun (Some (fault.Foreign part)) is = tt

failure-ends : (why : Option Fault) → is_failure why ≡ true → ends_life why ≡ true
failure-ends (Some (fault.Device faults)) is = refl
failure-ends (Some fault.Memory) is = refl
failure-ends None is = absurd (false≢true is)
failure-ends (Some fault.Words) is = absurd (false≢true is)
failure-ends (Some (fault.Script line kind)) is = absurd (false≢true is)
failure-ends (Some (fault.Read faults)) is = absurd (false≢true is)
failure-ends (Some (fault.Peer faults)) is = absurd (false≢true is)
failure-ends (Some (fault.Damaged damage)) is = absurd (false≢true is)
failure-ends (Some (fault.Full long limit)) is = absurd (false≢true is)
failure-ends (Some (fault.Foreign part)) is = absurd (false≢true is)

failure-some : (why : Option Fault) → is_failure why ≡ true → (fault : Fault) × (why ≡ Some fault)
failure-some None is = absurd (false≢true is)
failure-some (Some why) is = (why, refl)

both-true : (s t : Bool) → s ≡ true → t ≡ true → (s && t) ≡ true
both-true true t one other = other
both-true false t one other = absurd (false≢true one)

-- what is the log's isn't foreign
first-same : (pairs : Map) → first_difference pairs pairs ≡ None
first-same [] = refl
first-same (pair ∷ pairs) =
    ap (λ (t : Bool). if t then first_difference pairs pairs else Some (least pair.0 pair.0))
    (both-true (bytes_eq pair.0 pair.0) (bytes_eq pair.1 pair.1) ((bytes_eq-Decides pair.0 pair.0).1 refl) ((bytes_eq-Decides pair.1 pair.1).1 refl)) ∙ first-same pairs

pub agrees-or : (script : Script) (one : Opens) (part : ForeignPart) → Agrees script.own script.log one → IsForeign script.own script.log part one → ⊥
agrees-or script one part.Version agrees foreign = absurd (false≢true (sym foreign.1 ∙ agrees.version))
agrees-or script one part.Assigned agrees foreign = foreign.1.other agrees.assigned_is
agrees-or script one (part.Key key) agrees foreign =
    let none = first-same one.base in
    absurd (cc (none, subst (λ (base : Map). first_difference one.base base ≡ Some key) (sym agrees.base) foreign.1.first))

-- files that open to the log's store are neither damaged nor foreign
refused-fails : (script : Script) (P : Opens → Type 0) (h : History) (before now : ℕ) (why : Fault) → IsOkAnd (opened script.own (seen h)) (λ one. P one × Agrees script.own script.log one)
    → IsFault script.own script.log (Some h) before now why → is_failure (Some why) ≡ true
refused-fails script P h before now (fault.Device faults) opens is = refl
refused-fails script P h before now fault.Memory opens is = refl
refused-fails script P h before now (fault.Damaged damage) opens is = absurd (subst (λ r. IsOkAnd r (λ one. P one × Agrees script.own script.log one)) is opens)
refused-fails script P h before now (fault.Foreign part) opens is = absurd (of (opened script.own (seen h)) opens is)
  where
    of : (r : Result Opens Damage) → IsOkAnd r (λ one. P one × Agrees script.own script.log one) → IsOkAnd r (IsForeign script.own script.log part) → ⊥
    of (Ok one) opens is = agrees-or script one part opens.1 is
    of (Err damage) opens is = absurd opens
refused-fails script P h before now fault.Words opens is = absurd is
refused-fails script P h before now (fault.Script line kind) opens is = absurd is
refused-fails script P h before now (fault.Read faults) opens is = absurd is
refused-fails script P h before now (fault.Peer faults) opens is = absurd is
refused-fails script P h before now (fault.Full long limit) opens is = absurd is

-- a life that its schedule ended without a fault didn't fault
unfaulted : (plan : LifePlan) (halt : Option Halt) → fault_at halt ≡ None → is_faulted (ending_by plan halt) ≡ false
unfaulted plan None is = of plan.kill
  where
    of : (kill : Option (ℕ × ℕ)) → is_faulted (if is_none kill then ending.Closed else ending.Killed) ≡ false
    of None = refl
    of (Some kill) = refl
unfaulted plan (Some blown) is = refl
unfaulted plan (Some (past_limit long limit)) is = absurd (cc is)
unfaulted plan (Some no_block) is = absurd (cc is)

-- one that it ended with a fault has a file that is full
full-ends : {D : Type 0} (script : Script) (begun : List Begun) (count : D → ℕ) (before : ℕ) (disk : D) (halt : Option Halt) (why : Fault) → fault_at halt ≡ Some why → IsFaultOf before count disk (Some why)
    → (ends_life (Some why) ≡ true) × HasCause script begun (Some why)
full-ends script begun count before disk None why is of = absurd (cc is)
full-ends script begun count before disk (Some blown) why is of = absurd (cc is)
full-ends script begun count before disk (Some (past_limit long limit)) why is of =
    subst (λ (f : Option Fault). (ends_life f ≡ true) × HasCause script begun f) is (refl, tt)
full-ends script begun count before disk (Some no_block) why is of = absurd (subst (IsFaultOf before count disk) (sym is) of)

-- ---- the lives

module _ {D : Type 0} (told : D → Option History) (count : D → ℕ) (script : Script) (Can : LifePlan → Type 0)
    (always : (disk : D) → is_some (told disk) ≡ true)
    (image : (disk : D) (h : History) → told disk ≡ Some h → MayLeave h (seen h))
    (is-life : (plan : LifePlan) (start : Start) (life : Life) → Can plan → start.given ≡ given_by script plan → start.plan ≡ plan → start.opening.available ≡ all_keys ∷ []
    → Plays (stage_of start) life ⊎ BreaksOff (stage_of start) life → IsLife (given_by script plan) start.opening plan life)
    (state-is : (plan : LifePlan) (start : Start) (life : Life) → Can plan → start.given ≡ given_by script plan → start.plan ≡ plan → start.opening.available ≡ all_keys ∷ []
    → (plays : Plays (stage_of start) life) → state_after (given_by script plan) start.opening life.trace ≡ Some plays.0.state)
    (state-broken : (plan : LifePlan) (start : Start) (life : Life) → Can plan → start.given ≡ given_by script plan → start.plan ≡ plan → start.opening.available ≡ all_keys ∷ []
    → (broken : BreaksOff (stage_of start) life) → state_after (given_by script plan) start.opening life.trace ≡ Some broken.0.state) where
  told-now : (disk : D) → (h : History) × (told disk ≡ Some h)
  told-now disk = of (told disk) refl
    where
      of : (o : Option History) → told disk ≡ o → (h : History) × (told disk ≡ Some h)
      of None none = absurd (false≢true (sym (ap is_some none) ∙ always disk))
      of (Some h) some = (h, some)

  -- whatever a crash leaves opens behind the last life; where none was begun, nothing was written
  abbrev pub LeftBy : (Opening → Type 0) → List Begun → (before now : History) → Type 0
  LeftBy may [] before now = IsUnwritten before now
  LeftBy may (first ∷ later) before now = (images : Files) → MayLeave now images → OpenTo (given_by script first.plan) (MayOpenAfter script may (first ∷ later)) images

  pub record Followed (may : Opening → Type 0) (plans : List LifePlan) (h : History) (ran : Ran D) : Type 0 where
    pub begun : List Begun
    pub lives : ran.lives ≡ lives_of begun
    pub are : AreLives script may plans begun
    pub all : ran.fault ≡ None → length begun ≡ length plans
    pub faulted : AllByRecursion (λ one. is_faulted one.life.ending ≡ true → ends_life ran.fault ≡ true) begun
    pub cause : HasCause script begun ran.fault
    pub now : History
    pub tells : told ran.disk ≡ Some now
    pub replayed : AreReplayed (WritesWhole told) script plans (seen h) ran.lives ran.fault (seen now)
    pub left : LeftBy may begun h now

  abbrev pub OpensBy : (Opening → Type 0) → Files → Type 0
  OpensBy may files = IsOkAnd (opened script.own files) (λ one. may (opening_of one) × Agrees script.own script.log one)

  -- no plan is left
  none-left : (may : Opening → Type 0) (disk : D) (h : History) → told disk ≡ Some h → Followed may [] h (record { lives = []; fault = None; disk = disk })
  none-left may disk h is = record {
    begun = [];
    lives = refl;
    are = tt;
    all = λ none. refl;
    faulted = tt;
    cause = tt;
    now = h;
    tells = is;
    replayed = (refl, refl);
    left = unwritten-same h;
  }
    where
      unwritten-same : (h : History) → IsUnwritten h h
      unwritten-same h = untouched (Some h)

  module _ (plan : LifePlan) (plans : List LifePlan) (may : Opening → Type 0) (before : D) (h : History) (h-is : told before ≡ Some h) (opens : OpensBy may (seen h)) (can : Can plan) (ended : LifeEnded D) where
    -- the life wasn't begun
    unbegun : (o : Option History) → told ended.disk ≡ o → IsUnbegun told count (given_by script plan) before ended
        → Followed may (plan ∷ plans) h (record { lives = []; fault = ended.fault; disk = ended.disk })
    unbegun o is none = record {
      begun = [];
      lives = refl;
      are = tt;
      all = λ e. absurd (cc (e, none.fault_is));
      faulted = tt;
      cause = failure-cause script [] ended.fault fails;
      now = there.0;
      tells = there.1;
      replayed = (fails, left.same);
      left = left;
    }
      where
        fails : is_failure ended.fault ≡ true
        fails =
            ap is_failure none.fault_is
            ∙ refused-fails script (λ one. may (opening_of one)) h (count before) (count ended.disk) none.why opens
            (subst (λ (t : Option History). IsFault script.own script.log t (count before) (count ended.disk) none.why) h-is none.cause)

        there : (n : History) × (told ended.disk ≡ Some n)
        there = told-now ended.disk

        left : IsUnwritten h there.0
        left = subst (λ (t : Option History). ToldUnwritten (Some h) t) there.1 (subst (λ (t : Option History). ToldUnwritten t (told ended.disk)) h-is none.unwritten)

    module _ (life : Life) (lived : IsLived told (given_by script plan) plan (seen h) ended life) (fault-of : IsFaultOf (count before) count ended.disk ended.fault) where
      parts : (lived.start.given ≡ given_by script plan) × (lived.start.plan ≡ plan) × IsOkAnd (opened script.own (seen h)) (λ one. lived.start.opening ≡ opening_of one)
      parts = start-parts (given_by script plan) plan (opened script.own (seen h)) (mount_of (seen h)) lived.start lived.starts

      abbrev first : Begun
      first = record { plan = plan; opening = lived.start.opening; life = life }

      may-first : may lived.start.opening
      may-first = at-opening may (λ one. Agrees script.own script.log one) (opened script.own (seen h)) lived.start.opening parts.2 opens

      abbrev there : (n : History) × (told ended.disk ≡ Some n)
      there = told-now ended.disk

      -- what a crash leaves of the disk opens behind the life
      opens-behind : (state : State) → state_after (given_by script plan) lived.start.opening life.trace ≡ Some state → OpensBehind lived.start state (told ended.disk)
          → (images : Files) → MayLeave there.0 images → OpenTo (given_by script plan) (MayFollow script first) images
      opens-behind state is behind images leaves-it =
          subst (λ (s : Option State). OpenTo (given_by script plan) (MayOpen s) images) (sym is)
          (subst (λ (g : Given). OpenBehind g state images) parts.0
          (subst (λ (t : Option History). OpensBehind lived.start state t) there.1 behind images leaves-it))

      -- it is the last life
      last-life : IsLife (given_by script plan) lived.start.opening plan life → (state : State) → state_after (given_by script plan) lived.start.opening life.trace ≡ Some state
          → OpensBehind lived.start state (told ended.disk) → (why : Fault) → ended.fault ≡ Some why → ends_life (Some why) ≡ true → ((begun : List Begun) → HasCause script begun (Some why))
          → AreReplayed (WritesWhole told) script (plan ∷ plans) (seen h) (life ∷ []) (Some why) (seen there.0)
          → Followed may (plan ∷ plans) h (record { lives = life ∷ []; fault = Some why; disk = ended.disk })
      last-life is state state-there behind why fault-is ends cause replayed = record {
        begun = first ∷ [];
        lives = refl;
        are = (refl, may-first, is, (λ _. refl), tt);
        all = λ e. absurd (cc e);
        faulted = ((λ _. ends), tt);
        cause = cause (first ∷ []);
        now = there.0;
        tells = there.1;
        replayed = replayed;
        left = opens-behind state state-there behind;
      }

      -- later lives follow
      goes-on : (played : IsPlayedOut told lived.start ended life) → fault_at played.plays.0.halt ≡ None
          → (others : Ran D) → Followed (MayFollow script first) plans there.0 others
          → Followed may (plan ∷ plans) h (record others { lives = life ∷ others.lives })
      goes-on played none others later = record {
        begun = first ∷ later.begun;
        lives = ap (λ l. life ∷ l) later.lives;
        are = (refl, may-first, is-life plan lived.start life can parts.0 parts.1 lived.all (inl played.plays), (λ faulted. absurd (false≢true (sym unfaulted-life ∙ faulted))), later.are);
        all = λ e. ap suc (later.all e);
        faulted = ((λ faulted. absurd (false≢true (sym unfaulted-life ∙ faulted))), later.faulted);
        cause = cause-on later.begun others.fault later.cause;
        now = later.now;
        tells = later.tells;
        replayed = (
          lived.start,
          lived.starts,
          inl (
            played.plays,
            seen there.0,
            (λ whole. ap-seen (subst (λ (t : Option History). IfSome t (λ n. n.now ≡ (fresh (leaves lived.start played.plays.0)).now)) there.1 (played.left whole))),
            subst (λ (f : Option Fault). EndsWith f (AreReplayed (WritesWhole told) script plans (seen there.0) others.lives others.fault (seen later.now)) (seen there.0) (seen later.now) others.lives others.fault) (sym none) later.replayed,
          ),
        );
        left = left-by later.begun later.left;
      }
        where
          ending-is : life.ending ≡ ending_by lived.start.plan played.plays.0.halt
          ending-is = ap (λ (l : Life). l.ending) played.plays.3

          unfaulted-life : is_faulted life.ending ≡ false
          unfaulted-life = ap is_faulted ending-is ∙ unfaulted lived.start.plan played.plays.0.halt none

          ap-seen : there.0.now ≡ (fresh (leaves lived.start played.plays.0)).now → seen there.0 ≡ leaves lived.start played.plays.0
          ap-seen is = λ i. ((is i).0.seen, (is i).1.seen)

          cause-on : (begun : List Begun) (why : Option Fault) → HasCause script begun why → HasCause script (first ∷ begun) why
          cause-on begun None cause = tt
          cause-on [] (Some (fault.Peer faults)) cause = absurd cause
          cause-on (next ∷ begun) (Some (fault.Peer faults)) cause = cause
          cause-on begun (Some fault.Words) cause = tt
          cause-on begun (Some (fault.Script line kind)) cause = tt
          cause-on begun (Some (fault.Read faults)) cause = tt
          cause-on begun (Some (fault.Device faults)) cause = tt
          cause-on begun (Some (fault.Damaged damage)) cause = tt
          cause-on begun (Some fault.Memory) cause = tt
          cause-on begun (Some (fault.Full long limit)) cause = tt
          cause-on begun (Some (fault.Foreign foreign)) cause = tt

          behind-life : (images : Files) → MayLeave there.0 images → OpenTo (given_by script plan) (MayFollow script first) images
          behind-life = opens-behind played.plays.0.state (state-is plan lived.start life can parts.0 parts.1 lived.all played.plays) played.opens

          left-by : (begun : List Begun) → LeftBy (MayFollow script first) begun there.0 later.now → LeftBy may (first ∷ begun) h later.now
          left-by [] unwritten = λ images leaves-it. behind-life images (unwritten.images.each images (inl leaves-it))
          left-by (next ∷ begun) left = left

  same-ran : (ran other : Ran D) → ran.lives ≡ other.lives → ran.fault ≡ other.fault → ran.disk ≡ other.disk → other ≡ ran
  same-ran ran other lives why disk = sym (λ i. record { lives = lives i; fault = why i; disk = disk i })

  pub follow : (plans : List LifePlan) (may : Opening → Type 0) (before : D) (h : History) → told before ≡ Some h → OpensBy may (seen h) → AllByRecursion Can plans → (ran : Ran D)
      → RunsOn told count script plans before ran → Followed may plans h ran
  follow [] may before h is opens can ran runs =
      subst (Followed may [] h) (same-ran ran (record { lives = []; fault = None; disk = before }) runs.0 runs.1 runs.2) (none-left may before h is)
  follow (plan ∷ plans) may before h is opens can ran (ended, lives-on, leads) =
      of (λ may before h is opens ran runs. follow plans may before h is opens can.1 ran runs) ended.life refl lives-on leads
    where
      of : ((may : Opening → Type 0) (before : D) (h : History) → told before ≡ Some h → OpensBy may (seen h) → (ran : Ran D) → RunsOn told count script plans before ran → Followed may plans h ran)
          → (o : Option Life) → ended.life ≡ o → LivesOn told count (given_by script plan) plan before ended o
          → LeadsOn (λ others. RunsOn told count script plans ended.disk (record ran { lives = others })) ended ran o ended.fault → Followed may (plan ∷ plans) h ran
      of later None none unbegun-it leads =
          subst (Followed may (plan ∷ plans) h) (same-ran ran (record { lives = []; fault = ended.fault; disk = ended.disk }) leads.0 leads.1 leads.2)
          (unbegun plan plans may before h is opens can.0 ended (told ended.disk) refl unbegun-it)
      of later (Some life) some begun leads = by_fault ended.fault refl leads
        where
          lived : IsLived told (given_by script plan) plan (seen h) ended life
          lived = subst (λ (t : Option History). IfSome t (λ h. IsLived told (given_by script plan) plan (seen h) ended life)) is begun.is

          facts : (lived.start.given ≡ given_by script plan) × (lived.start.plan ≡ plan) × IsOkAnd (opened script.own (seen h)) (λ one. lived.start.opening ≡ opening_of one)
          facts = parts plan plans may before h is opens can.0 ended life lived begun.fault

          now : (n : History) × (told ended.disk ≡ Some n)
          now = told-now ended.disk

          by_fault : (why : Option Fault) → ended.fault ≡ why → LeadsOn (λ others. RunsOn told count script plans ended.disk (record ran { lives = others })) ended ran (Some life) why
              → Followed may (plan ∷ plans) h ran
          by_fault None none leads = ⊎_elim
              (λ played.
              subst (λ l. Followed may (plan ∷ plans) h (record ran { lives = l })) (sym leads.1)
              (goes-on plan plans may before h is opens can.0 ended life lived begun.fault played (sym played.fault_is ∙ none) (record ran { lives = leads.0 })
              (later (MayFollow script (first plan plans may before h is opens can.0 ended life lived begun.fault)) ended.disk
              now.0 now.1
              (opens-behind plan plans may before h is opens can.0 ended life lived begun.fault played.plays.0.state
              (state-is plan lived.start life can.0 facts.0 facts.1 lived.all played.plays) played.opens
              (seen now.0)
              (image ended.disk now.0 now.1))
              (record ran { lives = leads.0 }) leads.2)))
              (λ cut. absurd (false≢true (sym (ap is_failure none) ∙ cut.0))) lived.lived
          by_fault (Some why) is-why leads =
              subst (Followed may (plan ∷ plans) h) (same-ran ran (record { lives = life ∷ []; fault = Some why; disk = ended.disk }) leads.0 leads.1 leads.2) (⊎_elim
              (λ played.
              let full = (λ (begun-too : List Begun). full-ends script begun-too count (count before) ended.disk played.plays.0.halt why (sym played.fault_is ∙ is-why) (subst (IsFaultOf (count before) count ended.disk) is-why begun.fault)) in
              last-life plan plans may before h is opens can.0 ended life lived begun.fault
              (is-life plan lived.start life can.0 facts.0 facts.1 lived.all (inl played.plays)) played.plays.0.state
              (state-is plan lived.start life can.0 facts.0 facts.1 lived.all played.plays) played.opens why is-why (full []).0 (λ begun-too. (full begun-too).1) (
                lived.start,
                lived.starts,
                inl (
                  played.plays,
                  seen now.0,
                  left-of played now.0 now.1,
                  subst (λ (f : Option Fault). EndsWith f (AreReplayed (WritesWhole told) script plans (seen now.0) [] (Some why) (seen now.0)) (seen now.0) (seen now.0) [] (Some why)) (sym (sym played.fault_is ∙ is-why)) (refl, refl, refl),
                ),
              ))
              (λ cut.
              last-life plan plans may before h is opens can.0 ended life lived begun.fault
              (is-life plan lived.start life can.0 facts.0 facts.1 lived.all (inr cut.1.broken)) cut.1.broken.0.state
              (state-broken plan lived.start life can.0 facts.0 facts.1 lived.all cut.1.broken) cut.1.opens why is-why
              (failure-ends (Some why) (ap is_failure (sym is-why) ∙ cut.0)) (λ begun-too. failure-cause script begun-too (Some why) (ap is_failure (sym is-why) ∙ cut.0)) (
                lived.start,
                lived.starts,
                inr (cut.1.broken, refl, ap is_failure (sym is-why) ∙ cut.0),
              )) lived.lived)
            where
              left-of : (played : IsPlayedOut told lived.start ended life) (n : History) → told ended.disk ≡ Some n → WritesWhole told → seen n ≡ leaves lived.start played.plays.0
              left-of played n is-n whole =
                  let same = subst (λ (t : Option History). IfSome t (λ n. n.now ≡ (fresh (leaves lived.start played.plays.0)).now)) is-n (played.left whole) in
                  λ i. ((same i).0.seen, (same i).1.seen)

-- ---- the run

abbrev no-lives : List Life
no-lives = []

zero-none : (why : Option Fault) → status_of why ≡ 0 → why ≡ None
zero-none None is = refl
zero-none (Some fault.Words) is = cc (is)
zero-none (Some (fault.Script line kind)) is = cc (is)
zero-none (Some (fault.Read faults)) is = cc (is)
zero-none (Some (fault.Device faults)) is = cc (is)
zero-none (Some (fault.Peer faults)) is = cc (is)
zero-none (Some (fault.Damaged damage)) is = cc (is)
zero-none (Some fault.Memory) is = cc (is)
zero-none (Some (fault.Full long limit)) is = cc (is)
zero-none (Some (fault.Foreign part)) is = cc (is)

module _ {D : Type 0} (told : D → Option History) (count : D → ℕ) (script : Script) (Can : LifePlan → Type 0)
    (always : (disk : D) → is_some (told disk) ≡ true)
    (image : (disk : D) (h : History) → told disk ≡ Some h → MayLeave h (seen h))
    (is-life : (plan : LifePlan) (start : Start) (life : Life) → Can plan → start.given ≡ given_by script plan → start.plan ≡ plan → start.opening.available ≡ all_keys ∷ []
    → Plays (stage_of start) life ⊎ BreaksOff (stage_of start) life → IsLife (given_by script plan) start.opening plan life)
    (state-is : (plan : LifePlan) (start : Start) (life : Life) → Can plan → start.given ≡ given_by script plan → start.plan ≡ plan → start.opening.available ≡ all_keys ∷ []
    → (plays : Plays (stage_of start) life) → state_after (given_by script plan) start.opening life.trace ≡ Some plays.0.state)
    (state-broken : (plan : LifePlan) (start : Start) (life : Life) → Can plan → start.given ≡ given_by script plan → start.plan ≡ plan → start.opening.available ≡ all_keys ∷ []
    → (broken : BreaksOff (stage_of start) life) → state_after (given_by script plan) start.opening life.trace ≡ Some broken.0.state)
    (no-life : (script : Script) (opening : Opening) (why : Fault) → HasCause script [] (Some why) → IsDemanded script opening (status_of (Some why)) (Some why) [])
    (can : AllByRecursion Can script.lives) (disk : D) (h : History) (h-is : told disk ≡ Some h) (ran : Ran D) where
  -- no life was begun, by a fault that isn't one of the source of fetches
  refused : (why : Fault) → ran.lives ≡ [] → ran.fault ≡ Some why → HasCause script [] (Some why) → ToldUnwritten (told disk) (told ran.disk)
      → IsReplayed (WritesWhole told) script (seen h) [] (Some why) (seen (told-now told count script Can always image is-life state-is state-broken ran.disk).0) → Runs told script h ran
  refused why none fault-is cause unwritten replayed =
      let now = told-now told count script Can always image is-life state-is state-broken ran.disk in
      record {
        opening = record { version = 0; available = [] };
        begun = [];
        lives = none;
        opens = tt;
        demanded = subst (λ (f : Option Fault). IsDemanded script (record { version = 0; available = [] }) (status_of f) f []) (sym fault-is) (no-life script (record { version = 0; available = [] }) why cause);
        now = now.0;
        tells = now.1;
        replayed = subst (λ f. IsReplayed (WritesWhole told) script (seen h) ran.lives f (seen now.0)) (sym fault-is) (subst (λ l. IsReplayed (WritesWhole told) script (seen h) l (Some why) (seen now.0)) (sym none) replayed);
        left = subst (λ (t : Option History). ToldUnwritten (Some h) t) now.1 (subst (λ (t : Option History). ToldUnwritten t (told ran.disk)) h-is unwritten);
      }

  -- the files open to the log's store
  agreed-runs : (one : Opens) → opened script.own (seen h) ≡ Ok one → Agrees script.own script.log one → RunsOn told count script script.lives disk ran → Runs told script h ran
  agreed-runs one is agrees runs = record {
    opening = opening_of one;
    begun = followed.begun;
    lives = followed.lives;
    opens = opens-as followed.begun;
    demanded = record {
      lives_are = followed.are;
      all_lives = λ zero. followed.all (zero-none ran.fault zero);
      status_is = refl;
      faulted = All-from_recursion (λ (begun : Begun). is_faulted begun.life.ending ≡ true → ends_life ran.fault ≡ true) followed.begun followed.faulted;
      cause = followed.cause;
    };
    now = followed.now;
    tells = followed.tells;
    replayed = inl (subst (λ r. MatchResult r (λ one. OnOpened (WritesWhole told) script (seen h) one ran.lives ran.fault (seen followed.now)) (λ damage. (ran.lives ≡ []) × (ran.fault ≡ Some (fault.Damaged damage))))
        (sym is) (inl (agrees, followed.replayed)));
    left = left-is followed.begun followed.left;
  }
    where
      followed : Followed told count script Can always image is-life state-is state-broken (λ first. first ≡ opening_of one) script.lives h ran
      followed = follow told count script Can always image is-life state-is state-broken script.lives (λ first. first ≡ opening_of one) disk h h-is
          (subst (λ r. IsOkAnd r (λ other. (opening_of other ≡ opening_of one) × Agrees script.own script.log other)) (sym is) (refl, agrees)) can ran runs

      opens-as : (begun : List Begun) → OpensAs script (seen h) (opening_of one) begun
      opens-as [] = tt
      opens-as (head ∷ later) = subst (λ r. IsOkAnd r (λ other. (opening_of other ≡ opening_of one) × Agrees script.own script.log other)) (sym is) (refl, agrees)

      left-is : (begun : List Begun) → LeftBy told count script Can always image is-life state-is state-broken (λ first. first ≡ opening_of one) begun h followed.now → IsLeft script (opening_of one) begun (Some h) (Some followed.now)
      left-is [] left = left
      left-is (head ∷ later) left = left

  pub runs-told : (plan : LifePlan) (plans : List LifePlan) → script.lives ≡ plan ∷ plans → RunsOn told count script script.lives disk ran → Runs told script h ran
  runs-told plan plans is runs = by_opening (opened script.own (seen h)) refl
    where
      first : RunsOn told count script (plan ∷ plans) disk ran
      first = subst (λ (l : List LifePlan). RunsOn told count script l disk ran) is runs

      ended : LifeEnded D
      ended = first.0

      now : (n : History) × (told ran.disk ≡ Some n)
      now = told-now told count script Can always image is-life state-is state-broken ran.disk

      Leads : Option Life → Type 0
      Leads o = LeadsOn (λ others. RunsOn told count script plans ended.disk (record ran { lives = others })) ended ran o ended.fault

      -- where none was begun
      none-begun : (Leads None) → (none : IsUnbegun told count (given_by script plan) disk ended)
          → (HasCause script [] (Some none.why)) → IsReplayed (WritesWhole told) script (seen h) [] (Some none.why) (seen now.0) → Runs told script h ran
      none-begun leads none cause replayed =
          refused none.why leads.0 (leads.1 ∙ none.fault_is) cause (subst (λ (d : D). ToldUnwritten (told disk) (told d)) (sym leads.2) none.unwritten) replayed

      fails : (none : IsUnbegun told count (given_by script plan) disk ended) → Leads None → is_failure (Some none.why) ≡ true → Runs told script h ran
      fails none leads is = none-begun leads none (failure-cause script [] (Some none.why) is) (inr (refl, is))

      by_opening : (r : Result Opens Damage) → opened script.own (seen h) ≡ r → Runs told script h ran
      by_opening (Err damage) err = of ended.life refl first.1 first.2
        where
          of : (o : Option Life) → ended.life ≡ o → LivesOn told count (given_by script plan) plan disk ended o → Leads o → Runs told script h ran
          of (Some life) some begun leads =
              let lived = subst (λ (t : Option History). IfSome t (λ h. IsLived told (given_by script plan) plan (seen h) ended life)) h-is begun.is in
              absurd (subst (λ r. IsOkAnd r (Agrees script.own script.log)) err lived.agrees)
          of None nil none leads = by_why none.why refl (subst (λ (t : Option History). IsFault script.own script.log t (count disk) (count ended.disk) none.why) h-is none.cause)
            where
              by_why : (why : Fault) → none.why ≡ why → IsFault script.own script.log (Some h) (count disk) (count ended.disk) why → Runs told script h ran
              by_why (fault.Device faults) why-is cause = fails none leads (ap (λ f. is_failure (Some f)) why-is)
              by_why fault.Memory why-is cause = fails none leads (ap (λ f. is_failure (Some f)) why-is)
              by_why (fault.Damaged found) why-is cause =
                  none-begun leads none (subst (λ f. HasCause script [] (Some f)) (sym why-is) tt)
                  (subst (λ f. IsReplayed (WritesWhole told) script (seen h) [] (Some f) (seen now.0)) (sym why-is)
                  (inl (subst (λ r. MatchResult r (λ one. OnOpened (WritesWhole told) script (seen h) one [] (Some (fault.Damaged found)) (seen now.0)) (λ damage. (no-lives ≡ []) × (Some (fault.Damaged found) ≡ Some (fault.Damaged damage)))) (sym cause) (refl, refl))))
              by_why (fault.Foreign part) why-is cause = absurd (subst (λ r. IsOkAnd r (IsForeign script.own script.log part)) err cause)
              by_why fault.Words why-is cause = absurd cause
              by_why (fault.Script line kind) why-is cause = absurd cause
              by_why (fault.Read faults) why-is cause = absurd cause
              by_why (fault.Peer faults) why-is cause = absurd cause
              by_why (fault.Full long limit) why-is cause = absurd cause
      by_opening (Ok one) ok = of ended.life refl first.1 first.2
        where
          of : (o : Option Life) → ended.life ≡ o → LivesOn told count (given_by script plan) plan disk ended o → Leads o → Runs told script h ran
          of (Some life) some begun leads =
              let lived = subst (λ (t : Option History). IfSome t (λ h. IsLived told (given_by script plan) plan (seen h) ended life)) h-is begun.is in
              agreed-runs one ok (subst (λ r. IsOkAnd r (Agrees script.own script.log)) ok lived.agrees) runs
          of None nil none leads = by_why none.why refl (subst (λ (t : Option History). IsFault script.own script.log t (count disk) (count ended.disk) none.why) h-is none.cause)
            where
              by_why : (why : Fault) → none.why ≡ why → IsFault script.own script.log (Some h) (count disk) (count ended.disk) why → Runs told script h ran
              by_why (fault.Device faults) why-is cause = fails none leads (ap (λ f. is_failure (Some f)) why-is)
              by_why fault.Memory why-is cause = fails none leads (ap (λ f. is_failure (Some f)) why-is)
              by_why (fault.Damaged found) why-is cause = absurd (cc (sym ok ∙ cause))
              by_why (fault.Foreign part) why-is cause =
                  none-begun leads none (subst (λ f. HasCause script [] (Some f)) (sym why-is) tt)
                  (subst (λ f. IsReplayed (WritesWhole told) script (seen h) [] (Some f) (seen now.0)) (sym why-is)
                  (inl (subst (λ r. MatchResult r (λ one. OnOpened (WritesWhole told) script (seen h) one [] (Some (fault.Foreign part)) (seen now.0)) (λ damage. (no-lives ≡ []) × (Some (fault.Foreign part) ≡ Some (fault.Damaged damage)))) (sym ok)
                  (inr (part, subst (λ r. IsOkAnd r (IsForeign script.own script.log part)) ok cause, refl, refl)))))
              by_why fault.Words why-is cause = absurd cause
              by_why (fault.Script line kind) why-is cause = absurd cause
              by_why (fault.Read faults) why-is cause = absurd cause
              by_why (fault.Peer faults) why-is cause = absurd cause
              by_why (fault.Full long limit) why-is cause = absurd cause

-- ---- faults of the disk

-- one of the disk is above what no disk counts less than
pub of-run : {D : Type 0} (told : D → Option History) (count : D → ℕ) (script : Script) (least : ℕ) (every : (disk : D) → least ≤ count disk) (plans : List LifePlan) (before : D) (ran : Ran D)
    → RunsOn told count script plans before ran → IsOfRun least (count ran.disk) ran.fault
of-run told count script least every [] before ran runs = subst (IsOfRun least (count ran.disk)) (sym runs.1) tt
of-run {D = D} told count script least every (plan ∷ plans) before ran (ended, lives-on, leads) =
    of (λ before ran runs. of-run told count script least every plans before ran runs) ended.life refl lives-on leads
  where
    here : (why : Option Fault) → ran.fault ≡ why → ran.disk ≡ ended.disk → IsOfRun least (count ended.disk) why → IsOfRun least (count ran.disk) ran.fault
    here why is disk of = subst (λ d. IsOfRun least (count d) ran.fault) (sym disk) (subst (IsOfRun least (count ended.disk)) (sym is) of)

    unbegun-of : (why : Fault) → IsFault script.own script.log (told before) (count before) (count ended.disk) why → IsOfRun least (count ended.disk) (Some why)
    unbegun-of (fault.Device faults) cause = let low = every before in (cause.0, let e = cause.1 in omega (arith, low, e))
    unbegun-of fault.Memory cause = tt
    unbegun-of (fault.Damaged found) cause = tt
    unbegun-of (fault.Foreign part) cause = tt
    unbegun-of fault.Words cause = absurd cause
    unbegun-of (fault.Script line kind) cause = absurd cause
    unbegun-of (fault.Read faults) cause = absurd cause
    unbegun-of (fault.Peer faults) cause = absurd cause
    unbegun-of (fault.Full long limit) cause = absurd cause

    begun-of : (why : Option Fault) → IsFaultOf (count before) count ended.disk why → IsOfRun least (count ended.disk) why
    begun-of None of = tt
    begun-of (Some (fault.Device faults)) of = (of.0, ⊎_elim (λ rose. let low = every before in omega (arith, low, rose)) (λ above. above least every) of.1)
    begun-of (Some fault.Memory) of = tt
    begun-of (Some (fault.Damaged found)) of = absurd of
    begun-of (Some (fault.Foreign part)) of = absurd of
    begun-of (Some fault.Words) of = absurd of
    begun-of (Some (fault.Script line kind)) of = absurd of
    begun-of (Some (fault.Read faults)) of = absurd of
    begun-of (Some (fault.Peer faults)) of = absurd of
    begun-of (Some (fault.Full long limit)) of = tt

    of : ((before : D) (ran : Ran D) → RunsOn told count script plans before ran → IsOfRun least (count ran.disk) ran.fault) → (o : Option Life) → ended.life ≡ o → LivesOn told count (given_by script plan) plan before ended o
        → LeadsOn (λ others. RunsOn told count script plans ended.disk (record ran { lives = others })) ended ran o ended.fault → IsOfRun least (count ran.disk) ran.fault
    of later None nil none leads = here ended.fault leads.1 leads.2 (subst (IsOfRun least (count ended.disk)) (sym none.fault_is) (unbegun-of none.why none.cause))
    of later (Some life) some begun leads = by_fault ended.fault refl leads
      where
        by_fault : (why : Option Fault) → ended.fault ≡ why → LeadsOn (λ others. RunsOn told count script plans ended.disk (record ran { lives = others })) ended ran (Some life) why
            → IsOfRun least (count ran.disk) ran.fault
        by_fault None is leads = later ended.disk (record ran { lives = leads.0 }) leads.2
        by_fault (Some why) is leads = here (Some why) leads.1 leads.2 (begun-of (Some why) (subst (IsFaultOf (count before) count ended.disk) is begun.fault))

-- ---- below a disk

-- less is promised where less is asked
replayed-where : (P Q : Type 0) (script : Script) (plans : List LifePlan) (before : Files) (lives : List Life) (why : Option Fault) (behind : Files) → (Q → P)
    → AreReplayed P script plans before lives why behind → AreReplayed Q script plans before lives why behind
replayed-where P Q script plans before [] why behind leads replayed = replayed
replayed-where P Q script [] before (life ∷ lives) why behind leads replayed = replayed
replayed-where P Q script (plan ∷ plans) before (life ∷ lives) why behind leads (start, starts, lived) = (
  start,
  starts,
  ⊎_elim
      (λ played. inl (played.0, played.1, (λ q. played.2 (leads q)), ends (λ left more. replayed-where P Q script plans left lives why behind leads more) (fault_at played.0.0.halt) played.1 played.3))
      (λ broken. inr broken) lived,
)
  where
    ends : ((left : Files) → AreReplayed P script plans left lives why behind → AreReplayed Q script plans left lives why behind) → (o : Option Fault) (left : Files) → EndsWith o (AreReplayed P script plans left lives why behind) left behind lives why
        → EndsWith o (AreReplayed Q script plans left lives why behind) left behind lives why
    ends more None left later = more left later
    ends more (Some full) left last = last

-- what a run over a disk is of the disk below it
pub runs-below : {D E : Type 0} (told : D → Option History) (above : E → Option History) (below : E → D) → ((e : E) → above e ≡ told (below e))
    → (script : Script) (h : History) (ran : Ran E) → Runs above script h ran → Runs told script h (record { lives = ran.lives; fault = ran.fault; disk = below ran.disk })
runs-below told above below same script h ran runs = record {
  opening = runs.opening;
  begun = runs.begun;
  lives = runs.lives;
  opens = runs.opens;
  demanded = runs.demanded;
  now = runs.now;
  tells = sym (same ran.disk) ∙ runs.tells;
  replayed = ⊎_elim
      (λ opened-so. inl (of (opened script.own (seen h)) opened-so))
      (λ failed. inr failed) runs.replayed;
  left = runs.left;
}
  where
    leads : WritesWhole told → WritesWhole above
    leads whole e n is = whole (below e) n (sym (same e) ∙ is)

    of : (r : Result Opens Damage)
        → MatchResult r (λ one. OnOpened (WritesWhole above) script (seen h) one ran.lives ran.fault (seen runs.now)) (λ damage. (ran.lives ≡ []) × (ran.fault ≡ Some (fault.Damaged damage)))
        → MatchResult r (λ one. OnOpened (WritesWhole told) script (seen h) one ran.lives ran.fault (seen runs.now)) (λ damage. (ran.lives ≡ []) × (ran.fault ≡ Some (fault.Damaged damage)))
    of (Ok one) on-opened = ⊎_elim
        (λ agreed. inl (agreed.0, replayed-where (WritesWhole above) (WritesWhole told) script script.lives (seen h) ran.lives ran.fault (seen runs.now) leads agreed.1))
        (λ foreign. inr foreign) on-opened
    of (Err damage) refused = refused
