-- A life over a fuse, as it is told below it.
use Rattle.std.proofs.Common.{◌≡◌, ◌∙◌, ◌+◌, ◌<◌, ◌≤◌, ◌^◌, ◌-◌, ◌⊎◌, ⊎_elim, inl, inr, ℕ, min, Bool, true, false, List, [], ◌∷◌, ◌++◌, Option, Some, None, Result, Ok, Err, IfSome, refl, sym, ap, subst, arith}
use Rattle.std.proofs.lemmas.Option.{same_Some}
use Rattle.std.specs.Option.{ForSome, option_map}
use Rattle.std.specs.Result.{IsOkAnd}
use Rattle.st_disk.specs.Calls.{HasFailed, StoppedIn, ToldStoppedIn, made}
use Rattle.st_disk.specs.Fuse.{Fuse, fuse_of, fused_faults, fused_history, inner_of}
use Rattle.st_disk.specs.History.{Files, History, risen, seen}
use Rattle.st_disk.specs.Moments.{LeavesOnly, ToldLeavesOnly}
use Rattle.st_disk.specs.Recorded.{Call, sync}
use Rattle.st_disk.specs.declared.fused.Fused.{Fused}
use Rattle.st_engine.specs.Answers.{Mounts}
use Rattle.st_board.specs.Base.{Store}
use Rattle.st_core.specs.Server.{Serving}
use Rattle.st_engine.specs.Engine.{Mounted, kept_in}
use Rattle.st_engine.specs.Store.{mount_of}
use Rattle.st_fold.specs.declared.plan.LifePlan.{LifePlan}
use Rattle.st_fold.specs.declared.report.Fault.{Fault}
use Rattle.st_fold.specs.declared.report.Fault.TheVariants as fault
use Rattle.st_fold.specs.declared.report.Life.{Life}
use Rattle.st_key.specs.Spans.{Span, all_keys}
use Rattle.st_life.specs.Ended.{IsCutOff, IsFaultOf, IsLifeOf, IsPlayedOut, is_failure, start_at}
use Rattle.st_life.specs.Play.{Start, start_with}
use Rattle.st_life.specs.Running.{LetsThrough}
use Rattle.st_life.specs.declared.ended.LifeEnded.{LifeEnded}
use Rattle.st_model.specs.State.{Given, Opening}
use Rattle.st_mutation.specs.declared.batch.Batch.{Batch}
use Rattle.st_ptree.specs.Entries.{pairs_of}
use Rattle.st_queue.specs.Mounting.{IsImageOf, IsSyncedOrStopped, after_both, mount_calls}
use Rattle.st_restart.specs.Agreement.{Agrees}
use Rattle.st_restart.specs.Opened.{as_opened, opened, opened_fresh}
use Rattle.st_run.specs.Lived.{IsBegun, IsLivable, IsLived, IsUnbegun, IsUnwritten, LivesOn, ToldUnwritten, start_found, start_of}
use Rattle.st_run.specs.Opening.{IsFault, IsForeign, IsOpenOn}
use Rattle.st_run.specs.declared.opening.Opened.{Opened}
use Rattle.st_run.proofs.Servers.{agreed}

-- ---- the syncs of a mount

abbrev first-of : Call → List Call → Call
first-of other [] = other
first-of other (call ∷ calls) = call

abbrev others-of : List Call → List Call
others-of [] = []
others-of (call ∷ calls) = calls

-- they leave what the files read as, all or some of them
seen-stopped : (old new : History) → StoppedIn mount_calls old new → seen new ≡ seen old
seen-stopped old new stopped = of stopped.carried stopped.failed stopped.rest stopped.parts stopped.left
  where
    of : (carried : List Call) (failed : Call) (rest : List Call) → mount_calls ≡ carried ++ failed ∷ rest → HasFailed failed (made carried old) new → seen new ≡ seen old
    of [] failed rest parts left =
        let is : failed ≡ sync 0 = sym (ap (first-of (sync 0)) parts) in
        ap seen (subst (λ call. HasFailed call old new) is left)
    of (one ∷ []) failed rest parts left =
        let one-is : one ≡ sync 0 = sym (ap (first-of (sync 0)) parts) in
        let is : failed ≡ sync 1 = sym (ap (λ l. first-of (sync 1) (others-of l)) parts) in
        ap seen (subst (λ call. HasFailed call (made (sync 0 ∷ []) old) new) is (subst (λ call. HasFailed failed (made (call ∷ []) old) new) one-is left))
    of (one ∷ two ∷ []) failed rest parts left = absurd (cc (ap (λ l. others-of (others-of l)) parts))
    of (one ∷ two ∷ more ∷ carried) failed rest parts left = absurd (cc (ap (λ l. others-of (others-of l)) parts))

-- ---- below a fuse

module _ {D : Type 0} (told : D → Option History) (old new : Fused D) where
  abbrev over : Fused D → History → History
  over f h = record h { made = f.passed; passes = f.passes }

  -- where nothing was written above it, nothing was below
  pub unwritten-below : IsSyncedOrStopped (fused_history told old) (fused_history told new)
      → ToldLeavesOnly (fused_history told old) (fused_history told new) (IsImageOf (fused_history told old)) → ToldUnwritten (told (inner_of old)) (told (inner_of new))
  unwritten-below came only = of (told (inner_of old)) (told (inner_of new)) came only
    where
      of : (o n : Option History) → IsSyncedOrStopped (option_map (over old) o) (option_map (over new) n)
          → ToldLeavesOnly (option_map (over old) o) (option_map (over new) n) (IsImageOf (option_map (over old) o)) → ToldUnwritten o n
      of None None came only = refl
      of None (Some n) came only = absurd (cc (only))
      of (Some o) None came only = only
      of (Some o) (Some n) came only = record {
        same = ⊎_elim
            (λ synced. ap seen (same_Some (over new n) (after_both (over old o)) synced))
            (λ stopped. seen-stopped (over old o) (over new n) stopped) came;
        images = record { later = only.later; each = only.each; before = only.before };
      }

-- ---- faults

-- a fault above a fuse that counted none yet is one of the disk
count-below : (count now : ℕ) → risen (min (count + 0) (2 ^ 64 - 1)) ≤ now → risen count ≤ now
count-below count now rose = omega (arith, rose)

pub fault-below : {D : Type 0} (count : D → ℕ) (before above : ℕ) (disk : D) (why : Option Fault) → above ≡ min (before + 0) (2 ^ 64 - 1) → IsFaultOf above count disk why → IsFaultOf before count disk why
fault-below count before above disk None is of = tt
fault-below count before above disk (Some (fault.Device faults)) is of =
    (of.0, ⊎_elim (λ rose. inl (count-below before (count disk) (subst (λ n. risen n ≤ count disk) is rose))) (λ least. inr least) of.1)
fault-below count before above disk (Some (fault.Full long limit)) is of = tt
fault-below count before above disk (Some fault.Memory) is of = tt
fault-below count before above disk (Some fault.Words) is of = of
fault-below count before above disk (Some (fault.Script line kind)) is of = of
fault-below count before above disk (Some (fault.Read faults)) is of = of
fault-below count before above disk (Some (fault.Peer faults)) is of = of
fault-below count before above disk (Some (fault.Damaged damage)) is of = of
fault-below count before above disk (Some (fault.Foreign part)) is of = of

pub cause-below : {D : Type 0} (told : D → Option History) (own : List Span) (log : List Batch) (fused : Fused D) (before above now : ℕ) (why : Fault) → above ≡ min (before + 0) (2 ^ 64 - 1)
    → IsFault own log (fused_history told fused) above now why → IsFault own log (told (inner_of fused)) before now why
cause-below told own log fused before above now (fault.Device faults) is of = (of.0, count-below before now (subst (λ n. risen n ≤ now) is of.1))
cause-below told own log fused before above now (fault.Damaged damage) is of = told-below (told (inner_of fused)) of
  where
    told-below : (o : Option History) → IfSome (option_map (λ (h : History). record h { made = fused.passed; passes = fused.passes }) o) (λ h. opened own (seen h) ≡ Err damage) → IfSome o (λ h. opened own (seen h) ≡ Err damage)
    told-below None of = tt
    told-below (Some h) of = of
cause-below told own log fused before above now (fault.Foreign part) is of = told-below (told (inner_of fused)) of
  where
    told-below : (o : Option History) → IfSome (option_map (λ (h : History). record h { made = fused.passed; passes = fused.passes }) o) (λ h. IsOkAnd (opened own (seen h)) (IsForeign own log part)) → IfSome o (λ h. IsOkAnd (opened own (seen h)) (IsForeign own log part))
    told-below None of = tt
    told-below (Some h) of = of
cause-below told own log fused before above now fault.Memory is of = tt
cause-below told own log fused before above now fault.Words is of = of
cause-below told own log fused before above now (fault.Script line kind) is of = of
cause-below told own log fused before above now (fault.Read faults) is of = of
cause-below told own log fused before above now (fault.Peer faults) is of = of
cause-below told own log fused before above now (fault.Full long limit) is of = of

-- ---- what a life begins with

-- the calls that are let through
pub lets-through : (plan : LifePlan) (passed : ℕ) (passes : Option ℕ) (o : Option History) (livable : IsLivable plan)
    → passed ≡ 0 → passes ≡ option_map (λ kill. 2 + kill.0) plan.kill
    → IfSome (option_map after_both (option_map (λ (h : History). record h { made = passed; passes = passes }) o)) (LetsThrough plan)
lets-through plan passed passes None livable none is = tt
lets-through plan passed passes (Some h) livable none is = of plan.kill refl livable.countable
  where
    twice : risen (risen passed) ≡ 2
    twice = ap (λ n. risen (risen n)) none

    of : (kill : Option (ℕ × ℕ)) → plan.kill ≡ kill → IfSome kill (λ k. k.0 < 2 ^ 63) → LetsThrough plan (after_both (record h { made = passed; passes = passes }))
    of None nil few = record {
      passes = is ∙ ap (option_map (λ k. 2 + k.0)) nil ∙ sym (ap (option_map (λ k. risen (risen passed) + k.0)) nil);
      countable = λ n some. absurd (cc (sym some, is, ap (option_map (λ (k : ℕ × ℕ). 2 + k.0)) nil));
    }
    of (Some kill) some few = record {
      passes = is ∙ ap (λ n. option_map (λ k. n + k.0) plan.kill) (sym twice);
      countable = λ n eq.
          let same : 2 + kill.0 ≡ n = same_Some (2 + kill.0) n (sym (is ∙ ap (option_map (λ k. 2 + k.0)) some) ∙ eq) in
          omega (arith, same, few);
    }

-- ---- the life

module _ {D : Type 0} (told : D → Option History) (count : D → ℕ) (given : Given) (plan : LifePlan) (disk : D) (fused : Fused D) (inner : inner_of fused ≡ disk) (passes : Option ℕ) (fuse : fuse_of fused ≡ record { passes = passes; passed = 0; is_blown = false; faults = 0 }) where
  faults-are : fused_faults count fused ≡ min (count disk + 0) (2 ^ 64 - 1)
  faults-are = λ i. min (count (inner i) + (fuse i).faults) (2 ^ 64 - 1)

  -- the store wasn't opened
  pub not-opened : (refused : Fused D) (why : Fault) → IsSyncedOrStopped (fused_history told fused) (fused_history told refused)
      → ToldLeavesOnly (fused_history told fused) (fused_history told refused) (IsImageOf (fused_history told fused))
      → IsFault given.own given.log (fused_history told fused) (fused_faults count fused) (count (inner_of refused)) why
      → IsUnbegun told count given disk (record { life = None; disk = inner_of refused; fault = Some why; log = [] })
  not-opened refused why came only cause = record {
    why = why;
    fault_is = refl;
    cause = subst (λ d. IsFault given.own given.log (told d) (count disk) (count (inner_of refused)) why) inner
        (cause-below told given.own given.log fused (count disk) (fused_faults count fused) (count (inner_of refused)) why faults-are cause);
    unwritten = subst (λ d. ToldUnwritten (told d) (told (inner_of refused))) inner (unwritten-below told fused refused came only);
  }

  module _ (found : Opened (Fused D)) (open-on : IsOpenOn (fused_history told) fused given.own given.log given.settings found)
      (fresh-agrees : Agrees given.own given.log (opened_fresh given.own)) (ended : LifeEnded D)
      (unbegun : ended.life ≡ None → (ended.fault ≡ Some fault.Memory) × (ended.disk ≡ inner_of found.engine.disk)) where
    -- no life was begun over the open store
    pub not-begun : ended.life ≡ None → IsUnbegun told count given disk ended
    not-begun none = record {
      why = fault.Memory;
      fault_is = (unbegun none).0;
      cause = tt;
      unwritten =
          subst (λ d. ToldUnwritten (told disk) (told d)) (sym (unbegun none).1)
          (subst (λ d. ToldUnwritten (told d) (told (inner_of found.engine.disk))) inner
          (unwritten-below told fused found.engine.disk (inl open-on.mounted.synced) open-on.mounted.any_moment));
    }

    -- one was
    pub begun : (all : found.opening.available ≡ all_keys ∷ []) (life : Life) → IsLifeOf told (fused_history told found.engine.disk) (start_found given plan found) ended (Some life)
        → IsFaultOf (fused_faults count found.engine.disk) count ended.disk ended.fault → fused_faults count found.engine.disk ≡ fused_faults count fused → ended.log ≡ given.log
        → IsBegun told count given plan disk ended life
    begun all life is fault-of no_fault log = record {
      is = subst (λ d. IfSome (told d) (λ h. IsLived told given plan (seen h) ended life)) inner
          (of (told (inner_of fused)) open-on.mounted.is open-on.files (subst (λ o. IfSome o (λ h. Lives h)) open-on.mounted.synced is));
      fault = fault-below count (count disk) (fused_faults count found.engine.disk) ended.disk ended.fault (no_fault ∙ faults-are) fault-of;
      log = log;
    }
      where
        Lives : History → Type 0
        Lives h = IsPlayedOut told (start_found given plan found h) ended life ⊎ (is_failure ended.fault ≡ true) × IsCutOff told (start_found given plan found h) ended life

        above : History → History
        above h = record h { made = fused.passed; passes = fused.passes }

        of : (o : Option History) → IfSome (option_map above o) (λ h. mount_of (seen h) ≡ Ok (kept_in (seen h) found.engine))
            → IfSome (option_map above o) (λ h. opened given.own (seen h) ≡ Ok (as_opened found.engine.store.fresh found.opening))
            → IfSome (option_map after_both (option_map above o)) Lives → IfSome o (λ h. IsLived told given plan (seen h) ended life)
        of None mounted opens lives = tt
        of (Some h) mounted opens lives = record {
          start = start_found given plan found (after_both (above h));
          starts = (λ i. start_with given plan (opens i) (mounted i));
          agrees = subst (λ r. IsOkAnd r (Agrees given.own given.log)) (sym opens) (agreed given.own given.log found.engine.store found.opening open-on.opens fresh-agrees);
          all = all;
          lived = lives;
        }

    pub lives-on : (all : found.opening.available ≡ all_keys ∷ []) → (o : Option Life) → ended.life ≡ o → IsLifeOf told (fused_history told found.engine.disk) (start_found given plan found) ended o
        → IsFaultOf (fused_faults count found.engine.disk) count ended.disk ended.fault → fused_faults count found.engine.disk ≡ fused_faults count fused
        → IfSome o (λ life. ended.log ≡ given.log) → LivesOn told count given plan disk ended o
    lives-on all None none is fault-of no_fault log = not-begun none
    lives-on all (Some life) some is fault-of no_fault log = begun all life is fault-of no_fault log

-- what a server begins with is what was found open
pub start-over : {D P : Type 0} (told : Fused D → Option History) (below : D → Option History) (given : Given) (plan : LifePlan) (found : Opened (Fused D)) (opening : Opening) (store : Store) (server : Serving (Fused D) P) (ended : LifeEnded D)
    → server.engine ≡ found.engine → opening ≡ record { version = found.opening.version; available = found.opening.available }
    → store ≡ record { fresh = found.engine.store.fresh; pairs = pairs_of found.opening.base }
    → IsLifeOf below (told server.engine.disk) (start_at given plan opening store.fresh server) ended ended.life
    → IsLifeOf below (told found.engine.disk) (start_found given plan found) ended ended.life
start-over told below given plan found opening store server ended engine named stored is =
    subst (λ (x : Mounted (Fused _) × Opening × Store). IsLifeOf below (told x.0.disk) (λ h. record { given = given; plan = plan; opening = x.1; fresh = x.2.fresh; kept = kept_in (seen h) x.0 }) ended ended.life)
    (λ i. (engine i, named i, stored i)) is
