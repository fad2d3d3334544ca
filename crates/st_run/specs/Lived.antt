-- One life on a disk, from the opening of its store on.
use Rattle.std.specs.Prelude.{◌≡◌, ◌≤◌, ◌<◌, ◌^◌, ◌⊎◌, ℕ, true, List, [], ◌∷◌, Option, Some, None, Result, Ok, IfSome}
use Rattle.std.specs.List.{AllByRecursion}
use Rattle.std.specs.Result.{IsOkAnd}
use Rattle.st_board.specs.Logs.{HasShortKey}
use Rattle.st_demand.specs.Serving.{IsServablePlan}
use Rattle.st_disk.specs.History.{Files, History, seen}
use Rattle.st_disk.specs.Moments.{ToldLeavesOnly}
use Rattle.st_engine.specs.Engine.{kept_in}
use Rattle.st_engine.specs.Store.{mount_of}
use Rattle.st_fold.specs.Plain.{Rises}
use Rattle.st_fold.specs.declared.plan.LifePlan.{LifePlan}
use Rattle.st_fold.specs.declared.plan.Settings.{Settings}
use Rattle.st_fold.specs.declared.report.Damage.{Damage}
use Rattle.st_fold.specs.declared.report.Fault.{Fault}
use Rattle.st_fold.specs.declared.report.Life.{Life}
use Rattle.st_key.specs.Spans.{Span, all_keys}
use Rattle.st_life.specs.Ended.{IsCutOff, IsFaultOf, IsPlayedOut, is_failure}
use Rattle.st_life.specs.Play.{Start, start_with}
use Rattle.st_life.specs.Readers.{AreAskable}
use Rattle.st_life.specs.declared.ended.LifeEnded.{LifeEnded}
use Rattle.st_model.specs.State.{Given}
use Rattle.st_mutation.specs.declared.batch.Batch.{Batch}
use Rattle.st_queue.specs.Mounting.{IsImageOf}
use Rattle.st_restart.specs.Agreement.{Agrees}
use Rattle.st_restart.specs.Opened.{opened}
use Rattle.st_run.specs.declared.opening.Opened.{Opened as Found}
use Rattle.st_run.specs.Opening.{IsFault}

-- What a server is given that owns all keys and moves none, with settings that a store takes.
pub record OwnsAll (settings : Settings) (own : List Span) (log : List Batch) : Type 0 where
  pub patient : 1 ≤ settings.patience
  pub swap : settings.swap ≤ 2 ^ 30
  pub limit : settings.limit ≤ 2 ^ 30
  pub all : own ≡ all_keys ∷ []
  pub rises : Rises 0 log
  pub no_moves : AllByRecursion (λ batch. batch.moves ≡ []) log
  pub short : AllByRecursion (λ batch. AllByRecursion HasShortKey batch.mutations) log

-- a life that such a server can serve, whose requests can be asked, and that is killed, if at all, after a number of calls that can
-- be counted
pub record IsLivable (plan : LifePlan) : Type 0 where
  pub servable : IsServablePlan plan
  pub askable : AreAskable plan
  pub countable : IfSome plan.kill (λ kill. kill.0 < 2 ^ 63)

-- what a life of a script is given
abbrev pub given_of : Settings → List Span → List Batch → LifePlan → Given
given_of settings own log plan = record { log = log; upto = plan.upto; own = own; settings = settings }

-- the life of a plan on files
abbrev pub start_of : Given → LifePlan → Files → Result Start Damage
start_of given plan files = start_with given plan (opened given.own files) (mount_of files)

-- the same of a store that was found open, over a disk with this history
abbrev pub start_found : {D : Type 0} → Given → LifePlan → Found D → History → Start
start_found given plan found h = record {
  given = given;
  plan = plan;
  opening = record { version = found.opening.version; available = found.opening.available };
  fresh = found.engine.store.fresh;
  kept = kept_in (seen h) found.engine;
}

-- A life that was begun on files: they open so, as a store of the log, and it is the one of its schedule and the closing, to their
-- end or up to a failure.
pub record IsLived {D : Type 0} (told : D → Option History) (given : Given) (plan : LifePlan) (files : Files) (ended : LifeEnded D) (life : Life) : Type 0 where
  pub start : Start
  pub starts : start_of given plan files ≡ Ok start
  pub agrees : IsOkAnd (opened given.own files) (Agrees given.own given.log)
  pub all : start.opening.available ≡ all_keys ∷ []
  pub lived : IsPlayedOut told start ended life ⊎ (is_failure ended.fault ≡ true) × IsCutOff told start ended life

-- Nothing was written meanwhile: the files read as they did, and a crash leaves what one might have left before.
pub record IsUnwritten (old new : History) : Type 0 where
  pub same : seen new ≡ seen old
  pub images : ToldLeavesOnly (Some old) (Some new) (IsImageOf (Some old))

-- the same of a disk that may not tell its history
abbrev pub ToldUnwritten : (old new : Option History) → Type 0
ToldUnwritten None new = new ≡ None
ToldUnwritten (Some old) None = ⊥
ToldUnwritten (Some old) (Some new) = IsUnwritten old new

-- No life was begun: the store didn't open, or memory was wanting.
pub record IsUnbegun {D : Type 0} (told : D → Option History) (count : D → ℕ) (given : Given) (before : D) (ended : LifeEnded D) : Type 0 where
  pub why : Fault
  pub fault_is : ended.fault ≡ Some why
  pub cause : IsFault given.own given.log (told before) (count before) (count ended.disk) why
  pub unwritten : ToldUnwritten (told before) (told ended.disk)

-- A life was begun, and its log comes back.
pub record IsBegun {D : Type 0} (told : D → Option History) (count : D → ℕ) (given : Given) (plan : LifePlan) (before : D) (ended : LifeEnded D) (life : Life) : Type 0 where
  pub is : IfSome (told before) (λ h. IsLived told given plan (seen h) ended life)
  pub fault : IsFaultOf (count before) count ended.disk ended.fault
  pub log : ended.log ≡ given.log

abbrev pub LivesOn : {D : Type 0} → (told : D → Option History) → (count : D → ℕ) → Given → LifePlan → (before : D) → LifeEnded D → Option Life → Type 0
LivesOn told count given plan before ended None = IsUnbegun told count given before ended
LivesOn told count given plan before ended (Some life) = IsBegun told count given plan before ended life
