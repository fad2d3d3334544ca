-- What acts make of a server and of its files.
use Rattle.std.specs.Prelude.{◌≡◌, ℕ, Bool, List, [], ◌∷◌, ◌++◌, fold, is_some, Option, Some, None, Result, Ok, Err, IfSome, IsTrue}
use Rattle.st_board.specs.Stands.{Standing}
use Rattle.st_core.specs.Acts.{Reached, act_on, event_of, reached_by, to}
use Rattle.st_core.specs.Refusing.{IsRefused, IsWell}
use Rattle.st_core.specs.Server.{Serving}
use Rattle.st_core.specs.declared.refusal.DriveRefusal.{DriveRefusal}
use Rattle.st_course.specs.Course.{job_after}
use Rattle.st_course.specs.declared.job.CommitJob.{CommitJob}
use Rattle.st_disk.specs.Calls.{made}
use Rattle.st_disk.specs.History.{History, seen}
use Rattle.st_disk.specs.Recorded.{Call}
use Rattle.st_engine.specs.Commit.{Done, Past, Refused, commit_of}
use Rattle.st_engine.specs.Engine.{Mounted, kept_in}
use Rattle.st_engine.specs.Store.{Bounds, Kept}
use Rattle.st_fold.specs.declared.plan.Act.{Act}
use Rattle.st_fold.specs.declared.plan.Act.TheVariants as act
use Rattle.st_model.specs.State.{Given, Opening}

-- How far a server is: where its life is, the store in its files, the calls that were made of the disk since, and what is past
-- its bound, where a commit can't be made.
pub record Ran : Type 0 where
  pub reached : Reached
  pub kept : Kept
  pub calls : List Call
  pub past : Option Past

-- the store and the calls behind a commit, or what is past its bound
abbrev pub behind_commit : Ran → Result Done Refused → Ran
behind_commit ran (Ok done) = record ran { kept = done.behind; calls = ran.calls ++ done.calls }
behind_commit ran (Err refused) = record ran { past = Some refused.past }

-- where a job is in flight, its commit is made
abbrev pub behind_flight : Bounds → Ran → Option CommitJob → Ran
behind_flight bounds ran None = ran
behind_flight bounds ran (Some job) = behind_commit ran (commit_of bounds ran.kept job.ops)

-- the end of a commit alone makes calls
abbrev pub on_files : Bounds → Ran → Option CommitJob → Act → Ran
on_files bounds ran flight act.Apply = ran
on_files bounds ran flight act.Start = ran
on_files bounds ran flight act.Block = ran
on_files bounds ran flight act.Began = ran
on_files bounds ran flight act.Durable = behind_flight bounds ran flight

-- An act of a life that opened so, over a store that was fresh or not, with no batch above `upto`.
abbrev pub run_on : Given → Opening → (fresh : Bool) → Bounds → (upto : ℕ) → Ran → Act → Ran
run_on given opening fresh bounds upto ran act =
    record (on_files bounds ran (job_after given opening fresh ran.reached.trace) act) { reached = act_on (to upto given) ran.reached act }

-- a board and an engine over a disk with this history, of which no further call was made yet
abbrev pub ran_at : {D : Type 0} → Standing → Mounted D → History → Ran
ran_at board engine h = record { reached = reached_by board; kept = kept_in (seen h) engine; calls = []; past = None }

-- An engine that made these calls since its disk had a history, and keeps this store behind them.
pub record HasMade {D : Type 0} (told : D → Option History) (h : History) (engine : Mounted D) (calls : List Call) (kept : Kept) : Type 0 where
  pub history : told engine.disk ≡ Some (made calls h)
  pub keeps : kept_in (seen (made calls h)) engine ≡ kept

-- An engine that was run so, and each of its commits could be made.
pub record IsRun {D : Type 0} (told : D → Option History) (h : History) (engine : Mounted D) (ran : Ran) : Type 0 where
  pub made : HasMade told h engine ran.calls ran.kept
  pub within : ran.past ≡ None

-- Acts were done up to one that is due and was refused. No call of the device failed before that one.
pub record IsStopped {D P : Type 0} (given : Given) (opening : Opening) (fresh : Bool) (upto : ℕ) (told : D → Option History) (count : D → ℕ) (old : Serving D P)
    (acts : List Act) (new : Serving D P) (why : DriveRefusal) : Type 0 where
  pub done : List Act
  pub stop : Act
  pub left : List Act
  pub whole : acts ≡ done ++ stop ∷ left
  pub reached : reached_by new.board ≡ fold (act_on (to upto given)) (reached_by old.board) done
  pub due : IsTrue (is_some (event_of (to upto given) new.board.state stop))
  pub before : Mounted D
  pub well : IsWell count old.engine before
  pub ran : IfSome (told old.engine.disk) (λ h. IsRun told h before (fold (run_on given opening fresh old.engine.bounds upto) (ran_at old.board old.engine h) done))
  pub refused : IsRefused told count before new.engine new.flight stop why
