-- A life that is played on two files: how it begins, and what its commits come to.
use Rattle.std.specs.Prelude.{Bool, List, [], length, Result, Ok, Err}
use Rattle.std.specs.Option.{option_map_or}
use Rattle.std.specs.Result.{result_map_both}
use Rattle.st_course.specs.Course.{job_after}
use Rattle.st_disk.specs.History.{Files}
use Rattle.st_engine.specs.Commit.{Done, Refused, commit_of}
use Rattle.st_engine.specs.Store.{Bounds, Kept, mount_of}
use Rattle.st_fold.specs.declared.plan.LifePlan.{LifePlan}
use Rattle.st_fold.specs.declared.plan.Script.{Script}
use Rattle.st_fold.specs.declared.plan.Settings.{Settings}
use Rattle.st_fold.specs.declared.report.Damage.{Damage}
use Rattle.st_fold.specs.declared.report.Damage.TheVariants.{File}
use Rattle.st_fold.specs.declared.report.Event.{Event}
use Rattle.st_model.specs.Report.{given_by}
use Rattle.st_model.specs.Schedule.{Commit, Stage, full, made}
use Rattle.st_model.specs.State.{Given, Opening}
use Rattle.st_ops.specs.declared.op.Op.{Op}
use Rattle.st_queue.specs.Frames.{Damage as Place}
use Rattle.st_restart.specs.Agreement.{opening_of}
use Rattle.st_restart.specs.Opened.{Opened, opened}

-- A life whose files are mounted: what it is given, what it is to do, how its store opens and whether that has no frame, and
-- the store as the mount keeps it.
pub record Start : Type 0 where
  pub given : Given
  pub plan : LifePlan
  pub opening : Opening
  pub fresh : Bool
  pub kept : Kept

-- what a life begins with, by what its store opens as and what the mount keeps, or where the files are damaged
abbrev pub start_with : Given → LifePlan → Result Opened Damage → Result Kept Place → Result Start Damage
start_with given plan opens (Ok kept) =
    result_map_both (λ opened. record { given = given; plan = plan; opening = opening_of opened; fresh = opened.fresh; kept = kept })
    (λ damage. damage) opens
start_with given plan opens (Err place) = Err (File place.file place.at)

-- the life of a plan on files
abbrev pub start_on : Script → LifePlan → Files → Result Start Damage
start_on script plan files = start_with (given_by script plan) plan (opened script.own files) (mount_of files)

-- the bounds that settings give a store
abbrev pub bounds_of : Settings → Bounds
bounds_of settings = record { quota = settings.quota; swap = settings.swap; limit = settings.limit }

-- the operations of the commit in flight behind a trace
abbrev pub ops_in_flight : Start → List Event → List Op
ops_in_flight life trace = option_map_or (λ job. job.ops) (job_after life.given life.opening life.fresh trace) []

-- what that commit comes to, made to a store
abbrev pub commit_in_flight : Start → Kept → List Event → Result Done Refused
commit_in_flight life kept trace = commit_of (bounds_of life.given.settings) kept (ops_in_flight life trace)

-- the same as a schedule knows it: how many calls it makes, and what is kept behind them
abbrev pub as_played : Result Done Refused → Commit Kept
as_played (Ok done) = made (length done.calls) done.behind
as_played (Err refused) = full (length refused.calls) refused.past.length refused.past.limit

-- what is played
abbrev pub stage_of : Start → Stage Kept
stage_of life = record {
  given = life.given;
  opening = life.opening;
  plan = life.plan;
  engine = life.kept;
  commit = λ kept trace. as_played (commit_in_flight life kept trace);
}
