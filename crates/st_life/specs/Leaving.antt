-- What a life that is over leaves of its two files.
use Rattle.std.specs.Prelude.{ℕ, ◌-◌, List, [], take, Option, Some, None}
use Rattle.std.specs.Option.{option_map, option_map_or}
use Rattle.st_disk.specs.Calls.{made}
use Rattle.st_disk.specs.History.{Files, FileStates, fresh}
use Rattle.st_disk.specs.Left.{left}
use Rattle.st_disk.specs.Recorded.{Call}
use Rattle.st_engine.specs.Commit.{calls_of}
use Rattle.st_engine.specs.Store.{Kept}
use Rattle.st_fold.specs.declared.plan.LifePlan.{LifePlan}
use Rattle.st_fold.specs.declared.report.Ending.{Ending}
use Rattle.st_fold.specs.declared.report.Ending.TheVariants as ending
use Rattle.st_model.specs.Schedule.{Halt, Progress, blown, ending_by, no_block, past_limit}
use Rattle.st_life.specs.Play.{Start, commit_in_flight}

-- how many more calls to the disk are let through
abbrev pub passes_left : LifePlan → (calls : ℕ) → ℕ
passes_left plan calls = option_map_or (λ kill. kill.0 - calls) plan.kill 0

-- Of the calls of the commit that a life halted in, those that were carried out: the ones that were let through, or all where
-- its frame would be past the limit. None where it halted elsewhere.
abbrev pub carried_out : LifePlan → (calls : ℕ) → Option Halt → List Call → List Call
carried_out plan calls None commit = []
carried_out plan calls (Some blown) commit = take (passes_left plan calls) commit
carried_out plan calls (Some (past_limit length limit)) commit = commit
carried_out plan calls (Some no_block) commit = []

-- The files where a life is over, with what of them isn't synced: the commits that were made are, and behind them came the calls
-- that were carried out.
abbrev pub states_behind : Start → Progress Kept → FileStates
states_behind life last =
    (made (carried_out life.plan last.calls last.halt (calls_of (commit_in_flight life last.engine last.trace))) (fresh last.engine.files)).now

-- the choice of what a crash leaves, where the life ended by one
abbrev pub crash_of : Ending → LifePlan → Option ℕ
crash_of ending.Killed plan = option_map (λ kill. kill.1) plan.kill
crash_of ending.Closed plan = None
crash_of ending.Faulted plan = None

-- files as they read, or what a crash leaves of them
abbrev pub files_left : Option ℕ → FileStates → Files
files_left None files = (files.0.seen, files.1.seen)
files_left (Some choice) files = left choice files

-- The files that a life leaves.
abbrev pub leaves : Start → Progress Kept → Files
leaves life last = files_left (crash_of (ending_by life.plan last.halt) life.plan) (states_behind life last)
