-- The course of a life: what it has done so far, event by event.
use Rattle.std.specs.Prelude.{ℕ, Bool, List, [], ◌∷◌, ◌++◌, drop, map, Option, Some, None, option_and_then}
use Rattle.std.specs.Option.{option_map, option_map_or}
use Rattle.st_fold.specs.declared.report.Event.{Event}
use Rattle.st_fold.specs.declared.report.Event.TheVariants.{Applied, Began, Durable}
use Rattle.st_key.specs.Spans.{Span}
use Rattle.st_model.specs.State.{Given, Opening, State, first_state, next_batch, step}
use Rattle.st_mutation.specs.declared.batch.Mutation.{Mutation}
use Rattle.st_ops.specs.declared.op.Op.{Op}
use Rattle.st_course.specs.Jobs.{clears_of, job_of}
use Rattle.st_course.specs.Sent.{sent_by}
use Rattle.st_course.specs.declared.job.CommitJob.{CommitJob}

pub record Course : Type 0 where
  pub state : State
  -- what the first commit is still to clear
  pub clears : List Span
  -- all sets and clears that batches sent, each with the version of its batch
  pub sent : List (ℕ × Mutation)
  -- the job of the commit in flight
  pub job : Option CommitJob
  -- the operations of the durable commits
  pub made : List Op

-- the course that a life opens with, over a store that is fresh or has frames
abbrev pub first_course : Given → Opening → (fresh : Bool) → Course
first_course given opening fresh = record {
  state = first_state given opening;
  clears = clears_of fresh opening.available;
  sent = [];
  job = None;
  made = [];
}

-- The course behind an event that leads to this state. A batch sends; a commit that begins makes its job, of the rows that it
-- takes; and its end makes the job's operations durable.
abbrev pub behind : Given → Course → Event → (next : State) → Course
behind given course (Applied version) next = record course {
  state = next;
  sent = course.sent
      ++ option_map_or (λ batch. map (λ mutation. (version, mutation)) (sent_by given course.state batch)) (next_batch given course.state) [];
}
behind given course (Began version) next = record course {
  state = next;
  job = option_map (job_of given course.clears course.sent next) next.flight;
}
behind given course (Durable version) next = record course {
  state = next;
  clears = [];
  job = None;
  made = course.made ++ option_map_or (λ job. job.ops) course.job [];
}
behind given course event next = record course { state = next }

-- the course behind events, where each may come
abbrev pub course_on : Given → Course → List Event → Option Course
course_on given course [] = Some course
course_on given course (event ∷ events) =
    option_and_then (λ next. course_on given (behind given course event next) events) (step given course.state event)

-- the course behind a legal trace, whose first event is the opening
abbrev pub course_of : Given → Opening → (fresh : Bool) → List Event → Option Course
course_of given opening fresh trace = course_on given (first_course given opening fresh) (drop 1 trace)

-- the job of the commit in flight behind a trace
abbrev pub job_after : Given → Opening → (fresh : Bool) → List Event → Option CommitJob
job_after given opening fresh trace = option_and_then (λ course. course.job) (course_of given opening fresh trace)

-- what its first commit is still to clear
abbrev pub clears_after : Given → Opening → (fresh : Bool) → List Event → List Span
clears_after given opening fresh trace = option_map_or (λ course. course.clears) (course_of given opening fresh trace) []

-- the operations of its durable commits, one after the other
abbrev pub made_after : Given → Opening → (fresh : Bool) → List Event → List Op
made_after given opening fresh trace = option_map_or (λ course. course.made) (course_of given opening fresh trace) []
