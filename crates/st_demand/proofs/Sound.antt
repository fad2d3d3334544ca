-- Lives in the making that are sound: what they did is what their schedule and the definitions of answers say.
use Rattle.std.specs.Prelude.{◌≡◌, ◌≢◌, ◌⊎◌, ℕ, ◌*◌, ◌≤◌, Bool, true, false, ◌==◌, List, [], ◌∷◌, ◌++◌, map, length, Option, Some, None, IsSome, if◌then◌else◌}
use Rattle.std.specs.List.{AllByRecursion, list_all, list_any}
use Rattle.st_fold.specs.declared.plan.LifePlan.{LifePlan}
use Rattle.st_fold.specs.declared.report.Event.{Event}
use Rattle.st_fold.specs.declared.report.Event.TheVariants.{Opened, Applied, Began, Durable, Closed, Killed}
use Rattle.st_fold.specs.declared.request.Answer.{Answer}
use Rattle.st_fold.specs.declared.request.Answer.TheVariants.{Stopped}
use Rattle.st_fold.specs.Plain.{IsOfSchedule}
use Rattle.st_fold.specs.Reading.{is_watch}
use Rattle.st_model.specs.State.{Given, Opening, State}
use Rattle.st_model.specs.Trace.{due, is_end, state_after}
use Rattle.st_model.specs.Session.{Outcome, open_yet, over, outcome, NeverFalls}
use Rattle.st_model.specs.Report.{EndsWithin, commits, requests_of}
use Rattle.st_model.specs.Schedule.{Halt, Progress, Session, Stage, blown, lets_through, no_block, past_limit}

-- an event of such a life: its opening, a batch, a commit that begins or ends, or its end
abbrev pub is_served_event : Event → Bool
is_served_event (Opened version) = true
is_served_event (Applied version) = true
is_served_event (Began version) = true
is_served_event (Durable version) = true
is_served_event Closed = true
is_served_event Killed = true
is_served_event event = false

-- what the polls of a session must have led to
abbrev pub outcome_of : Option Answer → Outcome
outcome_of None = open_yet
outcome_of (Some answer) = over answer

pub record IsSoundSession (given : Given) (opening : Opening) (trace : List Event) (session : Session) : Type 0 where
  pub within : AllByRecursion (λ place. place ≤ length trace) session.places
  pub gives : outcome given opening trace session.request.ask 0 session.places ≡ outcome_of session.answer
  pub answered : session.answer ≢ Some Stopped
  pub versioned : is_watch session.request.ask ≡ false

-- the places of a reader's polls, its sessions taken in order
abbrev pub polls_of : ℕ → List Session → List ℕ
polls_of reader [] = []
polls_of reader (session ∷ sessions) =
    if session.request.reader == reader then session.places ++ polls_of reader sessions else polls_of reader sessions

-- where a session is open, the later ones of its reader weren't polled
abbrev pub TakeTurns : List Session → Type 0
TakeTurns [] = Unit {0}
TakeTurns (session ∷ later) =
    (session.answer ≡ None → polls_of session.request.reader later ≡ []) × TakeTurns later

abbrev pub is_answered : Session → Bool
is_answered session = is_some_answer session.answer
  where
    is_some_answer : Option Answer → Bool
    is_some_answer None = false
    is_some_answer (Some answer) = true

-- the calls to the disk that commits made are let through, and each of them made from 4 to 10
pub record IsPaid (plan : LifePlan) (trace : List Event) (calls : ℕ) : Type 0 where
  pub least : 4 * commits trace ≤ calls
  pub most : calls ≤ 10 * commits trace
  pub let_through : lets_through plan calls ≡ true

-- a life was killed in the middle of a commit
pub record IsBlown (plan : LifePlan) (trace : List Event) (state : State) : Type 0 where
  pub calls : ℕ
  pub choice : ℕ
  pub to_kill : plan.kill ≡ Some (calls, choice)
  pub flies : IsSome state.flight
  pub ends : EndsWithin (commits trace) calls

-- how a life stands that goes on, and one that was halted
abbrev pub Stands : LifePlan → List Event → State → (calls : ℕ) → Option Halt → Type 0
Stands plan trace state calls None = IsPaid plan trace calls
Stands plan trace state calls (Some blown) = IsBlown plan trace state
Stands plan trace state calls (Some (past_limit length limit)) = Unit {0}
Stands plan trace state calls (Some no_block) = Unit {0}

-- the requests of the end are polled at the end alone: when the schedule is done, and nothing is due
abbrev pub LastsWait : {E : Type 0} → Stage E → Progress E → Type 0
LastsWait stage progress =
    (polls_of 0 progress.sessions ≡ [])
    ⊎ ((progress.lines ≡ []) × (due stage.given progress.state ≡ None)
    × AllByRecursion (λ place. place ≡ length progress.trace) (polls_of 0 progress.sessions))

pub record IsSound {E : Type 0} (stage : Stage E) (progress : Progress E) : Type 0 where
  pub state : state_after stage.given stage.opening progress.trace ≡ Some progress.state
  pub going_on : list_any is_end progress.trace ≡ false
  pub events : list_all is_served_event progress.trace ≡ true
  pub lines : AllByRecursion (λ line. IsOfSchedule line.0) progress.lines
  pub requests : map (λ session. session.request) progress.sessions ≡ requests_of stage.plan
  pub sessions : AllByRecursion (IsSoundSession stage.given stage.opening progress.trace) progress.sessions
  pub in_order : (reader : ℕ) → NeverFalls (polls_of reader progress.sessions)
  pub turns : TakeTurns progress.sessions
  pub lasts : LastsWait stage progress
  pub stands : Stands stage.plan progress.trace progress.state progress.calls progress.halt
