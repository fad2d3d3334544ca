-- Plain lives in the making that are sound: what they did is what their schedule and the definitions of answers say.
use Rattle.std.specs.Prelude.{◌≡◌, ◌≢◌, ◌⊎◌, ℕ, ◌≤◌, Bool, true, false, ◌==◌, List, [], ◌∷◌, ◌++◌, map, length, Option, Some, None, if◌then◌else◌}
use Rattle.std.specs.List.{AllByRecursion, list_all, list_any}
use Rattle.st_fold.specs.declared.report.Event.{Event}
use Rattle.st_fold.specs.declared.report.Event.TheVariants.{Opened, Applied, Closed}
use Rattle.st_fold.specs.declared.request.Answer.{Answer}
use Rattle.st_fold.specs.declared.request.Answer.TheVariants.{Stopped}
use Rattle.st_fold.specs.declared.request.Request.{Request}
use Rattle.st_fold.specs.Plain.{IsOfSchedule}
use Rattle.st_fold.specs.Reading.{is_watch}
use Rattle.st_model.specs.State.{Given}
use Rattle.st_model.specs.Trace.{is_end, state_after}
use Rattle.st_model.specs.Session.{Outcome, open_yet, over, outcome, NeverFalls}
use Rattle.st_model.specs.Schedule.{Session}
use Rattle.st_model.specs.Plain.{IsSplit, Plainly, first_to, fresh_opening, plain_state}

-- an event of such a life: its opening, a batch, or its end
abbrev pub is_plain_event : Event → Bool
is_plain_event (Opened version) = true
is_plain_event (Applied version) = true
is_plain_event Closed = true
is_plain_event event = false

-- what the polls of a session must have led to
abbrev pub outcome_of : Option Answer → Outcome
outcome_of None = open_yet
outcome_of (Some answer) = over answer

pub record IsSoundSession (given : Given) (trace : List Event) (session : Session) : Type 0 where
  pub within : AllByRecursion (λ place. place ≤ length trace) session.places
  pub gives : outcome given fresh_opening trace session.request.ask 0 session.places ≡ outcome_of session.answer
  pub answered : session.answer ≢ Some Stopped
  pub versioned : is_watch session.request.ask ≡ false

-- the places of a reader's polls, its sessions taken in order
abbrev pub polls_of : ℕ → List Session → List ℕ
polls_of reader [] = []
polls_of reader (session ∷ sessions) =
    if session.request.reader == reader then session.places ++ polls_of reader sessions else polls_of reader sessions

-- where a session is open, the later ones of its reader weren't polled
abbrev pub TakeTurns : List Session → Type 0
TakeTurns [] = Unit {0}
TakeTurns (session ∷ later) =
    (session.answer ≡ None → polls_of session.request.reader later ≡ []) × TakeTurns later

abbrev pub is_answered : Session → Bool
is_answered session = is_some_answer session.answer
  where
    is_some_answer : Option Answer → Bool
    is_some_answer None = false
    is_some_answer (Some answer) = true

-- the requests of the end are polled at the end alone: when the schedule is done, and no batch is left
abbrev pub LastsWait : Given → Plainly → Type 0
LastsWait given plainly =
    (polls_of 0 plainly.sessions ≡ [])
    ⊎ ((plainly.lines ≡ []) × (first_to given.upto plainly.left ≡ None)
    × AllByRecursion (λ place. place ≡ length plainly.trace) (polls_of 0 plainly.sessions))

pub record IsSound (given : Given) (asks : List Request) (plainly : Plainly) : Type 0 where
  pub state : state_after given fresh_opening plainly.trace ≡ Some (plain_state plainly.newest)
  pub split : IsSplit given.log plainly.newest plainly.left
  pub kept : plainly.newest ≤ given.settings.window
  pub going_on : list_any is_end plainly.trace ≡ false
  pub events : list_all is_plain_event plainly.trace ≡ true
  pub lines : AllByRecursion (λ line. IsOfSchedule line.0) plainly.lines
  pub requests : map (λ session. session.request) plainly.sessions ≡ asks
  pub sessions : AllByRecursion (IsSoundSession given plainly.trace) plainly.sessions
  pub in_order : (reader : ℕ) → NeverFalls (polls_of reader plainly.sessions)
  pub turns : TakeTurns plainly.sessions
  pub lasts : LastsWait given plainly
