-- The readers of a life: its requests, their sessions and their answers.
use Rattle.std.specs.Prelude.{◌≡◌, ℕ, false, List}
use Rattle.std.specs.List.{AllByRecursion}
use Rattle.st_fold.specs.declared.plan.LifePlan.{LifePlan}
use Rattle.st_fold.specs.declared.request.Request.{Request}
use Rattle.st_fold.specs.Reading.{is_watch}
use Rattle.st_model.specs.Schedule.{Session, poll_first}
use Rattle.st_model.specs.State.{Given, State}
use Rattle.st_session.specs.Asking.{HasShortKey, IsOfUsers}

-- How many polls each request is given, and the sessions, in order of their requests' numbers.
pub record Reading : Type 0 where
  pub patience : ℕ
  pub sessions : List Session

-- A request that asks for a version of users' keys. If it looks at one key, that is short.
pub record IsAskable (request : Request) : Type 0 where
  pub versioned : is_watch request.ask ≡ false
  pub users : IsOfUsers request.ask
  pub short : HasShortKey request.ask

-- Each request of a life is so.
pub record AreAskable (plan : LifePlan) : Type 0 where
  pub asks : AllByRecursion IsAskable plan.asks
  pub lasts : AllByRecursion IsAskable plan.lasts

-- The reader's first open session is polled, where there is one.
abbrev pub polled : Given → (reader place : ℕ) → State → Reading → Reading
polled given reader place state reading =
    record reading { sessions = poll_first given reader place state reading.sessions }
