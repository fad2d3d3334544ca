-- What is kept of requests that are polled.
use Rattle.std.specs.Prelude.{◌≡◌, ℕ, ◌+◌, ◌<◌, true, false, List, length, slice_index, take, None}
use Rattle.st_fold.specs.Reading.{is_watch}
use Rattle.st_model.specs.Schedule.{Session, has_open}
use Rattle.st_life.specs.declared.asked.Asked.{Asked}

-- the session, with its answer
abbrev pub session_of : Asked → Session
session_of asked = record { request = asked.session.request; places = asked.session.places; answer = asked.answer }

-- A request that asks for a version, is given so many polls, and has made fewer, unless it has its answer.
pub record IsWaiting (patience : ℕ) (asked : Asked) : Type 0 where
  pub versioned : is_watch asked.session.request.ask ≡ false
  pub given : asked.session.patience ≡ patience
  pub fewer : asked.answer ≡ None → length asked.session.places < patience

-- The session at a place is the reader's first that is open.
abbrev pub IsFirstOpen : (reader place : ℕ) → List Session → Type 0
IsFirstOpen reader place sessions =
    (place < length sessions) × (has_open reader (take place sessions) ≡ false) × (has_open reader (take (place + 1) sessions) ≡ true)

-- No reader has an open session before its place.
abbrev pub AreSought : (places : List ℕ) → List Session → Type 0
AreSought places sessions = (reader : ℕ) → has_open reader (take (slice_index places reader) sessions) ≡ false
