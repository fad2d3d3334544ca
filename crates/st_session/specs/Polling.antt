-- What a poll of a session gives.
use Rattle.std.specs.Prelude.{◌≡◌, ◌+◌, ℕ, List, length, Option, Some, None}
use Rattle.st_board.specs.declared.view.View.{View}
use Rattle.st_fold.specs.declared.request.Answer.{Answer}
use Rattle.st_fold.specs.declared.request.Ask.{Ask}
use Rattle.st_fold.specs.Map.{folded}
use Rattle.st_fold.specs.Reading.{plain, span_of, version_of}
use Rattle.st_model.specs.Reply.{found, reply}
use Rattle.st_model.specs.Session.{answer_to}
use Rattle.st_model.specs.State.{State}
use Rattle.st_mutation.specs.declared.batch.Batch.{Batch}
use Rattle.st_session.specs.Asking.{Asking}
use Rattle.st_session.specs.Seen.{AreShortIn, IsFoundIn, IsMapOf, value_in}
use Rattle.st_session.specs.declared.poll.Looked.{Looked}
use Rattle.st_session.specs.declared.poll.Looked.TheVariants as looked
use Rattle.st_session.specs.declared.poll.Poll.{Poll}
use Rattle.st_session.specs.declared.poll.Poll.TheVariants as poll

-- the answer that one more poll gives in a state, if it gives one
abbrev pub told : List Batch → State → Asking → Option Answer
told log state asking = answer_to asking.patience (length asking.places + 1) (reply log state asking.request.ask)

-- a poll waits where it gives no answer, and tells the newest version
abbrev pub IsPolled : List Batch → State → Asking → Poll → Type 0
IsPolled log state asking (poll.Pending newest) = (told log state asking ≡ None) × (newest ≡ state.newest)
IsPolled log state asking (poll.Done answer) = told log state asking ≡ Some answer

-- what is to be found is found in the map of the request's version, which the view has
pub record IsSearched (log : List Batch) (state : State) (ask : Ask) (view : View) : Type 0 where
  pub replied : reply log state ask ≡ found (plain (folded log (version_of ask)) ask)
  pub values : IsMapOf (value_in view) (span_of ask) (folded log (version_of ask))
  pub short : AreShortIn (span_of ask) (value_in view)

-- a look at the board gives the same, but for what is to be found
abbrev pub IsLooked : List Batch → State → Asking → Looked → Type 0
IsLooked log state asking (looked.Pending newest) = (told log state asking ≡ None) × (newest ≡ state.newest)
IsLooked log state asking (looked.Done answer) = told log state asking ≡ Some answer
IsLooked log state asking (looked.Search view) = IsSearched log state asking.request.ask view

-- the pairs of the view are short
abbrev pub HasShortPairs : Ask → Looked → Type 0
HasShortPairs ask (looked.Pending newest) = Unit {0}
HasShortPairs ask (looked.Done answer) = Unit {0}
HasShortPairs ask (looked.Search view) = AreShortIn (span_of ask) (value_in view)

-- what the look gave is handed on, and what is to be found is found in its view
abbrev pub IsFinished : Ask → Looked → Poll → Type 0
IsFinished ask (looked.Pending newest) result = result ≡ poll.Pending newest
IsFinished ask (looked.Done answer) result = result ≡ poll.Done answer
IsFinished ask (looked.Search view) (poll.Pending newest) = ⊥
IsFinished ask (looked.Search view) (poll.Done answer) = IsFoundIn view ask answer
