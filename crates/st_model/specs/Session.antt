-- A request that is polled until it is answered.
use Rattle.std.specs.Prelude.{◌≡◌, ℕ, ◌+◌, ◌≤◌, Bool, true, false, ◌==◌, List, [], ◌∷◌, Option, Some, None, if◌then◌else◌}
use Rattle.st_fold.specs.declared.report.Event.{Event}
use Rattle.st_fold.specs.declared.request.Ask.{Ask}
use Rattle.st_fold.specs.declared.request.Answer.{Answer}
use Rattle.st_fold.specs.declared.request.Answer.TheVariants.{TooOld, FutureVersion, WrongShard, Stopped}
use Rattle.st_model.specs.State.{Given, Opening, State}
use Rattle.st_model.specs.Trace.{state_at}
use Rattle.st_model.specs.Reply.{Reply, too_old, not_yet, wrong_shard, found, reply}

-- the answer that a reply gives after this many polls, its own included: a version that hasn't come is waited for
-- until `patience` polls were made
abbrev pub answer_to : (patience polls : ℕ) → Reply → Option Answer
answer_to patience polls (too_old oldest) = Some (TooOld oldest)
answer_to patience polls (not_yet newest) = if polls == patience then Some (FutureVersion newest polls) else None
answer_to patience polls (wrong_shard key) = Some (WrongShard key)
answer_to patience polls (found answer) = Some answer

pub data Outcome : Type 0 where
  -- no poll has given an answer
  open_yet : Outcome
  -- the last poll gave it
  over : Answer → Outcome
  -- a poll was made after the answer, or in no state
  never : Outcome

-- what a poll leads to, where further polls would lead to the last argument
abbrev pub after_answer : Option Answer → Bool → Outcome → Outcome
after_answer None last rest = rest
after_answer (Some answer) true rest = over answer
after_answer (Some answer) false rest = never

abbrev pub is_empty : {A : Type 0} → List A → Bool
is_empty [] = true
is_empty (x ∷ xs) = false

-- what these places of polls, of which `polls` were made before, lead to in a life
abbrev pub outcome : Given → Opening → List Event → Ask → ℕ → List ℕ → Outcome
outcome given opening trace ask polls [] = open_yet
outcome given opening trace ask polls (place ∷ places) =
    poll (state_at given opening trace place) (outcome given opening trace ask (polls + 1) places)
  where
    poll : Option State → Outcome → Outcome
    poll None rest = never
    poll (Some state) rest =
        after_answer (answer_to given.settings.patience (polls + 1) (reply given.log state ask)) (is_empty places) rest

-- the answer that an outcome gives: a request that is still open was stopped, in a life that was cut short
abbrev pub Answers : Bool → Outcome → Answer → Type 0
Answers cut_short (over given) answer = answer ≡ given
Answers true open_yet answer = answer ≡ Stopped
Answers false open_yet answer = ⊥
Answers cut_short never answer = ⊥

-- each place is at least the one before
abbrev pub NeverFalls : List ℕ → Type 0
NeverFalls [] = Unit {0}
NeverFalls (place ∷ places) = AtLeast place places × NeverFalls places
  where
    AtLeast : ℕ → List ℕ → Type 0
    AtLeast place [] = Unit {0}
    AtLeast place (next ∷ places) = place ≤ next
