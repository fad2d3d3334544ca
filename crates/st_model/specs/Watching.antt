-- Watches: what becomes of one, and how its polls lead to an answer.
use Rattle.std.specs.Prelude.{ℕ, ◌+◌, Bool, true, false, not, ◌&&◌, ◌==◌, nat_lt, nat_le, bytes_eq, List, [], ◌∷◌, map, filter, length, slice_get, Option, Some, None, if◌then◌else◌}
use Rattle.std.specs.List.{find, list_any}
use Rattle.std.specs.Option.{option_map, option_map_or}
use Rattle.st_key.specs.Spans.{holds}
use Rattle.st_mutation.specs.declared.batch.Batch.{Batch}
use Rattle.st_fold.specs.declared.report.Event.{Event}
use Rattle.st_fold.specs.declared.report.Event.TheVariants.{Watched, Unwatched}
use Rattle.st_fold.specs.declared.request.Ask.{Ask}
use Rattle.st_fold.specs.declared.request.Ask.TheVariants as ask
use Rattle.st_fold.specs.declared.request.Answer.{Answer}
use Rattle.st_fold.specs.declared.request.Answer.TheVariants as answer
use Rattle.st_fold.specs.declared.request.Request.{Request}
use Rattle.st_fold.specs.Map.{batches_to, folded, value_at}
use Rattle.st_model.specs.declared.watch.WatchState.{WatchState}
use Rattle.st_model.specs.declared.watch.WatchState.TheVariants as watch
use Rattle.st_model.specs.Pieces.{serves}
use Rattle.st_model.specs.State.{Given, Opening, State, Watch, released_in}
use Rattle.st_model.specs.Trace.{state_at}
use Rattle.st_model.specs.Session.{Outcome, open_yet, over, never, outcome, after_answer, is_empty, Answers}

-- whether a key that has the first value, or none, has the second
abbrev pub same_value : Option (List ℕ) → Option (List ℕ) → Bool
same_value None None = true
same_value None (Some value) = false
same_value (Some value) None = false
same_value (Some value) (Some other) = bytes_eq value other

-- the batches that came after a watch was registered
abbrev pub batches_since : List Batch → Watch → ℕ → List Batch
batches_since log watch newest = filter (λ batch. nat_lt watch.since batch.version) (batches_to newest log)

-- the first version, from that of its registration on, at which the key of the watch has another value than the watch
abbrev pub fires_at : List Batch → Watch → ℕ → Option ℕ
fires_at log watch newest =
    find (λ version. not (same_value (value_at (folded log version) watch.key) watch.value))
    (watch.since ∷ map (λ batch. batch.version) (batches_since log watch newest))

-- the first version after its registration that takes the key of the watch away
abbrev pub lost_at : List Batch → Watch → ℕ → Option ℕ
lost_at log watch newest =
    option_map (λ batch. batch.version)
    (find (λ batch. holds (released_in batch) watch.key) (batches_since log watch newest))

-- it fires, unless its key was taken away by then
abbrev pub first_of_both : (fires loses : Option ℕ) → WatchState
first_of_both None None = watch.Waiting
first_of_both None (Some loses) = watch.Lost loses
first_of_both (Some fires) None = watch.Fired fires
first_of_both (Some fires) (Some loses) = if nat_le loses fires then watch.Lost loses else watch.Fired fires

-- what has become of a watch up to the newest version
abbrev pub watch_state : List Batch → Watch → ℕ → WatchState
watch_state log watch newest = first_of_both (fires_at log watch newest) (lost_at log watch newest)

-- ---- its polls

-- whether an event registers the watch of this number, key and value
abbrev pub is_watched : ℕ → List ℕ → Option (List ℕ) → Event → Bool
is_watched number key value (Watched number' key' value') = number == number' && bytes_eq key key' && same_value value value'
is_watched number key value event = false

-- whether an event releases the watch of this number
abbrev pub is_unwatched : ℕ → Event → Bool
is_unwatched number (Unwatched number') = number == number'
is_unwatched number event = false

-- whether the event that comes next after a place passes the test
abbrev pub comes_after : (Event → Bool) → List Event → ℕ → Bool
comes_after test trace place = option_map_or test (slice_get trace place) false

-- the answer of a watch after this many polls, the last included: it is waited for until `patience` polls were made.
-- A watch whose key was taken away answers as a read of it would
abbrev pub watch_answer : (patience polls : ℕ) → List ℕ → WatchState → Option Answer
watch_answer patience polls key watch.Waiting = if polls == patience then Some answer.Waiting else None
watch_answer patience polls key (watch.Fired version) = Some (answer.Fired version)
watch_answer patience polls key (watch.Lost version) = Some (answer.WrongShard key)

-- what these places of polls of a registered watch, of which `polls` were made before, lead to
abbrev pub looks : Given → Opening → List Event → Watch → ℕ → List ℕ → Outcome
looks given opening trace watch polls [] = open_yet
looks given opening trace watch polls (place ∷ places) =
    look (state_at given opening trace place) (looks given opening trace watch (polls + 1) places)
  where
    look : Option State → Outcome → Outcome
    look None rest = never
    look (Some state) rest =
        after_answer (watch_answer given.settings.patience (polls + 1) watch.key (watch_state given.log watch state.newest))
        (is_empty places) rest

-- the place after which a watch that was polled at these places is released: that of its last poll, and one further
-- where that is its first, since there it is registered
abbrev pub release_place : List ℕ → Option ℕ
release_place [] = None
release_place (place ∷ []) = Some (place + 1)
release_place (place ∷ next ∷ []) = Some next
release_place (place ∷ next ∷ later ∷ places) = release_place (next ∷ later ∷ places)

-- the watch is released with its answer, and never where it has none
abbrev pub released_with : List Event → ℕ → List ℕ → Outcome → Outcome
released_with trace number places (over given) =
    if option_map_or (comes_after (is_unwatched number) trace) (release_place places) false then over given else never
released_with trace number places open_yet = if list_any (is_unwatched number) trace then never else open_yet
released_with trace number places never = never

-- what these places of polls of a watch lead to in a life. At the first it is refused, or registered
abbrev pub watch_outcome : Given → Opening → List Event → ℕ → List ℕ → Option (List ℕ) → List ℕ → Outcome
watch_outcome given opening trace number key value [] = open_yet
watch_outcome given opening trace number key value (place ∷ places) = first (state_at given opening trace place)
  where
    refused : Answer → Outcome
    refused why = if is_empty places then over why else never

    first : Option State → Outcome
    first None = never
    first (Some state) =
        if not (serves state.pieces key) then refused (answer.WrongShard key)
        else (if not (nat_lt (length state.watches) given.settings.watches) then refused (answer.TooManyWatches given.settings.watches)
        else (if not (comes_after (is_watched number key value) trace place) then never
        else released_with trace number (place ∷ places)
        (looks given opening trace (record { number = number; key = key; value = value; since = state.newest }) 0 (place ∷ places))))

-- ---- requests of both kinds

-- what these places of polls of a request lead to in a life
abbrev pub led_to : Given → Opening → List Event → Request → List ℕ → Outcome
led_to given opening trace request places = of request.ask
  where
    of : Ask → Outcome
    of (ask.Get key version) = outcome given opening trace (ask.Get key version) 0 places
    of (ask.Rows range rows bytes backward version) = outcome given opening trace (ask.Rows range rows bytes backward version) 0 places
    of (ask.Select key or_equal offset range version) = outcome given opening trace (ask.Select key or_equal offset range version) 0 places
    of (ask.Watch key value) = watch_outcome given opening trace request.number key value places

-- the polls of a request, of which the last gave the answer, or after which its life was cut short
abbrev pub Demanded : Bool → Given → Opening → List Event → Request → List ℕ → Answer → Type 0
Demanded cut_short given opening trace request places answer = Answers cut_short (led_to given opening trace request places) answer

-- whether the polls of a request name the event that comes next after a place: the first poll of a watch names its
-- registration, and the last its release
abbrev pub names : Request → List ℕ → ℕ → Event → Bool
names request places place (Watched number key value) = number == request.number && asks request.ask && begins_there places
  where
    asks : Ask → Bool
    asks (ask.Get key' version) = false
    asks (ask.Rows range rows bytes backward version) = false
    asks (ask.Select key' or_equal offset range version) = false
    asks (ask.Watch key' value') = bytes_eq key key' && same_value value value'

    begins_there : List ℕ → Bool
    begins_there [] = false
    begins_there (first ∷ later) = first == place
names request places place (Unwatched number) = number == request.number && option_map_or (λ last. last == place) (release_place places) false
names request places place event = false
