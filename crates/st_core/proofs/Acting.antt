-- What an act makes of where a life is.
use Rattle.std.proofs.Common.{◌≡◌, ◌∙◌, ◌++◌, ℕ, Bool, true, false, cond, if◌then◌else◌, [], ◌∷◌, Option, Some, None, unwrap_or, refl, sym, ap}
use Rattle.std.specs.List.{cons_option, find}
use Rattle.std.specs.Option.{option_map}
use Rattle.std.proofs.lemmas.List.{append-nil}
use Rattle.st_board.specs.Base.{all_served}
use Rattle.st_core.proofs.Batches.{same-number}
use Rattle.st_core.specs.Acts.{Reached, act_on, event_of, no_source, to, with_event}
use Rattle.st_fold.specs.declared.plan.Act.{Act}
use Rattle.st_fold.specs.declared.report.Event.{Event}
use Rattle.st_fold.specs.declared.plan.Act.TheVariants as act
use Rattle.st_fold.specs.declared.report.Event.TheVariants.{Applied, Began, Durable, FetchStart}
use Rattle.st_model.specs.Pieces.{wants_block, wants_fetch}
use Rattle.st_model.specs.State.{Given, Opening, State, after_batch, apply_next, commit_due, commit_version, next_batch, step}
use Rattle.st_mutation.specs.declared.batch.Batch.{Batch}

pub acts-none : (given : Given) (reached : Reached) (action : Act) → event_of given reached.state action ≡ None → act_on given reached action ≡ reached
acts-none given reached action none = ap (with_event given reached) none

pub acts-some : (given : Given) (reached : Reached) (action : Act) (event : Event) (next : State) → event_of given reached.state action ≡ Some event
    → step given reached.state event ≡ Some next → act_on given reached action ≡ record { trace = reached.trace ++ event ∷ []; state = next }
acts-some given reached action event next due stepped =
    ap (with_event given reached) due
    ∙ ap (λ (o : Option State). record { trace = reached.trace ++ event ∷ []; state = unwrap_or o reached.state }) stepped

-- the step of the batch that comes next
pub batch-step : (given : Given) (state : State) (batch : Batch) → next_batch given state ≡ Some batch → step given state (Applied batch.version) ≡ Some (after_batch state batch)
batch-step given state batch next =
    ap (apply_next state batch.version) next
    ∙ ap (λ (t : Bool). cond t (Some (after_batch state batch)) None) (same-number batch.version)

-- which batches may be applied makes no difference to commits
pub began-to : (upto : ℕ) (given : Given) (reached : Reached) → act_on (to upto given) reached act.Began ≡ act_on given reached act.Began
began-to upto given reached = by_test (commit_due given reached.state)
  where
    by_test : (t : Bool) → with_event (to upto given) reached (if t then Some (Began (commit_version given reached.state)) else None)
        ≡ with_event given reached (if t then Some (Began (commit_version given reached.state)) else None)
    by_test true = refl
    by_test false = refl

pub durable-to : (upto : ℕ) (given : Given) (reached : Reached) → act_on (to upto given) reached act.Durable ≡ act_on given reached act.Durable
durable-to upto given reached = of reached.state.flight
  where
    of : (o : Option Opening) → with_event (to upto given) reached (option_map (λ (flight : Opening). Durable flight.version) o)
        ≡ with_event given reached (option_map (λ (flight : Opening). Durable flight.version) o)
    of None = refl
    of (Some flight) = refl

-- the trace behind an act is the one before it, with the act's event
pub acted-trace : (given : Given) (reached : Reached) (action : Act) → (act_on given reached action).trace ≡ reached.trace ++ cons_option (event_of given reached.state action) []
acted-trace given reached action = of (event_of given reached.state action)
  where
    of : (o : Option Event) → (with_event given reached o).trace ≡ reached.trace ++ cons_option o []
    of None = sym (append-nil reached.trace)
    of (Some event) = refl

-- where all keys are served no fetch is due
pub no-start : (given : Given) (state : State) → state.pieces ≡ all_served → event_of given state act.Start ≡ None
no-start given state served = ap (λ pieces. option_map (λ piece. FetchStart piece.begin state.newest) (find (wants_fetch state.durable) pieces)) served

pub no-block : (given : Given) (state : State) → state.pieces ≡ all_served → event_of given state act.Block ≡ None
no-block given state served = ap (λ pieces. option_map no_source (find wants_block pieces)) served
