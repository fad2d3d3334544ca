-- What acts make of a life.
use Rattle.std.specs.Prelude.{ℕ, List, [], ◌∷◌, ◌++◌, Option, Some, None, unwrap_or}
use Rattle.st_board.specs.Stands.{Standing}
use Rattle.st_fold.specs.declared.plan.Act.{Act}
use Rattle.st_fold.specs.declared.report.Event.{Event}
use Rattle.st_fold.specs.declared.report.Event.TheVariants.{Split}
use Rattle.st_model.specs.State.{Given, State, step}
use Rattle.st_model.specs.Trace.{event_by}
use Rattle.st_model.specs.declared.piece.Piece.{Piece}

-- what a life is given, with this as the greatest version that it applies
abbrev pub to : ℕ → Given → Given
to upto given = record given { upto = upto }

-- what a source gives of a piece that is fetched. No piece is, so none of its events comes
abbrev pub no_source : Piece → Event
no_source piece = Split piece.begin piece.begin

-- the event that an act makes in a state, where the state lets it
abbrev pub event_of : Given → State → Act → Option Event
event_of given state act = event_by given state no_source act

-- how far a life is: its trace, and the state behind it
pub record Reached : Type 0 where
  pub trace : List Event
  pub state : State

-- where a board is
abbrev pub reached_by : Standing → Reached
reached_by board = record { trace = board.trace; state = board.state }

-- one event more, or none
abbrev pub with_event : Given → Reached → Option Event → Reached
with_event given reached None = reached
with_event given reached (Some event) = record {
  trace = reached.trace ++ event ∷ [];
  state = unwrap_or (step given reached.state event) reached.state;
}

-- an act makes its event, or none where it isn't due
abbrev pub act_on : Given → Reached → Act → Reached
act_on given reached act = with_event given reached (event_of given reached.state act)
