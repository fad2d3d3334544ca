-- Lives of a server that owns all keys, holds all of them from its opening on, and whose log moves none.
use Rattle.std.specs.Prelude.{◌≡◌, ◌≤◌, List, [], ◌∷◌, IfSome}
use Rattle.std.specs.List.{AllByRecursion}
use Rattle.st_key.specs.Spans.{all_keys}
use Rattle.st_fold.specs.declared.plan.LifePlan.{LifePlan}
use Rattle.st_fold.specs.declared.report.Event.{Event}
use Rattle.st_fold.specs.Plain.{IsLast, IsOfReader, IsOfSchedule}
use Rattle.st_model.specs.declared.piece.Phase.TheVariants.{Readable}
use Rattle.st_model.specs.Schedule.{Commit, Stage, made, full}
use Rattle.st_model.specs.State.{Given, Opening, State}

-- what such a life is given, and how it opens
pub record IsServable (given : Given) (opening : Opening) : Type 0 where
  pub own : given.own ≡ all_keys ∷ []
  pub no_moves : AllByRecursion (λ batch. batch.moves ≡ []) given.log
  pub available : opening.available ≡ all_keys ∷ []

-- what such a life is to do: it watches nothing, and its source of fetches never fails
pub record IsServablePlan (plan : LifePlan) : Type 0 where
  pub asks : AllByRecursion IsOfReader plan.asks
  pub lasts : AllByRecursion IsLast plan.lasts
  pub dos : AllByRecursion (λ line. IsOfSchedule line.0) plan.dos
  pub no_fails : plan.peerfails ≡ []

-- all keys are available in a state, and stay so with the commit in flight. They are readable, in one piece
pub record HoldsAllKeys (state : State) : Type 0 where
  pub available : state.available ≡ all_keys ∷ []
  pub flown : IfSome state.flight (λ flight. flight.available ≡ all_keys ∷ [])
  pub pieces : state.pieces ≡ record { begin = []; end = 255 ∷ []; phase = Readable } ∷ []

-- a commit makes from 4 to 10 calls to the disk, and at most 10 before a file would get longer than it may
abbrev pub IsWithin : {E : Type 0} → Commit E → Type 0
IsWithin (made calls engine) = (4 ≤ calls) × (calls ≤ 10)
IsWithin (full calls length limit) = calls ≤ 10

-- each commit that may be made does so
abbrev pub CommitsWithin : {E : Type 0} → Stage E → Type 0
CommitsWithin {E = E} stage = (engine : E) (trace : List Event) → IsWithin (stage.commit engine trace)
