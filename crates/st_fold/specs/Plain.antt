-- Logs that move nothing, and lives that only apply and poll.
use Rattle.std.specs.Prelude.{◌≡◌, ℕ, ◌<◌, ◌≤◌, false, List, [], ◌∷◌, None}
use Rattle.std.specs.List.{AllByRecursion}
use Rattle.st_mutation.specs.declared.batch.Batch.{Batch}
use Rattle.st_fold.specs.declared.plan.Do.{Do}
use Rattle.st_fold.specs.declared.plan.Do.TheVariants.{Act, Flush, Poll}
use Rattle.st_fold.specs.declared.plan.LifePlan.{LifePlan}
use Rattle.st_fold.specs.declared.request.Request.{Request}
use Rattle.st_fold.specs.Reading.{is_watch}

-- the versions rise strictly, from above this one on
abbrev pub Rises : ℕ → List Batch → Type 0
Rises version [] = Unit {0}
Rises version (batch ∷ later) = (version < batch.version) × Rises batch.version later

-- a batch that moves nothing, of a version that the window keeps
pub record IsPlainBatch (window : ℕ) (batch : Batch) : Type 0 where
  pub no_moves : batch.moves ≡ []
  pub kept : batch.version ≤ window

-- a request at a version, of one of the readers
pub record IsOfReader (request : Request) : Type 0 where
  pub least : 1 ≤ request.reader
  pub most : request.reader ≤ 64
  pub versioned : is_watch request.ask ≡ false

-- a request at a version, which is answered at the end of its life
pub record IsLast (request : Request) : Type 0 where
  pub last : request.reader ≡ 0
  pub versioned : is_watch request.ask ≡ false

-- an act, a flush, or a poll of one of the readers
abbrev pub IsOfSchedule : Do → Type 0
IsOfSchedule (Act action) = Unit {0}
IsOfSchedule Flush = Unit {0}
IsOfSchedule (Poll reader) = (1 ≤ reader) × (reader ≤ 64)

-- a life that isn't killed and watches nothing, and whose source of fetches never fails
pub record IsPlainLife (plan : LifePlan) : Type 0 where
  pub asks : AllByRecursion IsOfReader plan.asks
  pub lasts : AllByRecursion IsLast plan.lasts
  pub dos : AllByRecursion (λ line. IsOfSchedule line.0) plan.dos
  pub no_kill : plan.kill ≡ None
  pub no_fails : plan.peerfails ≡ []
