-- What holds of each script that is read.
use Rattle.std.specs.Prelude.{◌≡◌, ◌≤◌, ◌<◌, ◌==◌, ◌^◌, ℕ, true, false, List, [], ◌∷◌, length, IfSome}
use Rattle.std.specs.List.{AllByRecursion}
use Rattle.st_fold.specs.declared.plan.LifePlan.{LifePlan}
use Rattle.st_fold.specs.declared.plan.Script.{Script}
use Rattle.st_fold.specs.declared.request.Ask.{Ask}
use Rattle.st_fold.specs.declared.request.Ask.TheVariants as ask
use Rattle.st_fold.specs.declared.request.Request.{Request}
use Rattle.st_fold.specs.Reading.{span_of}
use Rattle.st_key.specs.Spans.{key_less, within}
use Rattle.st_mutation.specs.declared.batch.Mutation.{Mutation}
use Rattle.st_mutation.specs.declared.batch.Mutation.TheVariants.{Set, Clear, Atomic}
pub use Rattle.st_fold.specs.Plain.{Rises, IsPlainBatch, IsOfReader, IsLast, IsOfSchedule, IsPlainLife}
pub use Rattle.st_script.specs.Options.{IsBounded}
use Rattle.st_script.specs.Draft.{all_keys}
use Rattle.st_script.specs.Fields.{max_version, max_calls}

-- only keys of users are changed
abbrev pub ChangesUsers : Mutation → Type 0
ChangesUsers (Set key value) = within all_keys key ≡ true
ChangesUsers (Clear range) = key_less all_keys.end range.end ≡ false
ChangesUsers (Atomic op key operand) = within all_keys key ≡ true

-- the key of a mutation of one key has at most 10,000 bytes
abbrev pub ChangesShortKey : Mutation → Type 0
ChangesShortKey (Set key value) = length key ≤ 10000
ChangesShortKey (Clear range) = Unit {0}
ChangesShortKey (Atomic op key operand) = length key ≤ 10000

-- the key of a request that looks at one key has at most 10,000 bytes
abbrev pub AsksShortKey : Ask → Type 0
AsksShortKey (ask.Get key version) = length key ≤ 10000
AsksShortKey (ask.Rows range rows bytes reverse version) = Unit {0}
AsksShortKey (ask.Select key or_equal offset range version) = Unit {0}
AsksShortKey (ask.Watch key value) = length key ≤ 10000

-- a request looks at keys of users alone. If it looks at one key, that is short
pub record AsksUsers (request : Request) : Type 0 where
  pub users : key_less all_keys.end (span_of request.ask).end ≡ false
  pub short : AsksShortKey request.ask

-- the numbers of requests rise strictly, from above this one on
abbrev pub NumbersRise : ℕ → List Request → Type 0
NumbersRise number [] = Unit {0}
NumbersRise number (request ∷ later) = (number < request.number) × NumbersRise request.number later

-- a life of versions that there may be, whose requests ask for versions of users' keys and have different numbers. It
-- watches and fetches nothing
pub record IsPlayableLife (plan : LifePlan) : Type 0 where
  pub upto : plan.upto ≤ max_version
  pub asks : AllByRecursion IsOfReader plan.asks
  pub lasts : AllByRecursion IsLast plan.lasts
  pub asks_users : AllByRecursion AsksUsers plan.asks
  pub lasts_users : AllByRecursion AsksUsers plan.lasts
  pub asks_rise : NumbersRise 0 plan.asks
  pub lasts_rise : NumbersRise 0 plan.lasts
  pub apart : AllByRecursion (λ ask. AllByRecursion (λ last. ask.number == last.number ≡ false) plan.lasts) plan.asks
  pub dos : AllByRecursion (λ line. IsOfSchedule line.0) plan.dos
  pub no_cuts : plan.cuts ≡ []
  pub no_fails : plan.peerfails ≡ []
  pub kill : IfSome plan.kill (λ kill. (kill.0 ≤ max_calls) × (kill.1 < 2 ^ 64))

-- no life goes less far than the one before it, the first at least up to this version
abbrev pub NeverFall : ℕ → List LifePlan → Type 0
NeverFall upto [] = Unit {0}
NeverFall upto (plan ∷ later) = (upto ≤ plan.upto) × NeverFall plan.upto later

-- lives of a server that owns all keys
pub record IsPlayable (script : Script) : Type 0 where
  pub settings : IsBounded script.settings
  pub own : script.own ≡ all_keys ∷ []
  pub rises : Rises 0 script.log
  pub batches : AllByRecursion (IsPlainBatch max_version) script.log
  pub users : AllByRecursion (λ batch. AllByRecursion ChangesUsers batch.mutations) script.log
  pub short : AllByRecursion (λ batch. AllByRecursion ChangesShortKey batch.mutations) script.log
  pub some_life : (plan : LifePlan) × (later : List LifePlan) × (script.lives ≡ plan ∷ later)
  pub lives : AllByRecursion IsPlayableLife script.lives
  pub follow : NeverFall 0 script.lives
