-- What the worked scripts and reports are made of. The keys a, b, c and d are the bytes 97 to 100.
use Rattle.std.specs.Prelude.{ℕ, List, [], ◌∷◌, ◌++◌, None}
use Rattle.st_key.specs.Spans.{Span}
use Rattle.st_mutation.specs.declared.batch.Batch.{Batch}
use Rattle.st_mutation.specs.declared.batch.Move.{Move}
use Rattle.st_mutation.specs.declared.batch.Mutation.{Mutation}
use Rattle.st_mutation.specs.declared.batch.Mutation.TheVariants.{Set}
use Rattle.st_fold.specs.declared.plan.Act.{Act}
use Rattle.st_fold.specs.declared.plan.Do.{Do}
use Rattle.st_fold.specs.declared.plan.Do.TheVariants as step_of
use Rattle.st_fold.specs.declared.plan.LifePlan.{LifePlan}
use Rattle.st_fold.specs.declared.plan.Script.{Script}
use Rattle.st_fold.specs.declared.plan.Settings.{Settings}
use Rattle.st_fold.specs.declared.report.Answered.{Answered}
use Rattle.st_fold.specs.declared.report.Ending.{Ending}
use Rattle.st_fold.specs.declared.report.Event.{Event}
use Rattle.st_fold.specs.declared.report.Life.{Life}
use Rattle.st_fold.specs.declared.request.Answer.{Answer}
use Rattle.st_fold.specs.declared.request.Ask.{Ask}
use Rattle.st_fold.specs.declared.request.Ask.TheVariants as ask
use Rattle.st_fold.specs.declared.request.Request.{Request}
use Rattle.st_fold.specs.Endings.{last_event}
use Rattle.st_model.specs.Pieces.{all_keys}
use Rattle.st_model.specs.Report.{given_by}
use Rattle.st_model.specs.Schedule.{Stage, made}
use Rattle.st_model.specs.State.{Given, Opening}

-- ---- scripts

-- what a script has that sets nothing
abbrev pub settings : Settings
settings = record { window = 5000000; patience = 3; seed = 1; swap = 1048576; limit = 268435456; quota = 4096; block = 100; watches = 10000 }

abbrev pub key : ℕ → List ℕ
key byte = byte ∷ []

abbrev pub span : List ℕ → List ℕ → Span
span begin end = record { begin = begin; end = end }

abbrev pub batch : ℕ → List Move → List Mutation → Batch
batch version moves mutations = record { version = version; moves = moves; mutations = mutations }

abbrev pub empty : ℕ → Batch
empty version = batch version [] []

abbrev pub sets : ℕ → ℕ → ℕ → Batch
sets version byte value = batch version [] (Set (key byte) (key value) ∷ [])

abbrev pub asks : ℕ → ℕ → Ask → Request
asks number reader asked = record { number = number; reader = reader; ask = asked }

abbrev pub gets : ℕ → ℕ → ℕ → ℕ → Request
gets number reader byte version = asks number reader (ask.Get (key byte) version)

-- a life that only closes
abbrev pub life_to : ℕ → LifePlan
life_to upto = record { upto = upto; asks = []; lasts = []; dos = []; cuts = []; peerfails = []; kill = None }

abbrev pub playing : ℕ → List Request → List (Do × ℕ) → LifePlan
playing upto requests dos = record (life_to upto) { asks = requests; dos = dos }

abbrev pub does : Act → ℕ → Do × ℕ
does action times = (step_of.Act action, times)

abbrev pub flush : Do × ℕ
flush = (step_of.Flush, 1)

abbrev pub poll : ℕ → ℕ → Do × ℕ
poll reader times = (step_of.Poll reader, times)

-- what a server is given that owns all keys
abbrev pub given_to : ℕ → List Batch → Given
given_to upto log = record { log = log; upto = upto; own = all_keys ∷ []; settings = settings }

-- ---- lives

abbrev pub all : ℕ → Opening
all version = record { version = version; available = all_keys ∷ [] }

abbrev pub answered : ℕ → List ℕ → Answer → Answered
answered number places told = record { request = number; places = places; answer = told }

abbrev pub life : ℕ → List Event → List Answered → Ending → Life
life opened events answers how = record { opened = opened; trace = events ++ last_event how; answers = answers; ending = how }

-- A life of a script over an engine of which only this is told: how many calls its next commit makes. Each later one makes
-- 4, where the files don't turn
abbrev pub stage : Script → LifePlan → Opening → ℕ → Stage ℕ
stage script plan opening calls = record {
  given = given_by script plan;
  opening = opening;
  plan = plan;
  engine = calls;
  commit = λ next events. made next 4;
}
