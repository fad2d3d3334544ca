-- What the worked scripts and their lives are made of. The key a is the byte 97, and the values 1 to 9 are the bytes 49 to 57.
use Rattle.std.specs.Prelude.{ℕ, List, [], ◌∷◌, ◌++◌, None}
use Rattle.st_fold.specs.declared.plan.Act.TheVariants as act
use Rattle.st_fold.specs.declared.plan.Do.{Do}
use Rattle.st_fold.specs.declared.plan.Do.TheVariants as step_of
use Rattle.st_fold.specs.declared.plan.LifePlan.{LifePlan}
use Rattle.st_fold.specs.declared.plan.Script.{Script}
use Rattle.st_fold.specs.declared.plan.Settings.{Settings}
use Rattle.st_fold.specs.declared.report.Answered.{Answered}
use Rattle.st_fold.specs.declared.report.Ending.{Ending}
use Rattle.st_fold.specs.declared.report.Event.{Event}
use Rattle.st_fold.specs.declared.report.Life.{Life}
use Rattle.st_fold.specs.declared.request.Answer.{Answer}
use Rattle.st_fold.specs.declared.request.Ask.TheVariants as ask
use Rattle.st_fold.specs.declared.request.Request.{Request}
use Rattle.st_fold.specs.Endings.{last_event}
use Rattle.st_key.specs.Spans.{all_keys}
use Rattle.st_mutation.specs.declared.batch.Batch.{Batch}
use Rattle.st_mutation.specs.declared.batch.Mutation.TheVariants.{Set}

-- ---- scripts

-- what a script has that sets the window alone
abbrev pub with_window : ℕ → Settings
with_window window =
    record { window = window; patience = 3; seed = 1; swap = 1048576; limit = 268435456; quota = 4096; block = 100; watches = 10000 }

abbrev pub a : List ℕ
a = 97 ∷ []

abbrev pub sets : ℕ → List ℕ → Batch
sets version value = record { version = version; moves = []; mutations = Set a value ∷ [] }

abbrev pub empty : ℕ → Batch
empty version = record { version = version; moves = []; mutations = [] }

-- a get of a, of a reader or of the end
abbrev pub gets : (number reader version : ℕ) → Request
gets number reader version = record { number = number; reader = reader; ask = ask.Get a version }

-- a life that only closes
abbrev pub life_to : ℕ → LifePlan
life_to upto = record { upto = upto; asks = []; lasts = []; dos = []; cuts = []; peerfails = []; kill = None }

abbrev pub apply : ℕ → Do × ℕ
apply times = (step_of.Act act.Apply, times)

abbrev pub flush : Do × ℕ
flush = (step_of.Flush, 1)

abbrev pub poll : ℕ → Do × ℕ
poll times = (step_of.Poll 1, times)

-- a script of a server that owns all keys
abbrev pub script_of : Settings → List Batch → List LifePlan → Script
script_of settings log lives = record { settings = settings; own = all_keys ∷ []; log = log; lives = lives }

-- ---- lives

abbrev pub answered : ℕ → List ℕ → Answer → Answered
answered number places told = record { request = number; places = places; answer = told }

abbrev pub life : ℕ → List Event → List Answered → Ending → Life
life opened events answers how = record { opened = opened; trace = events ++ last_event how; answers = answers; ending = how }
