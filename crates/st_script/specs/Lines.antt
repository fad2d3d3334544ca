-- What a line says by itself.
use Rattle.std.specs.Prelude.{ℕ, List, [], ◌∷◌, find, option_map, Option, Some, None, Result, Ok, Err, codes, if◌then◌else◌}
use Rattle.st_atomic.specs.declared.AtomicOp.TheVariants.{Add, And, Or, Xor, Max, Min, ByteMin, ByteMax, AppendIfFits, CompareAndClear}
use Rattle.st_mutation.specs.declared.batch.Mutation.TheVariants.{Set, Clear, Atomic}
use Rattle.st_fold.specs.declared.plan.Act.TheVariants.{Apply, Began, Durable}
use Rattle.st_fold.specs.declared.plan.Do.{Do}
use Rattle.st_fold.specs.declared.plan.Do.TheVariants as step
use Rattle.st_fold.specs.declared.plan.Kind.{Kind}
use Rattle.st_fold.specs.declared.plan.Kind.TheVariants as kind
use Rattle.st_fold.specs.declared.request.Ask.{Ask}
use Rattle.st_mutation.specs.declared.batch.Mutation.{Mutation}
use Rattle.st_script.specs.declared.form.Form.{Form}
use Rattle.st_script.specs.declared.form.Form.TheVariants as form
use Rattle.st_script.specs.declared.options.Setting.{Setting}
use Rattle.st_script.specs.declared.options.Setting.TheVariants as setting
use Rattle.st_script.specs.Fields.{is_word, number_field, max_number, max_version, max_calls, bytes_field, key_field, value_field, range_of, ◌>>=◌}
use Rattle.st_script.specs.Options.{least_of, most_of}
use Rattle.st_script.specs.Requests.{is_request, request_of}

-- what a line says
pub data Line : Type 0 where
  -- the first line
  head : Line
  -- an option sets this number
  sets : Setting → ℕ → Line
  -- the server owns all keys
  owns_all : Line
  log_begins : Line
  -- a batch of this version begins
  batch_of : ℕ → Line
  changes : Mutation → Line
  -- a life begins that applies versions up to this one
  life_to : ℕ → Line
  -- this reader asks, or none (0) at the end of the life
  asks : ℕ → Ask → Line
  -- a step, so often
  does : Do → ℕ → Line
  closes : Line
  -- the life is killed after so many calls of its disk, and this number chooses what the crash leaves
  kills : ℕ → ℕ → Line
  ends : Line

-- the forms, each by its first word
abbrev pub forms : List (List ℕ × Form)
forms =
    (codes "set", form.Set) ∷ (codes "batch", form.Batch) ∷ (codes "storage", form.Storage)
    ∷ (codes "window", form.Option setting.Window) ∷ (codes "patience", form.Option setting.Patience)
    ∷ (codes "seed", form.Option setting.Seed) ∷ (codes "swap", form.Option setting.Swap)
    ∷ (codes "limit", form.Option setting.Limit) ∷ (codes "quota", form.Option setting.Quota)
    ∷ (codes "own", form.Own) ∷ (codes "log", form.Log)
    ∷ (codes "clear", form.Clear) ∷ (codes "add", form.Atomic Add)
    ∷ (codes "and", form.Atomic And) ∷ (codes "or", form.Atomic Or) ∷ (codes "xor", form.Atomic Xor)
    ∷ (codes "max", form.Atomic Max) ∷ (codes "min", form.Atomic Min) ∷ (codes "byte_min", form.Atomic ByteMin)
    ∷ (codes "byte_max", form.Atomic ByteMax) ∷ (codes "append", form.Atomic AppendIfFits)
    ∷ (codes "compare_and_clear", form.Atomic CompareAndClear) ∷ (codes "life", form.Life) ∷ (codes "ask", form.Ask)
    ∷ (codes "last", form.Last) ∷ (codes "do", form.Do) ∷ (codes "close", form.Close) ∷ (codes "kill", form.Kill)
    ∷ (codes "end", form.End) ∷ []

-- the form that a table has for a word
abbrev pub form_in : List (List ℕ × Form) → List ℕ → Option Form
form_in table word = option_map (λ row. row.1) (find (λ row. is_word word row.0) table)

-- the form whose first word this is
abbrev pub form_of : List ℕ → Option Form
form_of word = form_in forms word

abbrev pub option_line : Setting → List ℕ → Result Line Kind
option_line setting word = do
  number ← number_field (least_of setting) (most_of setting) word
  Ok (sets setting number)

abbrev pub batch_line : List ℕ → Result Line Kind
batch_line word = do
  version ← number_field 1 max_version word
  Ok (batch_of version)

-- a key and a value
abbrev pub pair_of : (key value : List ℕ) → Result (List ℕ × List ℕ) Kind
pair_of key value = do
  key ← key_field key
  value ← value_field value
  Ok (key, value)

-- two words that are a key and a value
abbrev pub pair_in : List (List ℕ) → Result (List ℕ × List ℕ) Kind
pair_in (key ∷ value ∷ []) = pair_of key value
pair_in words = Err kind.Word

abbrev pub clear_line : (begin end : List ℕ) → Result Line Kind
clear_line begin end = do
  begin ← bytes_field begin
  end ← bytes_field end
  range ← range_of begin end
  Ok (changes (Clear range))

abbrev pub life_line : List ℕ → Result Line Kind
life_line word = do
  version ← number_field 0 max_version word
  Ok (life_to version)

-- a request of a reader from 1 to 64
abbrev pub asked_by : List ℕ → List (List ℕ) → Result Line Kind
asked_by reader request = do
  number ← number_field 1 64 reader
  ask ← request_of request
  Ok (asks number ask)

abbrev pub ask_line : List (List ℕ) → Result Line Kind
ask_line [] = Err kind.Word
ask_line (reader ∷ request) = if is_request request then asked_by reader request else Err kind.Word

-- a request that is answered at the end of the life, which no reader asks (0)
abbrev pub asked_at_end : List (List ℕ) → Result Line Kind
asked_at_end request = do
  ask ← request_of request
  Ok (asks 0 ask)

abbrev pub last_line : List (List ℕ) → Result Line Kind
last_line request = if is_request request then asked_at_end request else Err kind.Word

-- a step, so often
abbrev pub step_line : Do → Option (List ℕ) → Result Line Kind
step_line done None = Ok (does done 1)
step_line done (Some word) = do
  count ← number_field 1 1000000 word
  Ok (does done count)

-- the acts that take no reader, each by its word
abbrev pub act_of : List ℕ → Option Do
act_of word =
    if is_word word (codes "apply") then Some (step.Act Apply)
    else (if is_word word (codes "began") then Some (step.Act Began)
    else (if is_word word (codes "durable") then Some (step.Act Durable)
    else (if is_word word (codes "flush") then Some step.Flush
    else None)))

-- an act, if its word is known
abbrev pub known_act : Option Do → Option (List ℕ) → Result Line Kind
known_act None count = Err kind.Word
known_act (Some done) count = step_line done count

-- an act that takes no reader, once or so often
abbrev pub act_line : List (List ℕ) → Option Do → Result Line Kind
act_line [] act = known_act act None
act_line (count ∷ []) act = known_act act (Some count)
act_line words act = Err kind.Word

abbrev pub poll_by : List ℕ → Option (List ℕ) → Result Line Kind
poll_by reader count = do
  number ← number_field 1 64 reader
  step_line (step.Poll number) count

-- `poll` of a reader from 1 to 64, once or so often
abbrev pub poll_line : List (List ℕ) → Result Line Kind
poll_line (reader ∷ []) = poll_by reader None
poll_line (reader ∷ count ∷ []) = poll_by reader (Some count)
poll_line words = Err kind.Word

abbrev pub do_line : List (List ℕ) → Result Line Kind
do_line [] = Err kind.Word
do_line (act ∷ words) = if is_word act (codes "poll") then poll_line words else act_line words (act_of act)

-- how many calls of its disk pass before a life is killed, and what the crash leaves
abbrev pub kill_line : (calls choice : List ℕ) → Result Line Kind
kill_line calls choice = do
  calls ← number_field 0 max_calls calls
  choice ← number_field 0 max_number choice
  Ok (kills calls choice)

-- What the words after the first say. A wrong number of words, or an unknown one, is told before what single words
-- stand for, of these the first from the left is told, and then what they are together
abbrev pub line_of : Form → List (List ℕ) → Result Line Kind
line_of form.Storage words = Ok head
line_of (form.Option setting) (number ∷ []) = option_line setting number
line_of (form.Option setting) words = Err kind.Word
line_of form.Own words = Ok owns_all
line_of form.Log [] = Ok log_begins
line_of form.Log (word ∷ words) = Err kind.Word
line_of form.Batch (version ∷ []) = batch_line version
line_of form.Batch words = Err kind.Word
line_of form.Set words = pair_in words >>= λ pair. Ok (changes (Set pair.0 pair.1))
line_of form.Clear (begin ∷ end ∷ []) = clear_line begin end
line_of form.Clear words = Err kind.Word
line_of (form.Atomic op) words = pair_in words >>= λ pair. Ok (changes (Atomic op pair.0 pair.1))
line_of form.Life (version ∷ []) = life_line version
line_of form.Life words = Err kind.Word
line_of form.Ask words = ask_line words
line_of form.Last words = last_line words
line_of form.Do words = do_line words
line_of form.Close [] = Ok closes
line_of form.Close (word ∷ words) = Err kind.Word
line_of form.Kill (calls ∷ choice ∷ []) = kill_line calls choice
line_of form.Kill words = Err kind.Word
line_of form.End [] = Ok ends
line_of form.End (word ∷ words) = Err kind.Word
