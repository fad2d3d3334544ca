-- The text of a report, as lines of words.
use Rattle.std.specs.Prelude.{ℕ, ◌+◌, Bool, true, false, List, [], ◌∷◌, ◌++◌, length, map, codes, decimal, Option, Some, None}
use Rattle.std.specs.List.{flat_map, sum_by}
use Rattle.hex.specs.Hex.{encode_lower}
use Rattle.st_key.specs.declared.part.MetaPart.{MetaPart}
use Rattle.st_key.specs.declared.part.MetaPart.TheVariants as part
use Rattle.st_fold.specs.declared.plan.Kind.{Kind}
use Rattle.st_fold.specs.declared.plan.Kind.TheVariants as kind
use Rattle.st_fold.specs.declared.report.Answered.{Answered}
use Rattle.st_fold.specs.declared.report.Damage.{Damage}
use Rattle.st_fold.specs.declared.report.Damage.TheVariants as damage
use Rattle.st_fold.specs.declared.report.Ending.{Ending}
use Rattle.st_fold.specs.declared.report.Ending.TheVariants as ending
use Rattle.st_fold.specs.declared.report.Event.{Event}
use Rattle.st_fold.specs.declared.report.Event.TheVariants as event
use Rattle.st_fold.specs.declared.report.Fault.{Fault}
use Rattle.st_fold.specs.declared.report.Fault.TheVariants as fault
use Rattle.st_fold.specs.declared.report.ForeignPart.{ForeignPart}
use Rattle.st_fold.specs.declared.report.ForeignPart.TheVariants as foreign
use Rattle.st_fold.specs.declared.report.Life.{Life}
use Rattle.st_fold.specs.declared.request.Answer.{Answer}
use Rattle.st_fold.specs.declared.request.Answer.TheVariants as answer
use Rattle.st_fold.specs.declared.request.Found.{Found}
use Rattle.st_fold.specs.declared.request.Found.TheVariants as found
use Rattle.st_report.specs.declared.report.Form.{Form}
use Rattle.st_report.specs.declared.report.Form.TheVariants as form
use Rattle.st_report.specs.declared.report.Report.{Report}

-- the words of a line, each a list of bytes
abbrev pub Line : Type 0
Line = List (List ℕ)

-- a word after a space
abbrev pub spaced : List ℕ → List ℕ
spaced word = 32 ∷ word

-- a line: its words with a space between each two, and LF
abbrev pub line_text : Line → List ℕ
line_text [] = codes "\n"
line_text (word ∷ words) = word ++ (flat_map spaced words ++ codes "\n")

-- bytes in hex, `-` for none
abbrev pub hex_word : List ℕ → List ℕ
hex_word [] = codes "-"
hex_word (byte ∷ bytes) = encode_lower (byte ∷ bytes)

-- a value in hex, or `none`
abbrev pub value_word : Option (List ℕ) → List ℕ
value_word None = codes "none"
value_word (Some value) = hex_word value

-- the line of an event, where it has one: how a life opens and ends is told by the lines of the life
abbrev pub event_lines : Event → List Line
event_lines (event.Opened version) = []
event_lines (event.Applied version) = (codes "event" ∷ codes "applied" ∷ decimal version ∷ []) ∷ []
event_lines (event.FetchStart begin at) = (codes "event" ∷ codes "start" ∷ hex_word begin ∷ decimal at ∷ []) ∷ []
event_lines (event.Block begin upto) = (codes "event" ∷ codes "block" ∷ hex_word begin ∷ hex_word upto ∷ []) ∷ []
event_lines (event.Split begin key) = (codes "event" ∷ codes "split" ∷ hex_word begin ∷ hex_word key ∷ []) ∷ []
event_lines (event.Began version) = (codes "event" ∷ codes "began" ∷ decimal version ∷ []) ∷ []
event_lines (event.Durable version) = (codes "event" ∷ codes "durable" ∷ decimal version ∷ []) ∷ []
event_lines (event.Watched number key value) = (codes "event" ∷ codes "watched" ∷ decimal number ∷ hex_word key ∷ value_word value ∷ []) ∷ []
event_lines (event.Unwatched number) = (codes "event" ∷ codes "unwatched" ∷ decimal number ∷ []) ∷ []
event_lines event.Closed = []
event_lines event.Killed = []

-- places with a comma between each two, `-` for none
abbrev pub places_word : List ℕ → List ℕ
places_word [] = codes "-"
places_word (place ∷ places) = decimal place ++ flat_map (λ next. codes "," ++ decimal next) places

-- what the trace form says of where polls were made
abbrev pub place_words : (traced : Bool) → List ℕ → Line
place_words false places = []
place_words true places = codes "at" ∷ places_word places ∷ []

-- a pair as `KEY=VALUE`
abbrev pub row_word : List ℕ × List ℕ → List ℕ
row_word row = hex_word row.0 ++ (codes "=" ++ hex_word row.1)

abbrev pub more_word : Bool → List ℕ
more_word true = codes "more"
more_word false = codes "all"

abbrev pub found_word : Found → List ℕ
found_word (found.Key key) = hex_word key
found_word found.Before = codes "before"
found_word found.After = codes "after"

abbrev pub result_words : Answer → Line
result_words (answer.Value value) = codes "=" ∷ hex_word value ∷ []
result_words answer.Absent = codes "absent" ∷ []
result_words (answer.Rows rows more) = codes "rows" ∷ more_word more ∷ map row_word rows
result_words (answer.KeyIs key) = codes "key" ∷ found_word key ∷ []
result_words (answer.Fired version) = codes "fired" ∷ decimal version ∷ []
result_words answer.Waiting = codes "waiting" ∷ []
result_words (answer.TooOld oldest) = codes "1007" ∷ codes "transaction_too_old" ∷ codes "oldest" ∷ decimal oldest ∷ []
result_words (answer.FutureVersion newest polls) = codes "1009" ∷ codes "future_version" ∷ codes "newest" ∷ decimal newest ∷ []
result_words (answer.WrongShard key) = codes "1001" ∷ codes "wrong_shard_server" ∷ codes "at" ∷ hex_word key ∷ []
result_words (answer.TooManyWatches limit) = codes "too_many_watches" ∷ codes "limit" ∷ decimal limit ∷ []
result_words answer.Stopped = codes "stopped" ∷ []

abbrev pub answer_line : (traced : Bool) → Answered → Line
answer_line traced answered =
    codes "answer" ∷ decimal answered.request ∷ (place_words traced answered.places ++ result_words answered.answer)

abbrev pub ending_word : Ending → List ℕ
ending_word ending.Closed = codes "closed"
ending_word ending.Killed = codes "killed"
ending_word ending.Faulted = codes "faulted"

-- the lines of the events of a life, in the trace form
abbrev pub trace_lines : (traced : Bool) → List Event → List Line
trace_lines false trace = []
trace_lines true trace = flat_map event_lines trace

abbrev pub opened_line : ℕ → Life → Line
opened_line number life = codes "life" ∷ decimal number ∷ codes "opened" ∷ decimal life.opened ∷ []

abbrev pub ended_line : ℕ → Ending → Line
ended_line number ending = codes "life" ∷ decimal number ∷ ending_word ending ∷ []

-- the lines of one life, of this number
abbrev pub life_lines : (traced : Bool) → ℕ → Life → List Line
life_lines traced number life =
    opened_line number life
    ∷ (trace_lines traced life.trace ++ (map (answer_line traced) life.answers ++ ended_line number life.ending ∷ []))

-- the lines of these lives, of which the first has this number
abbrev pub lives_lines : (traced : Bool) → ℕ → List Life → List Line
lives_lines traced number [] = []
lives_lines traced number (life ∷ lives) = life_lines traced number life ++ lives_lines traced (number + 1) lives

-- what is told of the lives in each form
abbrev pub shown : Form → List Life → List Line
shown form.Answers lives = lives_lines false 1 lives
shown form.Trace lives = lives_lines true 1 lives
shown form.Summary lives = (codes "lives" ∷ decimal (length lives) ∷ []) ∷ []

abbrev pub kind_word : Kind → List ℕ
kind_word kind.Head = codes "head"
kind_word kind.Word = codes "word"
kind_word kind.Number = codes "number"
kind_word kind.Hex = codes "hex"
kind_word kind.Key = codes "key"
kind_word kind.Value = codes "value"
kind_word kind.Range = codes "range"
kind_word kind.Version = codes "version"
kind_word kind.Order = codes "order"
kind_word kind.Limit = codes "limit"
kind_word kind.End = codes "end"
kind_word kind.Long = codes "long"
kind_word kind.Unbuilt = codes "unbuilt"

abbrev pub part_word : MetaPart → List ℕ
part_word part.Version = codes "version"
part_word part.Assigned = codes "assigned"
part_word part.Available = codes "available"
part_word part.Other = codes "other"

abbrev pub damage_words : Damage → Line
damage_words (damage.File file at) = decimal file ∷ decimal at ∷ []
damage_words (damage.Meta which) = codes "meta" ∷ part_word which ∷ []

abbrev pub foreign_words : ForeignPart → Line
foreign_words foreign.Version = codes "version" ∷ []
foreign_words foreign.Assigned = codes "assigned" ∷ []
foreign_words (foreign.Key key) = codes "key" ∷ hex_word key ∷ []

abbrev pub fault_words : Fault → Line
fault_words fault.Words = codes "words" ∷ []
fault_words (fault.Script line why) = codes "script" ∷ codes "line" ∷ decimal line ∷ kind_word why ∷ []
fault_words (fault.Read faults) = codes "read" ∷ decimal faults ∷ []
fault_words (fault.Device faults) = codes "device" ∷ decimal faults ∷ []
fault_words (fault.Peer faults) = codes "peer" ∷ decimal faults ∷ []
fault_words (fault.Damaged what) = codes "damaged" ∷ damage_words what
fault_words fault.Memory = codes "memory" ∷ []
fault_words (fault.Full size limit) = codes "full" ∷ decimal size ∷ decimal limit ∷ []
fault_words (fault.Foreign what) = codes "foreign" ∷ foreign_words what

-- the fault line, where there is a fault
abbrev pub fault_lines : Option Fault → List Line
fault_lines None = []
fault_lines (Some why) = (codes "fault" ∷ fault_words why) ∷ []

abbrev pub answer_count : List Life → ℕ
answer_count lives = sum_by (λ life. length life.answers) lives

-- each request has one answer, so both counts are the number of answers
abbrev pub end_line : ℕ → ℕ → Line
end_line status answers =
    codes "end" ∷ codes "status" ∷ decimal status ∷ codes "asked" ∷ decimal answers ∷ codes "answered" ∷ decimal answers ∷ []

-- the lives in the report's form, the fault and the end line
abbrev pub lines_of : Report → List Line
lines_of report =
    shown report.form report.lives ++ (fault_lines report.fault ++ end_line report.status (answer_count report.lives) ∷ [])

-- the lines of a report, one after another
abbrev pub text_of : Report → List ℕ
text_of report = flat_map line_text (lines_of report)
