-- What a reader answers, beside what the definitions judge. Want of memory is answered at any judgement.
use Rattle.std.specs.Prelude.{◌≡◌, ℕ, Result, Ok, Err}
use Rattle.st_fold.specs.declared.plan.Kind.{Kind}
use Rattle.st_fold.specs.declared.plan.Kind.TheVariants as kind
use Rattle.st_fold.specs.declared.plan.Script.{Script}
use Rattle.st_key.specs.declared.stored.KeyRefusal.{KeyRefusal}
use Rattle.st_key.specs.declared.stored.KeyRefusal.TheVariants as why_key
use Rattle.st_key.specs.declared.stored.ValueRefusal.{ValueRefusal}
use Rattle.st_key.specs.declared.stored.ValueRefusal.TheVariants as why_value
use Rattle.st_script.specs.declared.refusal.LineRefusal.{LineRefusal}
use Rattle.st_script.specs.declared.refusal.LineRefusal.TheVariants as why_line
use Rattle.st_script.specs.declared.refusal.ScriptRefusal.{ScriptRefusal}
use Rattle.st_script.specs.declared.refusal.ScriptRefusal.TheVariants as why_script
use Rattle.st_script.specs.Draft.{Drafted}

-- the value or the kind of fault that is judged
abbrev pub Says : {A : Type 0} → Result A LineRefusal → Result A Kind → Type 0
Says (Ok value) judged = judged ≡ Ok value
Says (Err (why_line.Bad kind)) judged = judged ≡ Err kind
Says (Err why_line.NoMemory) judged = Unit {0}

-- the same of a value that is seen as another
abbrev pub SaysAs : {A B : Type 0} → (A → B) → Result A LineRefusal → Result B Kind → Type 0
SaysAs seen (Ok value) judged = judged ≡ Ok (seen value)
SaysAs seen (Err (why_line.Bad kind)) judged = judged ≡ Err kind
SaysAs seen (Err why_line.NoMemory) judged = Unit {0}

-- the draft after a line, or the kind of fault that is judged
abbrev pub Becomes : {A : Type 0} → Result A LineRefusal → Drafted → Result Drafted Kind → Type 0
Becomes (Ok done) after judged = judged ≡ Ok after
Becomes (Err (why_line.Bad kind)) after judged = judged ≡ Err kind
Becomes (Err why_line.NoMemory) after judged = Unit {0}

-- the script, or the line and the kind of the fault, that is judged
abbrev pub Reads : Result Script ScriptRefusal → Result Script (ℕ × Kind) → Type 0
Reads (Ok script) judged = judged ≡ Ok script
Reads (Err (why_script.Bad line kind)) judged = judged ≡ Err (line, kind)
Reads (Err why_script.NoMemory) judged = Unit {0}

-- what a line of a refused key or value is refused for
abbrev pub of_key : KeyRefusal → LineRefusal
of_key (why_key.KeyTooLong len) = why_line.Bad kind.Key
of_key why_key.NoMemory = why_line.NoMemory

abbrev pub of_value : ValueRefusal → LineRefusal
of_value (why_value.ValueTooLong len) = why_line.Bad kind.Value
of_value why_value.NoMemory = why_line.NoMemory

-- a line's fault, told with the line's number
abbrev pub at_line : ℕ → LineRefusal → ScriptRefusal
at_line number (why_line.Bad kind) = why_script.Bad number kind
at_line number why_line.NoMemory = why_script.NoMemory
