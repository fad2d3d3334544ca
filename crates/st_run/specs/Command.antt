-- The words of the command line.
use Rattle.std.specs.Prelude.{ℕ, ◌&&◌, bytes_eq, List, [], ◌∷◌, codes, Option, Some, None, unwrap_or, if◌then◌else◌}
use Rattle.st_report.specs.declared.report.Form.{Form}
use Rattle.st_report.specs.declared.report.Form.TheVariants.{Answers, Trace}

-- the form of the report that the words of the command line name: `replay`, or `replay --trace`. None where the words
-- are neither
abbrev pub form_named : List (List ℕ) → Option Form
form_named [] = None
form_named (command ∷ []) = if bytes_eq command (codes "replay") then Some Answers else None
form_named (command ∷ option ∷ []) =
    if bytes_eq command (codes "replay") && bytes_eq option (codes "--trace") then Some Trace else None
form_named (command ∷ option ∷ other ∷ others) = None

-- the form of the report: the one that the words name, and Answers where they name none
abbrev pub form_of : List (List ℕ) → Form
form_of words = unwrap_or (form_named words) Answers
