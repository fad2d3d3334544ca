-- What the forms of one report have in common.
use Rattle.std.specs.Prelude.{bytes_eq, [], ◌∷◌, codes, Option, Some, None, if◌then◌else◌}
use Rattle.st_report.specs.declared.report.Form.{Form}
use Rattle.st_report.specs.declared.report.Report.{Report}
use Rattle.st_report.specs.Text.{Line}

-- the report in another form
abbrev pub in_form : Form → Report → Report
in_form shown report = record report { form = shown }

-- the words of an answer line after the first, without `at PLACES`
abbrev pub without_places : Line → Line
without_places (number ∷ at ∷ places ∷ result) = number ∷ result
without_places (number ∷ at ∷ []) = number ∷ at ∷ []
without_places (number ∷ []) = number ∷ []
without_places [] = []

-- a line of the trace form as the form without the trace has it: not at all where it tells an event, and without the
-- places where it tells an answer
abbrev pub untraced : Line → Option Line
untraced [] = Some []
untraced (word ∷ words) =
    if bytes_eq word (codes "event") then None
    else if bytes_eq word (codes "answer") then Some (word ∷ without_places words)
    else Some (word ∷ words)
