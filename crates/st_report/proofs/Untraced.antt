-- The lines of the trace form without the trace.
use Rattle.std.proofs.Common.{◌≡◌, ◌∙◌, ℕ, ◌+◌, List, [], ◌∷◌, ◌++◌, map, ap, sym, refl, true, false}
use Rattle.std.specs.Prelude.{Option, Some, None}
use Rattle.std.specs.List.{flat_map, filter_map}
use Rattle.std.proofs.lemmas.List.Elements.{filter_map-append}
use Rattle.st_fold.specs.declared.report.Answered.{Answered}
use Rattle.st_fold.specs.declared.report.Event.{Event}
use Rattle.st_fold.specs.declared.report.Event.TheVariants as event
use Rattle.st_fold.specs.declared.report.Fault.{Fault}
use Rattle.st_fold.specs.declared.report.Life.{Life}
use Rattle.st_report.specs.declared.report.Form.TheVariants as form
use Rattle.st_report.specs.declared.report.Report.{Report}
use Rattle.st_report.specs.Text.{answer_line, answer_count, end_line, ended_line, event_lines, fault_lines, life_lines, lives_lines, opened_line, lines_of}
use Rattle.st_report.specs.Forms.{in_form, untraced}

no_events : (trace : List Event) → filter_map untraced (flat_map event_lines trace) ≡ []
no_events [] = refl
no_events (event.Opened version ∷ trace) = no_events trace
no_events (event.Applied version ∷ trace) = no_events trace
no_events (event.FetchStart begin at ∷ trace) = no_events trace
no_events (event.Block begin upto ∷ trace) = no_events trace
no_events (event.Split begin key ∷ trace) = no_events trace
no_events (event.Began version ∷ trace) = no_events trace
no_events (event.Durable version ∷ trace) = no_events trace
no_events (event.Watched number key value ∷ trace) = no_events trace
no_events (event.Unwatched number ∷ trace) = no_events trace
no_events (event.Closed ∷ trace) = no_events trace
no_events (event.Killed ∷ trace) = no_events trace

no_places : (answers : List Answered) → filter_map untraced (map (answer_line true) answers) ≡ map (answer_line false) answers
no_places [] = refl
no_places (answered ∷ answers) = ap (λ rest. answer_line false answered ∷ rest) (no_places answers)

one_life : (number : ℕ) (life : Life) → filter_map untraced (life_lines true number life) ≡ life_lines false number life
one_life number life =
    let answers = map (answer_line true) life.answers in
    let ended = ended_line number life.ending ∷ [] in
    ap (λ rest. opened_line number life ∷ rest) (filter_map-append untraced (flat_map event_lines life.trace) (answers ++ ended)
    ∙ ap (λ events. events ++ filter_map untraced (answers ++ ended)) (no_events life.trace)
    ∙ filter_map-append untraced answers ended
    ∙ ap (λ told. told ++ ended) (no_places life.answers))

all_lives : (number : ℕ) (lives : List Life) → filter_map untraced (lives_lines true number lives) ≡ lives_lines false number lives
all_lives number [] = refl
all_lives number (life ∷ lives) =
    filter_map-append untraced (life_lines true number life) (lives_lines true (number + 1) lives)
    ∙ ap (λ first. first ++ filter_map untraced (lives_lines true (number + 1) lives)) (one_life number life)
    ∙ ap (λ rest. life_lines false number life ++ rest) (all_lives (number + 1) lives)

after_lives : (why : Option Fault) (status answers : ℕ) → filter_map untraced (fault_lines why ++ end_line status answers ∷ []) ≡ fault_lines why ++ end_line status answers ∷ []
after_lives None status answers = refl
after_lives (Some why) status answers = refl

pub the_same : (report : Report) → lines_of (in_form form.Answers report) ≡ filter_map untraced (lines_of (in_form form.Trace report))
the_same report =
    let rest = fault_lines report.fault ++ end_line report.status (answer_count report.lives) ∷ [] in
    let both : filter_map untraced (lives_lines true 1 report.lives ++ rest) ≡ lives_lines false 1 report.lives ++ rest =
    filter_map-append untraced (lives_lines true 1 report.lives) rest
    ∙ ap (λ told. told ++ filter_map untraced rest) (all_lives 1 report.lives)
    ∙ ap (λ last. lives_lines false 1 report.lives ++ last) (after_lives report.fault report.status (answer_count report.lives)) in
    sym both
