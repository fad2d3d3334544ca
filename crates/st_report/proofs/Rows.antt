-- Worked rows: reports and their texts, by the definition alone.
use Rattle.std.proofs.Common.{◌≡◌, ℕ, List, [], ◌∷◌, codes, true, false, refl}
use Rattle.std.specs.Prelude.{Some, None}
use Rattle.std.specs.Fmt.{digits}
use Rattle.std.specs.List.{flat_map}
use Rattle.hex.proofs.OnLiterals.{hex_on_literals}
use Rattle.st_key.specs.declared.part.MetaPart.TheVariants as part
use Rattle.st_fold.specs.declared.plan.Kind.TheVariants as kind
use Rattle.st_fold.specs.declared.report.Damage.TheVariants as damage
use Rattle.st_fold.specs.declared.report.Ending.TheVariants as ending
use Rattle.st_fold.specs.declared.report.Event.TheVariants as event
use Rattle.st_fold.specs.declared.report.Fault.{Fault}
use Rattle.st_fold.specs.declared.report.Fault.TheVariants as fault
use Rattle.st_fold.specs.declared.report.ForeignPart.TheVariants as foreign
use Rattle.st_fold.specs.declared.request.Answer.TheVariants as answer
use Rattle.st_fold.specs.declared.request.Found.TheVariants as found
use Rattle.st_report.specs.declared.report.Form.{Form}
use Rattle.st_report.specs.declared.report.Form.TheVariants as form
use Rattle.st_report.specs.declared.report.Report.{Report}
use Rattle.st_report.specs.Text.{event_lines, fault_lines, line_text, text_of}

-- one life applies version 1, and a get at 1 is polled after that
first_get : Form → Report
first_get shown = record {
  status = 0;
  fault = None;
  lives = record {
    opened = 0;
    trace = event.Opened 0 ∷ event.Applied 1 ∷ event.Closed ∷ [];
    answers = record { request = 1; places = 2 ∷ []; answer = answer.Value (49 ∷ []) } ∷ [];
    ending = ending.Closed;
  } ∷ [];
  form = shown;
}

first_get-answers : text_of (first_get form.Answers) ≡ codes "life 1 opened 0\nanswer 1 = 31\nlife 1 closed\nend status 0 asked 1 answered 1\n"
unfolding first_get hex_on_literals digits
first_get-answers = refl

first_get-trace : text_of (first_get form.Trace) ≡ codes "life 1 opened 0\nevent applied 1\nanswer 1 at 2 = 31\nlife 1 closed\nend status 0 asked 1 answered 1\n"
unfolding first_get hex_on_literals digits
first_get-trace = refl

first_get-summary : text_of (first_get form.Summary) ≡ codes "lives 1\nend status 0 asked 1 answered 1\n"
unfolding first_get hex_on_literals digits
first_get-summary = refl

-- nothing is applied, and a get at 1 is polled three times
future_version : Form → Report
future_version shown = record {
  status = 0;
  fault = None;
  lives = record {
    opened = 0;
    trace = event.Opened 0 ∷ event.Closed ∷ [];
    answers = record { request = 1; places = 1 ∷ 1 ∷ 1 ∷ []; answer = answer.FutureVersion 0 3 } ∷ [];
    ending = ending.Closed;
  } ∷ [];
  form = shown;
}

future_version-answers : text_of (future_version form.Answers) ≡ codes "life 1 opened 0\nanswer 1 1009 future_version newest 0\nlife 1 closed\nend status 0 asked 1 answered 1\n"
unfolding future_version digits
future_version-answers = refl

future_version-trace : text_of (future_version form.Trace) ≡ codes "life 1 opened 0\nanswer 1 at 1,1,1 1009 future_version newest 0\nlife 1 closed\nend status 0 asked 1 answered 1\n"
unfolding future_version digits
future_version-trace = refl

-- the answers of ranges and selectors, and one that was never polled
ranges : Form → Report
ranges shown = record {
  status = 0;
  fault = None;
  lives = record {
    opened = 0;
    trace = event.Opened 0 ∷ [];
    answers = record { request = 1; places = 4 ∷ []; answer = answer.Rows ((99 ∷ [], 51 ∷ []) ∷ []) true }
        ∷ record { request = 2; places = 4 ∷ 5 ∷ []; answer = answer.Rows ((97 ∷ [], 49 ∷ []) ∷ (98 ∷ [], []) ∷ []) false }
        ∷ record { request = 3; places = 4 ∷ []; answer = answer.KeyIs (found.Key (98 ∷ [])) }
        ∷ record { request = 4; places = 4 ∷ []; answer = answer.KeyIs found.Before }
        ∷ record { request = 5; places = 4 ∷ []; answer = answer.KeyIs found.After }
        ∷ record { request = 6; places = []; answer = answer.Stopped } ∷ [];
    ending = ending.Faulted;
  } ∷ [];
  form = shown;
}

ranges-answers : text_of (ranges form.Answers) ≡ codes "life 1 opened 0\nanswer 1 rows more 63=33\nanswer 2 rows all 61=31 62=-\nanswer 3 key 62\nanswer 4 key before\nanswer 5 key after\nanswer 6 stopped\nlife 1 faulted\nend status 0 asked 6 answered 6\n"
unfolding ranges hex_on_literals digits
ranges-answers = refl

ranges-trace : text_of (ranges form.Trace) ≡ codes "life 1 opened 0\nanswer 1 at 4 rows more 63=33\nanswer 2 at 4,5 rows all 61=31 62=-\nanswer 3 at 4 key 62\nanswer 4 at 4 key before\nanswer 5 at 4 key after\nanswer 6 at - stopped\nlife 1 faulted\nend status 0 asked 6 answered 6\n"
unfolding ranges hex_on_literals digits
ranges-trace = refl

each_event : flat_map line_text (flat_map event_lines (event.Opened 0 ∷ event.Applied 2 ∷ event.FetchStart (97 ∷ []) 2 ∷ event.Block (97 ∷ []) (255 ∷ [])
    ∷ event.Split [] (98 ∷ []) ∷ event.Began 2 ∷ event.Durable 2 ∷ event.Watched 1 (97 ∷ []) (Some (65 ∷ [])) ∷ event.Watched 2 (98 ∷ []) None
    ∷ event.Unwatched 1 ∷ event.Killed ∷ event.Closed ∷ []))
    ≡ codes "event applied 2\nevent start 61 2\nevent block 61 ff\nevent split - 62\nevent began 2\nevent durable 2\nevent watched 1 61 41\nevent watched 2 62 none\nevent unwatched 1\n"
unfolding hex_on_literals digits
each_event = refl

-- the lines of faults
told : List Fault → List ℕ
told faults = flat_map (λ why. flat_map line_text (fault_lines (Some why))) faults

each_fault : told (fault.Words ∷ fault.Script 4 kind.Range ∷ fault.Read 1 ∷ fault.Device 1 ∷ fault.Peer 1 ∷ fault.Damaged (damage.File 0 1)
    ∷ fault.Damaged (damage.Meta part.Version) ∷ fault.Damaged (damage.Meta part.Other) ∷ fault.Memory ∷ fault.Full 254 200
    ∷ fault.Foreign foreign.Version ∷ fault.Foreign foreign.Assigned ∷ fault.Foreign (foreign.Key (97 ∷ [])) ∷ [])
    ≡ codes "fault words\nfault script line 4 range\nfault read 1\nfault device 1\nfault peer 1\nfault damaged 0 1\nfault damaged meta version\nfault damaged meta other\nfault memory\nfault full 254 200\nfault foreign version\nfault foreign assigned\nfault foreign key 61\n"
unfolding told hex_on_literals digits
each_fault = refl
