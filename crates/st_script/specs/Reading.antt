-- The script that bytes are, or their first fault: its line, counted from 1, and its kind.
use Rattle.std.specs.Prelude.{ℕ, ◌+◌, not, ◌&&◌, ◌||◌, nat_lt, List, [], ◌∷◌, length, Option, Some, None, Result, Ok, Err, codes, if◌then◌else◌}
use Rattle.st_fold.specs.declared.plan.Kind.{Kind}
use Rattle.st_fold.specs.declared.plan.Kind.TheVariants as kind
use Rattle.st_fold.specs.declared.plan.Script.{Script}
use Rattle.st_script.specs.declared.form.Form.{Form}
use Rattle.st_script.specs.declared.form.Place.{Place}
use Rattle.st_script.specs.declared.form.Place.TheVariants as place
use Rattle.st_script.specs.Words.{lines, words, is_skipped}
use Rattle.st_script.specs.Fields.{is_word, ◌>>=◌}
use Rattle.st_script.specs.Lines.{form_of, line_of}
use Rattle.st_script.specs.Draft.{Drafted, nothing_yet, later_forms, is_among, is_later_line, is_allowed, is_ruled_out, add_line}
use Rattle.st_script.specs.Options.{settings_of}

-- how many bytes a script may have
abbrev pub max_bytes : ℕ
max_bytes = 67108864

-- the draft with what a line of this form says
abbrev pub add_form : Drafted → Form → List (List ℕ) → Result Drafted Kind
add_form draft form words = line_of form words >>= add_line draft

-- a line of a known form: is it played, may it stand here, what does it say, and what does it add
abbrev pub judge_form : Drafted → Form → List (List ℕ) → Result Drafted Kind
judge_form draft form words =
    if is_later_line draft form words then Err kind.Unbuilt
    else (if not (is_allowed draft.place form) || is_ruled_out draft form then Err kind.Order
    else add_form draft form words)

abbrev pub judge_known : Drafted → Option Form → List ℕ → List (List ℕ) → Result Drafted Kind
judge_known draft (Some form) word words = judge_form draft form words
judge_known draft None word words = if is_among later_forms word then Err kind.Unbuilt else Err kind.Word

-- the first line is `storage 1`
abbrev pub judge_head : Drafted → List (List ℕ) → Result Drafted Kind
judge_head draft (word ∷ version ∷ []) =
    if is_word word (codes "storage") && is_word version (codes "1") then Ok (record draft { place = place.Head }) else Err kind.Head
judge_head draft words = Err kind.Head

-- the draft after a line that isn't skipped
abbrev pub judge : Drafted → List (List ℕ) → Result Drafted Kind
judge draft [] = Ok draft
judge draft (word ∷ words) = at draft.place
  where
    at : Place → Result Drafted Kind
    at place.Start = judge_head draft (word ∷ words)
    at other = judge_known draft (form_of word) word words

-- the draft after a line
abbrev pub after_line : Drafted → List ℕ → Result Drafted Kind
after_line draft line = if is_skipped (words line) then Ok draft else judge draft (words line)

-- a script is whole where its last line was its end
abbrev pub finish : ℕ → Drafted → Result Script (ℕ × Kind)
finish number draft = at draft.place
  where
    at : Place → Result Script (ℕ × Kind)
    at place.Ended = Ok (record { settings = settings_of draft.chosen; own = draft.own; log = draft.log; lives = draft.lives })
    at other = Err (number, kind.End)

-- what follows a line of this number, unless the line is faulty
abbrev pub on_draft : ℕ → Result Drafted Kind → (Drafted → Result Script (ℕ × Kind)) → Result Script (ℕ × Kind)
on_draft number (Ok after) next = next after
on_draft number (Err why) next = Err (number, why)

-- the lines from this number on, after a draft
abbrev pub judge_lines : ℕ → Drafted → List (List ℕ) → Result Script (ℕ × Kind)
judge_lines number draft [] = finish number draft
judge_lines number draft (line ∷ others) =
    on_draft number (after_line draft line) (λ after. judge_lines (number + 1) after others)

-- the script of these bytes, or the line and the kind of the first fault. Line 0 is the whole
abbrev pub script_of : List ℕ → Result Script (ℕ × Kind)
script_of bytes = if nat_lt max_bytes (length bytes) then Err (0, kind.Long) else judge_lines 1 nothing_yet (lines bytes)
