-- The script so far, and what may follow.
use Rattle.std.specs.Prelude.{ℕ, ◌+◌, Bool, true, false, not, ◌&&◌, ◌||◌, ◌==◌, nat_lt, nat_le, List, [], ◌∷◌, ◌++◌, length, Option, None, Some, is_some, Result, Ok, Err, codes, if◌then◌else◌}
use Rattle.std.specs.List.{list_any}
use Rattle.std.specs.Option.{option_map_or}
use Rattle.st_key.specs.Spans.{Span}
pub use Rattle.st_key.specs.Spans.{all_keys}
use Rattle.st_mutation.specs.declared.batch.Batch.{Batch}
use Rattle.st_mutation.specs.declared.batch.Mutation.{Mutation}
use Rattle.st_fold.specs.declared.plan.Do.{Do}
use Rattle.st_fold.specs.declared.plan.Kind.{Kind}
use Rattle.st_fold.specs.declared.plan.Kind.TheVariants as kind
use Rattle.st_fold.specs.declared.plan.LifePlan.{LifePlan}
use Rattle.st_fold.specs.declared.request.Ask.{Ask}
use Rattle.st_fold.specs.declared.request.Ask.TheVariants.{Rows}
use Rattle.st_fold.specs.declared.request.Request.{Request}
use Rattle.st_script.specs.declared.form.Form.{Form}
use Rattle.st_script.specs.declared.form.Form.TheVariants as form
use Rattle.st_script.specs.declared.form.Place.{Place}
use Rattle.st_script.specs.declared.form.Place.TheVariants as place
use Rattle.st_script.specs.declared.options.Chosen.{Chosen}
use Rattle.st_script.specs.Lines as line
use Rattle.st_script.specs.Lines.{Line}
use Rattle.st_script.specs.Words.{is_empty}
use Rattle.st_script.specs.Fields.{is_word}
use Rattle.st_script.specs.Options.{none_chosen, chosen_of, choose}

-- the lines so far: where they have led, and what they say
pub record Drafted : Type 0 where
  pub place : Place
  -- the options that lines have set
  pub chosen : Chosen
  pub own : List Span
  pub log : List Batch
  pub lives : List LifePlan
  -- how many requests there are, and how many rows they ask for together
  pub requests : ℕ
  pub rows : ℕ

abbrev pub nothing_yet : Drafted
nothing_yet = record { place = place.Start; chosen = none_chosen; own = []; log = []; lives = []; requests = 0; rows = 0 }

-- ---- lines that this program doesn't play yet

-- the first words of forms that it doesn't play
abbrev pub later_forms : List (List ℕ)
later_forms =
    codes "block" ∷ codes "watches" ∷ codes "assign" ∷ codes "drop" ∷ codes "cut" ∷ codes "peerfail" ∷ []

abbrev pub later_requests : List (List ℕ)
later_requests = codes "watch" ∷ []

abbrev pub later_acts : List (List ℕ)
later_acts = codes "start" ∷ codes "block" ∷ []

abbrev pub is_among : List (List ℕ) → List ℕ → Bool
is_among known word = list_any (is_word word) known

-- the words `- ff`, in hex of either case: all keys
abbrev pub are_all_keys : List (List ℕ) → Bool
are_all_keys (begin ∷ end ∷ []) =
    is_word begin (codes "-") && is_among (codes "ff" ∷ codes "fF" ∷ codes "Ff" ∷ codes "FF" ∷ []) end
are_all_keys words = false

abbrev pub is_among_first : List (List ℕ) → List (List ℕ) → Bool
is_among_first known [] = false
is_among_first known (word ∷ words) = is_among known word

abbrev pub is_among_second : List (List ℕ) → List (List ℕ) → Bool
is_among_second known [] = false
is_among_second known (word ∷ words) = is_among_first known words

-- The words after the first make a line that isn't played yet: of `own` all but one `- ff`, a `log` without it, and
-- requests and acts that come later
abbrev pub is_later_line : Drafted → Form → List (List ℕ) → Bool
is_later_line draft form.Storage words = false
is_later_line draft (form.Option setting) words = false
is_later_line draft form.Own words = not (is_empty draft.own && are_all_keys words)
is_later_line draft form.Log words = is_empty draft.own
is_later_line draft form.Batch words = false
is_later_line draft form.Set words = false
is_later_line draft form.Clear words = false
is_later_line draft (form.Atomic op) words = false
is_later_line draft form.Life words = false
is_later_line draft form.Ask words = is_among_second later_requests words
is_later_line draft form.Last words = false
is_later_line draft form.Do words = is_among_first later_acts words
is_later_line draft form.Close words = false
is_later_line draft form.Kill words = false
is_later_line draft form.End words = false

-- ---- where a line may stand

abbrev pub is_allowed : Place → Form → Bool
is_allowed place.Head (form.Option setting) = true
is_allowed place.Head form.Own = true
is_allowed place.Head form.Log = true
is_allowed place.Log form.Batch = true
is_allowed place.Batch form.Batch = true
is_allowed place.Batch form.Set = true
is_allowed place.Batch form.Clear = true
is_allowed place.Batch (form.Atomic op) = true
is_allowed place.Log form.Life = true
is_allowed place.Batch form.Life = true
is_allowed place.Life form.Ask = true
is_allowed place.Life form.Last = true
is_allowed place.Life form.Do = true
is_allowed place.Life form.Close = true
is_allowed place.Life form.Kill = true
is_allowed place.Closed form.Life = true
is_allowed place.Closed form.End = true
is_allowed at other = false

abbrev pub last_of : {A : Type 0} → List A → Option A
last_of [] = None
last_of (x ∷ []) = Some x
last_of (x ∷ y ∷ ys) = last_of (y ∷ ys)

-- the last life has requests that are answered at its end
abbrev pub has_lasts : List LifePlan → Bool
has_lasts lives = option_map_or (λ plan. not (is_empty plan.lasts)) (last_of lives) false

-- what earlier lines rule out: an option that one of them has set, and a kill where one asks at the end of the life
abbrev pub is_ruled_out : Drafted → Form → Bool
is_ruled_out draft (form.Option setting) = is_some (chosen_of setting draft.chosen)
is_ruled_out draft form.Kill = has_lasts draft.lives
is_ruled_out draft other = false

-- ---- what a line adds

-- the list with its last item changed
abbrev pub on_last : {A : Type 0} → (A → A) → List A → List A
on_last f [] = []
on_last f (x ∷ []) = f x ∷ []
on_last f (x ∷ y ∷ ys) = x ∷ on_last f (y ∷ ys)

-- the version of the last batch, or 0
abbrev pub last_version : List Batch → ℕ
last_version log = option_map_or (λ batch. batch.version) (last_of log) 0

-- up to which version the last life goes, or 0
abbrev pub last_upto : List LifePlan → ℕ
last_upto lives = option_map_or (λ plan. plan.upto) (last_of lives) 0

-- how many batches, lives and requests a script may have, and how many rows its requests may ask for together
abbrev pub max_batches : ℕ
max_batches = 1000000

abbrev pub max_lives : ℕ
max_lives = 1000

abbrev pub max_requests : ℕ
max_requests = 100000

abbrev pub max_rows : ℕ
max_rows = 10000000

abbrev pub no_mutations : ℕ → Batch
no_mutations version = record { version = version; moves = []; mutations = [] }

abbrev pub no_steps : ℕ → LifePlan
no_steps upto = record { upto = upto; asks = []; lasts = []; dos = []; cuts = []; peerfails = []; kill = None }

abbrev pub add_batch : Drafted → ℕ → Result Drafted Kind
add_batch draft version =
    if nat_le version (last_version draft.log) then Err kind.Version
    else (if nat_le max_batches (length draft.log) then Err kind.Limit
    else Ok (record draft { place = place.Batch; log = draft.log ++ no_mutations version ∷ [] }))

abbrev pub add_mutation : Mutation → Batch → Batch
add_mutation mutation batch = record batch { mutations = batch.mutations ++ mutation ∷ [] }

abbrev pub add_life : Drafted → ℕ → Result Drafted Kind
add_life draft upto =
    if nat_lt upto (last_upto draft.lives) then Err kind.Version
    else (if nat_le max_lives (length draft.lives) then Err kind.Limit
    else Ok (record draft { place = place.Life; lives = draft.lives ++ no_steps upto ∷ [] }))

-- a request of a reader, or of none (0) at the end of the life
abbrev pub add_request : Request → LifePlan → LifePlan
add_request request plan =
    if request.reader == 0 then record plan { lasts = plan.lasts ++ request ∷ [] }
    else record plan { asks = plan.asks ++ request ∷ [] }

-- how many rows a request asks for
abbrev pub rows_asked : Ask → ℕ
rows_asked (Rows range rows bytes reverse version) = rows
rows_asked other = 0

-- the next request
abbrev pub add_asked : Drafted → ℕ → Ask → Result Drafted Kind
add_asked draft reader ask =
    if nat_le max_requests draft.requests || nat_lt max_rows (draft.rows + rows_asked ask) then Err kind.Limit
    else Ok (record draft {
      lives = on_last (add_request (record { number = draft.requests + 1; reader = reader; ask = ask })) draft.lives;
      requests = draft.requests + 1;
      rows = draft.rows + rows_asked ask;
    })

abbrev pub add_step : Do × ℕ → LifePlan → LifePlan
add_step step plan = record plan { dos = plan.dos ++ step ∷ [] }

abbrev pub kill_after : (calls choice : ℕ) → LifePlan → LifePlan
kill_after calls choice plan = record plan { kill = Some (calls, choice) }

-- the draft after a line, or the version or the limit that the line breaks
abbrev pub add_line : Drafted → Line → Result Drafted Kind
add_line draft line.head = Ok (record draft { place = place.Head })
add_line draft (line.sets setting number) = Ok (record draft { chosen = choose setting number draft.chosen })
add_line draft line.owns_all = Ok (record draft { own = all_keys ∷ [] })
add_line draft line.log_begins = Ok (record draft { place = place.Log })
add_line draft (line.batch_of version) = add_batch draft version
add_line draft (line.changes mutation) = Ok (record draft { log = on_last (add_mutation mutation) draft.log })
add_line draft (line.life_to version) = add_life draft version
add_line draft (line.asks reader ask) = add_asked draft reader ask
add_line draft (line.does step count) = Ok (record draft { lives = on_last (add_step (step, count)) draft.lives })
add_line draft line.closes = Ok (record draft { place = place.Closed })
add_line draft (line.kills calls choice) =
    Ok (record draft { place = place.Closed; lives = on_last (kill_after calls choice) draft.lives })
add_line draft line.ends = Ok (record draft { place = place.Ended })
