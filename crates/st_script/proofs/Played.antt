-- Each script that is read is one that is played.
use Rattle.std.proofs.Common.{◌≡◌, ℕ, ◌<◌, ◌≤◌, ◌&&◌, ◌||◌, ◌==◌, Bool, true, false, not, nat_lt, nat_le, ◌+◌, List, [], ◌∷◌, ◌++◌, length, Option, Some, None, Result, Ok, Err, IfOk, ◌⊎◌, inl, inr, if◌then◌else◌, codes, refl, sym, ◌∙◌, subst, arith, ltb-true, ltb-false, leb-true, lit<, lit≤}
use Rattle.std.specs.Prelude.{◌^◌, IfSome}
use Rattle.std.specs.Ordering.{nat_cmp, is_lt, ordering_then}
use Rattle.std.specs.Cmp.{nat_cmp_is}
use Rattle.std.specs.Cmp.Lexicographic.{slice_cmp}
use Rattle.std.specs.declared.cmp.Ordering.{Ordering}
use Rattle.std.specs.declared.cmp.Ordering.TheVariants.{Less, Equal, Greater}
use Rattle.std.specs.List.{AllByRecursion}
use Rattle.std.proofs.lemmas.Bool.{false≢true, ne_eqb, leb-false}
use Rattle.st_key.specs.Spans.{Span, key_less, within}
use Rattle.st_mutation.specs.declared.batch.Batch.{Batch}
use Rattle.st_mutation.specs.declared.batch.Mutation.{Mutation}
use Rattle.st_mutation.specs.declared.batch.Mutation.TheVariants as mutation
use Rattle.st_fold.specs.declared.plan.Act.TheVariants.{Apply, Began, Durable}
use Rattle.st_fold.specs.declared.plan.Do.{Do}
use Rattle.st_fold.specs.declared.plan.Do.TheVariants as step
use Rattle.st_fold.specs.declared.plan.Kind.{Kind}
use Rattle.st_fold.specs.declared.plan.Kind.TheVariants as why
use Rattle.st_fold.specs.declared.plan.LifePlan.{LifePlan}
use Rattle.st_fold.specs.declared.plan.Script.{Script}
use Rattle.st_fold.specs.declared.request.Ask.{Ask}
use Rattle.st_fold.specs.declared.request.Request.{Request}
use Rattle.st_fold.specs.Reading.{is_watch, span_of}
use Rattle.st_script.specs.declared.form.Form.{Form}
use Rattle.st_script.specs.declared.form.Form.TheVariants as form
use Rattle.st_script.specs.declared.options.Chosen.{Chosen}
use Rattle.st_script.specs.declared.options.Setting.{Setting}
use Rattle.st_script.specs.declared.options.Setting.TheVariants as setting
use Rattle.st_script.specs.Lines as line
use Rattle.st_script.specs.declared.form.Place.{Place}
use Rattle.st_script.specs.declared.form.Place.TheVariants as place
use Rattle.st_script.specs.Words.{lines, words, is_skipped, is_empty}
use Rattle.st_script.specs.Fields.{number_of, number_in, number_field, offset_field, max_number, max_version, max_calls, version_field, bytes_of, bytes_field, key_in, key_field, value_field, range_of, range_about, is_word, ◌>>=◌}
use Rattle.st_script.specs.Requests.{is_request, get_of, rows_of, select_of, request_of}
use Rattle.st_script.specs.Lines.{Line, pair_of, pair_in, asked_by, asked_at_end, step_line, act_of, known_act, act_line, poll_by, poll_line, kill_line, line_of, form_of}
use Rattle.st_script.specs.Options.{settings_of, least_of, most_of, choose, none_chosen, IsBounded}
use Rattle.st_script.specs.Draft.{Drafted, nothing_yet, all_keys, max_batches, max_lives, max_requests, max_rows, no_mutations, no_steps, add_batch, add_life, add_mutation, add_request, add_asked, rows_asked, add_step, kill_after, on_last, last_version, last_upto, is_later_line, is_allowed, is_ruled_out, add_line, later_forms, is_among}
use Rattle.st_script.specs.Reading.{judge_known, judge_head, judge, after_line, finish, on_draft, judge_lines, max_bytes, script_of}
use Rattle.st_script.specs.declared.refusal.ScriptRefusal.{ScriptRefusal}
use Rattle.st_script.specs.Outcome.{Reads}
use Rattle.st_script.specs.Playable.{Rises, IsPlainBatch, IsOfReader, IsLast, IsOfSchedule, ChangesUsers, ChangesShortKey, AsksShortKey, AsksUsers, NumbersRise, NeverFall, IsPlayableLife, IsPlayable}

-- ---- steps that may fail

if_ok : {A E : Type 0} (P : A → Type 0) (fails : Bool) (why : E) (next : Result A E) → (fails ≡ false → IfOk next P) → IfOk (if fails then Err why else next) P
if_ok P true why next h = tt
if_ok P false why next h = h refl

bind_ok : {A B : Type 0} (Q : A → Type 0) (P : B → Type 0) (first : Result A Kind) (next : A → Result B Kind) → IfOk first Q → ((x : A) → Q x → IfOk (next x) P) → IfOk (first >>= next) P
bind_ok Q P (Ok x) next q h = h x q
bind_ok Q P (Err e) next q h = tt

then_ok : {A B : Type 0} (P : B → Type 0) (first : Result A Kind) (next : A → Result B Kind) → ((x : A) → IfOk (next x) P) → IfOk (first >>= next) P
then_ok P (Ok x) next h = h x
then_ok P (Err e) next h = tt

or_else : {A : Type 0} (P : A → Type 0) (b : Bool) (r t : Result A Kind) → IfOk r P → IfOk t P → IfOk (if b then r else t) P
or_else P true r t h k = h
or_else P false r t h k = k

-- ---- lists

all_push : {A : Type 0} (P : A → Type 0) (xs : List A) (x : A) → AllByRecursion P xs → P x → AllByRecursion P (xs ++ x ∷ [])
all_push P [] x all p = (p, tt)
all_push P (y ∷ ys) x all p = (all.0, all_push P ys x all.1 p)

all_on_last : {A : Type 0} (P : A → Type 0) (f : A → A) → ((x : A) → P x → P (f x)) → (xs : List A) → AllByRecursion P xs → AllByRecursion P (on_last f xs)
all_on_last P f keeps [] all = tt
all_on_last P f keeps (x ∷ []) all = (keeps x all.0, tt)
all_on_last P f keeps (x ∷ y ∷ ys) all = (all.0, all_on_last P f keeps (y ∷ ys) all.1)

all_weaker : {A : Type 0} (P Q : A → Type 0) → ((x : A) → P x → Q x) → (xs : List A) → AllByRecursion P xs → AllByRecursion Q xs
all_weaker P Q weaker [] all = tt
all_weaker P Q weaker (x ∷ xs) all = (weaker x all.0, all_weaker P Q weaker xs all.1)

all_both : {A : Type 0} (P Q R : A → Type 0) → ((x : A) → P x → Q x → R x) → (xs : List A) → AllByRecursion P xs → AllByRecursion Q xs → AllByRecursion R xs
all_both P Q R both [] ps qs = tt
all_both P Q R both (x ∷ xs) ps qs = (both x ps.0 qs.0, all_both P Q R both xs ps.1 qs.1)

-- ---- batches whose versions rise

-- the version of the last batch after one of this version
last_after : ℕ → List Batch → ℕ
last_after version [] = version
last_after version (batch ∷ log) = last_after batch.version log

last_version_is : (batch : Batch) (log : List Batch) → last_version (batch ∷ log) ≡ last_after batch.version log
unfolding last_after
last_version_is batch [] = refl
last_version_is batch (next ∷ log) = last_version_is next log

rises_push_after : (version : ℕ) (log : List Batch) (batch : Batch) → Rises version log → last_after version log < batch.version → Rises version (log ++ batch ∷ [])
unfolding last_after
rises_push_after version [] batch rises more = (more, tt)
rises_push_after version (next ∷ log) batch rises more = (rises.0, rises_push_after next.version log batch rises.1 more)

rises_push : (log : List Batch) (batch : Batch) → Rises 0 log → last_version log < batch.version → Rises 0 (log ++ batch ∷ [])
rises_push [] batch rises more = (more, tt)
rises_push (next ∷ log) batch rises more = (rises.0, rises_push_after next.version log batch rises.1 (subst (λ n. n < batch.version) (last_version_is next log) more))

rises_on_last : (f : Batch → Batch) → ((batch : Batch) → (f batch).version ≡ batch.version) → (version : ℕ) (log : List Batch) → Rises version log → Rises version (on_last f log)
rises_on_last f same version [] rises = tt
rises_on_last f same version (batch ∷ []) rises = (subst (λ n. version < n) (sym (same batch)) rises.0, tt)
rises_on_last f same version (batch ∷ next ∷ log) rises = (rises.0, rises_on_last f same batch.version (next ∷ log) rises.1)

-- ---- lives that never fall

-- how far the last life goes after one that goes so far
upto_after : ℕ → List LifePlan → ℕ
upto_after upto [] = upto
upto_after upto (plan ∷ lives) = upto_after plan.upto lives

last_upto_is : (plan : LifePlan) (lives : List LifePlan) → last_upto (plan ∷ lives) ≡ upto_after plan.upto lives
unfolding upto_after
last_upto_is plan [] = refl
last_upto_is plan (next ∷ lives) = last_upto_is next lives

follow_push_after : (upto : ℕ) (lives : List LifePlan) (plan : LifePlan) → NeverFall upto lives → upto_after upto lives ≤ plan.upto → NeverFall upto (lives ++ plan ∷ [])
unfolding upto_after
follow_push_after upto [] plan follow more = (more, tt)
follow_push_after upto (next ∷ lives) plan follow more = (follow.0, follow_push_after next.upto lives plan follow.1 more)

follow_push : (lives : List LifePlan) (plan : LifePlan) → NeverFall 0 lives → last_upto lives ≤ plan.upto → NeverFall 0 (lives ++ plan ∷ [])
follow_push [] plan follow more = (more, tt)
follow_push (next ∷ lives) plan follow more = (follow.0, follow_push_after next.upto lives plan follow.1 (subst (λ n. n ≤ plan.upto) (last_upto_is next lives) more))

follow_on_last : (f : LifePlan → LifePlan) → ((plan : LifePlan) → (f plan).upto ≡ plan.upto) → (upto : ℕ) (lives : List LifePlan) → NeverFall upto lives → NeverFall upto (on_last f lives)
follow_on_last f same upto [] follow = tt
follow_on_last f same upto (plan ∷ []) follow = (subst (λ n. upto ≤ n) (sym (same plan)) follow.0, tt)
follow_on_last f same upto (plan ∷ next ∷ lives) follow = (follow.0, follow_on_last f same plan.upto (next ∷ lives) follow.1)

-- ---- numbers of requests

abbrev IsUpTo : ℕ → Request → Type 0
IsUpTo n request = request.number ≤ n

numbers_push : (from n : ℕ) (requests : List Request) (request : Request) → from ≤ n → NumbersRise from requests → AllByRecursion (IsUpTo n) requests → n < request.number → NumbersRise from (requests ++ request ∷ [])
numbers_push from n [] request low rise upto more = (omega arith, tt)
numbers_push from n (first ∷ requests) request low rise upto more = (rise.0, numbers_push first.number n requests request upto.0 rise.1 upto.1 more)

-- ---- keys

none_below : (key : List ℕ) → key_less key [] ≡ false
none_below [] = refl
none_below (x ∷ xs) = refl

of_users : (key : List ℕ) → key_less key (255 ∷ []) ≡ true → within all_keys key ≡ true
of_users key below = rw (none_below key, below) refl

below_end : (key : List ℕ) → within all_keys key ≡ true → key_less key (255 ∷ []) ≡ true
below_end key within = rw (none_below key) at within

-- a key below ff, with 00 appended, isn't above ff
ends_below : (key : List ℕ) → key_less key (255 ∷ []) ≡ true → key_less (255 ∷ []) (key ++ 0 ∷ []) ≡ false
ends_below [] below = refl
ends_below (x ∷ xs) below = first (nat_lt x 255) refl below
  where
    not_below : (o : Ordering) → is_lt (ordering_then o (slice_cmp nat_cmp xs [])) ≡ true → o ≡ Less
    not_below Less e = refl
    not_below Equal e = let no : key_less xs [] ≡ true = e in absurd (false≢true (sym (none_below xs) ∙ no))
    not_below Greater e = absurd (false≢true e)

    not_less : (less same : Bool) → less ≡ false → (if less then Less else (if same then Equal else Greater)) ≡ Less → ⊥
    not_less true same e less = false≢true (sym e)
    not_less false true e less = let no : Equal ≡ Less = less in cc
    not_less false false e less = let no : Greater ≡ Less = less in cc

    first : (b : Bool) → nat_lt x 255 ≡ b → key_less (x ∷ xs) (255 ∷ []) ≡ true → key_less (255 ∷ []) (x ∷ xs ++ 0 ∷ []) ≡ false
    first true less e = let more : nat_cmp 255 x ≡ Greater = sym (nat_cmp_is 255 x Greater (ltb-true x 255 less)) in rw more refl
    first false less e = absurd (not_less (nat_lt x 255) (x == 255) less (not_below (nat_cmp x 255) e))

-- ---- what holds of a draft at its place

abbrev OwnsAll : List Span → Type 0
OwnsAll own = own ≡ all_keys ∷ []

abbrev HasSome : List LifePlan → Type 0
HasSome lives = (plan : LifePlan) × (later : List LifePlan) × (lives ≡ plan ∷ later)

abbrev Stands : Place → List Span → List LifePlan → Type 0
Stands place.Start own lives = (own ≡ []) ⊎ OwnsAll own
Stands place.Head own lives = (own ≡ []) ⊎ OwnsAll own
Stands place.Log own lives = OwnsAll own
Stands place.Batch own lives = OwnsAll own
Stands place.Life own lives = OwnsAll own × HasSome lives
Stands place.Closed own lives = OwnsAll own × HasSome lives
Stands place.Ended own lives = OwnsAll own × HasSome lives

-- a mutation of users' keys, of a short one where it is of one key
abbrev IsChange : Mutation → Type 0
IsChange mutation = ChangesUsers mutation × ChangesShortKey mutation

abbrev HasChanges : Batch → Type 0
HasChanges batch = AllByRecursion IsChange batch.mutations

-- a life whose requests have numbers up to this one
record IsLifeTo (n : ℕ) (plan : LifePlan) : Type 0 where
  plays : IsPlayableLife plan
  asks : AllByRecursion (IsUpTo n) plan.asks
  lasts : AllByRecursion (IsUpTo n) plan.lasts

record Sound (draft : Drafted) : Type 0 where
  settings : IsBounded (settings_of draft.chosen)
  rises : Rises 0 draft.log
  batches : AllByRecursion (IsPlainBatch max_version) draft.log
  changes : AllByRecursion HasChanges draft.log
  lives : AllByRecursion (IsLifeTo draft.requests) draft.lives
  follow : NeverFall 0 draft.lives
  stands : Stands draft.place draft.own draft.lives

-- what a line of a form finds where it is allowed
abbrev Finds : Form → Place → List Span → List LifePlan → Type 0
Finds form.Storage at own lives = ⊥
Finds (form.Option setting) at own lives = Unit {0}
Finds form.Own at own lives = at ≡ place.Head
Finds form.Log at own lives = (own ≡ []) ⊎ OwnsAll own
Finds form.Batch at own lives = OwnsAll own
Finds form.Set at own lives = Unit {0}
Finds form.Clear at own lives = Unit {0}
Finds (form.Atomic op) at own lives = Unit {0}
Finds form.Life at own lives = OwnsAll own
Finds form.Ask at own lives = (at ≡ place.Life) × OwnsAll own × HasSome lives
Finds form.Last at own lives = (at ≡ place.Life) × OwnsAll own × HasSome lives
Finds form.Do at own lives = (at ≡ place.Life) × OwnsAll own × HasSome lives
Finds form.Close at own lives = OwnsAll own × HasSome lives
Finds form.Kill at own lives = OwnsAll own × HasSome lives
Finds form.End at own lives = OwnsAll own × HasSome lives

no_second_head : (at : Place) → is_allowed at form.Storage ≡ false
no_second_head place.Start = refl
no_second_head place.Head = refl
no_second_head place.Log = refl
no_second_head place.Batch = refl
no_second_head place.Life = refl
no_second_head place.Closed = refl
no_second_head place.Ended = refl

finds : (form : Form) (at : Place) (own : List Span) (lives : List LifePlan) → is_allowed at form ≡ true → Stands at own lives → Finds form at own lives
finds form.Storage at own lives e s = false≢true (sym (no_second_head at) ∙ e)
finds (form.Option setting) at own lives e s = tt
finds form.Own place.Head own lives e s = refl
finds form.Log place.Head own lives e s = s
finds form.Batch place.Log own lives e s = s
finds form.Batch place.Batch own lives e s = s
finds form.Set at own lives e s = tt
finds form.Clear at own lives e s = tt
finds (form.Atomic op) at own lives e s = tt
finds form.Life place.Log own lives e s = s
finds form.Life place.Batch own lives e s = s
finds form.Life place.Closed own lives e s = s.0
finds form.Ask place.Life own lives e s = (refl, s.0, s.1)
finds form.Last place.Life own lives e s = (refl, s.0, s.1)
finds form.Do place.Life own lives e s = (refl, s.0, s.1)
finds form.Close place.Life own lives e s = s
finds form.Kill place.Life own lives e s = s
finds form.End place.Closed own lives e s = s
finds form at own lives e s = absurd (let no : false ≡ true = e in false≢true no)

-- ---- lines

in_bounds : (low high : ℕ) (n : Option ℕ) → IfOk (number_in low high n) (λ n. (low ≤ n) × (n ≤ high))
in_bounds low high None = tt
in_bounds low high (Some n) = checked (nat_le low n) (nat_le n high) (leb-true low n) (leb-true n high)
  where
    checked : (l h : Bool) → (l ≡ true → low ≤ n) → (h ≡ true → n ≤ high) → IfOk {E = Kind} (if l && h then Ok n else Err why.Number) (λ n. (low ≤ n) × (n ≤ high))
    checked true true l h = (l refl, h refl)
    checked true false l h = tt
    checked false h l k = tt

-- a key of users, which is short
abbrev IsShortKey : List ℕ → Type 0
IsShortKey key = (within all_keys key ≡ true) × (length key ≤ 10000)

key_is : (word : List ℕ) → IfOk (key_field word) IsShortKey
key_is word = from (bytes_of word)
  where
    checked : (key : List ℕ) (short below : Bool) → (short ≡ true → length key ≤ 10000) → (below ≡ true → within all_keys key ≡ true) → IfOk {E = Kind} (if short && below then Ok key else Err why.Key) IsShortKey
    checked key true true s b = (b refl, s refl)
    checked key true false s b = tt
    checked key false below s b = tt

    from : (bytes : Option (List ℕ)) → IfOk (key_in bytes) IsShortKey
    from None = tt
    from (Some key) = checked key (nat_le (length key) 10000) (key_less key (255 ∷ [])) (leb-true (length key) 10000) (of_users key)

abbrev EndsBelow : Span → Type 0
EndsBelow range = key_less all_keys.end range.end ≡ false

range_is : (begin end : List ℕ) → IfOk (range_of begin end) EndsBelow
range_is begin end = checked (key_less begin end) (key_less (255 ∷ []) end) (nat_le (length begin) 10001) (nat_le (length end) 10001) refl
  where
    checked : (some above short1 short2 : Bool) → key_less (255 ∷ []) end ≡ above → IfOk {E = Kind} (if some && not above && short1 && short2 then Ok (record { begin = begin; end = end }) else Err why.Range) EndsBelow
    checked true false true true e = e
    checked true false true false e = tt
    checked true false false short2 e = tt
    checked true true short1 short2 e = tt
    checked false above short1 short2 e = tt

range_about_is : (key begin end : List ℕ) → IfOk (range_about key begin end) EndsBelow
range_about_is key begin end = or_else EndsBelow (key_less key begin || key_less end key) _ _ tt (range_is begin end)

-- ---- requests

-- a request for a version of users' keys, of a short one where it is of one key
abbrev IsAskable : Ask → Type 0
IsAskable ask = (is_watch ask ≡ false) × (key_less all_keys.end (span_of ask).end ≡ false) × AsksShortKey ask

said_get : (key at : List ℕ) → IfOk (get_of key at) IsAskable
said_get key at =
    bind_ok IsShortKey IsAskable (key_field key) _ (key_is key) (λ k h.
    then_ok IsAskable (version_field at) _ (λ v. (refl, ends_below k (below_end k h.0), h.1)))

said_rows : (begin end rows bytes direction at : List ℕ) → IfOk (rows_of begin end rows bytes direction at) IsAskable
said_rows begin end rows bytes direction at =
    then_ok IsAskable (bytes_field begin) _ (λ b.
    then_ok IsAskable (bytes_field end) _ (λ e.
    then_ok IsAskable (number_field 1 10000 rows) _ (λ r.
    then_ok IsAskable (number_field 1 100000 bytes) _ (λ n.
    then_ok IsAskable (version_field at) _ (λ v.
    bind_ok EndsBelow IsAskable (range_of b e) _ (range_is b e) (λ range h. (refl, h, tt)))))))

said_select : (key relation offset begin end at : List ℕ) → IfOk (select_of key relation offset begin end at) IsAskable
said_select key relation offset begin end at =
    then_ok IsAskable (key_field key) _ (λ k.
    then_ok IsAskable (offset_field offset) _ (λ o.
    then_ok IsAskable (bytes_field begin) _ (λ b.
    then_ok IsAskable (bytes_field end) _ (λ e.
    then_ok IsAskable (version_field at) _ (λ v.
    bind_ok EndsBelow IsAskable (range_about k b e) _ (range_about_is k b e) (λ range h. (refl, h, tt)))))))

said_request : (words : List (List ℕ)) → IfOk (request_of words) IsAskable
said_request [] = tt
said_request (request ∷ []) = tt
said_request (request ∷ a ∷ []) = tt
said_request (request ∷ key ∷ at ∷ []) = said_get key at
said_request (request ∷ a ∷ b ∷ c ∷ []) = tt
said_request (request ∷ a ∷ b ∷ c ∷ d ∷ []) = tt
said_request (request ∷ a ∷ b ∷ c ∷ d ∷ e ∷ []) = tt
said_request (request ∷ a ∷ b ∷ c ∷ d ∷ e ∷ at ∷ []) =
    or_else IsAskable (is_word request (codes "range")) _ _ (said_rows a b c d e at) (said_select a b c d e at)
said_request (request ∷ a ∷ b ∷ c ∷ d ∷ e ∷ at ∷ word ∷ words) = tt

-- ---- what a line of a form says

abbrev SaidBy : Form → Line → Type 0
SaidBy (form.Option setting) said = (number : ℕ) × (said ≡ line.sets setting number) × (least_of setting ≤ number) × (number ≤ most_of setting)
SaidBy form.Batch said = (version : ℕ) × (said ≡ line.batch_of version) × (version ≤ max_version)
SaidBy form.Set said = (mutation : Mutation) × (said ≡ line.changes mutation) × IsChange mutation
SaidBy form.Clear said = (mutation : Mutation) × (said ≡ line.changes mutation) × IsChange mutation
SaidBy (form.Atomic op) said = (mutation : Mutation) × (said ≡ line.changes mutation) × IsChange mutation
SaidBy form.Life said = (upto : ℕ) × (said ≡ line.life_to upto) × (upto ≤ max_version)
SaidBy form.Ask said = (reader : ℕ) × (ask : Ask) × (said ≡ line.asks reader ask) × (1 ≤ reader) × (reader ≤ 64) × IsAskable ask
SaidBy form.Last said = (ask : Ask) × (said ≡ line.asks 0 ask) × IsAskable ask
SaidBy form.Do said = (done : Do) × (count : ℕ) × (said ≡ line.does done count) × IsOfSchedule done
SaidBy form.Kill said = (calls : ℕ) × (choice : ℕ) × (said ≡ line.kills calls choice) × (calls ≤ max_calls) × (choice < 2 ^ 64)
SaidBy other said = Unit {0}

said_step : (done : Do) (count : Option (List ℕ)) → IsOfSchedule done → IfOk (step_line done count) (SaidBy form.Do)
said_step done None h = (done, 1, refl, h)
said_step done (Some word) h = then_ok (SaidBy form.Do) (number_field 1 1000000 word) _ (λ n. (done, n, refl, h))

said_poll : (reader : List ℕ) (count : Option (List ℕ)) → IfOk (poll_by reader count) (SaidBy form.Do)
said_poll reader count =
    bind_ok (λ n. (1 ≤ n) × (n ≤ 64)) (SaidBy form.Do) (number_field 1 64 reader) _ (in_bounds 1 64 (number_of reader)) (λ n h. said_step (step.Poll n) count h)

scheduled : (act : List ℕ) → IfSome (act_of act) IsOfSchedule
scheduled act = chosen (is_word act (codes "apply")) (is_word act (codes "began")) (is_word act (codes "durable")) (is_word act (codes "flush"))
  where
    chosen : (apply began durable flush : Bool) → IfSome (
        if apply then Some (step.Act Apply)
        else (if began then Some (step.Act Began)
        else (if durable then Some (step.Act Durable)
        else (if flush then Some step.Flush
        else None)))) IsOfSchedule
    chosen true began durable flush = tt
    chosen false true durable flush = tt
    chosen false false true flush = tt
    chosen false false false true = tt
    chosen false false false false = tt

said_known : (act : Option Do) (count : Option (List ℕ)) → IfSome act IsOfSchedule → IfOk (known_act act count) (SaidBy form.Do)
said_known None count h = tt
said_known (Some done) count h = said_step done count h

said_act : (words : List (List ℕ)) (act : Option Do) → IfSome act IsOfSchedule → IfOk (act_line words act) (SaidBy form.Do)
said_act [] act h = said_known act None h
said_act (count ∷ []) act h = said_known act (Some count) h
said_act (count ∷ word ∷ words) act h = tt

said_polls : (words : List (List ℕ)) → IfOk (poll_line words) (SaidBy form.Do)
said_polls [] = tt
said_polls (reader ∷ []) = said_poll reader None
said_polls (reader ∷ count ∷ []) = said_poll reader (Some count)
said_polls (reader ∷ count ∷ word ∷ words) = tt

said_asked : (reader : List ℕ) (request : List (List ℕ)) → IfOk (asked_by reader request) (SaidBy form.Ask)
said_asked reader request =
    bind_ok (λ n. (1 ≤ n) × (n ≤ 64)) (SaidBy form.Ask) (number_field 1 64 reader) _ (in_bounds 1 64 (number_of reader)) (λ n h.
    bind_ok IsAskable (SaidBy form.Ask) (request_of request) _ (said_request request) (λ ask v. (n, ask, refl, h.0, h.1, v)))

said_at_end : (request : List (List ℕ)) → IfOk (asked_at_end request) (SaidBy form.Last)
said_at_end request = bind_ok IsAskable (SaidBy form.Last) (request_of request) _ (said_request request) (λ ask v. (ask, refl, v))

said_pair : (words : List (List ℕ)) → IfOk (pair_in words) (λ pair. IsShortKey pair.0)
said_pair [] = tt
said_pair (key ∷ []) = tt
said_pair (key ∷ value ∷ []) =
    bind_ok IsShortKey (λ pair. IsShortKey pair.0) (key_field key) _ (key_is key) (λ k h. then_ok (λ pair. IsShortKey pair.0) (value_field value) _ (λ v. h))
said_pair (key ∷ value ∷ word ∷ words) = tt

said_kill : (calls choice : List ℕ) → IfOk (kill_line calls choice) (SaidBy form.Kill)
said_kill calls choice =
    bind_ok (λ n. (0 ≤ n) × (n ≤ max_calls)) (SaidBy form.Kill) (number_field 0 max_calls calls) _ (in_bounds 0 max_calls (number_of calls)) (λ n h.
    bind_ok (λ c. (0 ≤ c) × (c ≤ max_number)) (SaidBy form.Kill) (number_field 0 max_number choice) _ (in_bounds 0 max_number (number_of choice)) (λ c k.
    (n, c, refl, h.1, fits c k.1)))
  where
    fits : (c : ℕ) → c ≤ max_number → c < 2 ^ 64
    fits c h = omega arith

said : (form : Form) (words : List (List ℕ)) → IfOk (line_of form words) (SaidBy form)
said form.Storage words = tt
said (form.Option setting) [] = tt
said (form.Option setting) (word ∷ []) =
    bind_ok (λ n. (least_of setting ≤ n) × (n ≤ most_of setting)) (SaidBy (form.Option setting)) (number_field (least_of setting) (most_of setting) word) _
    (in_bounds (least_of setting) (most_of setting) (number_of word)) (λ n h. (n, refl, h.0, h.1))
said (form.Option setting) (first ∷ word ∷ words) = tt
said form.Own words = tt
said form.Log [] = tt
said form.Log (word ∷ words) = tt
said form.Batch [] = tt
said form.Batch (version ∷ []) =
    bind_ok (λ n. (1 ≤ n) × (n ≤ max_version)) (SaidBy form.Batch) (number_field 1 max_version version) _ (in_bounds 1 max_version (number_of version)) (λ n h. (n, refl, h.1))
said form.Batch (version ∷ word ∷ words) = tt
said form.Set words = bind_ok (λ pair. IsShortKey pair.0) (SaidBy form.Set) (pair_in words) _ (said_pair words) (λ pair h. (mutation.Set pair.0 pair.1, refl, h))
said form.Clear [] = tt
said form.Clear (begin ∷ []) = tt
said form.Clear (begin ∷ end ∷ []) =
    then_ok (SaidBy form.Clear) (bytes_field begin) _ (λ b.
    then_ok (SaidBy form.Clear) (bytes_field end) _ (λ e.
    bind_ok EndsBelow (SaidBy form.Clear) (range_of b e) _ (range_is b e) (λ range h. (mutation.Clear range, refl, (h, tt)))))
said form.Clear (begin ∷ end ∷ word ∷ words) = tt
said (form.Atomic op) words =
    bind_ok (λ pair. IsShortKey pair.0) (SaidBy (form.Atomic op)) (pair_in words) _ (said_pair words) (λ pair h. (mutation.Atomic op pair.0 pair.1, refl, h))
said form.Life [] = tt
said form.Life (upto ∷ []) =
    bind_ok (λ n. (0 ≤ n) × (n ≤ max_version)) (SaidBy form.Life) (number_field 0 max_version upto) _ (in_bounds 0 max_version (number_of upto)) (λ n h. (n, refl, h.1))
said form.Life (upto ∷ word ∷ words) = tt
said form.Ask [] = tt
said form.Ask (reader ∷ request) = or_else (SaidBy form.Ask) (is_request request) _ _ (said_asked reader request) tt
said form.Last request = or_else (SaidBy form.Last) (is_request request) _ _ (said_at_end request) tt
said form.Do [] = tt
said form.Do (act ∷ words) = or_else (SaidBy form.Do) (is_word act (codes "poll")) _ _ (said_polls words) (said_act words (act_of act) (scheduled act))
said form.Close [] = tt
said form.Close (word ∷ words) = tt
said form.Kill [] = tt
said form.Kill (calls ∷ []) = tt
said form.Kill (calls ∷ choice ∷ []) = said_kill calls choice
said form.Kill (calls ∷ choice ∷ word ∷ words) = tt
said form.End [] = tt
said form.End (word ∷ words) = tt

-- ---- what a line adds

some_on_last : (f : LifePlan → LifePlan) (lives : List LifePlan) → HasSome lives → HasSome (on_last f lives)
some_on_last f [] some = let no : [] ≡ some.0 ∷ some.1 = some.2 in cc
some_on_last f (plan ∷ []) some = (f plan, [], refl)
some_on_last f (plan ∷ next ∷ lives) some = (plan, on_last f (next ∷ lives), refl)

some_push : (lives : List LifePlan) (plan : LifePlan) → HasSome (lives ++ plan ∷ [])
some_push [] plan = (plan, [], refl)
some_push (first ∷ lives) plan = (first, lives ++ plan ∷ [], refl)

is_reader : (reader : ℕ) → 1 ≤ reader → (reader == 0) ≡ false
is_reader reader some = ne_eqb reader 0 (λ e. omega arith)

-- a higher bound of numbers
life_to_next : (n : ℕ) (plan : LifePlan) → IsLifeTo n plan → IsLifeTo (n + 1) plan
life_to_next n plan l = record { plays = l.plays; asks = higher plan.asks l.asks; lasts = higher plan.lasts l.lasts }
  where
    higher : (requests : List Request) → AllByRecursion (IsUpTo n) requests → AllByRecursion (IsUpTo (n + 1)) requests
    higher requests = all_weaker (IsUpTo n) (IsUpTo (n + 1)) (λ request h. omega arith) requests

-- numbers up to n are another than the next
module _ (n : ℕ) where
  abbrev IsOther : Request → Request → Type 0
  IsOther ask last = ask.number == last.number ≡ false

  others_of_ask : (ask : Request) → ask.number ≡ n + 1 → (lasts : List Request) → AllByRecursion (IsUpTo n) lasts → AllByRecursion (IsOther ask) lasts
  others_of_ask ask next lasts upto = all_weaker (IsUpTo n) (IsOther ask) (λ last h. ne_eqb ask.number last.number (λ e. omega arith)) lasts upto

  others_of_last : (last : Request) → last.number ≡ n + 1 → (asks lasts : List Request) → AllByRecursion (IsUpTo n) asks → AllByRecursion (λ ask. AllByRecursion (IsOther ask) lasts) asks
      → AllByRecursion (λ ask. AllByRecursion (IsOther ask) (lasts ++ last ∷ [])) asks
  others_of_last last next asks lasts upto apart =
      all_both (IsUpTo n) (λ ask. AllByRecursion (IsOther ask) lasts) (λ ask. AllByRecursion (IsOther ask) (lasts ++ last ∷ [])) (λ ask h k.
      all_push (IsOther ask) lasts last k (ne_eqb ask.number last.number (λ e. omega arith))) asks upto apart

playable_asked : (n : ℕ) (request : Request) → request.number ≡ n + 1 → IsOfReader request → AsksUsers request → (plan : LifePlan) → IsLifeTo n plan → IsLifeTo (n + 1) (add_request request plan)
playable_asked n request next asked users plan l = rw (is_reader request.reader asked.least) (
    let p = l.plays in
    let higher = life_to_next n plan l in record {
      plays = record {
        upto = p.upto;
        asks = all_push IsOfReader plan.asks request p.asks asked;
        lasts = p.lasts;
        asks_users = all_push AsksUsers plan.asks request p.asks_users users;
        lasts_users = p.lasts_users;
        asks_rise = numbers_push 0 n plan.asks request (omega arith) p.asks_rise l.asks (omega arith);
        lasts_rise = p.lasts_rise;
        apart = all_push (λ ask. AllByRecursion (IsOther n ask) plan.lasts) plan.asks request p.apart (others_of_ask n request next plan.lasts l.lasts);
        dos = p.dos;
        no_cuts = p.no_cuts;
        no_fails = p.no_fails;
        kill = p.kill;
      };
      asks = all_push (IsUpTo (n + 1)) plan.asks request higher.asks (omega arith);
      lasts = higher.lasts;
    })

playable_last : (n : ℕ) (request : Request) → request.number ≡ n + 1 → IsLast request → AsksUsers request → (plan : LifePlan) → IsLifeTo n plan → IsLifeTo (n + 1) (add_request request plan)
playable_last n request next last users plan l =
    let none : (request.reader == 0) ≡ true = rw last.last refl in rw none (
    let p = l.plays in
    let higher = life_to_next n plan l in record {
      plays = record {
        upto = p.upto;
        asks = p.asks;
        lasts = all_push IsLast plan.lasts request p.lasts last;
        asks_users = p.asks_users;
        lasts_users = all_push AsksUsers plan.lasts request p.lasts_users users;
        asks_rise = p.asks_rise;
        lasts_rise = numbers_push 0 n plan.lasts request (omega arith) p.lasts_rise l.lasts (omega arith);
        apart = others_of_last n request next plan.asks plan.lasts l.asks p.apart;
        dos = p.dos;
        no_cuts = p.no_cuts;
        no_fails = p.no_fails;
        kill = p.kill;
      };
      asks = higher.asks;
      lasts = all_push (IsUpTo (n + 1)) plan.lasts request higher.lasts (omega arith);
    })

playable_step : (n : ℕ) (done : Do) (count : ℕ) → IsOfSchedule done → (plan : LifePlan) → IsLifeTo n plan → IsLifeTo n (add_step (done, count) plan)
playable_step n done count scheduled plan l =
    let p = l.plays in record {
      plays = record {
        upto = p.upto;
        asks = p.asks;
        lasts = p.lasts;
        asks_users = p.asks_users;
        lasts_users = p.lasts_users;
        asks_rise = p.asks_rise;
        lasts_rise = p.lasts_rise;
        apart = p.apart;
        dos = all_push (λ line. IsOfSchedule line.0) plan.dos (done, count) p.dos scheduled;
        no_cuts = p.no_cuts;
        no_fails = p.no_fails;
        kill = p.kill;
      };
      asks = l.asks;
      lasts = l.lasts;
    }

playable_kill : (n calls choice : ℕ) → calls ≤ max_calls → choice < 2 ^ 64 → (plan : LifePlan) → IsLifeTo n plan → IsLifeTo n (kill_after calls choice plan)
playable_kill n calls choice few fits plan l =
    let p = l.plays in record {
      plays = record {
        upto = p.upto;
        asks = p.asks;
        lasts = p.lasts;
        asks_users = p.asks_users;
        lasts_users = p.lasts_users;
        asks_rise = p.asks_rise;
        lasts_rise = p.lasts_rise;
        apart = p.apart;
        dos = p.dos;
        no_cuts = p.no_cuts;
        no_fails = p.no_fails;
        kill = (few, fits);
      };
      asks = l.asks;
      lasts = l.lasts;
    }

playable_begun : (n upto : ℕ) → upto ≤ max_version → IsLifeTo n (no_steps upto)
playable_begun n upto most = record {
  plays = record {
    upto = most;
    asks = tt;
    lasts = tt;
    asks_users = tt;
    lasts_users = tt;
    asks_rise = tt;
    lasts_rise = tt;
    apart = tt;
    dos = tt;
    no_cuts = refl;
    no_fails = refl;
    kill = tt;
  };
  asks = tt;
  lasts = tt;
}

-- an option within its bounds
bounded_choice : (setting : Setting) (number : ℕ) (chosen : Chosen) → least_of setting ≤ number → number ≤ most_of setting → IsBounded (settings_of chosen) → IsBounded (settings_of (choose setting number chosen))
bounded_choice setting.Window number chosen least most b = record { least_window = least; most_window = omega arith; least_patience = b.least_patience; most_patience = b.most_patience; seed = b.seed; least_swap = b.least_swap; most_swap = b.most_swap; least_limit = b.least_limit; most_limit = b.most_limit; least_quota = b.least_quota; most_quota = b.most_quota; block = b.block; watches = b.watches }
bounded_choice setting.Patience number chosen least most b = record { least_window = b.least_window; most_window = b.most_window; least_patience = least; most_patience = most; seed = b.seed; least_swap = b.least_swap; most_swap = b.most_swap; least_limit = b.least_limit; most_limit = b.most_limit; least_quota = b.least_quota; most_quota = b.most_quota; block = b.block; watches = b.watches }
bounded_choice setting.Seed number chosen least most b = record { least_window = b.least_window; most_window = b.most_window; least_patience = b.least_patience; most_patience = b.most_patience; seed = omega arith; least_swap = b.least_swap; most_swap = b.most_swap; least_limit = b.least_limit; most_limit = b.most_limit; least_quota = b.least_quota; most_quota = b.most_quota; block = b.block; watches = b.watches }
bounded_choice setting.Swap number chosen least most b = record { least_window = b.least_window; most_window = b.most_window; least_patience = b.least_patience; most_patience = b.most_patience; seed = b.seed; least_swap = least; most_swap = most; least_limit = b.least_limit; most_limit = b.most_limit; least_quota = b.least_quota; most_quota = b.most_quota; block = b.block; watches = b.watches }
bounded_choice setting.Limit number chosen least most b = record { least_window = b.least_window; most_window = b.most_window; least_patience = b.least_patience; most_patience = b.most_patience; seed = b.seed; least_swap = b.least_swap; most_swap = b.most_swap; least_limit = least; most_limit = most; least_quota = b.least_quota; most_quota = b.most_quota; block = b.block; watches = b.watches }
bounded_choice setting.Quota number chosen least most b = record { least_window = b.least_window; most_window = b.most_window; least_patience = b.least_patience; most_patience = b.most_patience; seed = b.seed; least_swap = b.least_swap; most_swap = b.most_swap; least_limit = b.least_limit; most_limit = b.most_limit; least_quota = least; most_quota = most; block = b.block; watches = b.watches }

bounded_defaults : IsBounded (settings_of none_chosen)
bounded_defaults = record { least_window = lit≤ tt; most_window = lit≤ tt; least_patience = lit≤ tt; most_patience = lit≤ tt; seed = lit< tt; least_swap = lit≤ tt; most_swap = lit≤ tt; least_limit = lit≤ tt; most_limit = lit≤ tt; least_quota = lit≤ tt; most_quota = lit≤ tt; block = refl; watches = refl }

owns : (own : List Span) → is_empty own ≡ false → (own ≡ []) ⊎ OwnsAll own → OwnsAll own
owns own some (inl none) = let no : true ≡ false = rw none at some in cc
owns own some (inr all) = all

sound-batch : (draft : Drafted) (version : ℕ) → version ≤ max_version → Sound draft → Finds form.Batch draft.place draft.own draft.lives → IfOk (add_batch draft version) Sound
sound-batch draft version most s found =
    if_ok Sound (nat_le version (last_version draft.log)) why.Version _ (λ above.
    if_ok Sound (nat_le max_batches (length draft.log)) why.Limit _ (λ room. record {
      settings = s.settings;
      rises = rises_push draft.log (no_mutations version) s.rises (leb-false version (last_version draft.log) above);
      batches = all_push (IsPlainBatch max_version) draft.log (no_mutations version) s.batches (record { no_moves = refl; kept = most });
      changes = all_push HasChanges draft.log (no_mutations version) s.changes tt;
      lives = s.lives;
      follow = s.follow;
      stands = found;
    }))

sound-change : (draft : Drafted) (mutation : Mutation) → IsChange mutation → Sound draft → Sound (record draft { log = on_last (add_mutation mutation) draft.log })
sound-change draft mutation change s = record {
  settings = s.settings;
  rises = rises_on_last (add_mutation mutation) (λ batch. refl) 0 draft.log s.rises;
  batches = all_on_last (IsPlainBatch max_version) (add_mutation mutation) (λ batch p. record { no_moves = p.no_moves; kept = p.kept }) draft.log s.batches;
  changes = all_on_last HasChanges (add_mutation mutation) (λ batch p. all_push IsChange batch.mutations mutation p change) draft.log s.changes;
  lives = s.lives;
  follow = s.follow;
  stands = s.stands;
}

sound-life : (draft : Drafted) (upto : ℕ) → upto ≤ max_version → Sound draft → Finds form.Life draft.place draft.own draft.lives → IfOk (add_life draft upto) Sound
sound-life draft upto most s found =
    if_ok Sound (nat_lt upto (last_upto draft.lives)) why.Version _ (λ kept.
    if_ok Sound (nat_le max_lives (length draft.lives)) why.Limit _ (λ room. record {
      settings = s.settings;
      rises = s.rises;
      batches = s.batches;
      changes = s.changes;
      lives = all_push (IsLifeTo draft.requests) draft.lives (no_steps upto) s.lives (playable_begun draft.requests upto most);
      follow = follow_push draft.lives (no_steps upto) s.follow (ltb-false upto (last_upto draft.lives) kept);
      stands = (found, some_push draft.lives (no_steps upto));
    }))

-- a change of the last life that keeps it playable
sound-last : (draft : Drafted) (f : LifePlan → LifePlan) → ((plan : LifePlan) → (f plan).upto ≡ plan.upto) → ((plan : LifePlan) → IsLifeTo draft.requests plan → IsLifeTo draft.requests (f plan))
    → Sound draft → Finds form.Do draft.place draft.own draft.lives → Sound (record draft { lives = on_last f draft.lives })
sound-last draft f same keeps s found = record {
  settings = s.settings;
  rises = s.rises;
  batches = s.batches;
  changes = s.changes;
  lives = all_on_last (IsLifeTo draft.requests) f keeps draft.lives s.lives;
  follow = follow_on_last f same 0 draft.lives s.follow;
  stands = subst (λ at. Stands at draft.own (on_last f draft.lives)) (sym found.0) (found.1, some_on_last f draft.lives found.2);
}

-- a request that keeps each life playable
sound-asked : (draft : Drafted) (reader : ℕ) (ask : Ask)
    → ((plan : LifePlan) → IsLifeTo draft.requests plan → IsLifeTo (draft.requests + 1) (add_request (record { number = draft.requests + 1; reader = reader; ask = ask }) plan))
    → Sound draft → Finds form.Ask draft.place draft.own draft.lives → IfOk (add_asked draft reader ask) Sound
sound-asked draft reader ask keeps s found =
    if_ok Sound (nat_le max_requests draft.requests || nat_lt max_rows (draft.rows + rows_asked ask)) why.Limit _ (λ room.
    let request : Request = record { number = draft.requests + 1; reader = reader; ask = ask } in record {
      settings = s.settings;
      rises = s.rises;
      batches = s.batches;
      changes = s.changes;
      lives = all_raised draft.requests (add_request request) keeps draft.lives s.lives;
      follow = follow_on_last (add_request request) (same_upto request) 0 draft.lives s.follow;
      stands = subst (λ at. Stands at draft.own (on_last (add_request request) draft.lives)) (sym found.0) (found.1, some_on_last (add_request request) draft.lives found.2);
    })
  where
    all_raised : (n : ℕ) (f : LifePlan → LifePlan) → ((plan : LifePlan) → IsLifeTo n plan → IsLifeTo (n + 1) (f plan)) → (lives : List LifePlan) → AllByRecursion (IsLifeTo n) lives → AllByRecursion (IsLifeTo (n + 1)) (on_last f lives)
    all_raised n f keeps [] all = tt
    all_raised n f keeps (plan ∷ []) all = (keeps plan all.0, tt)
    all_raised n f keeps (plan ∷ next ∷ lives) all = (life_to_next n plan all.0, all_raised n f keeps (next ∷ lives) all.1)

    same_upto : (request : Request) (plan : LifePlan) → (add_request request plan).upto ≡ plan.upto
    same_upto request plan = elim (request.reader == 0) as (λ v.
        (if v then record plan { lasts = plan.lasts ++ request ∷ [] } else record plan { asks = plan.asks ++ request ∷ [] }).upto ≡ plan.upto)
        [ true ↦ refl | false ↦ refl ]

-- a line of an allowed form keeps what holds
sound-form : (draft : Drafted) (form : Form) (words : List (List ℕ)) → Sound draft → is_later_line draft form words ≡ false → Finds form draft.place draft.own draft.lives → IfOk (line_of form words >>= add_line draft) Sound
sound-form draft form.Storage words s now found = absurd found
sound-form draft (form.Option setting) words s now found =
    bind_ok (SaidBy (form.Option setting)) Sound (line_of (form.Option setting) words) _ (said (form.Option setting) words) (λ l by. rw by.1 record {
      settings = bounded_choice setting by.0 draft.chosen by.2 by.3 s.settings;
      rises = s.rises;
      batches = s.batches;
      changes = s.changes;
      lives = s.lives;
      follow = s.follow;
      stands = s.stands;
    })
sound-form draft form.Own words s now found = record {
  settings = s.settings;
  rises = s.rises;
  batches = s.batches;
  changes = s.changes;
  lives = s.lives;
  follow = s.follow;
  stands = subst (λ at. Stands at (all_keys ∷ []) draft.lives) (sym found) (inr refl);
}
sound-form draft form.Log [] s now found = record {
  settings = s.settings;
  rises = s.rises;
  batches = s.batches;
  changes = s.changes;
  lives = s.lives;
  follow = s.follow;
  stands = owns draft.own now found;
}
sound-form draft form.Log (word ∷ words) s now found = tt
sound-form draft form.Batch words s now found =
    bind_ok (SaidBy form.Batch) Sound (line_of form.Batch words) _ (said form.Batch words) (λ l by. rw by.1 (sound-batch draft by.0 by.2 s found))
sound-form draft form.Set words s now found =
    bind_ok (SaidBy form.Set) Sound (line_of form.Set words) _ (said form.Set words) (λ l by. rw by.1 (sound-change draft by.0 by.2 s))
sound-form draft form.Clear words s now found =
    bind_ok (SaidBy form.Clear) Sound (line_of form.Clear words) _ (said form.Clear words) (λ l by. rw by.1 (sound-change draft by.0 by.2 s))
sound-form draft (form.Atomic op) words s now found =
    bind_ok (SaidBy (form.Atomic op)) Sound (line_of (form.Atomic op) words) _ (said (form.Atomic op) words) (λ l by. rw by.1 (sound-change draft by.0 by.2 s))
sound-form draft form.Life words s now found =
    bind_ok (SaidBy form.Life) Sound (line_of form.Life words) _ (said form.Life words) (λ l by. rw by.1 (sound-life draft by.0 by.2 s found))
sound-form draft form.Ask words s now found =
    bind_ok (SaidBy form.Ask) Sound (line_of form.Ask words) _ (said form.Ask words) (λ l by. rw by.2 (
    sound-asked draft by.0 by.1 (
    playable_asked draft.requests _ refl (record { least = by.3; most = by.4; versioned = by.5.0 }) (record { users = by.5.1; short = by.5.2 })) s found))
sound-form draft form.Last words s now found =
    bind_ok (SaidBy form.Last) Sound (line_of form.Last words) _ (said form.Last words) (λ l by. rw by.1 (
    sound-asked draft 0 by.0 (
    playable_last draft.requests _ refl (record { last = refl; versioned = by.2.0 }) (record { users = by.2.1; short = by.2.2 })) s found))
sound-form draft form.Do words s now found =
    bind_ok (SaidBy form.Do) Sound (line_of form.Do words) _ (said form.Do words) (λ l by. rw by.2 (
    sound-last draft (add_step (by.0, by.1)) (λ plan. refl) (playable_step draft.requests by.0 by.1 by.3) s found))
sound-form draft form.Close [] s now found = record {
  settings = s.settings;
  rises = s.rises;
  batches = s.batches;
  changes = s.changes;
  lives = s.lives;
  follow = s.follow;
  stands = found;
}
sound-form draft form.Close (word ∷ words) s now found = tt
sound-form draft form.Kill words s now found =
    bind_ok (SaidBy form.Kill) Sound (line_of form.Kill words) _ (said form.Kill words) (λ l by. rw by.2 record {
      settings = s.settings;
      rises = s.rises;
      batches = s.batches;
      changes = s.changes;
      lives = all_on_last (IsLifeTo draft.requests) (kill_after by.0 by.1) (playable_kill draft.requests by.0 by.1 by.3 by.4) draft.lives s.lives;
      follow = follow_on_last (kill_after by.0 by.1) (λ plan. refl) 0 draft.lives s.follow;
      stands = (found.0, some_on_last (kill_after by.0 by.1) draft.lives found.1);
    })
sound-form draft form.End [] s now found = record {
  settings = s.settings;
  rises = s.rises;
  batches = s.batches;
  changes = s.changes;
  lives = s.lives;
  follow = s.follow;
  stands = found;
}
sound-form draft form.End (word ∷ words) s now found = tt

sound-known : (draft : Drafted) (known : Option Form) (word : List ℕ) (words : List (List ℕ)) → Sound draft → IfOk (judge_known draft known word words) Sound
sound-known draft None word words s = or_else Sound (is_among later_forms word) _ _ tt tt
sound-known draft (Some form) word words s =
    if_ok Sound (is_later_line draft form words) why.Unbuilt _ (λ now.
    if_ok Sound (not (is_allowed draft.place form) || is_ruled_out draft form) why.Order _ (λ allowed.
    sound-form draft form words s now (finds form draft.place draft.own draft.lives (allows (is_allowed draft.place form) (is_ruled_out draft form) allowed) s.stands)))
  where
    allows : (allowed repeated : Bool) → (not allowed || repeated) ≡ false → allowed ≡ true
    allows true repeated e = refl
    allows false repeated e = let no : true ≡ false = e in cc

sound-head : (draft : Drafted) (words : List (List ℕ)) → Sound (record draft { place = place.Start }) → IfOk (judge_head (record draft { place = place.Start }) words) Sound
sound-head draft [] s = tt
sound-head draft (word ∷ []) s = tt
sound-head draft (word ∷ version ∷ []) s =
    or_else Sound (is_word word (codes "storage") && is_word version (codes "1")) _ _ (record {
      settings = s.settings;
      rises = s.rises;
      batches = s.batches;
      changes = s.changes;
      lives = s.lives;
      follow = s.follow;
      stands = s.stands;
    }) tt
sound-head draft (word ∷ version ∷ other ∷ words) s = tt

sound-judge : (draft : Drafted) (words : List (List ℕ)) → Sound draft → IfOk (judge draft words) Sound
sound-judge draft [] s = s
sound-judge draft (word ∷ words) s = at draft.place s
  where
    at : (p : Place) → Sound (record draft { place = p }) → IfOk (judge (record draft { place = p }) (word ∷ words)) Sound
    at place.Start s = sound-head draft (word ∷ words) s
    at place.Head s = sound-known (record draft { place = place.Head }) (form_of word) word words s
    at place.Log s = sound-known (record draft { place = place.Log }) (form_of word) word words s
    at place.Batch s = sound-known (record draft { place = place.Batch }) (form_of word) word words s
    at place.Life s = sound-known (record draft { place = place.Life }) (form_of word) word words s
    at place.Closed s = sound-known (record draft { place = place.Closed }) (form_of word) word words s
    at place.Ended s = sound-known (record draft { place = place.Ended }) (form_of word) word words s

sound-after : (draft : Drafted) (line : List ℕ) → Sound draft → IfOk (after_line draft line) Sound
sound-after draft line s = or_else Sound (is_skipped (words line)) _ _ s (sound-judge draft (words line) s)

-- ---- the whole

playable-finish : (number : ℕ) (draft : Drafted) → Sound draft → IfOk (finish number draft) IsPlayable
playable-finish number draft s = at draft.place s
  where
    at : (p : Place) → Sound (record draft { place = p }) → IfOk (finish number (record draft { place = p })) IsPlayable
    at place.Start s = tt
    at place.Head s = tt
    at place.Log s = tt
    at place.Batch s = tt
    at place.Life s = tt
    at place.Closed s = tt
    at place.Ended s = record {
      settings = s.settings;
      own = s.stands.0;
      rises = s.rises;
      batches = s.batches;
      users = all_weaker HasChanges (λ batch. AllByRecursion ChangesUsers batch.mutations) (λ batch p. all_weaker IsChange ChangesUsers (λ mutation h. h.0) batch.mutations p) draft.log s.changes;
      short = all_weaker HasChanges (λ batch. AllByRecursion ChangesShortKey batch.mutations) (λ batch p. all_weaker IsChange ChangesShortKey (λ mutation h. h.1) batch.mutations p) draft.log s.changes;
      some_life = s.stands.1;
      lives = all_weaker (IsLifeTo draft.requests) IsPlayableLife (λ plan l. l.plays) draft.lives s.lives;
      follow = s.follow;
    }

playable-draft : (number : ℕ) (after : Result Drafted Kind) (next : Drafted → Result Script (ℕ × Kind)) → IfOk after Sound → ((draft : Drafted) → Sound draft → IfOk (next draft) IsPlayable) → IfOk (on_draft number after next) IsPlayable
playable-draft number (Ok after) next s h = h after s
playable-draft number (Err why) next s h = tt

playable-lines : (number : ℕ) (draft : Drafted) (lines : List (List ℕ)) → Sound draft → IfOk (judge_lines number draft lines) IsPlayable
playable-lines number draft [] s = playable-finish number draft s
playable-lines number draft (line ∷ others) s =
    playable-draft number (after_line draft line) _ (sound-after draft line s) (λ after t. playable-lines (number + 1) after others t)

playable : (bytes : List ℕ) → IfOk (script_of bytes) IsPlayable
playable bytes = if_ok IsPlayable (nat_lt max_bytes (length bytes)) (0, why.Long) (judge_lines 1 nothing_yet (lines bytes))
    (λ _. playable-lines 1 nothing_yet (lines bytes) (record {
      settings = bounded_defaults;
      rises = tt;
      batches = tt;
      changes = tt;
      lives = tt;
      follow = tt;
      stands = inl refl;
    }))

-- what is read as the definitions judge it is played
pub playable-read : (read : Result Script ScriptRefusal) (bytes : List ℕ) → Reads read (script_of bytes) → IfOk read IsPlayable
playable-read (Ok script) bytes e = subst (λ judged. IfOk judged IsPlayable) e (playable bytes)
playable-read (Err why) bytes e = tt
