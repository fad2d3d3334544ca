-- The calls of a commit, and how far they came.
use Rattle.std.proofs.Common.{◌≡◌, ◌∙◌, ℕ, zero, suc, Bool, true, false, if◌then◌else◌, List, [], ◌∷◌, ◌++◌, Option, Some, None, inl, refl, sym, ap, subst}
use Rattle.std.specs.Option.{option_map}
use Rattle.st_disk.specs.FileState.{overwritten}
use Rattle.st_disk.specs.History.{Files, History, seen, counted, fresh}
use Rattle.st_disk.specs.Recorded.{Call, write, sync, after_call}
use Rattle.st_disk.specs.Calls.{ToldStoppedIn, made, made-append, told_stopped-first}
use Rattle.st_queue.specs.Place.{next_file, next_generation, next_number}
use Rattle.st_queue.specs.Queue.{is_due}
use Rattle.st_queue.specs.Writing.{append_calls, appended, enter_calls, entered, recycle_calls, recycled}
use Rattle.st_queue.specs.declared.place.Place.{Place}
use Rattle.st_queue.specs.declared.state.State.{State}
use Rattle.st_engine.specs.Store.{Store}
use Rattle.st_engine.specs.Commit.{Done, Past, Refused, calls_of, commit_with, files_behind, outcome, past_end, past_number, begin_calls, begin_in, calls_in, commit_calls, place_in}

-- what a disk reads as behind a call is told by what it read as before
seen-call : (call : Call) (h g : History) → seen h ≡ seen g → seen (counted (after_call call h)) ≡ seen (counted (after_call call g))
seen-call (write zero at bytes) h g same = λ i. (overwritten at bytes (same i).0, (same i).1)
seen-call (write (suc file) at bytes) h g same = λ i. ((same i).0, overwritten at bytes (same i).1)
seen-call (sync zero) h g same = λ i. ((same i).0, (same i).1)
seen-call (sync (suc file)) h g same = λ i. ((same i).0, (same i).1)

pub seen-made : (calls : List Call) (h g : History) → seen h ≡ seen g → seen (made calls h) ≡ seen (made calls g)
seen-made [] h g same = same
seen-made (call ∷ calls) h g same = seen-made calls (counted (after_call call h)) (counted (after_call call g)) (seen-call call h g same)

-- and so are the files behind calls
pub seen-fresh : (calls : List Call) (h : History) → seen (made calls h) ≡ seen (made calls (fresh (seen h)))
seen-fresh calls h = seen-made calls h (fresh (seen h)) refl

-- the calls of a queue
appended-made : (place : Place) (payload : List ℕ) (h : History) → appended place payload h ≡ made (append_calls place payload) h
unfolding appended
appended-made place payload h = refl

entered-made : (file : ℕ) (h : History) → entered file h ≡ made (enter_calls file) h
unfolding entered
entered-made file h = refl

recycled-made : (file generation first : ℕ) (h : History) → recycled file generation first h ≡ made (recycle_calls file generation first (seen h)) h
unfolding recycled
recycled-made file generation first h = refl

-- a next file is begun where it is due
pub then-begun : (state : State) (told : Option History) → is_due state ≡ true
    → option_map (entered (next_file state.current)) (option_map (recycled (next_file state.current) (next_generation state.current) (next_number state.current)) told)
    ≡ option_map (λ h. made (begin_in state (seen h)) h) told
then-begun state None due = refl
then-begun state (Some h) due =
    let file = next_file state.current in
    let ready : List Call = recycle_calls file (next_generation state.current) (next_number state.current) (seen h) in
    let enter : List Call = enter_calls file in
    ap (λ (h : History). Some h)
    (entered-made file (recycled file (next_generation state.current) (next_number state.current) h)
    ∙ ap (made enter) (recycled-made file (next_generation state.current) (next_number state.current) h)
    ∙ sym (made-append ready enter h)
    ∙ ap (λ (b : Bool). made (if b then ready ++ enter else []) h) (sym due))

-- and nothing is done where it isn't
pub none-begun : (state : State) (told : Option History) → is_due state ≡ false → told ≡ option_map (λ h. made (begin_in state (seen h)) h) told
none-begun state None not_due = refl
none-begun state (Some h) not_due =
    let both : List Call = recycle_calls (next_file state.current) (next_generation state.current) (next_number state.current) (seen h) ++ enter_calls (next_file state.current) in
    ap (λ (b : Bool). Some (made (if b then both else []) h)) (sym not_due)

-- the frame is appended then
pub then-appended : (state : State) (payload : List ℕ) (told : Option History)
    → option_map (appended (place_in state) payload) (option_map (λ h. made (begin_in state (seen h)) h) told) ≡ option_map (λ h. made (calls_in state payload (seen h)) h) told
then-appended state payload None = refl
then-appended state payload (Some h) =
    ap (λ (h : History). Some h)
    (appended-made (place_in state) payload (made (begin_in state (seen h)) h) ∙ sym (made-append (begin_in state (seen h)) (append_calls (place_in state) payload) h))

-- the calls that make a file ready, of a disk that may not tell them
pub told-recycled : (file generation first : ℕ) (told : Option History) → option_map (recycled file generation first) told ≡ option_map (λ h. made (recycle_calls file generation first (seen h)) h) told
told-recycled file generation first None = refl
told-recycled file generation first (Some h) = ap (λ (h : History). Some h) (recycled-made file generation first h)

-- those that begin a next file were cut short
pub begun-stopped : (state : State) (told new : Option History) → is_due state ≡ true
    → ToldStoppedIn (λ files. recycle_calls (next_file state.current) (next_generation state.current) (next_number state.current) files ++ enter_calls (next_file state.current)) told new → ToldStoppedIn (begin_in state) told new
begun-stopped state told new due stopped =
    subst
    (λ (b : Bool). ToldStoppedIn (λ files. if b then recycle_calls (next_file state.current) (next_generation state.current) (next_number state.current) files ++ enter_calls (next_file state.current) else []) told new)
    (sym due) stopped

-- All calls of a commit were cut short: those that begin a next file, where that has a number,
abbrev with_calls : State → List ℕ → Store → Files → Done
with_calls state payload behind files = record { calls = calls_in state payload files; behind = record { files = files_behind (calls_in state payload files) files; store = behind } }

pub stopped-begun : (state : State) (payload : List ℕ) (behind : Store) (told now : Option History) → past_number (is_due state) state.current ≡ None → ToldStoppedIn (begin_in state) told now
    → ToldStoppedIn (λ files. calls_of (commit_with state.limit (is_due state) state.current payload files behind)) told now
stopped-begun state payload behind told now none stopped =
    subst (λ (number : Option Past). ToldStoppedIn (λ files. calls_of (outcome number (past_end state.limit (place_in state) payload) (begin_in state files) (with_calls state payload behind files))) told now) (sym none)
    (by_end (past_end state.limit (place_in state) payload))
  where
    by_end : (end : Option Past) → ToldStoppedIn (λ files. calls_of (outcome None end (begin_in state files) (with_calls state payload behind files))) told now
    by_end (Some past) = stopped
    by_end None = told_stopped-first (begin_in state) (λ _. append_calls (place_in state) payload) told now stopped

-- or all of them, where nothing is past its bound
pub stopped-all : (state : State) (payload : List ℕ) (behind : Store) (told now : Option History) → past_number (is_due state) state.current ≡ None → past_end state.limit (place_in state) payload ≡ None
    → ToldStoppedIn (calls_in state payload) told now → ToldStoppedIn (λ files. calls_of (commit_with state.limit (is_due state) state.current payload files behind)) told now
stopped-all state payload behind told now none within stopped =
    subst (λ (number : Option Past). ToldStoppedIn (λ files. calls_of (outcome number (past_end state.limit (place_in state) payload) (begin_in state files) (with_calls state payload behind files))) told now) (sym none)
    (subst (λ (end : Option Past). ToldStoppedIn (λ files. calls_of (outcome None end (begin_in state files) (with_calls state payload behind files))) told now) (sym within) stopped)
