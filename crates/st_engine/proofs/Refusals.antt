-- What a refusal of a queue's calls leaves, and when one comes.
use Rattle.std.proofs.Common.{◌≡◌, ◌∙◌, ◌<◌, ◌^◌, ℕ, List, Option, Some, None, Bool, true, false, IsTrue, nat_lt, if◌then◌else◌, Result, Ok, Err, IfErr, IfSome, IsErrOf, ◌⊎◌, inl, inr, refl, sym, ap, subst}
use Rattle.std.specs.Option.{option_map, option_or}
use Rattle.std.specs.Result.{IsErrAnd}
use Rattle.std.proofs.lemmas.Bool.{false≢true, lt-ltb, ltb-true}
use Rattle.std.proofs.lemmas.Option.{same_Some}
use Rattle.st_disk.specs.History.{History, seen}
use Rattle.st_disk.specs.Recorded.{Call}
use Rattle.st_queue.specs.Mounting.{IsOfWriting, IsOfEntering, IsOutside}
use Rattle.st_queue.specs.Place.{next_place, spent}
use Rattle.st_queue.specs.Queue.{IsBefore, IsPast as IsPastEnd, IsSpent, after_refusal, end_behind, is_due, is_due_at}
use Rattle.st_queue.specs.Writing.{told_frames}
use Rattle.st_queue.specs.declared.frame.QueueRefusal.{QueueRefusal}
use Rattle.st_queue.specs.declared.frame.QueueRefusal.TheVariants.{Broken, Damaged, DiskFault, Full, NoMemory}
use Rattle.st_queue.specs.declared.place.Place.{Place}
use Rattle.st_queue.specs.declared.state.State.{State}
use Rattle.st_engine.specs.Answers.{IsPast}
use Rattle.st_disk.specs.Calls.{made}
use Rattle.st_engine.specs.Commit.{Done, Past, begin_in, commit_with, frame_place, outcome, past_end, past_in, past_number, place_in}
use Rattle.st_engine.specs.Store.{Store}
use Rattle.st_engine.proofs.Cases.{same_Err}

-- entering a file is never refused for what is past its bound
pub never-full : (refusal : QueueRefusal) (length limit : ℕ) → IsOfEntering refusal → refusal ≡ Full length limit → ⊥
never-full refusal length limit of is = subst IsOfEntering is of

pub entering-writing : (refusal : QueueRefusal) → IsOfEntering refusal → IsOfWriting refusal
entering-writing (DiskFault faults) of = tt
entering-writing NoMemory of = tt
entering-writing (Broken faults) of = tt
entering-writing (Damaged file at) of = of
entering-writing (Full length limit) of = absurd of

-- unless the disk failed the frames are those that were
pub refused-frames : {T : Type 0} → (told new : Option History) (result : Result T QueueRefusal) (refusal : QueueRefusal) (state : State) → result ≡ Err refusal → IsOfWriting refusal
    → (IsErrOf result NoMemory → told_frames new ≡ told_frames told) → (IsBefore refusal → told_frames new ≡ told_frames told) → (after_refusal refusal state).broken ≡ None → told_frames new ≡ told_frames told
refused-frames told new result (DiskFault faults) state is of same before unbroken = absurd (cc (unbroken))
refused-frames told new result NoMemory state is of same before unbroken = same is
refused-frames told new result (Broken faults) state is of same before unbroken = before tt
refused-frames told new result (Full length limit) state is of same before unbroken = before tt
refused-frames told new result (Damaged file at) state is of same before unbroken = absurd of

-- where the next frame will stand
module _ (state : State) where
  pub due-place : IsTrue (is_due state) → next_place state.current ≡ place_in state
  due-place due = by_current state.current ∙ ap (λ (b : Bool). frame_place b state.current) (sym due)
    where
      by_current : (current : Option Place) → next_place current ≡ frame_place true current
      by_current None = refl
      by_current (Some place) = refl

  pub else-place : is_due state ≡ false → state.current ≡ Some (place_in state)
  else-place not_due = by_current state.current not_due ∙ ap (λ (b : Bool). Some (frame_place b state.current)) (sym not_due)
    where
      by_current : (current : Option Place) → is_due_at state current ≡ false → current ≡ Some (frame_place false current)
      by_current None not_due = absurd (false≢true (sym not_due))
      by_current (Some place) not_due = refl

abbrev past_by : ℕ → Past
past_by number = record { length = number; limit = 2 ^ 62 }

-- a next file that has no number
module _ (state : State) (due : is_due state ≡ true) where
  number-is : past_number (is_due state) state.current ≡ option_map past_by (spent state.current)
  number-is = ap (λ (b : Bool). if b then option_map past_by (spent state.current) else None) due

  pub spent-past : (long limit : ℕ) → IsSpent state long limit → past_number (is_due state) state.current ≡ Some (record { length = long; limit = limit })
  spent-past long limit is = number-is ∙ ap (option_map past_by) is.number ∙ ap (λ (n : ℕ). Some (record { length = long; limit = n })) (sym is.bound)

  pub past-spent : (past : Past) → state.broken ≡ None → past_number (is_due state) state.current ≡ Some past → IsSpent state past.length past.limit
  past-spent past unbroken is = by_spent (spent state.current) refl (sym number-is ∙ is)
    where
      by_spent : (number : Option ℕ) → spent state.current ≡ number → option_map past_by number ≡ Some past → IsSpent state past.length past.limit
      by_spent None at e = absurd (cc (e))
      by_spent (Some n) at e =
          let same = same_Some (past_by n) past e in
          record { unbroken = unbroken; number = at ∙ ap (λ (p : Past). Some p.length) same; bound = sym (ap (λ (p : Past). p.limit) same) }

pub else-number : (state : State) → is_due state ≡ false → past_number (is_due state) state.current ≡ None
else-number state not_due = ap (λ (b : Bool). if b then option_map past_by (spent state.current) else None) not_due

-- The frame of a payload that ends past the limit of the file that is current then.
module _ (old mid : State) (payload : List ℕ) (limit_is : mid.limit ≡ old.limit) (current : mid.current ≡ Some (place_in old)) where
  end_then : ℕ
  end_then = end_behind (place_in old) payload

  pub past-ends : (long limit : ℕ) → IsPastEnd mid payload long limit → past_end old.limit (place_in old) payload ≡ Some (record { length = long; limit = limit })
  unfolding end_then
  past-ends long limit past =
      let ends : end_then ≡ long = same_Some end_then long (sym (ap (option_map (λ (place : Place). end_behind place payload)) current) ∙ past.ends) in
      let above : old.limit < end_then = subst (λ (n : ℕ). old.limit < n) (sym ends) (subst (λ (n : ℕ). n < long) limit_is past.above) in
      ap (λ (b : Bool). if b then Some (record { length = end_then; limit = old.limit }) else None) (lt-ltb old.limit end_then above)
      ∙ (λ i. Some (record { length = ends i; limit = sym (past.bound ∙ limit_is) i }))

  pub ends-past : (past : Past) → mid.broken ≡ None → past_end old.limit (place_in old) payload ≡ Some past → IsPastEnd mid payload past.length past.limit
  unfolding end_then
  ends-past past unbroken is = by_test (nat_lt old.limit end_then) refl is
    where
      by_test : (b : Bool) → nat_lt old.limit end_then ≡ b → (if b then Some (record { length = end_then; limit = old.limit }) else None) ≡ Some past → IsPastEnd mid payload past.length past.limit
      by_test false at e = absurd (cc (e))
      by_test true at e =
          let same = same_Some (record { length = end_then; limit = old.limit }) past e in
          let ends : end_then ≡ past.length = ap (λ (p : Past). p.length) same in
          let above : old.limit < past.length = subst (λ (n : ℕ). old.limit < n) ends (ltb-true old.limit end_then at) in
          record {
            unbroken = unbroken;
            ends = ap (option_map (λ (place : Place). end_behind place payload)) current ∙ ap (λ (n : ℕ). Some n) ends;
            above = subst (λ (n : ℕ). n < past.length) (sym limit_is) above;
            bound = sym (ap (λ (p : Past). p.limit) same) ∙ sym limit_is;
          }

-- what is past its bound, of a number and an end
module _ (state : State) (payload : List ℕ) where
  pub number-past : (past : Past) → past_number (is_due state) state.current ≡ Some past → past_in state payload ≡ Some past
  number-past past is = ap (λ (o : Option Past). option_or o (past_end state.limit (place_in state) payload)) is

  pub end-past : past_number (is_due state) state.current ≡ None → past_in state payload ≡ past_end state.limit (place_in state) payload
  end-past none = ap (λ (o : Option Past). option_or o (past_end state.limit (place_in state) payload)) none

-- what such a commit comes to
pub outcome-done : (number end : Option Past) (begun : List Call) (done : Done) → number ≡ None → end ≡ None → outcome number end begun done ≡ Ok done
outcome-done number end begun done none within = λ i. outcome (none i) (within i) begun done

refused-number : (number end : Option Past) (begun : List Call) (done : Done) (h : History) (now : Option History) (long limit : ℕ) → number ≡ Some (record { length = long; limit = limit }) → now ≡ Some h
    → IsErrAnd (outcome number end begun done) (IsPast h now long limit)
refused-number number end begun done h now long limit is same =
    subst (λ (o : Option Past). IsErrAnd (outcome o end begun done) (IsPast h now long limit)) (sym is) (record { past = refl; history = same })

refused-end : (number end : Option Past) (begun : List Call) (done : Done) (h : History) (now : Option History) (long limit : ℕ) → number ≡ None → end ≡ Some (record { length = long; limit = limit }) → now ≡ Some (made begun h)
    → IsErrAnd (outcome number end begun done) (IsPast h now long limit)
refused-end number end begun done h now long limit none is same =
    subst (λ (o : Option Past). IsErrAnd (outcome o end begun done) (IsPast h now long limit)) (sym none)
    (subst (λ (o : Option Past). IsErrAnd (outcome None o begun done) (IsPast h now long limit)) (sym is) (record { past = refl; history = same }))

-- a commit that is refused so tells which calls were made before
module _ (state : State) (payload : List ℕ) (now : Option History) (long limit : ℕ) where
  abbrev pub RefusedAt : Option History → Type 0
  RefusedAt told = IfSome told (λ h. (behind : Store) → IsErrAnd (commit_with state.limit (is_due state) state.current payload (seen h) behind) (IsPast h now long limit))

  pub refused-first : (told : Option History) → past_number (is_due state) state.current ≡ Some (record { length = long; limit = limit }) → now ≡ told → RefusedAt told
  refused-first None number same = tt
  refused-first (Some h) number same = λ behind.
      refused-number (past_number (is_due state) state.current) (past_end state.limit (place_in state) payload) (begin_in state (seen h)) _ h now long limit number same

  pub refused-then : (told : Option History) → past_number (is_due state) state.current ≡ None → past_end state.limit (place_in state) payload ≡ Some (record { length = long; limit = limit })
      → now ≡ option_map (λ h. made (begin_in state (seen h)) h) told → RefusedAt told
  refused-then None none ends same = tt
  refused-then (Some h) none ends same = λ behind.
      refused-end (past_number (is_due state) state.current) (past_end state.limit (place_in state) payload) (begin_in state (seen h)) _ h now long limit none ends same

-- a queue that isn't broken after a refusal wasn't before
pub unbroken-before : (refusal : QueueRefusal) (state : State) → (after_refusal refusal state).broken ≡ None → state.broken ≡ None
unbroken-before (DiskFault faults) state is = absurd (cc (is))
unbroken-before NoMemory state is = is
unbroken-before (Broken faults) state is = is
unbroken-before (Damaged file at) state is = is
unbroken-before (Full length limit) state is = is

-- a queue that was broken tells it before it does anything
pub told-broken : {T : Type 0} → (refusal : QueueRefusal) (faults : ℕ) → ◌≡◌ {A = Result T QueueRefusal} (Err refusal) (Err (Broken faults)) → IsBefore refusal
told-broken {T} refusal faults is = subst (λ (r : Result T QueueRefusal). IfErr r IsBefore) (sym is) tt

-- and so does one that is full
pub told-full : {T : Type 0} → (refusal : QueueRefusal) (long limit : ℕ) → ◌≡◌ {A = Result T QueueRefusal} (Err refusal) (Err (Full long limit)) → IsBefore refusal
told-full {T} refusal long limit is = subst (λ (r : Result T QueueRefusal). IfErr r IsBefore) (sym is) tt

-- a queue that was broken stays as it is
pub broken-same : {T : Type 0} → (refusal : QueueRefusal) (faults : ℕ) (state : State) → ◌≡◌ {A = Result T QueueRefusal} (Err refusal) (Err (Broken faults)) → after_refusal refusal state ≡ state
broken-same {T} refusal faults state is =
    let answer : Result T QueueRefusal = Err refusal in
    let at : refusal ≡ Broken faults = same_Err refusal (Broken faults) answer refl is in
    ap (λ (r : QueueRefusal). after_refusal r state) at

-- a refusal of a queue that isn't broken is Full with this, or comes from outside
pub refused-as : (refusal : QueueRefusal) → IsOfWriting refusal → ((faults : ℕ) → refusal ≡ Broken faults → ⊥) → (past : Past) → ((long limit : ℕ) → refusal ≡ Full long limit → record { length = long; limit = limit } ≡ past)
    → (refusal ≡ Full past.length past.limit) ⊎ IsOutside refusal
refused-as (DiskFault faults) of unbroken past same = inr tt
refused-as NoMemory of unbroken past same = inr tt
refused-as (Broken faults) of unbroken past same = absurd (unbroken faults refl)
refused-as (Damaged file at) of unbroken past same = absurd of
refused-as (Full long limit) of unbroken past same = inl (ap (λ (p : Past). Full p.length p.limit) (same long limit refl))
