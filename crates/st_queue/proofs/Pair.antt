-- The two files of a queue where both are live: the older one's frames, and the current file goes on behind them.
use Rattle.std.proofs.Common.{◌≡◌, ◌<◌, ◌≤◌, ◌+◌, ◌&&◌, ◌==◌, ◌⊎◌, ⊎_elim, inl, inr, if◌then◌else◌, nat_lt, ℕ, zero, suc, Bool, true, false, List, [], ◌++◌, length, Some, None, Ok, Err, refl, sym, ◌∙◌, ap, subst, arith}
use Rattle.std.proofs.lemmas.Bool.{false≢true}
use Rattle.std.proofs.lemmas.Bool.Decides.{nat_tests}
use Rattle.std.proofs.lemmas.List.{append-nil}
use Rattle.std.proofs.lemmas.Option.{same_Some}
use Rattle.st_disk.specs.History.{Files, of_file}
use Rattle.st_queue.specs.Due.{frames_or_none, older_beside, older_frames}
use Rattle.st_queue.specs.Frames.{generation, first_number, goes_on, is_live, file_frames, joined}
use Rattle.st_queue.specs.Place.{current, current_file, end_in, end_of, other_file}
use Rattle.st_queue.specs.Writing.{frames_of}
use Rattle.st_queue.proofs.Alone.{alone-current, alone-frames, alone-older, choice, file_choice}
use Rattle.st_queue.proofs.Current.{Reading}
use Rattle.st_queue.specs.declared.frame.Frame.{Frame}

-- these frames, or another reading
abbrev when : Bool → List Frame → Reading → Reading
when b here other = if b then Ok here else other

-- where neither of two files goes on behind the other
abbrev gap : Reading
gap = Err (record { file = 1; at = 0 })

-- two joined files: one of them goes on behind the other
pub record AreJoined (z o : List ℕ) (one_reading two_reading : Reading) (all : List Frame) : Type 0 where
  pub first : List Frame
  pub second : List Frame
  pub first_is : one_reading ≡ Ok first
  pub second_is : two_reading ≡ Ok second
  pub order : ((goes_on z (length first) o ≡ true) × (first ++ second ≡ all)) ⊎ ((goes_on o (length second) z ≡ true) × (second ++ first ≡ all))

pub joined-parts : (z o : List ℕ) (one_reading two_reading : Reading) (all : List Frame) → joined z o one_reading two_reading ≡ Ok all → AreJoined z o one_reading two_reading all
joined-parts z o (Err damage) two_reading all e = absurd (cc (e))
joined-parts z o (Ok first) (Err damage) all e = absurd (cc (e))
joined-parts z o (Ok first) (Ok second) all e = record {
  first = first;
  second = second;
  first_is = refl;
  second_is = refl;
  order = by_order (goes_on z (length first) o) (goes_on o (length second) z) refl refl e;
}
  where
    by_order : (a b : Bool) → goes_on z (length first) o ≡ a → goes_on o (length second) z ≡ b → when a (first ++ second) (when b (second ++ first) gap) ≡ Ok all
        → ((goes_on z (length first) o ≡ true) × (first ++ second ≡ all)) ⊎ ((goes_on o (length second) z ≡ true) × (second ++ first ≡ all))
    by_order true b one two e = inl (one, let same : first ++ second ≡ all = cc in same)
    by_order false true one two e = inr (two, let same : second ++ first ≡ all = cc in same)
    by_order false false one two e = absurd (cc (e))

pub goes-newer : (older : List ℕ) (count : ℕ) (newer : List ℕ) → goes_on older count newer ≡ true → (generation newer ≡ generation older + 1) × (first_number newer ≡ first_number older + count)
goes-newer older count newer is = parts (generation newer == generation older + 1) (first_number newer == first_number older + count) refl refl is
  where
    parts : (a b : Bool) → (generation newer == generation older + 1) ≡ a → (first_number newer == first_number older + count) ≡ b → (a && b) ≡ true → (generation newer ≡ generation older + 1) × (first_number newer ≡ first_number older + count)
    parts true true one two both = (grind (arith, nat_tests), grind (arith, nat_tests))
    parts true false one two both = absurd (false≢true both)
    parts false b one two both = absurd (false≢true both)

-- What is known of two live files, of which this one isn't current.
pub record IsOlder (files : Files) (file : ℕ) (all : List Frame) : Type 0 where
  pub older : List Frame
  pub newer : List Frame
  pub older_is : older_frames files ≡ older
  pub newer_is : file_frames (other_file file) (of_file (other_file file) files) ≡ Ok newer
  pub newer_live : is_live (of_file (other_file file) files) ≡ true
  pub current_is : current files ≡ end_of (other_file file) (of_file (other_file file) files) (Ok newer)
  pub whole : older ++ newer ≡ all

abbrev frames_if : Bool → Reading → List Frame
frames_if live reading = if live then frames_or_none reading else []

older-one : (z o : List ℕ) (all : List Frame) → is_live z ≡ true → is_live o ≡ true → nat_lt (generation z) (generation o) ≡ true → AreJoined z o (file_frames 0 z) (file_frames 1 o) all → IsOlder (z, o) 0 all
older-one z o all la lb newer known = record {
  older = known.first;
  newer = known.second;
  older_is = (λ i. older_beside (z, o) (file_choice (la i) (lb i) (newer i))) ∙ (λ i. frames_if (la i) (known.first_is i));
  newer_is = known.second_is;
  newer_live = lb;
  current_is = (λ i. end_in (z, o) (file_choice (la i) (lb i) (newer i))) ∙ ap (λ (r : Reading). end_of 1 o r) known.second_is;
  whole = ⊎_elim (λ here. here.1) (λ there. let made : generation z ≡ generation o + 1 = (goes-newer o (length known.second) z there.0).0 in let no : nat_lt (generation z) (generation o) ≡ false = grind (arith, nat_tests) in absurd (false≢true (sym no ∙ newer))) known.order;
}

older-zero : (z o : List ℕ) (all : List Frame) → is_live z ≡ true → is_live o ≡ true → nat_lt (generation z) (generation o) ≡ false → AreJoined z o (file_frames 0 z) (file_frames 1 o) all → IsOlder (z, o) 1 all
older-zero z o all la lb newer known = record {
  older = known.second;
  newer = known.first;
  older_is = (λ i. older_beside (z, o) (file_choice (la i) (lb i) (newer i))) ∙ (λ i. frames_if (lb i) (known.second_is i));
  newer_is = known.first_is;
  newer_live = la;
  current_is = (λ i. end_in (z, o) (file_choice (la i) (lb i) (newer i))) ∙ ap (λ (r : Reading). end_of 0 z r) known.first_is;
  whole = ⊎_elim (λ there. let made : generation o ≡ generation z + 1 = (goes-newer z (length known.first) o there.0).0 in let yes : nat_lt (generation z) (generation o) ≡ true = grind (arith, nat_tests) in absurd (false≢true (sym newer ∙ yes))) (λ here. here.1) known.order;
}

older-by : (z o : List ℕ) (all : List Frame) (a b c : Bool) → is_live z ≡ a → is_live o ≡ b → nat_lt (generation z) (generation o) ≡ c → choice a b (file_frames 0 z) (file_frames 1 o) (joined z o (file_frames 0 z) (file_frames 1 o)) ≡ Ok all
    → (file : ℕ) → file_choice a b c ≡ Some file → is_live (of_file (other_file file) (z, o)) ≡ true → IsOlder (z, o) (other_file file) all
older-by z o all true true true la lb newer e file is live = subst (λ (f : ℕ). IsOlder (z, o) (other_file f) all) (same_Some 1 file is) (older-one z o all la lb newer (joined-parts z o (file_frames 0 z) (file_frames 1 o) all e))
older-by z o all true true false la lb newer e file is live = subst (λ (f : ℕ). IsOlder (z, o) (other_file f) all) (same_Some 0 file is) (older-zero z o all la lb newer (joined-parts z o (file_frames 0 z) (file_frames 1 o) all e))
older-by z o all true false c la lb newer e file is live =
    absurd (false≢true (sym lb ∙ subst (λ (f : ℕ). is_live (of_file (other_file f) (z, o)) ≡ true) (sym (same_Some 0 file is)) live))
older-by z o all false true c la lb newer e file is live =
    absurd (false≢true (sym la ∙ subst (λ (f : ℕ). is_live (of_file (other_file f) (z, o)) ≡ true) (sym (same_Some 1 file is)) live))
older-by z o all false false c la lb newer e file is live = absurd (cc (is))

pub is-older : (files : Files) (all : List Frame) (file : ℕ) → frames_of files ≡ Ok all → current_file files ≡ Some file → is_live (of_file (other_file file) files) ≡ true → IsOlder files (other_file file) all
is-older files all file is file_is live =
    older-by files.0 files.1 all (is_live files.0) (is_live files.1) (nat_lt (generation files.0) (generation files.1)) refl refl refl is file file_is live

-- A file with no frames that goes on behind the other one, which is live, is current.
pub record IsBehind (files : Files) (file : ℕ) (older : List Frame) : Type 0 where
  pub frames_are : frames_of files ≡ Ok older
  pub current_is : current files ≡ end_of file (of_file file files) (Ok [])
  pub older_is : older_frames files ≡ older

pub one-behind : (z o : List ℕ) (older : List Frame) → is_live z ≡ true → is_live o ≡ true → file_frames 0 z ≡ Ok older → file_frames 1 o ≡ Ok [] → generation o ≡ generation z + 1 → first_number o ≡ first_number z + length older → IsBehind (z, o) 1 older
one-behind z o older la lb first_is second_is made first =
    let goes : goes_on z (length older) o ≡ true = let a : (generation o == generation z + 1) ≡ true = grind (arith, nat_tests) in let b : (first_number o == first_number z + length older) ≡ true = grind (arith, nat_tests) in λ i. a i && b i in
    let newer : nat_lt (generation z) (generation o) ≡ true = grind (arith, nat_tests) in
    let rest : Bool → Reading = λ b. when b (older ++ []) (when (goes_on o 0 z) ([] ++ older) gap) in
    record {
      frames_are = (λ i. choice (la i) (lb i) (file_frames 0 z) (file_frames 1 o) (joined z o (file_frames 0 z) (file_frames 1 o)))
          ∙ (λ i. joined z o (first_is i) (second_is i))
          ∙ ap rest goes
          ∙ ap (λ (l : List Frame). Ok l) (append-nil older);
      current_is = (λ i. end_in (z, o) (file_choice (la i) (lb i) (newer i))) ∙ ap (λ (r : Reading). end_of 1 o r) second_is;
      older_is = (λ i. older_beside (z, o) (file_choice (la i) (lb i) (newer i))) ∙ (λ i. frames_if (la i) (first_is i));
    }

pub zero-behind : (z o : List ℕ) (older : List Frame) → is_live z ≡ true → is_live o ≡ true → file_frames 1 o ≡ Ok older → file_frames 0 z ≡ Ok [] → generation z ≡ generation o + 1 → first_number z ≡ first_number o + length older → IsBehind (z, o) 0 older
zero-behind z o older la lb second_is first_is made first =
    let no : goes_on z 0 o ≡ false = let a : (generation o == generation z + 1) ≡ false = grind (arith, nat_tests) in ap (λ (b : Bool). b && (first_number o == first_number z + 0)) a in
    let goes : goes_on o (length older) z ≡ true = let a : (generation z == generation o + 1) ≡ true = grind (arith, nat_tests) in let b : (first_number z == first_number o + length older) ≡ true = grind (arith, nat_tests) in λ i. a i && b i in
    let newer : nat_lt (generation z) (generation o) ≡ false = grind (arith, nat_tests) in
    let rest : Bool → Bool → Reading = λ a b. when a ([] ++ older) (when b (older ++ []) gap) in
    record {
      frames_are = (λ i. choice (la i) (lb i) (file_frames 0 z) (file_frames 1 o) (joined z o (file_frames 0 z) (file_frames 1 o)))
          ∙ (λ i. joined z o (first_is i) (second_is i))
          ∙ (λ i. rest (no i) (goes i))
          ∙ ap (λ (l : List Frame). Ok l) (append-nil older);
      current_is = (λ i. end_in (z, o) (file_choice (la i) (lb i) (newer i))) ∙ ap (λ (r : Reading). end_of 0 z r) first_is;
      older_is = (λ i. older_beside (z, o) (file_choice (la i) (lb i) (newer i))) ∙ (λ i. frames_if (lb i) (second_is i));
    }

pub pair-behind : (file : ℕ) → file < 2 → (files : Files) (older : List Frame) → is_live (of_file file files) ≡ true → is_live (of_file (other_file file) files) ≡ true → file_frames (other_file file) (of_file (other_file file) files) ≡ Ok older
    → file_frames file (of_file file files) ≡ Ok [] → generation (of_file file files) ≡ generation (of_file (other_file file) files) + 1 → first_number (of_file file files) ≡ first_number (of_file (other_file file) files) + length older → IsBehind files file older
pair-behind zero small files older live other older_is none made first = zero-behind files.0 files.1 older live other older_is none made first
pair-behind (suc zero) small files older live other older_is none made first = one-behind files.0 files.1 older other live older_is none made first
pair-behind (suc (suc file)) small files older live other older_is none made first = absurd (omega arith)

pub alone-behind : (file : ℕ) → file < 2 → (files : Files) → is_live (of_file file files) ≡ true → is_live (of_file (other_file file) files) ≡ false → file_frames file (of_file file files) ≡ Ok [] → IsBehind files file []
alone-behind zero small files live other none = record {
  frames_are = alone-frames 1 files other ∙ (λ i. if live i then none i else Ok []);
  current_is = alone-current 1 files other ∙ (λ i. if live i then end_of 0 files.0 (none i) else None);
  older_is = alone-older 1 files other;
}
alone-behind (suc zero) small files live other none = record {
  frames_are = alone-frames 0 files other ∙ (λ i. if live i then none i else Ok []);
  current_is = alone-current 0 files other ∙ (λ i. if live i then end_of 1 files.1 (none i) else None);
  older_is = alone-older 0 files other;
}
alone-behind (suc (suc file)) small files live other none = absurd (omega arith)

-- the older one's frames, of two live files
pub first-older : (z o : List ℕ) (frames : List Frame) → is_live z ≡ true → is_live o ≡ true → generation z < generation o → file_frames 0 z ≡ Ok frames → older_frames (z, o) ≡ frames
first-older z o frames la lb lt read =
    let newer : nat_lt (generation z) (generation o) ≡ true = grind (arith, nat_tests) in
    (λ i. older_beside (z, o) (file_choice (la i) (lb i) (newer i))) ∙ (λ i. frames_if (la i) (read i))

pub second-older : (z o : List ℕ) (frames : List Frame) → is_live z ≡ true → is_live o ≡ true → generation o ≤ generation z → file_frames 1 o ≡ Ok frames → older_frames (z, o) ≡ frames
second-older z o frames la lb le read =
    let newer : nat_lt (generation z) (generation o) ≡ false = grind (arith, nat_tests) in
    (λ i. older_beside (z, o) (file_choice (la i) (lb i) (newer i))) ∙ (λ i. frames_if (lb i) (read i))
