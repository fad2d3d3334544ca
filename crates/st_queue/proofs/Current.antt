-- The current file of a queue, and what the queue reads as with other bytes in its place.
use Rattle.std.proofs.Common.{◌&&◌, ◌==◌, ◌^◌, nat_eq, nat_lt, nat_le, get_or, ◌≡◌, ◌<◌, ◌≤◌, ◌+◌, if◌then◌else◌, ℕ, Bool, true, false, List, [], ◌∷◌, ◌++◌, length, take, drop, Option, Some, None, Result, Ok, Err, refl, sym, ◌∙◌, ap, subst, arith, append_assoc}
use Rattle.std.proofs.lemmas.Bool.{false≢true}
use Rattle.std.proofs.lemmas.Bool.Decides.{nat_tests}
use Rattle.std.proofs.lemmas.Option.{same_Some}
use Rattle.std.specs.List.{starts_with}
use Rattle.std.proofs.lemmas.List.Sums.{sum_by-cons}
use borrow.Author.Tests.{ltb-true, leb-true}
use Rattle.st_disk.specs.History.{Files, of_file, with_file}
use Rattle.st_queue.specs.Frames.{Damage, frames, joined, goes_on, generation, first_number, has_header, mark, is_live, is_open, frames_from, file_frames}
use Rattle.st_queue.specs.Place.{current, current_file, end_in, end_of, frames_size}
use Rattle.st_queue.specs.Writing.{frames_of}
use Rattle.st_queue.proofs.Ends.{IsEnd, ends, one_list, same-item, same-number}
use Rattle.st_queue.specs.declared.frame.Frame.{Frame}
use Rattle.st_queue.specs.declared.place.Place.{Place}

abbrev pub Reading : Type 0
Reading = Result (List Frame) Damage

-- the choice that `frames` makes, and `current_file`
abbrev read_by : Bool → Bool → Reading → Reading → Reading → Reading
read_by a b zero_reading one_reading both = if a then (if b then both else zero_reading) else if b then one_reading else Ok []

-- these frames, or another reading
abbrev when : Bool → List Frame → Reading → Reading
when b here other = if b then Ok here else other

-- where neither of two files goes on behind the other
abbrev gap : Reading
gap = Err (record { file = 1; at = 0 })

abbrev file_by : Bool → Bool → Bool → Option ℕ
file_by a b c = if a then (if b then (if c then Some 1 else Some 0) else Some 0) else if b then Some 1 else None

-- with the header of a live file, and long enough, a file is live
module _ (old new : List ℕ) (same : take 28 new ≡ take 28 old) (long : 29 ≤ length new) where
  live-same : is_live old ≡ true → is_live new ≡ true
  live-same live =
      let gate : get_or new 0 0 ≡ get_or old 0 0 = same-item 28 new old same 0 (omega arith) in
      let room : nat_le 29 (length new) ≡ true = grind (arith, nat_tests) in
      (λ i. room i && is_open (gate i)) ∙ and-right (nat_le 29 (length old)) (is_open (get_or old 0 0)) live
    where
      and-right : (a b : Bool) → (a && b) ≡ true → b ≡ true
      and-right true b both = both
      and-right false b both = absurd (false≢true both)

  generation-same : generation new ≡ generation old
  generation-same = same-number 28 new old same 8 12 (omega arith)

  first-same : first_number new ≡ first_number old
  first-same = same-number 28 new old same 8 20 (omega arith)

-- the queue with other bytes in the place of its current file's
abbrev pub Grows : Files → List Frame → ℕ → Type 0
Grows files all file = (older more : List Frame) (new : List ℕ) → file_frames file (of_file file files) ≡ Ok older → take 28 new ≡ take 28 (of_file file files) → 29 ≤ length new
    → file_frames file new ≡ Ok (older ++ more) → (frames_of (with_file file new files) ≡ Ok (all ++ more)) × (current_file (with_file file new files) ≡ Some file)

module _ (z o : List ℕ) (all : List Frame) (is : frames z o ≡ Ok all) where
  zero_alone : is_live z ≡ true → is_live o ≡ false → Grows (z, o) all 0
  zero_alone live other older more new older_is same long new_is =
      let live' = live-same z new same long live in
      let whole : file_frames 0 z ≡ Ok all = sym (λ i. read_by (live i) (other i) (file_frames 0 z) (file_frames 1 o) (joined z o (file_frames 0 z) (file_frames 1 o))) ∙ is in
      let lists : older ≡ all = one_list (file_frames 0 z) older all older_is whole in (
        (λ i. read_by (live' i) (other i) (file_frames 0 new) (file_frames 1 o) (joined new o (file_frames 0 new) (file_frames 1 o))) ∙ new_is ∙ ap (λ (l : List Frame). Ok (l ++ more)) lists,
        λ i. file_by (live' i) (other i) (nat_lt (generation new) (generation o)),
      )

  one_alone : is_live z ≡ false → is_live o ≡ true → Grows (z, o) all 1
  one_alone other live older more new older_is same long new_is =
      let live' = live-same o new same long live in
      let whole : file_frames 1 o ≡ Ok all = sym (λ i. read_by (other i) (live i) (file_frames 0 z) (file_frames 1 o) (joined z o (file_frames 0 z) (file_frames 1 o))) ∙ is in
      let lists : older ≡ all = one_list (file_frames 1 o) older all older_is whole in (
        (λ i. read_by (other i) (live' i) (file_frames 0 z) (file_frames 1 new) (joined z new (file_frames 0 z) (file_frames 1 new))) ∙ new_is ∙ ap (λ (l : List Frame). Ok (l ++ more)) lists,
        λ i. file_by (other i) (live' i) (nat_lt (generation z) (generation new)),
      )

  zero_newer : is_live z ≡ true → is_live o ≡ true → nat_lt (generation z) (generation o) ≡ false → Grows (z, o) all 0
  zero_newer live live_one newer older more new older_is same long new_is =
      let live' = live-same z new same long live in
      let made = generation-same z new same long in
      let first = first-same z new same long in
      let whole : joined z o (Ok older) (file_frames 1 o) ≡ Ok all =
      sym (ap (λ (r : Reading). joined z o r (file_frames 1 o)) older_is) ∙ sym (λ i. read_by (live i) (live_one i) (file_frames 0 z) (file_frames 1 o) (joined z o (file_frames 0 z) (file_frames 1 o))) ∙ is in (
        (λ i. read_by (live' i) (live_one i) (file_frames 0 new) (file_frames 1 o) (joined new o (file_frames 0 new) (file_frames 1 o)))
            ∙ ap (λ (r : Reading). joined new o r (file_frames 1 o)) new_is
            ∙ behind_one (file_frames 1 o) whole made first,
        (λ i. file_by (live' i) (live_one i) (nat_lt (made i) (generation o))) ∙ ap (λ (b : Bool). file_by true true b) newer,
      )
    where
      no : (count : ℕ) → goes_on z count o ≡ false
      no count = let e : (generation o == generation z + 1) ≡ false = grind (arith, nat_tests) in ap (λ (b : Bool). b && (first_number o == first_number z + count)) e

      no' : (count : ℕ) → generation new ≡ generation z → goes_on new count o ≡ false
      no' count made = let e : (generation o == generation new + 1) ≡ false = grind (arith, nat_tests) in ap (λ (b : Bool). b && (first_number o == first_number new + count)) e

      by_order : (second : List Frame) (d : Bool) → when d (second ++ older) gap ≡ Ok all → when d (second ++ (older ++ more)) gap ≡ Ok (all ++ more)
      by_order second true e = ap (λ (l : List Frame). Ok l) (sym (append_assoc second older more) ∙ ap (λ (l : List Frame). l ++ more) (one_list (Ok (second ++ older)) (second ++ older) all refl e))
      by_order second false e = absurd (cc (e))

      behind_one : (reading : Reading) → joined z o (Ok older) reading ≡ Ok all → generation new ≡ generation z → first_number new ≡ first_number z → joined new o (Ok (older ++ more)) reading ≡ Ok (all ++ more)
      behind_one (Err damage) e made first = absurd (cc (e))
      behind_one (Ok second) e made first =
          let rest : Bool → Bool → Reading = λ b d. when b (older ++ second) (when d (second ++ older) gap) in
          let rest' : Bool → Bool → Reading = λ b d. when b (older ++ more ++ second) (when d (second ++ (older ++ more)) gap) in
          (λ i. rest' (no' (length (older ++ more)) made i) ((made i == generation o + 1) && (first i == first_number o + length second)))
          ∙ by_order second (goes_on o (length second) z) (sym (ap (λ (b : Bool). rest b (goes_on o (length second) z)) (no (length older))) ∙ e)

  one_newer : is_live z ≡ true → is_live o ≡ true → nat_lt (generation z) (generation o) ≡ true → Grows (z, o) all 1
  one_newer live_zero live newer older more new older_is same long new_is =
      let live' = live-same o new same long live in
      let made = generation-same o new same long in
      let first = first-same o new same long in
      let whole : joined z o (file_frames 0 z) (Ok older) ≡ Ok all =
      sym (ap (λ (r : Reading). joined z o (file_frames 0 z) r) older_is) ∙ sym (λ i. read_by (live_zero i) (live i) (file_frames 0 z) (file_frames 1 o) (joined z o (file_frames 0 z) (file_frames 1 o))) ∙ is in (
        (λ i. read_by (live_zero i) (live' i) (file_frames 0 z) (file_frames 1 new) (joined z new (file_frames 0 z) (file_frames 1 new)))
            ∙ ap (λ (r : Reading). joined z new (file_frames 0 z) r) new_is
            ∙ behind_zero (file_frames 0 z) whole made first,
        (λ i. file_by (live_zero i) (live' i) (nat_lt (generation z) (made i))) ∙ ap (λ (b : Bool). file_by true true b) newer,
      )
    where
      no : (count : ℕ) → goes_on o count z ≡ false
      no count = let e : (generation z == generation o + 1) ≡ false = let lt : generation z < generation o = ltb-true (generation z) (generation o) newer in grind (arith, nat_tests) in ap (λ (b : Bool). b && (first_number z == first_number o + count)) e

      by_order : (head : List Frame) (d : Bool) → when d (head ++ older) gap ≡ Ok all → when d (head ++ (older ++ more)) gap ≡ Ok (all ++ more)
      by_order head true e = ap (λ (l : List Frame). Ok l) (sym (append_assoc head older more) ∙ ap (λ (l : List Frame). l ++ more) (one_list (Ok (head ++ older)) (head ++ older) all refl e))
      by_order head false e = absurd (cc (e))

      -- nothing follows the newer file
      decided : (head : List Frame) (d b : Bool) → b ≡ false → when d (head ++ older) (when b (older ++ head) gap) ≡ Ok all → when d (head ++ older) gap ≡ Ok all
      decided head true b none e = e
      decided head false b none e = sym (ap (λ (b : Bool). when b (older ++ head) gap) none) ∙ e

      chosen : (head : List Frame) (d : Bool) (other : Reading) → when d (head ++ (older ++ more)) gap ≡ Ok (all ++ more) → when d (head ++ (older ++ more)) other ≡ Ok (all ++ more)
      chosen head true other e = e
      chosen head false other e = absurd (cc (e))

      behind_zero : (reading : Reading) → joined z o reading (Ok older) ≡ Ok all → generation new ≡ generation o → first_number new ≡ first_number o → joined z new reading (Ok (older ++ more)) ≡ Ok (all ++ more)
      behind_zero (Err damage) e made first = absurd (cc (e))
      behind_zero (Ok head) e made first =
          let d = goes_on z (length head) o in
          let other = when (goes_on new (length (older ++ more)) z) (older ++ more ++ head) gap in
          (λ i. when ((made i == generation z + 1) && (first i == first_number z + length head)) (head ++ (older ++ more)) other)
          ∙ chosen head d other (by_order head d (decided head d (goes_on o (length older) z) (no (length older)) e))

  grows-by : (a b c : Bool) (file : ℕ) → is_live z ≡ a → is_live o ≡ b → nat_lt (generation z) (generation o) ≡ c → file_by a b c ≡ Some file → Grows (z, o) all file × (is_live (of_file file (z, o)) ≡ true) × (file < 2)
  grows-by true true true file la lb lc e = subst (λ (f : ℕ). Grows (z, o) all f × (is_live (of_file f (z, o)) ≡ true) × (f < 2)) (same_Some 1 file e) (one_newer la lb lc, lb, omega arith)
  grows-by true true false file la lb lc e = subst (λ (f : ℕ). Grows (z, o) all f × (is_live (of_file f (z, o)) ≡ true) × (f < 2)) (same_Some 0 file e) (zero_newer la lb lc, la, omega arith)
  grows-by true false c file la lb lc e = subst (λ (f : ℕ). Grows (z, o) all f × (is_live (of_file f (z, o)) ≡ true) × (f < 2)) (same_Some 0 file e) (zero_alone la lb, la, omega arith)
  grows-by false true c file la lb lc e = subst (λ (f : ℕ). Grows (z, o) all f × (is_live (of_file f (z, o)) ≡ true) × (f < 2)) (same_Some 1 file e) (one_alone la lb, lb, omega arith)
  grows-by false false c file la lb lc e = absurd (cc (e))

-- What is known of a queue's files where one of them is current, and ends at this place.
pub record HasEnd (files : Files) (all : List Frame) (place : Place) : Type 0 where
  pub older : List Frame
  pub older_is : file_frames place.file (of_file place.file files) ≡ Ok older
  pub at_end : IsEnd place.file (of_file place.file files) older place.gate place.next
  pub grows : Grows files all place.file
  pub place_is : end_of place.file (of_file place.file files) (Ok older) ≡ Some place
  pub file : place.file < 2

same_place : (a b : Place) (o : Option Place) → o ≡ Some a → o ≡ Some b → a ≡ b
same_place a b o first second = same_Some a b (sym first ∙ second)

pub has_end : (files : Files) (all : List Frame) (place : Place) → frames_of files ≡ Ok all → Some place ≡ current files → HasEnd files all place
has_end files all place is ends_is = by_file (current_file files) refl (sym ends_is)
  where
    by_reading : (file : ℕ) (reading : Reading) → current_file files ≡ Some file → file_frames file (of_file file files) ≡ reading → end_of file (of_file file files) reading ≡ Some place → HasEnd files all place
    by_reading file (Err damage) file_is read e = absurd (cc (e))
    by_reading file (Ok older) file_is read e =
        let known = grows-by files.0 files.1 all is (is_live files.0) (is_live files.1) (nat_lt (generation files.0) (generation files.1)) file refl refl refl file_is in
        let bytes = of_file file files in
        let place' : Place = record { file = file; generation = generation bytes; gate = 28 + frames_size older; next = first_number bytes + length older } in
        let long : 29 ≤ length bytes = leb-true 29 (length bytes) (and-left (nat_le 29 (length bytes)) (is_open (get_or bytes 0 0)) known.1) in
        subst (λ (p : Place). HasEnd files all p) (same_Some place' place e) (record {
          older = older;
          older_is = read;
          at_end = ends file bytes older long read;
          grows = known.0;
          place_is = refl;
          file = known.2;
        })
      where
        and-left : (a b : Bool) → (a && b) ≡ true → a ≡ true
        and-left true b both = refl
        and-left false b both = absurd (false≢true both)

    by_file : (found : Option ℕ) → current_file files ≡ found → end_in files found ≡ Some place → HasEnd files all place
    by_file None file_is e = absurd (cc (e))
    by_file (Some file) file_is e = by_reading file (file_frames file (of_file file files)) file_is refl e

length-size : (frames : List Frame) → length frames ≤ frames_size frames
length-size [] = omega arith
length-size (frame ∷ frames) = omega (arith, length-size frames, sum_by-cons (λ (f : Frame). 13 + length f.payload) frame frames)

-- the numbers of a file's end
pub end-fits : (file : ℕ) (bytes : List ℕ) (frames : List Frame) → is_live bytes ≡ true → file_frames file bytes ≡ Ok frames
    → (28 + frames_size frames < length bytes) × (first_number bytes + length frames ≤ 2 ^ 62 + (28 + frames_size frames)) × (generation bytes ≤ 2 ^ 62)
end-fits file bytes frames live is =
    let long : 29 ≤ length bytes = leb-true 29 (length bytes) (and-left (nat_le 29 (length bytes)) (is_open (get_or bytes 0 0)) live) in
    let known = ends file bytes frames long is in
    let small = sound (has_header bytes) refl is in
    (known.inside, omega (arith, small.1, length-size frames), small.0)
  where
    and-left : (a b : Bool) → (a && b) ≡ true → a ≡ true
    and-left true b both = refl
    and-left false b both = absurd (false≢true both)

    and-right : (a b : Bool) → (a && b) ≡ true → b ≡ true
    and-right true b both = both
    and-right false b both = absurd (false≢true both)

    sound : (b : Bool) → has_header bytes ≡ b → (if b then frames_from file (first_number bytes) 28 0 (drop 28 bytes) else Err (record { file = file; at = 1 })) ≡ Ok frames → (generation bytes ≤ 2 ^ 62) × (first_number bytes ≤ 2 ^ 62)
    sound true has e =
        let both : (nat_le (generation bytes) (2 ^ 62) && nat_le (first_number bytes) (2 ^ 62)) ≡ true = and-right (starts_with nat_eq (drop 1 bytes) mark) (nat_le (generation bytes) (2 ^ 62) && nat_le (first_number bytes) (2 ^ 62)) has in (
          leb-true (generation bytes) (2 ^ 62) (and-left (nat_le (generation bytes) (2 ^ 62)) (nat_le (first_number bytes) (2 ^ 62)) both),
          leb-true (first_number bytes) (2 ^ 62) (and-right (nat_le (generation bytes) (2 ^ 62)) (nat_le (first_number bytes) (2 ^ 62)) both),
        )
    sound false has e = absurd (cc (e))

module _ (z o : List ℕ) (live : is_live z ≡ true) (live_one : is_live o ≡ true) where
  pub current-one : generation z < generation o → current (z, o) ≡ end_of 1 o (file_frames 1 o)
  current-one lt = let e : nat_lt (generation z) (generation o) ≡ true = grind (arith, nat_tests) in λ i. end_in (z, o) (file_by (live i) (live_one i) (e i))

  pub current-zero : generation o ≤ generation z → current (z, o) ≡ end_of 0 z (file_frames 0 z)
  current-zero le = let e : nat_lt (generation z) (generation o) ≡ false = grind (arith, nat_tests) in λ i. end_in (z, o) (file_by (live i) (live_one i) (e i))

  pub frames-both : (first second : List Frame) → file_frames 0 z ≡ Ok first → file_frames 1 o ≡ Ok second → (reading : Reading) → joined z o (Ok first) (Ok second) ≡ reading → frames_of (z, o) ≡ reading
  frames-both first second first_is second_is reading is =
      (λ i. read_by (live i) (live_one i) (file_frames 0 z) (file_frames 1 o) (joined z o (file_frames 0 z) (file_frames 1 o)))
      ∙ (λ i. joined z o (first_is i) (second_is i))
      ∙ is
