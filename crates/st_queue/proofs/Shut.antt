-- A file while it is shut and made ready, and once its gate is opened.
use Rattle.std.proofs.Common.{◌&&◌, ◌||◌, ◌==◌, ◌^◌, nat_eq, nat_le, get_or, ◌≡◌, ◌<◌, ◌≤◌, ◌+◌, if◌then◌else◌, ℕ, Bool, true, false, List, [], ◌∷◌, ◌++◌, length, drop, Ok, Err, refl, sym, ◌∙◌, ap, arith, length-drop}
use Rattle.std.proofs.lemmas.Bool.{false≢true}
use Rattle.std.proofs.lemmas.Bool.Decides.{nat_tests}
use Rattle.std.proofs.lemmas.List.{drop-drop, get_or-drop}
use Rattle.std.specs.List.{starts_with}
use borrow.Author.Tests.{leb-true}
use Rattle.st_num.specs.Numbers.{little_number-reads_back}
use Rattle.st_num.specs.Number.{little_bytes, little_number}
use Rattle.st_disk.specs.FileState.{overwritten}
use Rattle.st_disk.specs.Images.{IsTorn}
use Rattle.st_queue.specs.Frames.{mark, generation, first_number, has_header, is_live, is_open, frames_from, file_frames}
use Rattle.st_queue.specs.Place.{is_unshut}
use Rattle.st_queue.specs.Prepared.{IsPrepared}
use Rattle.st_queue.specs.Writing.{header_bytes}
use Rattle.st_queue.proofs.Ends.{same-item}
use Rattle.st_queue.proofs.FramesLemmas.{next-closed}

pub closed-shut : (bytes : List ℕ) → is_open (get_or bytes 0 0) ≡ false → is_live bytes ≡ false
closed-shut bytes closed = ap (λ (b : Bool). nat_le 29 (length bytes) && b) closed ∙ and-false (nat_le 29 (length bytes))
  where
    and-false : (b : Bool) → (b && false) ≡ false
    and-false true = refl
    and-false false = refl

short-shut : (bytes : List ℕ) → length bytes < 29 → is_live bytes ≡ false
short-shut bytes short = let no : nat_le 29 (length bytes) ≡ false = grind (arith, nat_tests) in ap (λ (b : Bool). b && is_open (get_or bytes 0 0)) no

-- while the gate is shut
pub shut-torn : (z image : List ℕ) → is_live z ≡ false → is_unshut z ≡ true → IsTorn 0 1 z image → is_live image ≡ false
shut-torn z image shut unshut torn = short-shut image (omega (arith, torn.no_longer, short (length z == 0) (nat_le 29 (length z)) (is_open (get_or z 0 0)) refl refl unshut shut))
  where
    short : (n l g : Bool) → (length z == 0) ≡ n → nat_le 29 (length z) ≡ l → (n || g) ≡ true → (l && g) ≡ false → length z < 29
    short true l g empty long unshut shut = let e : length z ≡ 0 = grind (arith, nat_tests) in omega arith
    short false true true empty long unshut shut = absurd (false≢true (sym shut))
    short false l false empty long unshut shut = absurd (false≢true unshut)
    short false false true empty long unshut shut = grind (arith, nat_tests)

pub shut-done : (z : List ℕ) → (is_live (overwritten 0 (0 ∷ []) z) ≡ false) × (is_unshut (overwritten 0 (0 ∷ []) z) ≡ false)
shut-done z = (closed-shut (overwritten 0 (0 ∷ []) z) refl, let some : (length (overwritten 0 (0 ∷ []) z) == 0) ≡ false = let e : 1 ≤ length (0 ∷ drop 1 z) = omega arith in grind (arith, nat_tests) in ap (λ (b : Bool). b || false) some)

-- a file with a byte and a closed gate
pub shut-parts : (z : List ℕ) → is_unshut z ≡ false → (1 ≤ length z) × (is_open (get_or z 0 0) ≡ false)
shut-parts z shut = parts (length z == 0) (is_open (get_or z 0 0)) refl refl shut
  where
    parts : (n g : Bool) → (length z == 0) ≡ n → is_open (get_or z 0 0) ≡ g → (n || g) ≡ false → (1 ≤ length z) × (is_open (get_or z 0 0) ≡ false)
    parts false false empty gate shut = (let e : length z ≡ 0 → ⊥ = λ none. let yes : (length z == 0) ≡ true = grind (arith, nat_tests) in false≢true (sym empty ∙ yes) in omega arith, gate)
    parts false true empty gate shut = absurd (false≢true (sym shut))
    parts true g empty gate shut = absurd (false≢true (sym shut))

-- while the header is written
pub header-torn : (count : ℕ) (z image : List ℕ) → is_unshut z ≡ false → IsTorn 1 count z image → is_live image ≡ false
header-torn count z image shut torn =
    closed-shut image (ap is_open (same-item 1 image z torn.before 0 (omega arith)) ∙ (shut-parts z shut).1)

pub header-done : (z : List ℕ) (made first : ℕ) → made ≤ 2 ^ 62 → first ≤ 2 ^ 62 → is_unshut z ≡ false → IsPrepared (overwritten 1 (header_bytes made first) z) made first
unfolding header_bytes
header-done [] made first small small' shut = absurd (false≢true (sym shut))
header-done (byte ∷ rest) made first small small' shut =
    let z = byte ∷ rest in
    let tail = drop 29 z in
    let new = overwritten 1 (header_bytes made first) z in
    let made_is : little_number 8 (drop 12 new) ≡ made = little_number-reads_back 8 made (little_bytes 8 first ++ 0 ∷ [] ++ tail) (omega arith) in
    let first_is : little_number 8 (drop 20 new) ≡ first = little_number-reads_back 8 first (0 ∷ [] ++ tail) (omega arith) in
    let a : nat_le (little_number 8 (drop 12 new)) (2 ^ 62) ≡ true = let le : little_number 8 (drop 12 new) ≤ 2 ^ 62 = omega arith in leb-of _ _ le in
    let b : nat_le (little_number 8 (drop 20 new)) (2 ^ 62) ≡ true = let le : little_number 8 (drop 20 new) ≤ 2 ^ 62 = omega arith in leb-of _ _ le in
    record {
      long = long tail made first;
      sound = λ i. true && (a i && b i);
      made_is = made_is;
      first_is = first_is;
      closed = (shut-parts z shut).1;
      empty = refl;
    }
  where
    leb-of : (m n : ℕ) → m ≤ n → nat_le m n ≡ true
    leb-of m n le = grind (arith, nat_tests)

    long : (tail : List ℕ) (made first : ℕ) → 29 ≤ length (byte ∷ (header_bytes made first ++ tail))
    long tail made first = omega arith

pub live-parts : (bytes : List ℕ) → is_live bytes ≡ true → (29 ≤ length bytes) × (is_open (get_or bytes 0 0) ≡ true)
live-parts bytes live = (leb-true 29 (length bytes) (and-left (nat_le 29 (length bytes)) (is_open (get_or bytes 0 0)) live), and-right (nat_le 29 (length bytes)) (is_open (get_or bytes 0 0)) live)
  where
    and-left : (a b : Bool) → (a && b) ≡ true → a ≡ true
    and-left true b both = refl
    and-left false b both = absurd (false≢true both)

    and-right : (a b : Bool) → (a && b) ≡ true → b ≡ true
    and-right true b both = both
    and-right false b both = absurd (false≢true both)

-- a live file whose gate is torn is the same where the gate is open
pub open-same : (z image : List ℕ) → is_live z ≡ true → IsTorn 0 1 z image → is_open (get_or image 0 0) ≡ true → image ≡ z
open-same z image live torn opened =
    let parts = live-parts z live in
    let gates : get_or image 0 0 ≡ get_or z 0 0 = gate-one (get_or image 0 0) opened ∙ sym (gate-one (get_or z 0 0) parts.1) in
    split image (omega (arith, parts.0, torn.no_shorter)) ∙ (λ i. gates i ∷ torn.behind i) ∙ sym (split z (omega (arith, parts.0)))
  where
    gate-one : (gate : ℕ) → is_open gate ≡ true → gate ≡ 1
    gate-one gate opened = grind (arith, nat_tests)

    split : (bytes : List ℕ) → 1 ≤ length bytes → bytes ≡ get_or bytes 0 0 ∷ drop 1 bytes
    split [] some = absurd (omega arith)
    split (byte ∷ bytes) some = refl

pub live-unshut : (bytes : List ℕ) → is_live bytes ≡ true → is_unshut bytes ≡ true
live-unshut bytes live = ap (λ (b : Bool). length bytes == 0 || b) (live-parts bytes live).1 ∙ or-true (length bytes == 0)
  where
    or-true : (b : Bool) → (b || true) ≡ true
    or-true true = refl
    or-true false = refl

-- a file that was made ready is shut
pub prepared-shut : (bytes : List ℕ) (made first : ℕ) → IsPrepared bytes made first → is_unshut bytes ≡ false
prepared-shut [] made first ready = let long = ready.long in absurd (omega arith)
prepared-shut (byte ∷ bytes) made first ready =
    let some : (length (byte ∷ bytes) == 0) ≡ false = let e : 1 ≤ length (byte ∷ bytes) = omega arith in grind (arith, nat_tests) in
    let closed = ready.closed in
    λ i. some i || closed i

-- once its gate is open, with the same bytes behind it
module _ (z : List ℕ) (made first : ℕ) (ready : IsPrepared z made first) (image : List ℕ) (same : drop 1 image ≡ drop 1 z) (long : 29 ≤ length image) where
  later : (k : ℕ) → drop (1 + k) image ≡ drop (1 + k) z
  later k = sym (drop-drop k 1 image) ∙ ap (λ (l : List ℕ). drop k l) same ∙ drop-drop k 1 z

  header : has_header image ≡ true
  header =
      (λ i. starts_with nat_eq (same i) mark && (nat_le (little_number 8 (later 11 i)) (2 ^ 62) && nat_le (little_number 8 (later 19 i)) (2 ^ 62))) ∙ ready.sound

  pub first-opened : first_number image ≡ first
  first-opened = ap (λ (l : List ℕ). little_number 8 l) (later 19) ∙ ready.first_is

  pub made-opened : generation image ≡ made
  made-opened = ap (λ (l : List ℕ). little_number 8 l) (later 11) ∙ ready.made_is

  pub frames-none : (file : ℕ) → file_frames file image ≡ Ok []
  frames-none file =
      let body = drop 28 image in
      let gate_is : get_or body 0 0 ≡ 0 = ap (λ (l : List ℕ). get_or l 0 0) (later 27) ∙ get_or-drop 28 z 0 0 ∙ ready.empty in
      ap (λ (b : Bool). if b then frames_from file (first_number image) 28 0 body else Err (record { file = file; at = 1 })) header
      ∙ next-closed file (first_number image) 28 body (get_or body 0 0) refl (omega (arith, length-drop 28 image)) (λ open_is. let e : 0 ≡ 1 = sym gate_is ∙ open_is in absurd (omega arith))

  pub live-opened : is_open (get_or image 0 0) ≡ true → is_live image ≡ true
  live-opened opened = let room : nat_le 29 (length image) ≡ true = grind (arith, nat_tests) in λ i. room i && opened i
