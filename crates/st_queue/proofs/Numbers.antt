-- The numbers of a file's frames, and which of them are discarded.
use Rattle.std.proofs.Common.{◌≡◌, ◌<◌, ◌+◌, ◌&&◌, if◌then◌else◌, nat_lt, nat_le, ℕ, zero, suc, Bool, true, false, List, [], ◌∷◌, length, drop, Some, None, Ok, Err, refl, sym, ◌∙◌, ap, subst, arith}
use Rattle.std.proofs.lemmas.Bool.{false≢true}
use Rattle.std.proofs.lemmas.Bool.Decides.{nat_tests}
use Rattle.std.proofs.lemmas.List.Sums.{sum_by-cons}
use Rattle.std.proofs.lemmas.Option.{same_Some}
use Rattle.st_queue.specs.Due.{are_discarded, behind_last, is_released}
use Rattle.st_queue.specs.Frames.{Damage, behind, first_number, generation, frame_at, frames_from, file_frames, has_header, is_frame, is_open, payload_length}
use Rattle.st_queue.specs.Place.{end_of, frames_size}
use Rattle.st_queue.proofs.Current.{Reading}
use Rattle.st_queue.specs.declared.frame.Frame.{Frame}
use Rattle.st_queue.specs.declared.place.Place.{Place}

-- the frames have the numbers from this one on
abbrev pub AreNumbered : ℕ → List Frame → Type 0
AreNumbered number [] = Unit {0}
AreNumbered number (frame ∷ frames) = (frame.seq ≡ number) × AreNumbered (number + 1) frames

behind-numbered : (number : ℕ) (frame : Frame) (reading : Reading) (frames : List Frame) → frame.seq ≡ number → ((rest : List Frame) → reading ≡ Ok rest → AreNumbered (number + 1) rest) → behind frame reading ≡ Ok frames → AreNumbered number frames
behind-numbered number frame (Ok rest) frames is ih e = subst (λ (l : List Frame). AreNumbered number l) (let same : frame ∷ rest ≡ frames = cc in same) (is, ih rest refl)
behind-numbered number frame (Err damage) frames is ih e = absurd (cc (e))

gate-numbered : (o f : Bool) (number : ℕ) (frame : Frame) (damage : Damage) (reading : Reading) (frames : List Frame) → frame.seq ≡ number → ((rest : List Frame) → reading ≡ Ok rest → AreNumbered (number + 1) rest)
    → (if o then (if f then behind frame reading else Err damage) else Ok []) ≡ Ok frames → AreNumbered number frames
gate-numbered true true number frame damage reading frames is ih e = behind-numbered number frame reading frames is ih e
gate-numbered true false number frame damage reading frames is ih e = absurd (cc (e))
gate-numbered false f number frame damage reading frames is ih e = subst (λ (l : List Frame). AreNumbered number l) (let same : [] ≡ frames = cc in same) tt

pub from-numbered : (file number place skip : ℕ) (bytes : List ℕ) (frames : List Frame) → frames_from file number place skip bytes ≡ Ok frames → AreNumbered number frames
from-numbered file number place skip [] frames is = subst (λ (l : List Frame). AreNumbered number l) (let same : [] ≡ frames = cc in same) tt
from-numbered file number place (suc skip) (byte ∷ bytes) frames is = from-numbered file number (place + 1) skip bytes frames is
from-numbered file number place zero (gate ∷ bytes) frames is =
    gate-numbered (is_open gate) (is_frame number bytes) number (frame_at file place number bytes) (record { file = file; at = place }) (frames_from file (number + 1) (place + 1) (12 + payload_length bytes) bytes) frames refl
    (λ rest e. from-numbered file (number + 1) (place + 1) (12 + payload_length bytes) bytes rest e) is

pub file-numbered : (file : ℕ) (bytes : List ℕ) (frames : List Frame) → file_frames file bytes ≡ Ok frames → AreNumbered (first_number bytes) frames
file-numbered file bytes frames is = by_header (has_header bytes) is
  where
    by_header : (b : Bool) → (if b then frames_from file (first_number bytes) 28 0 (drop 28 bytes) else Err (record { file = file; at = 1 })) ≡ Ok frames → AreNumbered (first_number bytes) frames
    by_header true e = from-numbered file (first_number bytes) 28 0 (drop 28 bytes) frames e
    by_header false e = absurd (cc (e))

-- some frames are discarded where the number behind their last one is
numbered-discarded : (discarded number : ℕ) (frame : Frame) (frames : List Frame) → AreNumbered number (frame ∷ frames) → are_discarded discarded (frame ∷ frames) ≡ nat_le (number + length (frame ∷ frames)) discarded
numbered-discarded discarded number frame [] numbered = let is = numbered.0 in last (nat_lt frame.seq discarded) (nat_le (number + length (frame ∷ [])) discarded) (let e : nat_lt frame.seq discarded ≡ nat_le (number + length (frame ∷ [])) discarded = tests discarded number frame.seq is in e)
  where
    tests : (discarded number seq : ℕ) → seq ≡ number → nat_lt seq discarded ≡ nat_le (number + 1) discarded
    tests discarded number seq is = grind (arith, nat_tests)

    last : (a b : Bool) → a ≡ b → (a && true) ≡ b
    last true b e = e
    last false b e = e
numbered-discarded discarded number frame (next ∷ frames) numbered =
    ap (λ (b : Bool). nat_lt frame.seq discarded && b) (numbered-discarded discarded (number + 1) next frames numbered.1)
    ∙ tests discarded number frame.seq (length frames) numbered.0
  where
    below : (discarded number seq count : ℕ) → seq ≡ number → nat_le (number + 1 + suc count) discarded ≡ true → nat_lt seq discarded ≡ true
    below discarded number seq count is le = grind (arith, nat_tests)

    same : (discarded number count : ℕ) → nat_le (number + 1 + suc count) discarded ≡ nat_le (number + suc (suc count)) discarded
    same discarded number count = let e : number + 1 + suc count ≡ number + suc (suc count) = omega arith in ap (λ (n : ℕ). nat_le n discarded) e

    both : (a b : Bool) → (b ≡ true → a ≡ true) → (a && b) ≡ b
    both true b is = refl
    both false true is = absurd (false≢true (is refl))
    both false false is = refl

    tests : (discarded number seq count : ℕ) → seq ≡ number → (nat_lt seq discarded && nat_le (number + 1 + suc count) discarded) ≡ nat_le (number + suc (suc count)) discarded
    tests discarded number seq count is = both (nat_lt seq discarded) (nat_le (number + 1 + suc count) discarded) (below discarded number seq count is) ∙ same discarded number count

-- of a file that ends at this place
pub released-behind : (place : Place) (first : ℕ) (frames : List Frame) → AreNumbered first frames → place.gate ≡ 28 + frames_size frames → place.next ≡ first + length frames → (discarded : ℕ)
    → is_released (behind_last place) discarded ≡ are_discarded discarded frames
released-behind place first [] numbered gate next discarded =
    let none : nat_lt 28 place.gate ≡ false = let e : place.gate ≡ 28 = gate in grind (arith, nat_tests) in
    ap (λ (b : Bool). is_released (if b then Some place.next else None) discarded) none
released-behind place first (frame ∷ frames) numbered gate next discarded =
    let some : nat_lt 28 place.gate ≡ true = let lt : 28 < place.gate = omega (arith, sum_by-cons (λ (f : Frame). 13 + length f.payload) frame frames) in grind (arith, nat_tests) in
    ap (λ (b : Bool). is_released (if b then Some place.next else None) discarded) some
    ∙ ap (λ (n : ℕ). nat_le n discarded) next
    ∙ sym (numbered-discarded discarded first frame frames numbered)

-- where a file with these frames ends
end-is : (file : ℕ) (bytes : List ℕ) (frames : List Frame) (place : Place) → file_frames file bytes ≡ Ok frames → Some place ≡ end_of file bytes (file_frames file bytes)
    → place ≡ record { file = file; generation = generation bytes; gate = 28 + frames_size frames; next = first_number bytes + length frames }
end-is file bytes frames place read is = same_Some place (record { file = file; generation = generation bytes; gate = 28 + frames_size frames; next = first_number bytes + length frames }) (is ∙ ap (λ (r : Reading). end_of file bytes r) read)

pub end-generation : (file : ℕ) (bytes : List ℕ) (frames : List Frame) (place : Place) → file_frames file bytes ≡ Ok frames → Some place ≡ end_of file bytes (file_frames file bytes) → place.generation ≡ generation bytes
end-generation file bytes frames place read is = ap (λ (p : Place). p.generation) (end-is file bytes frames place read is)

pub released-end : (file : ℕ) (bytes : List ℕ) (frames : List Frame) (place : Place) → file_frames file bytes ≡ Ok frames → Some place ≡ end_of file bytes (file_frames file bytes) → (discarded : ℕ)
    → is_released (behind_last place) discarded ≡ are_discarded discarded frames
released-end file bytes frames place read is discarded =
    let place_is = end-is file bytes frames place read is in
    released-behind place (first_number bytes) frames (file-numbered file bytes frames read) (ap (λ (p : Place). p.gate) place_is) (ap (λ (p : Place). p.next) place_is) discarded
