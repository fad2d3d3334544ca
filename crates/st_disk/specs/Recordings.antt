-- What holds of the history of a disk in memory.
use Rattle.std.proofs.Common.{◌≡◌, ◌<◌, ◌+◌, ℕ, zero, suc, Bool, false, if◌then◌else◌, List, [], ◌∷◌, length, get_or, refl, sym, ◌∙◌, ap, arith}
use Rattle.rand_pcg.specs.Lcg.{Lcg}
use Rattle.rand_pcg.specs.Pcg.{pcg32}
use Rattle.st_disk.specs.FileState.{FileState, IsImage}
use Rattle.st_disk.specs.History.{Files, FileStates, History, MayLeave, CanLeave, of_file, with_file, fresh, seen, after_sync}
use Rattle.st_disk.specs.Images.{IsSound, sound-settled, sound-with_bytes, image-seen, image-synced, image-settled}
use Rattle.st_disk.specs.Left.{left, torn_at, torn_from, torn_byte, generator_of}
use Rattle.st_disk.specs.Recorded.{Call, write, sync, Recorded, after_call, after_calls, history_of}

abbrev pub AreSound : FileStates → Type 0
AreSound files = IsSound files.0 × IsSound files.1

sound-of_file : (file : ℕ) (files : FileStates) → AreSound files → IsSound (of_file file files)
sound-of_file zero files sound = sound.0
sound-of_file (suc file) files sound = sound.1

sound-with_file : (file : ℕ) (state : FileState) (files : FileStates) → IsSound state → AreSound files → AreSound (with_file file state files)
sound-with_file zero state files is sound = (is, sound.1)
sound-with_file (suc file) state files is sound = (sound.0, is)

pub sound-after_call : (call : Call) (h : History) → AreSound h.now → AreSound (after_call call h).now
sound-after_call (write file at bytes) h sound =
    sound-with_file file _ h.now (sound-with_bytes at bytes (of_file file h.now) (sound-of_file file h.now sound)) sound
sound-after_call (sync file) h sound = sound-with_file file _ h.now (sound-settled (of_file file h.now).seen) sound

sound-after_calls : (calls : List Call) (h : History) → AreSound h.now → AreSound (after_calls calls h).now
sound-after_calls [] h sound = sound
sound-after_calls (call ∷ calls) h sound = sound-after_calls calls (after_call call h) (sound-after_call call h sound)

pub sound-recorded : (m : Recorded) → AreSound (history_of m).now
sound-recorded m = sound-after_calls m.calls (fresh m.start) (sound-settled m.start.0, sound-settled m.start.1)

-- what it reads as is one of its images
pub reads_as_image : (m : Recorded) → MayLeave (history_of m) (seen (history_of m))
reads_as_image m =
    let sound = sound-recorded m in
    (image-seen (history_of m).now.0 sound.0, image-seen (history_of m).now.1 sound.1)

-- the bytes that a tear leaves from a place on
length-torn_from : (file : FileState) (place : ℕ) (bytes : List ℕ) (g : Lcg) → length (torn_from file place bytes g).0 ≡ length bytes
length-torn_from file place [] g = refl
length-torn_from file place (byte ∷ bytes) g = ap (λ (n : ℕ). suc n) (length-torn_from file (place + 1) bytes (torn_at file place byte g).1)

unwritten-torn_at : (file : FileState) (place byte : ℕ) (g : Lcg) → get_or file.written place false ≡ false → (torn_at file place byte g).0 ≡ byte
unwritten-torn_at file place byte g unwritten =
    let choose : Bool → ℕ × Lcg = λ b. if b then (torn_byte (pcg32 g).0 (get_or file.synced place 0) byte, (pcg32 g).1) else (byte, g) in
    ap (λ (b : Bool). (choose b).0) unwritten

-- a byte that wasn't written stays
unwritten-torn_from : (file : FileState) (place : ℕ) (bytes : List ℕ) (g : Lcg) (k : ℕ) → get_or file.written (place + k) false ≡ false → get_or (torn_from file place bytes g).0 k 0 ≡ get_or bytes k 0
unwritten-torn_from file place [] g k unwritten = refl
unwritten-torn_from file place (byte ∷ bytes) g zero unwritten =
    let here : place + 0 ≡ place = omega arith in
    unwritten-torn_at file place byte g (sym (ap (λ (p : ℕ). get_or file.written p false) here) ∙ unwritten)
unwritten-torn_from file place (byte ∷ bytes) g (suc k) unwritten =
    let next : place + 1 + k ≡ place + suc k = omega arith in
    unwritten-torn_from file (place + 1) bytes (torn_at file place byte g).1 k (ap (λ (p : ℕ). get_or file.written p false) next ∙ unwritten)

pub image-torn : (file : FileState) (g : Lcg) → IsSound file → IsImage file (torn_from file 0 file.seen g).0
image-torn file g sound = record {
  no_shorter = omega (arith, length-torn_from file 0 file.seen g, sound.grown);
  no_longer = omega (arith, length-torn_from file 0 file.seen g);
  elsewhere = λ place inside unwritten.
      let within : place < length file.seen = omega (arith, length-torn_from file 0 file.seen g) in
      let from_zero : 0 + place ≡ place = omega arith in
      unwritten-torn_from file 0 file.seen g place (ap (λ (p : ℕ). get_or file.written p false) from_zero ∙ unwritten) ∙ (sound.kept place within unwritten).1;
}

pub leaves_an_image : (m : Recorded) (choice : ℕ) → MayLeave (history_of m) (left choice (history_of m).now)
leaves_an_image m choice = leaves choice (history_of m).now (sound-recorded m)
  where
    leaves : (choice : ℕ) (files : FileStates) → AreSound files → CanLeave files (left choice files)
    leaves zero files sound = (image-synced files.0 sound.0, image-synced files.1 sound.1)
    leaves (suc zero) files sound = (image-seen files.0 sound.0, image-seen files.1 sound.1)
    leaves (suc (suc n)) files sound =
        let g = generator_of (suc (suc n)) in
        (image-torn files.0 g sound.0, image-torn files.1 (torn_from files.0 0 files.0.seen g).1 sound.1)

pub image-after_calls : (start : Files) (calls : List Call) → MayLeave (after_calls calls (fresh start)) (seen (after_calls calls (fresh start)))
image-after_calls start calls = reads_as_image (record { start = start; calls = calls; made = 0 })

pub left-after_calls : (start : Files) (calls : List Call) (choice : ℕ) → MayLeave (after_calls calls (fresh start)) (left choice (after_calls calls (fresh start)).now)
left-after_calls start calls choice = leaves_an_image (record { start = start; calls = calls; made = 0 }) choice

pub image-after_sync : (file : ℕ) (h : History) (images : Files) → MayLeave (after_sync file h) images → of_file file images ≡ of_file file (seen h)
image-after_sync zero h images may = image-settled h.now.0.seen images.0 may.0
image-after_sync (suc file) h images may = image-settled h.now.1.seen images.1 may.1

pub image-unwritten : (file place : ℕ) (h : History) (images : Files) → MayLeave h images → place < length (of_file file images)
    → get_or (of_file file h.now).written place false ≡ false → get_or (of_file file images) place 0 ≡ get_or (of_file file h.now).synced place 0
image-unwritten zero place h images may = may.0.elsewhere place
image-unwritten (suc file) place h images may = may.1.elsewhere place
