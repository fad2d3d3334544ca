-- What the two files of a queue hold. A file has a gate at place 0, the mark and the format from place 1, its generation at
-- 12, the number of its first frame at 20, and from 28 on its frames, each behind a gate, and a closed gate behind the last:
-- the gate, the payload's length in 4 bytes, the frame's number in 8, and the payload, which is a list of operations. All
-- numbers are little endian.
use Rattle.std.specs.Prelude.{◌+◌, ◌^◌, ◌==◌, ◌&&◌, ℕ, zero, suc, Bool, if◌then◌else◌, List, [], ◌∷◌, ◌++◌, length, take, drop, slice_index, nat_lt, nat_le, nat_eq, Result, Ok, Err, is_ok}
use Rattle.std.specs.List.{starts_with}
use Rattle.st_num.specs.Number.{little_number}
use Rattle.st_ops.specs.Reading.{reading}
use Rattle.st_queue.specs.declared.frame.Frame.{Frame}

-- where the files have no reading
pub record Damage : Type 0 where
  pub file : ℕ
  pub at : ℕ

-- "STORQUE", and the format 1 in 4 bytes
abbrev pub mark : List ℕ
mark = 0x53 ∷ 0x54 ∷ 0x4f ∷ 0x52 ∷ 0x51 ∷ 0x55 ∷ 0x45 ∷ 1 ∷ 0 ∷ 0 ∷ 0 ∷ []

-- a gate is open at 1, and closed at every other byte
abbrev pub is_open : ℕ → Bool
is_open gate = gate == 1

-- a file that isn't live is shut
abbrev pub is_live : List ℕ → Bool
is_live bytes = nat_le 29 (length bytes) && is_open (slice_index bytes 0)

abbrev pub generation : List ℕ → ℕ
generation bytes = little_number 8 (drop 12 bytes)

abbrev pub first_number : List ℕ → ℕ
first_number bytes = little_number 8 (drop 20 bytes)

abbrev pub has_header : List ℕ → Bool
has_header bytes = starts_with nat_eq (drop 1 bytes) mark && (nat_le (generation bytes) (2 ^ 62) && nat_le (first_number bytes) (2 ^ 62))

-- of the bytes behind a frame's gate
abbrev pub payload_length : List ℕ → ℕ
payload_length bytes = little_number 4 bytes

abbrev pub payload_of : List ℕ → List ℕ
payload_of bytes = take (payload_length bytes) (drop 12 bytes)

-- the payload is a list of operations
abbrev pub is_payload : List ℕ → Bool
is_payload payload = is_ok (reading payload)

-- behind a frame's gate stand the bytes of a frame with this number, and the next gate
abbrev pub is_whole : ℕ → List ℕ → Bool
is_whole number bytes = nat_lt (12 + payload_length bytes) (length bytes) && (little_number 8 (drop 4 bytes) == number)

-- they are a frame
abbrev pub is_frame : ℕ → List ℕ → Bool
is_frame number bytes = is_whole number bytes && is_payload (payload_of bytes)

abbrev pub frame_at : ℕ → ℕ → ℕ → List ℕ → Frame
frame_at file place number bytes =
    record { seq = number; file = file; at = place; payload = payload_of bytes }

-- one frame, and those behind it where they can be read
abbrev pub behind : Frame → Result (List Frame) Damage → Result (List Frame) Damage
behind frame (Ok frames) = Ok (frame ∷ frames)
behind frame (Err damage) = Err damage

-- The frames of a file whose bytes from this place on these are, once so many bytes are skipped: up to a closed gate. The
-- first of them has this number.
abbrev pub frames_from : ℕ → ℕ → ℕ → ℕ → List ℕ → Result (List Frame) Damage
frames_from file number place skip [] = Ok []
frames_from file number place (suc skip) (byte ∷ bytes) = frames_from file number (place + 1) skip bytes
frames_from file number place zero (gate ∷ bytes) =
    if is_open gate
    then (if is_frame number bytes
    then behind (frame_at file place number bytes) (frames_from file (number + 1) (place + 1) (12 + payload_length bytes) bytes)
    else Err (record { file = file; at = place }))
    else Ok []

-- the frames of a live file
abbrev pub file_frames : ℕ → List ℕ → Result (List Frame) Damage
file_frames file bytes =
    if has_header bytes then frames_from file (first_number bytes) 28 0 (drop 28 bytes) else Err (record { file = file; at = 1 })

-- a live file goes on where another one, which has so many frames, ends
abbrev pub goes_on : List ℕ → ℕ → List ℕ → Bool
goes_on older count newer =
    (generation newer == generation older + 1) && (first_number newer == first_number older + count)

-- the frames of two live files, the older one's first
abbrev pub joined : List ℕ → List ℕ → Result (List Frame) Damage → Result (List Frame) Damage → Result (List Frame) Damage
joined zero_bytes one_bytes (Err damage) second = Err damage
joined zero_bytes one_bytes (Ok first) (Err damage) = Err damage
joined zero_bytes one_bytes (Ok first) (Ok second) =
    if goes_on zero_bytes (length first) one_bytes then Ok (first ++ second)
    else if goes_on one_bytes (length second) zero_bytes then Ok (second ++ first)
    else Err (record { file = 1; at = 0 })

-- the frames of a queue, of its two files
abbrev pub frames : List ℕ → List ℕ → Result (List Frame) Damage
frames zero_bytes one_bytes =
    if is_live zero_bytes
    then (if is_live one_bytes
    then joined zero_bytes one_bytes (file_frames 0 zero_bytes) (file_frames 1 one_bytes)
    else file_frames 0 zero_bytes)
    else if is_live one_bytes then file_frames 1 one_bytes
    else Ok []
