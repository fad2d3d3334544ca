-- Worked commits, computed from the definitions alone.
use Rattle.std.proofs.Common.{◌≡◌, ◌+◌, ℕ, List, [], ◌∷◌, length, replicate, Result, Ok, Err, refl}
use Rattle.st_engine.specs.Commit.{Done, Refused, commit_of}
use Rattle.st_engine.specs.Store.{Bounds, Kept, store_of}
use Rattle.st_ops.specs.declared.op.Op.{Op}
use Rattle.st_ops.specs.declared.op.Op.TheVariants.{Set}
use Rattle.st_queue.specs.Writing.{frame_bytes, header_bytes}

abbrev nothing : Kept
nothing = record { files = ([], []); store = store_of [] }

abbrev bounds : (swap limit : ℕ) → Bounds
bounds swap limit = record { quota = 1; swap = swap; limit = limit }

abbrev set : (key value : ℕ) → Op
set key value = Set (key ∷ []) (value ∷ [])

-- What a commit is answered with: the length that is past its bound, or 0; how many calls it made; and the files' lengths then.
pub record Row : Type 0 where
  pub past : ℕ
  pub calls : ℕ
  pub first : ℕ
  pub second : ℕ

abbrev row_of : Kept → Result Done Refused → Row
row_of kept (Ok done) = record { past = 0; calls = length done.calls; first = length done.behind.files.0; second = length done.behind.files.1 }
row_of kept (Err refused) = record { past = refused.past.length; calls = length refused.calls; first = length kept.files.0; second = length kept.files.1 }

abbrev kept_behind : Kept → Result Done Refused → Kept
kept_behind kept (Ok done) = done.behind
kept_behind kept (Err refused) = kept

abbrev rows : Bounds → Kept → List (List Op) → List Row
rows bounds kept [] = []
rows bounds kept (ops ∷ commits) =
    let result : Result Done Refused = commit_of bounds kept ops in
    row_of kept result ∷ rows bounds (kept_behind kept result) commits

abbrev row : (past calls first second : ℕ) → Row
row past calls first second = record { past = past; calls = calls; first = first; second = second }

-- the frame of a set would end at 66 in an empty file, and at 81 behind one of no operation, which ends at 44
past-limit : rows (bounds 1048576 65) nothing ((set 97 49 ∷ []) ∷ []) ≡ row 66 6 0 0 ∷ []
unfolding frame_bytes header_bytes
past-limit = refl

past-behind : rows (bounds 1048576 65) nothing ([] ∷ (set 97 49 ∷ []) ∷ []) ≡ row 0 10 44 0 ∷ row 81 0 44 0 ∷ []
unfolding frame_bytes header_bytes
past-behind = refl

-- one range, from the empty key to ff
abbrev ranges : List ℕ
ranges = 1 ∷ 0 ∷ 0 ∷ 0 ∷ 0 ∷ 0 ∷ 0 ∷ 0 ∷ 1 ∷ 0 ∷ 0 ∷ 0 ∷ 255 ∷ []

-- the sets of a commit: of 61, to the version's digit, and of three keys that a server stores: ffff/assigned, ffff/available and ffff/version
abbrev stored : ℕ → List Op
stored version =
    set 97 (48 + version)
    ∷ Set (255 ∷ 255 ∷ 47 ∷ 97 ∷ 115 ∷ 115 ∷ 105 ∷ 103 ∷ 110 ∷ 101 ∷ 100 ∷ []) ranges
    ∷ Set (255 ∷ 255 ∷ 47 ∷ 97 ∷ 118 ∷ 97 ∷ 105 ∷ 108 ∷ 97 ∷ 98 ∷ 108 ∷ 101 ∷ []) ranges
    ∷ Set (255 ∷ 255 ∷ 47 ∷ 118 ∷ 101 ∷ 114 ∷ 115 ∷ 105 ∷ 111 ∷ 110 ∷ []) (version ∷ 0 ∷ 0 ∷ 0 ∷ 0 ∷ 0 ∷ 0 ∷ 0 ∷ [])
    ∷ []

-- Two files take turns. A value of 300 bytes makes the second snapshot end with the third commit.
take-turns : rows (bounds 64 1048576) nothing ((Set (96 ∷ []) (replicate 300 42) ∷ stored 1) ∷ stored 2 ∷ stored 3 ∷ stored 4 ∷ []) ≡ row 0 10 874 0 ∷ row 0 10 874 458 ∷ row 0 4 874 683 ∷ row 0 10 874 683 ∷ []
unfolding frame_bytes header_bytes
take-turns = refl
