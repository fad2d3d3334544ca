-- What a disk in memory leaves at a restart, by the number that was chosen.
use Rattle.std.specs.Prelude.{ℕ, zero, suc, ◌+◌, ◌/◌, ◌%◌, ◌==◌, if◌then◌else◌, List, [], ◌∷◌, slice_index, slice_index_or, false}
use Rattle.rand_core.specs.Pcg32Seed.{pcg32_seed}
use Rattle.rand_pcg.specs.Lcg.{Lcg}
use Rattle.rand_pcg.specs.Pcg.{pcg32, pcg32_of_seed}
use Rattle.st_disk.specs.FileState.{FileState}
use Rattle.st_disk.specs.History.{Files, FileStates}

-- a byte that was written since the last sync, by one word of the generator: the old one, the new one or any
abbrev pub torn_byte : ℕ → ℕ → ℕ → ℕ
torn_byte word old new = if word % 4 == 0 then old else if word % 4 == 1 then new else word / 256 % 256

-- What is left of the byte at a place of the file, and the generator after it: a byte that was written since the last
-- sync takes a word, and past the synced end its old byte is 0.
abbrev pub torn_at : FileState → ℕ → ℕ → Lcg → ℕ × Lcg
torn_at file place byte generator =
    if slice_index_or file.written place false
    then (torn_byte (pcg32 generator).0 (slice_index file.synced place) byte, (pcg32 generator).1)
    else (byte, generator)

-- the same of these bytes, which stand from a place on
abbrev pub torn_from : FileState → ℕ → List ℕ → Lcg → List ℕ × Lcg
torn_from file place [] generator = ([], generator)
torn_from file place (byte ∷ bytes) generator =
    let first = torn_at file place byte generator in
    let rest = torn_from file (place + 1) bytes first.1 in (first.0 ∷ rest.0, rest.1)

-- file 0 takes its words first
abbrev pub torn : FileStates → Lcg → Files
torn files generator =
    let first = torn_from files.0 0 files.0.seen generator in (first.0, (torn_from files.1 0 files.1.seen first.1).0)

-- the generator of a choice
abbrev pub generator_of : ℕ → Lcg
generator_of choice = pcg32_of_seed (pcg32_seed 16 choice)

-- Choice 0 leaves the files as synced, 1 as they read, and any other tears them.
abbrev pub left : ℕ → FileStates → Files
left zero files = (files.0.synced, files.1.synced)
left (suc zero) files = (files.0.seen, files.1.seen)
left choice files = torn files (generator_of choice)
