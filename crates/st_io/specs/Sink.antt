-- What a sink of bytes holds, where it tells, and what a writing of all bytes puts there.
use Rattle.std.specs.Prelude.{◌≡◌, ℕ, ◌<◌, List, length, take, Option}
use Rattle.std.specs.Io.KnownBytes.{Appends}
use Rattle.st_io.specs.Calls.{Calls}
use Rattle.st_io.specs.Faults.{Rose}
use Rattle.st_io.specs.declared.sink.WriteAll.{WriteAll}
use Rattle.st_io.specs.declared.sink.WriteAll.TheVariants.{WriteFault, NoMemory}

-- a part of the bytes, from their front and not all of them, went out
abbrev pub PutsFront : Option (List ℕ) → Option (List ℕ) → List ℕ → ℕ → Type 0
PutsFront before now bytes written = (written < length bytes) × Appends before now (take written bytes)

-- what a writing of these bytes that was given up has put out, and why it was
abbrev pub WasCutShort : Option (List ℕ) → Option (List ℕ) → ℕ → ℕ → List ℕ → WriteAll → Type 0
WasCutShort before now faults_before faults_now bytes (WriteFault written faults) =
    PutsFront before now bytes written × Rose faults_before faults_now × (faults ≡ faults_now)
WasCutShort before now faults_before faults_now bytes (NoMemory written) = PutsFront before now bytes written

-- a sink in memory: the bytes held, and the calls made
pub record Output : Type 0 where
  pub held : List ℕ
  pub calls : Calls
