-- What the top call promises of its report, of what it reads and writes, and of the disk that it hands back.
use Rattle.std.specs.Prelude.{◌≡◌, ◌≢◌, ◌⊎◌, ℕ, ◌<◌, List, [], take, length, Option, Some, None, Ok, IfSome, MatchResult}
use Rattle.std.specs.Io.KnownBytes.{Appends, IsAtEnd}
use Rattle.std.specs.Result.{IsOkAnd}
use Rattle.st_disk.specs.History.{History, seen}
use Rattle.st_fold.specs.declared.plan.Kind.{Kind}
use Rattle.st_fold.specs.declared.plan.Script.{Script}
use Rattle.st_fold.specs.declared.report.Fault.{Fault}
use Rattle.st_fold.specs.declared.report.Fault.TheVariants as fault
use Rattle.st_fold.specs.declared.report.Life.{Life}
use Rattle.st_fold.specs.Endings.{status_of}
use Rattle.st_io.specs.Faults.{Rose}
use Rattle.st_io.specs.Source.{Takes}
use Rattle.st_restart.specs.Agreement.{Agrees}
use Rattle.st_restart.specs.Opened.{opened}
use Rattle.st_report.specs.declared.report.Form.{Form}
use Rattle.st_report.specs.declared.report.Report.{Report}
use Rattle.st_report.specs.Text.{text_of}
use Rattle.st_run.specs.Replayed.{Runs}
use Rattle.st_run.specs.declared.lives.Ran.{Ran}
use Rattle.st_script.specs.Reading.{max_bytes, script_of}

-- ---- the script

-- nothing was begun, since the source failed or memory was wanting
abbrev pub IsInterruption : Option Fault → Type 0
IsInterruption None = ⊥
IsInterruption (Some fault.Words) = ⊥
IsInterruption (Some (fault.Script line why)) = ⊥
IsInterruption (Some (fault.Read faults)) = Unit {0}
IsInterruption (Some (fault.Device faults)) = ⊥
IsInterruption (Some (fault.Peer faults)) = ⊥
IsInterruption (Some (fault.Damaged what)) = ⊥
IsInterruption (Some fault.Memory) = Unit {0}
IsInterruption (Some (fault.Full size limit)) = ⊥
IsInterruption (Some (fault.Foreign what)) = ⊥

-- a report without lives, by a fault that came before the disk was touched
abbrev pub IsUntouched : {D : Type 0} → (fault_is : Type 0) → (before now : D) → Report → Type 0
IsUntouched fault_is before now report = (report.lives ≡ []) × fault_is × (now ≡ before)

-- the lives, fault and disk of a report
abbrev pub ran_of : {D : Type 0} → Report → (now : D) → Ran D
ran_of report now = record { lives = report.lives; fault = report.fault; disk = now }

-- A report on bytes that are a script: the run of the script over the disk, where that tells its history. On others: their first
-- fault.
abbrev pub Reports : {D : Type 0} → (told : D → Option History) → List ℕ → (before now : D) → Report → Type 0
Reports told bytes before now report =
    IsUntouched (IsInterruption report.fault) before now report
    ⊎ MatchResult (script_of bytes)
    (λ script. IfSome (told before) (λ h. Runs told script h (ran_of report now)))
    (λ why. IsUntouched (report.fault ≡ Some (fault.Script why.0 why.1)) before now report)

-- ---- faults

-- Which lives a fault leaves, over any disk: words, scripts and sources that are faulty leave none.
abbrev pub HasNoLives : Option Fault → List Life → Type 0
HasNoLives None lives = Unit {0}
HasNoLives (Some fault.Words) lives = lives ≡ []
HasNoLives (Some (fault.Script line why)) lives = lives ≡ []
HasNoLives (Some (fault.Read faults)) lives = lives ≡ []
HasNoLives (Some (fault.Device faults)) lives = Unit {0}
HasNoLives (Some (fault.Peer faults)) lives = ⊥
HasNoLives (Some (fault.Damaged what)) lives = Unit {0}
HasNoLives (Some fault.Memory) lives = Unit {0}
HasNoLives (Some (fault.Full size limit)) lives = Unit {0}
HasNoLives (Some (fault.Foreign what)) lives = Unit {0}

-- a fault that bytes that were read lead to
abbrev pub IsOfScript : Option Fault → Type 0
IsOfScript None = Unit {0}
IsOfScript (Some fault.Words) = ⊥
IsOfScript (Some (fault.Script line why)) = Unit {0}
IsOfScript (Some (fault.Read faults)) = ⊥
IsOfScript (Some (fault.Device faults)) = Unit {0}
IsOfScript (Some (fault.Peer faults)) = Unit {0}
IsOfScript (Some (fault.Damaged what)) = Unit {0}
IsOfScript (Some fault.Memory) = Unit {0}
IsOfScript (Some (fault.Full size limit)) = Unit {0}
IsOfScript (Some (fault.Foreign what)) = Unit {0}

-- a fault of the disk is told only where its count rose, with the count now
abbrev pub IsOfDevice : (before now : ℕ) → Option Fault → Type 0
IsOfDevice before now None = Unit {0}
IsOfDevice before now (Some fault.Words) = Unit {0}
IsOfDevice before now (Some (fault.Script line why)) = Unit {0}
IsOfDevice before now (Some (fault.Read faults)) = Unit {0}
IsOfDevice before now (Some (fault.Device faults)) = Rose before now × (faults ≡ now)
IsOfDevice before now (Some (fault.Peer faults)) = Unit {0}
IsOfDevice before now (Some (fault.Damaged what)) = Unit {0}
IsOfDevice before now (Some fault.Memory) = Unit {0}
IsOfDevice before now (Some (fault.Full size limit)) = Unit {0}
IsOfDevice before now (Some (fault.Foreign what)) = Unit {0}

-- the status is that of the fault, and a fault before the lives leaves none
pub record IsConsistent (report : Report) : Type 0 where
  pub status : report.status ≡ status_of report.fault
  pub lives : HasNoLives report.fault report.lives

-- the source was read to its end, or past the limit of a script; nothing is said where words or source were faulty, or
-- memory was refused
abbrev pub IsReadOut : Option (List ℕ) → Option (List ℕ) → Option Fault → Type 0
IsReadOut before now None = IsAtEnd now
IsReadOut before now (Some (fault.Script line why)) = IsAtEnd now ⊎ ((n : ℕ) × (max_bytes < n) × Takes before now n)
IsReadOut before now (Some fault.Words) = Unit {0}
IsReadOut before now (Some (fault.Read faults)) = Unit {0}
IsReadOut before now (Some (fault.Device faults)) = IsAtEnd now
IsReadOut before now (Some (fault.Peer faults)) = IsAtEnd now
IsReadOut before now (Some (fault.Damaged what)) = IsAtEnd now
IsReadOut before now (Some fault.Memory) = Unit {0}
IsReadOut before now (Some (fault.Full size limit)) = IsAtEnd now
IsReadOut before now (Some (fault.Foreign what)) = IsAtEnd now

-- a fault of the source is told only where its count rose, with the count now
abbrev pub HasReadCause : ℕ → ℕ → Option Fault → Type 0
HasReadCause before now (Some (fault.Read faults)) = Rose before now × (faults ≡ now)
HasReadCause before now None = Unit {0}
HasReadCause before now (Some fault.Words) = Unit {0}
HasReadCause before now (Some (fault.Script line why)) = Unit {0}
HasReadCause before now (Some (fault.Device faults)) = Unit {0}
HasReadCause before now (Some (fault.Peer faults)) = Unit {0}
HasReadCause before now (Some (fault.Damaged what)) = Unit {0}
HasReadCause before now (Some fault.Memory) = Unit {0}
HasReadCause before now (Some (fault.Full size limit)) = Unit {0}
HasReadCause before now (Some (fault.Foreign what)) = Unit {0}

-- ---- the transcript

-- what a sink holds is followed by a part of the report's text, from its front and not all of it
abbrev pub AppendsPart : (before now : Option (List ℕ)) → Report → Type 0
AppendsPart before now report = (n : ℕ) × (n < length (text_of report)) × Appends before now (take n (text_of report))

-- What a sink holds is followed by the report's text, and the status is the report's. Or by a part of the text: with
-- status 5, which comes only where the sink's count of faults rose, or with 9 for want of memory
abbrev pub Writes : (before now : Option (List ℕ)) → (faults_before faults_now : ℕ) → Report → (status : ℕ) → Type 0
Writes before now faults_before faults_now report status =
    ((status ≡ report.status) × Appends before now (text_of report))
    ⊎ (AppendsPart before now report × (((status ≡ 5) × Rose faults_before faults_now) ⊎ (status ≡ 9)))

-- ---- completeness

-- A script that is in the grammar, over a disk whose files open to its log's store, gives status 0 and its whole text, where no fault
-- of source, sink or disk is counted, and no file would get longer than it may; or 9 for want of memory.
pub record IsComplete {D : Type 0} (told : D → Option History) (count : D → ℕ) (bytes : List ℕ) (source_before source_now : ℕ) (before now : D)
    (held_before held_now : Option (List ℕ)) (sink_before sink_now : ℕ) (report : Report) (status : ℕ) : Type 0 where
  pub succeeds : (script : Script) (h : History) → script_of bytes ≡ Ok script → told before ≡ Some h
      → IsOkAnd (opened script.own (seen h)) (Agrees script.own script.log)
      → ¬ Rose source_before source_now → ¬ Rose sink_before sink_now → ¬ Rose (count before) (count now)
      → ((long limit : ℕ) → report.fault ≢ Some (fault.Full long limit))
      → ((status ≡ 0) × (report.fault ≡ None) × Appends held_before held_now (text_of report)) ⊎ (status ≡ 9)
