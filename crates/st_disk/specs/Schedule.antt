-- Which calls of a disk are made to fail.
use Rattle.std.specs.Prelude.{ℕ, ◌==◌, Bool, if◌then◌else◌, List}
use Rattle.std.specs.List.{list_any}
use Rattle.st_disk.specs.History.{risen}
use Rattle.st_disk.specs.Cause.{together}
use Rattle.st_disk.specs.declared.failing.Failing.{Failing}

pub record Schedule : Type 0 where
  -- the numbers of the calls that fail, from 1
  pub fails : List ℕ
  -- how many calls of `len`, `read`, `write_at` and `sync` were made
  pub calls : ℕ
  -- how many of them were made to fail
  pub faults : ℕ

-- whether the next call fails
abbrev pub fails_next : Schedule → Bool
fails_next s = list_any (λ number. number == risen s.calls) s.fails

-- the schedule after one call
abbrev pub after_call : Schedule → Schedule
after_call s = record {
  fails = s.fails;
  calls = risen s.calls;
  faults = if fails_next s then risen s.faults else s.faults;
}

abbrev pub schedule_of : {D : Type 0} → Failing D → Schedule
schedule_of f = record { fails = f.fails.items; calls = f.calls; faults = f.faults }

abbrev pub inner_of : {D : Type 0} → Failing D → D
inner_of f = f.inner

-- the faults of the inner disk and those that were made
abbrev pub failing_faults : {D : Type 0} → (D → ℕ) → Failing D → ℕ
failing_faults fault_count f = together (fault_count f.inner) f.faults
