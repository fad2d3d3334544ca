-- A fuse that lets some calls of `write_at` and `sync` pass to a disk.
use Rattle.std.specs.Prelude.{ℕ, ◌||◌, Bool, true, if◌then◌else◌, Option}
use Rattle.std.specs.Option.{option_map}
use Rattle.st_disk.specs.History.{History, risen}
use Rattle.st_disk.specs.Cause.{together}
use Rattle.st_disk.specs.Spent.{is_spent}
use Rattle.st_disk.specs.declared.fused.Fused.{Fused}

pub record Fuse : Type 0 where
  -- how many calls may pass; None: any number
  pub passes : Option ℕ
  -- how many have passed: the disk below carried them out
  pub passed : ℕ
  pub is_blown : Bool
  -- how many calls failed since it was blown, with the one that blew it
  pub faults : ℕ

-- whether a call of `write_at` or `sync` finds the fuse blown, or blows it
abbrev pub stops : Fuse → Bool
stops fuse = fuse.is_blown || is_spent fuse.passes fuse.passed

-- the fuse after a call that it stopped
abbrev pub blown : Fuse → Fuse
blown fuse = record { passes = fuse.passes; passed = fuse.passed; is_blown = true; faults = risen fuse.faults }

-- the fuse after a call of `write_at` or `sync`, which the disk below carried out or not
abbrev pub after_change : Bool → Fuse → Fuse
after_change done fuse =
    if stops fuse then blown fuse
    else if done then record { passes = fuse.passes; passed = risen fuse.passed; is_blown = fuse.is_blown; faults = fuse.faults }
    else fuse

-- the fuse after a call of `len` or `read`
abbrev pub after_look : Fuse → Fuse
after_look fuse = if fuse.is_blown then blown fuse else fuse

abbrev pub fuse_of : {D : Type 0} → Fused D → Fuse
fuse_of f = record { passes = f.passes; passed = f.passed; is_blown = f.is_blown; faults = f.faults }

abbrev pub inner_of : {D : Type 0} → Fused D → D
inner_of f = f.inner

-- the faults of the disk below and those of the fuse
abbrev pub fused_faults : {D : Type 0} → (D → ℕ) → Fused D → ℕ
fused_faults fault_count f = together (fault_count f.inner) f.faults

-- The history of the disk below, of which the calls that passed are counted, and how many may.
abbrev pub fused_history : {D : Type 0} → (D → Option History) → Fused D → Option History
fused_history history f = option_map (λ (h : History). record h { made = f.passed; passes = f.passes }) (history f.inner)
