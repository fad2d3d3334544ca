-- Whether a version can be read between the oldest and the newest.
use Rattle.std.specs.Prelude.{ℕ, nat_lt, if◌then◌else◌}
use Rattle.st_gate.specs.declared.Judged.{Judged}
use Rattle.st_gate.specs.declared.Judged.TheVariants.{Ready, TooOld, NotYet}

-- a version below the oldest is too old, one above the newest hasn't come, and each other one can be read
abbrev pub judged : (oldest newest version : ℕ) → Judged
judged oldest newest version =
    if nat_lt version oldest then TooOld oldest
    else (if nat_lt newest version then NotYet newest else Ready)
