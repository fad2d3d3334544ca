use Rattle.std.proofs.Common.{◌≡◌, ℕ, zero, suc, get_or, refl}
use Rattle.std.proofs.Math.ListN.{replicate}
use Rattle.st_life.proofs.readers.unsought.Goals as goal

all_zero : (n place : ℕ) → get_or {A = ℕ} (replicate n 0) place 0 ≡ 0
all_zero zero place = refl
all_zero (suc n) zero = refl
all_zero (suc n) (suc place) = all_zero n place

pub returns : goal.returns
returns c = all_zero 65
