-- A fuse leaves the images of the disk below.
use Rattle.std.proofs.Common.{◌≡◌, ◌≤◌, ℕ, Option, Some, None, refl, subst}
use Rattle.std.specs.Option.{ForSome, option_map}
use Rattle.std.proofs.lemmas.Option.{same_Some}
use Rattle.st_disk.specs.History.{History, MayLeave, seen}

pub counted_image : (made : ℕ) (passes : Option ℕ) (told : Option History) → ((h : History) → told ≡ Some h → MayLeave h (seen h)) → (h : History)
    → option_map (λ (h : History). record h { made = made; passes = passes }) told ≡ Some h → MayLeave h (seen h)
counted_image made passes None law h is = absurd (cc (is))
counted_image made passes (Some old) law h is =
    subst (λ (h : History). MayLeave h (seen h)) (same_Some (record old { made = made; passes = passes }) h is) (law old refl)

-- No more calls pass than it lets through.
pub counted_within : (made : ℕ) (passes : Option ℕ) (told : Option History) → ForSome passes (λ n. made ≤ n) → (h : History)
    → option_map (λ (h : History). record h { made = made; passes = passes }) told ≡ Some h → ForSome h.passes (λ n. h.made ≤ n)
counted_within made passes None within h is = absurd (cc (is))
counted_within made passes (Some old) within h is =
    subst (λ (h : History). ForSome h.passes (λ n. h.made ≤ n)) (same_Some (record old { made = made; passes = passes }) h is) within
