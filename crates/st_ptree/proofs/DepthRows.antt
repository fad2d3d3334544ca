-- Depths of small lists, computed.
use Rattle.std.specs.Prelude.{codes}
use Rattle.std.proofs.Common.{◌≡◌, ℕ, List, [], ◌∷◌, refl}
use Rattle.st_ptree.specs.Depth.{depth_at, depth_behind, depth_before}

abbrev entry : List ℕ → ℕ → List ℕ × (ℕ × ℕ)
entry key prio = (key, (prio, 0))

-- the root is d, below it b and f, and c below b
abbrev mixed : List (List ℕ × (ℕ × ℕ))
mixed = entry (codes "b") 5 ∷ entry (codes "c") 4 ∷ entry (codes "d") 9 ∷ entry (codes "f") 7 ∷ []

root : depth_at (codes "d") mixed ≡ 1
root = refl

below_root : depth_at (codes "b") mixed ≡ 2
below_root = refl

lowest : depth_at (codes "c") mixed ≡ 3
lowest = refl

-- a key that isn't there ends in a gap
gap : depth_at (codes "cc") mixed ≡ 3
gap = refl

first_gap : depth_at (codes "a") mixed ≡ 2
first_gap = refl

behind_b : depth_behind (codes "b") mixed ≡ 3
behind_b = refl

before_b : depth_before (codes "b") mixed ≡ 2
before_b = refl

-- equal priorities make a chain to the right
abbrev chain : List (List ℕ × (ℕ × ℕ))
chain = entry (codes "a") 0 ∷ entry (codes "b") 0 ∷ entry (codes "c") 0 ∷ []

first_of_chain : depth_at (codes "a") chain ≡ 1
first_of_chain = refl

last_of_chain : depth_at (codes "c") chain ≡ 3
last_of_chain = refl
