-- The keys on one side of a key, and the one that comes first there.
use Rattle.std.specs.Prelude.{◌≡◌, ℕ, Bool, true, false, not, if◌then◌else◌, map, List, [], ◌∷◌, Option, Some, None, IsTrue, Contains, MatchOption}
use Rattle.std.specs.Borrow.{Bor}
use Rattle.std.specs.List.{AllByRecursion}
use Rattle.st_key.specs.Spans.{key_less}
use Rattle.st_versioned.specs.Root.{same}
use Rattle.st_versioned.specs.declared.bound.Bound.{Bound}
use Rattle.st_versioned.specs.declared.bound.Bound.TheVariants.{From, Above, Below}

-- other is above the key, or also at it
abbrev pub comes_behind : List ℕ → Bool → List ℕ → Bool
comes_behind key or_equal other = if or_equal then not (key_less other key) else key_less key other

-- the order from the greatest key down
abbrev pub key_above : List ℕ → List ℕ → Bool
key_above a b = key_less b a

-- Of the keys that pass, the first in an order: `first a b` says that a comes before b.
module _ (first : List ℕ → List ℕ → Bool) (passes : List ℕ → Bool) where
  -- the first that has a value, with its value
  pub record IsFirst (value : List ℕ → Option (List ℕ)) (found : List ℕ × List ℕ) : Type 0 where
    pub passing : IsTrue (passes found.0)
    pub there : value found.0 ≡ Some found.1
    pub before : (key : List ℕ) → IsTrue (passes key) → IsTrue (first key found.0) → value key ≡ None

  -- it is this one, or none that passes has a value
  abbrev pub IsFirstOrNone : (List ℕ → Option (List ℕ)) → Option (List ℕ × List ℕ) → Type 0
  IsFirstOrNone value found = MatchOption found ((key : List ℕ) → IsTrue (passes key) → value key ≡ None) (IsFirst value)

  -- the first of some keys, or none of them passes
  pub record IsFirstOf (keys : List (List ℕ)) (found : List ℕ) : Type 0 where
    pub among : Contains keys found
    pub passing : IsTrue (passes found)
    pub before : AllByRecursion (λ key. IsTrue (passes key) → first key found ≡ false) keys

  abbrev pub IsFirstKey : List (List ℕ) → Option (List ℕ) → Type 0
  IsFirstKey keys found = MatchOption found (AllByRecursion (λ key. passes key ≡ false) keys) (IsFirstOf keys)

-- the key, where it is one of these
abbrev pub IsKeyOf : List (List ℕ) → List ℕ → Option (List ℕ) → Type 0
IsKeyOf keys key found = MatchOption found (AllByRecursion (λ other. same other key ≡ false) keys) (λ at. (at ≡ key) × Contains keys at)

-- the key is on the side of the bound
abbrev pub is_beyond : Bound → List ℕ → Bool
is_beyond (From key) = comes_behind key.now true
is_beyond (Above key) = comes_behind key.now false
is_beyond (Below key) = λ other. key_less other key.now

-- the order on the way from the bound
abbrev pub first_by : Bound → List ℕ → List ℕ → Bool
first_by (From key) = key_less
first_by (Above key) = key_less
first_by (Below key) = key_above

-- the keys behind one of a side
abbrev pub bound_behind : Bound → Bor (List ℕ) → Bound
bound_behind (From key) other = Above other
bound_behind (Above key) other = Above other
bound_behind (Below key) other = Below other

-- the first of two keys, where either may be missing
abbrev pub first_of_two : Bound → Option (List ℕ) → Option (List ℕ) → Option (List ℕ)
first_of_two bound None b = b
first_of_two bound (Some a) None = Some a
first_of_two bound (Some a) (Some b) = Some (if first_by bound b a then b else a)

-- the keys of pairs
abbrev pub keys_of : {X : Type 0} → List (List ℕ × X) → List (List ℕ)
keys_of pairs = map (λ pair. pair.0) pairs
