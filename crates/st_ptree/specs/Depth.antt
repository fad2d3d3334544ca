-- How deep a key stands, from the list of entries alone.
use Rattle.std.specs.Prelude.{ℕ, Bool, true, false, not, ◌&&◌, ◌||◌, ◌==◌, nat_lt, List, length}
use Rattle.std.specs.List.{filter, list_all}
use Rattle.st_ptree.specs.Entries.{less}

module _ {T : Type 0} where
  -- e ranks as high as f, or higher: by priority, and of equal priorities the smaller key
  abbrev pub outranks : List ℕ × (ℕ × T) → List ℕ × (ℕ × T) → Bool
  outranks e f = nat_lt f.1.0 e.1.0 || (e.1.0 == f.1.0 && not (less f.0 e.0))

  -- A place in the order of keys parts them: those up to it, and those from it on. A key that it stands on is both.

  -- f stands from e to the place
  abbrev pub stands_from : (List ℕ → Bool) → (List ℕ → Bool) → List ℕ × (ℕ × T) → List ℕ × (ℕ × T) → Bool
  stands_from up_to from_on e f = (up_to f.0 && not (less f.0 e.0)) || (from_on f.0 && not (less e.0 f.0))

  -- e ranks highest of all entries from it to the place
  abbrev pub is_peak : (List ℕ → Bool) → (List ℕ → Bool) → List (List ℕ × (ℕ × T)) → List ℕ × (ℕ × T) → Bool
  is_peak up_to from_on es e = list_all (λ f. not (stands_from up_to from_on e f) || outranks e f) es

  -- how many do
  abbrev pub depth : (List ℕ → Bool) → (List ℕ → Bool) → List (List ℕ × (ℕ × T)) → ℕ
  depth up_to from_on es = length (filter (is_peak up_to from_on es) es)

  -- the depth of a key, there or not; of the gap just behind it; and of the gap just before it
  abbrev pub depth_at : List ℕ → List (List ℕ × (ℕ × T)) → ℕ
  depth_at key es = depth (λ k. not (less key k)) (λ k. not (less k key)) es

  abbrev pub depth_behind : List ℕ → List (List ℕ × (ℕ × T)) → ℕ
  depth_behind key es = depth (λ k. not (less key k)) (λ k. less key k) es

  abbrev pub depth_before : List ℕ → List (List ℕ × (ℕ × T)) → ℕ
  depth_before key es = depth (λ k. less k key) (λ k. not (less k key)) es

  -- the depth of the gap behind the entries before a key: those below it, or also the one at it
  abbrev pub depth_beside : List ℕ → Bool → List (List ℕ × (ℕ × T)) → ℕ
  depth_beside key true es = depth_behind key es
  depth_beside key false es = depth_before key es
