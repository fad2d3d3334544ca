-- Worked lists of entries, computed from the definitions alone.
use Rattle.std.specs.Prelude.{codes}
use Rattle.std.proofs.Common.{◌≡◌, ℕ, true, false, List, [], ◌∷◌, Some, None, refl}
use Rattle.st_ptree.specs.Entries.{first_of, last_of, is_ordered, item_at, with_entry, without_key, without_range, below, at_or_below, above, pairs_of}

abbrev entry : List ℕ → ℕ → ℕ → List ℕ × (ℕ × ℕ)
entry key prio item = (key, (prio, item))

abbrev tree : List (List ℕ × (ℕ × ℕ))
tree = with_entry (with_entry (with_entry [] (codes "b") 7 1) (codes "d") 5 2) (codes "a") 6 3

-- entries stand in the order of their keys
in_order : tree ≡ entry (codes "a") 6 3 ∷ entry (codes "b") 7 1 ∷ entry (codes "d") 5 2 ∷ []
in_order = refl

ordered : is_ordered tree ≡ true
ordered = refl

-- one key twice, and two keys that fall, are no order
not_ordered : is_ordered (entry (codes "a") 1 1 ∷ entry (codes "a") 2 2 ∷ []) ≡ false
not_ordered = refl

falling : is_ordered (entry (codes "b") 1 1 ∷ entry (codes "a") 2 2 ∷ []) ≡ false
falling = refl

-- a priority that is there stays
replaced : with_entry tree (codes "b") 9 4 ≡ entry (codes "a") 6 3 ∷ entry (codes "b") 7 4 ∷ entry (codes "d") 5 2 ∷ []
replaced = refl

present : item_at tree (codes "b") ≡ Some 1
present = refl

absent : item_at tree (codes "c") ≡ None
absent = refl

removed : without_key tree (codes "b") ≡ entry (codes "a") 6 3 ∷ entry (codes "d") 5 2 ∷ []
removed = refl

-- the begin goes, and the end stays
erased : without_range tree (codes "a") (codes "d") ≡ entry (codes "d") 5 2 ∷ []
erased = refl

nothing_erased : without_range tree (codes "b") (codes "b") ≡ tree
nothing_erased = refl

at_the_key : last_of (at_or_below tree (codes "b")) ≡ Some (entry (codes "b") 7 1)
at_the_key = refl

between : last_of (at_or_below tree (codes "c")) ≡ Some (entry (codes "b") 7 1)
between = refl

none_at_or_below : last_of (at_or_below tree []) ≡ None
none_at_or_below = refl

next : first_of (above tree (codes "b")) ≡ Some (entry (codes "d") 5 2)
next = refl

none_above : first_of (above tree (codes "d")) ≡ None
none_above = refl

previous : last_of (below tree (codes "b")) ≡ Some (entry (codes "a") 6 3)
previous = refl

none_below : last_of (below tree (codes "a")) ≡ None
none_below = refl

as_pairs : pairs_of tree ≡ (codes "a", 3) ∷ (codes "b", 1) ∷ (codes "d", 2) ∷ []
as_pairs = refl
