-- Worked payloads, computed from the definitions alone.
use Rattle.std.specs.Prelude.{codes}
use Rattle.std.proofs.Common.{◌≡◌, ℕ, true, false, List, [], ◌∷◌, ◌++◌, Result, Ok, Err, refl}
use Rattle.st_ops.specs.declared.op.Op.{Op}
use Rattle.st_ops.specs.declared.op.Op.TheVariants.{Set, Clear, SnapItem, SnapEnd, Commit}
use Rattle.st_ops.specs.Grammar.{has_form}
use Rattle.st_ops.specs.Reading.{reading}
use Rattle.st_ops.specs.Spelling.{spelled, spelt}

-- bytes that break the grammar at a place
abbrev breaks : ℕ → Result (List Op) ℕ
breaks at = Err at

no_bytes : reading [] ≡ breaks 0
no_bytes = refl

-- the payload ends between two operations, and a commit must come
no_commit : reading (4 ∷ []) ≡ breaks 1
no_commit = refl

after_the_commit : reading (5 ∷ 5 ∷ []) ≡ breaks 1
after_the_commit = refl

-- a set whose lengths aren't whole
cut_lengths : reading (1 ∷ 5 ∷ []) ≡ breaks 0
cut_lengths = refl

snapshot_of_nothing : reading (4 ∷ 5 ∷ []) ≡ Ok (SnapEnd ∷ Commit ∷ [])
snapshot_of_nothing = refl

-- a clear of no key
empty_clear : reading (2 ∷ 1 ∷ 0 ∷ 0 ∷ 0 ∷ 1 ∷ 0 ∷ 0 ∷ 0 ∷ 97 ∷ 97 ∷ 5 ∷ []) ≡ breaks 0
empty_clear = refl

no_such_tag : reading (6 ∷ 5 ∷ []) ≡ breaks 0
no_such_tag = refl

-- a value of more bytes than are left, behind a whole operation of 11 bytes
cut_value : reading (spelled (Set (codes "a") (codes "1")) ++ 1 ∷ 1 ∷ 0 ∷ 0 ∷ 0 ∷ 4 ∷ 0 ∷ 0 ∷ 0 ∷ 97 ∷ 49 ∷ 50 ∷ 5 ∷ []) ≡ breaks 11
cut_value = refl

-- the bytes of a set: its tag, both lengths, the key and the value
spelled_set : spelled (Set (codes "a") (codes "1")) ≡ 1 ∷ 1 ∷ 0 ∷ 0 ∷ 0 ∷ 1 ∷ 0 ∷ 0 ∷ 0 ∷ 97 ∷ 49 ∷ []
spelled_set = refl

abbrev whole : List Op
whole =
    Set (codes "b") [] ∷ Clear [] (codes "b") ∷ Set (codes "a") (codes "1") ∷ SnapItem (codes "a") (codes "1")
    ∷ SnapItem (codes "b") [] ∷ SnapEnd ∷ Commit ∷ []

whole_has_form : has_form whole ≡ true
whole_has_form = refl

whole_is_read : reading (spelt whole) ≡ Ok whole
whole_is_read = refl

commit_alone : reading (5 ∷ []) ≡ Ok (Commit ∷ [])
commit_alone = refl

-- the second item's key isn't above the first's; items have 10 bytes and their key here
items_fall : reading (spelt (SnapItem (codes "b") [] ∷ SnapItem (codes "a") [] ∷ Commit ∷ [])) ≡ breaks 10
items_fall = refl

items_stand_still : reading (spelt (SnapItem (codes "a") [] ∷ SnapItem (codes "a") [] ∷ Commit ∷ [])) ≡ breaks 10
items_stand_still = refl

set_behind_an_item : reading (spelt (SnapItem (codes "a") [] ∷ Set (codes "a") [] ∷ Commit ∷ [])) ≡ breaks 10
set_behind_an_item = refl

item_behind_the_end : reading (spelt (SnapEnd ∷ SnapItem (codes "a") [] ∷ Commit ∷ [])) ≡ breaks 1
item_behind_the_end = refl

two_ends : reading (spelt (SnapEnd ∷ SnapEnd ∷ Commit ∷ [])) ≡ breaks 1
two_ends = refl

clear_behind_the_end : has_form (SnapEnd ∷ Clear [] (codes "a") ∷ Commit ∷ []) ≡ false
clear_behind_the_end = refl
