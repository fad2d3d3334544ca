-- Worked maps and logs, computed from the definitions alone.
use Rattle.std.specs.Prelude.{codes, pos, negsuc, true, false}
use Rattle.std.proofs.Common.{◌≡◌, ℕ, List, [], ◌∷◌, Some, None, refl}
use Rattle.st_atomic.specs.declared.AtomicOp.TheVariants.{Add, CompareAndClear}
use Rattle.st_mutation.specs.declared.batch.Batch.{Batch}
use Rattle.st_mutation.specs.declared.batch.Mutation.{Mutation}
use Rattle.st_mutation.specs.declared.batch.Mutation.TheVariants.{Set, Clear, Atomic}
use Rattle.st_fold.specs.declared.request.Answer.TheVariants.{Value, Absent, Rows, KeyIs}
use Rattle.st_fold.specs.declared.request.Ask.TheVariants as ask
use Rattle.st_fold.specs.declared.request.Found.TheVariants as found
use Rattle.st_key.specs.Spans.{Span}
use Rattle.st_fold.specs.Map.{Map, value_at, apply, folded}
use Rattle.st_fold.specs.Reading.{span_of, plain}

abbrev batch : ℕ → List Mutation → Batch
batch version mutations = record { version = version; moves = []; mutations = mutations }

-- version 2 sets b, a and b again, version 5 sets a to the empty value, and version 6 sets the empty key
abbrev log : List Batch
log =
    batch 2 (Set (codes "b") (codes "1") ∷ Set (codes "a") (codes "2") ∷ Set (codes "b") (codes "3") ∷ [])
    ∷ batch 5 (Set (codes "a") [] ∷ []) ∷ batch 6 (Set [] (codes "4") ∷ []) ∷ []

abbrev pairs : Map
pairs = (codes "a", codes "2") ∷ (codes "b", codes "3") ∷ []

-- a mutation puts a new key at its place
put_between : apply pairs (Set (codes "ab") (codes "5"))
    ≡ (codes "a", codes "2") ∷ (codes "ab", codes "5") ∷ (codes "b", codes "3") ∷ []
put_between = refl

-- no version is below the first
before_the_log : folded log 1 ≡ []
before_the_log = refl

-- a batch counts from its own version on
at_a_version : folded log 2 ≡ pairs
at_a_version = refl

between_versions : folded log 4 ≡ pairs
between_versions = refl

-- a later batch overwrites, and the keys stay in order
overwritten : folded log 5 ≡ (codes "a", []) ∷ (codes "b", codes "3") ∷ []
overwritten = refl

whole_log : folded log 100 ≡ ([], codes "4") ∷ (codes "a", []) ∷ (codes "b", codes "3") ∷ []
whole_log = refl

empty_log : folded [] 100 ≡ []
empty_log = refl

present : value_at pairs (codes "b") ≡ Some (codes "3")
present = refl

-- a key that another one begins with is another key
absent : value_at pairs (codes "ab") ≡ None
absent = refl

get_present : plain (folded log 4) (ask.Get (codes "a") 4) ≡ Value (codes "2")
get_present = refl

-- the empty value is a value
get_empty_value : plain (folded log 5) (ask.Get (codes "a") 5) ≡ Value []
get_empty_value = refl

get_absent : plain (folded log 5) (ask.Get [] 5) ≡ Absent
get_absent = refl

-- a get looks at its one key: from it up to the next key
keys_of_a_get : span_of (ask.Get (codes "a") 4) ≡ record { begin = codes "a"; end = 97 ∷ 0 ∷ [] }
keys_of_a_get = refl

-- three keys are set, then the first two cleared, then the second set again
abbrev cleared : List Batch
cleared =
    batch 1 (Set (97 ∷ []) (49 ∷ []) ∷ Set (98 ∷ []) (50 ∷ []) ∷ Set (99 ∷ []) (51 ∷ []) ∷ [])
    ∷ batch 2 (Clear (record { begin = 97 ∷ []; end = 99 ∷ [] }) ∷ []) ∷ batch 3 (Set (98 ∷ []) (57 ∷ []) ∷ []) ∷ []

abbrev three : Map
three = (97 ∷ [], 49 ∷ []) ∷ (98 ∷ [], 50 ∷ []) ∷ (99 ∷ [], 51 ∷ []) ∷ []

before_the_clear : folded cleared 1 ≡ three
before_the_clear = refl

-- a clear takes its begin, and leaves its end
after_the_clear : folded cleared 2 ≡ (99 ∷ [], 51 ∷ []) ∷ []
after_the_clear = refl

set_again : folded cleared 3 ≡ (98 ∷ [], 57 ∷ []) ∷ (99 ∷ [], 51 ∷ []) ∷ []
set_again = refl

-- ff and 1 make 0 in one byte, and no key with the value is left where the compared value is the key's
added : apply ((97 ∷ [], 255 ∷ []) ∷ []) (Atomic Add (97 ∷ []) (1 ∷ [])) ≡ (97 ∷ [], 0 ∷ []) ∷ []
added = refl

compared : apply three (Atomic CompareAndClear (98 ∷ []) (50 ∷ [])) ≡ (97 ∷ [], 49 ∷ []) ∷ (99 ∷ [], 51 ∷ []) ∷ []
compared = refl

abbrev all_keys : Span
all_keys = record { begin = []; end = 255 ∷ [] }

-- one row of the reverse, and there are more
last_row : plain (folded cleared 3) (ask.Rows all_keys 1 1000 true 3) ≡ Rows ((99 ∷ [], 51 ∷ []) ∷ []) true
last_row = refl

-- the first row already has the two bytes
byte_limit : plain (folded cleared 1) (ask.Rows (record { begin = 97 ∷ []; end = 100 ∷ [] }) 10 2 false 1)
    ≡ Rows ((97 ∷ [], 49 ∷ []) ∷ []) true
byte_limit = refl

row_limit : plain (folded cleared 1) (ask.Rows (record { begin = 97 ∷ []; end = 100 ∷ [] }) 3 1000 false 1) ≡ Rows three false
row_limit = refl

-- the first key above a is b, none lies before b, and none lies after c
next_key : plain (folded cleared 3) (ask.Select (97 ∷ []) true (pos 1) all_keys 3) ≡ KeyIs (found.Key (98 ∷ []))
next_key = refl

none_before : plain (folded cleared 3) (ask.Select (98 ∷ []) false (pos 0) all_keys 3) ≡ KeyIs found.Before
none_before = refl

none_after : plain (folded cleared 3) (ask.Select (99 ∷ []) true (pos 1) all_keys 3) ≡ KeyIs found.After
none_after = refl

key_before : plain (folded cleared 1) (ask.Select (99 ∷ []) false (pos 0) all_keys 1) ≡ KeyIs (found.Key (98 ∷ []))
key_before = refl

-- two back from the place of c
two_back : plain (folded cleared 1) (ask.Select (99 ∷ []) true (negsuc 1) all_keys 1) ≡ KeyIs (found.Key (97 ∷ []))
two_back = refl
