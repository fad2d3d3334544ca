-- Worked updates and rows, computed from the definitions alone.
use Rattle.std.proofs.Common.{◌≡◌, ℕ, List, [], ◌∷◌, Some, None, refl}
use Rattle.st_atomic.specs.declared.AtomicOp.TheVariants.{Add}
use Rattle.st_fold.specs.Map.{Map, folded}
use Rattle.st_fold.specs.Reading.{pairs_in}
use Rattle.st_key.specs.Spans.{Span}
use Rattle.st_mutation.specs.declared.batch.Batch.{Batch}
use Rattle.st_mutation.specs.declared.batch.Mutation.{Mutation}
use Rattle.st_mutation.specs.declared.batch.Mutation.TheVariants.{Set, Clear, Atomic}
use Rattle.st_adding.specs.Rows.{forgotten, handed, rows_of}
use Rattle.st_adding.specs.Updates.{Holding, Update, below, dropped_to, first_above, from, updates_of, with_batch}

abbrev batch : ℕ → List Mutation → Batch
batch version mutations = record { version = version; moves = []; mutations = mutations }

abbrev set : ℕ → ℕ → Mutation
set key value = Set (key ∷ []) (value ∷ [])

abbrev span : ℕ → ℕ → Span
span begin end = record { begin = begin ∷ []; end = end ∷ [] }

-- batch 1 sets 60 to 62, batch 3 sets 60 and 62 and adds to 61, and batch 5 clears all below 63
abbrev third : Batch
third = batch 3 (set 0x60 0x38 ∷ set 0x62 0x39 ∷ Atomic Add (0x61 ∷ []) (1 ∷ []) ∷ [])

abbrev fifth : Batch
fifth = batch 5 (Clear (record { begin = []; end = 0x63 ∷ [] }) ∷ [])

abbrev log : List Batch
log = batch 1 (set 0x60 0x30 ∷ set 0x61 0x31 ∷ set 0x62 0x32 ∷ []) ∷ third ∷ batch 4 [] ∷ fifth ∷ []

-- what is done to the keys from 61 on above version 2
abbrev of_third : List Update
of_third = (3, set 0x62 0x39) ∷ (3, Atomic Add (0x61 ∷ []) (1 ∷ [])) ∷ []

nothing_yet : updates_of log (span 0x61 0xff) 2 2 ≡ []
nothing_yet = refl

clipped_in_order : updates_of log (span 0x61 0xff) 2 4 ≡ of_third
clipped_in_order = refl

not_of_its_version : updates_of log (span 0x61 0xff) 3 4 ≡ []
not_of_its_version = refl

cleared_in_the_piece : updates_of log (span 0x61 0xff) 3 5 ≡ (5, Clear (span 0x61 0x63)) ∷ []
cleared_in_the_piece = refl

next : first_above 2 log ≡ Some third
next = refl

none_next : first_above 5 log ≡ None
none_next = refl

-- a piece from 61 on that is fetched at version 2
abbrev held : Holding
held = with_batch third (record { piece = span 0x61 0xff; at = 2; updates = [] })

held_third : held.updates ≡ of_third
held_third = refl

undone : dropped_to 3 (with_batch fifth held) ≡ held
undone = refl

below_the_cut : below (0x62 ∷ []) (with_batch fifth held)
    ≡ record { piece = span 0x61 0x62; at = 2; updates = (3, Atomic Add (0x61 ∷ []) (1 ∷ [])) ∷ (5, Clear (span 0x61 0x62)) ∷ [] }
below_the_cut = refl

from_the_cut : from (0x62 ∷ []) (with_batch fifth held)
    ≡ record { piece = span 0x62 0xff; at = 2; updates = (3, set 0x62 0x39) ∷ (5, Clear (span 0x62 0x63)) ∷ [] }
from_the_cut = refl

-- rows of the log at version 2, in two blocks, the second of them first
abbrev row : ℕ → ℕ → List ℕ × List ℕ
row key value = (key ∷ [], value ∷ [])

abbrev rows : Map
rows = handed (pairs_in (span 0x61 0x62) (folded log 2)) (handed (pairs_in (span 0x62 0xff) (folded log 2)) [])

in_key_order : rows ≡ row 0x61 0x31 ∷ row 0x62 0x32 ∷ []
in_key_order = refl

later_wins : handed (row 0x62 0x38 ∷ row 0x62 0x39 ∷ []) rows ≡ row 0x61 0x31 ∷ row 0x62 0x39 ∷ []
later_wins = refl

up_to_the_end : forgotten (span 0x61 0x62) rows ≡ row 0x62 0x32 ∷ []
up_to_the_end = refl

-- a slot without a value is no row
empty_slot : rows_of ((0x61 ∷ [], None) ∷ (0x62 ∷ [], Some (0x32 ∷ [])) ∷ []) ≡ row 0x62 0x32 ∷ []
empty_slot = refl
