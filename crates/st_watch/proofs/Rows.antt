-- Worked watches, computed from the definitions alone.
use Rattle.std.proofs.Common.{◌≡◌, ℕ, List, [], ◌∷◌, Some, None, map, refl}
use Rattle.st_key.specs.Spans.{Span}
use Rattle.st_mutation.specs.declared.batch.Batch.{Batch}
use Rattle.st_mutation.specs.declared.batch.Move.{Move}
use Rattle.st_mutation.specs.declared.batch.Move.TheVariants.{Release}
use Rattle.st_mutation.specs.declared.batch.Mutation.{Mutation}
use Rattle.st_mutation.specs.declared.batch.Mutation.TheVariants.{Set}
use Rattle.st_model.specs.declared.watch.WatchState.TheVariants.{Waiting, Fired, Lost}
use Rattle.st_model.specs.State.{Watch, released_in}
use Rattle.st_watch.specs.declared.entry.Standing.{Standing}
use Rattle.st_watch.specs.Course.{after_version, standing_at}
use Rattle.st_watch.specs.Watches.{Watches, after_loss, after_touch, count, new_watch, watch_of}

abbrev a : List ℕ
a = 0x61 ∷ []

abbrev b : List ℕ
b = 0x62 ∷ []

abbrev span : ℕ → ℕ → Span
span begin end = record { begin = begin ∷ []; end = end ∷ [] }

-- a watch of 61 that waits for another value than 41
abbrev waits : Standing
waits = record { key = a; value = Some (0x41 ∷ []); state = Waiting }

-- it waits where 61 is 41, and else has fired at once
new_waits : new_watch a (Some (0x41 ∷ [])) (Some (0x41 ∷ [])) 7 ≡ waits
new_waits = refl

new_fires : (new_watch a (Some (0x41 ∷ [])) None 7).state ≡ Fired 7
new_fires = refl

-- 61 is 41 again, is 42, has no value; and 62 is 42
touches : map (λ s. s.state)
    (after_touch a (Some (0x41 ∷ [])) 2 waits
    ∷ after_touch a (Some (0x42 ∷ [])) 2 waits ∷ after_touch a None 2 waits ∷ after_touch b (Some (0x42 ∷ [])) 2 waits ∷ [])
    ≡ Waiting ∷ Fired 2 ∷ Fired 2 ∷ Waiting ∷ []
touches = refl

-- 61 to 62 is taken away, 62 to 63 is, 60 to 61 is
losses : map (λ s. s.state) (after_loss (span 0x61 0x62) 3 waits ∷ after_loss (span 0x62 0x63) 3 waits ∷ after_loss (span 0x60 0x61) 3 waits ∷ []) ≡ Lost 3 ∷ Waiting ∷ Waiting ∷ []
losses = refl

-- what has fired stays so
stays : (after_loss (span 0x61 0x62) 4 (after_touch a (Some (0x41 ∷ [])) 3 (after_touch a None 2 waits))).state ≡ Fired 2
stays = refl

-- two watches by their numbers
abbrev set : Watches
set = record { limit = 3; entries = record { id = 5; standing = waits } ∷ record { id = 2; standing = record waits { key = b } } ∷ [] }

numbers : map (watch_of set) (2 ∷ 5 ∷ 1 ∷ []) ≡ Some (record waits { key = b }) ∷ Some waits ∷ None ∷ []
numbers = refl

counted : count set ≡ 2
counted = refl

abbrev batch : ℕ → List Move → List Mutation → Batch
batch version moves mutations = record { version = version; moves = moves; mutations = mutations }

-- versions 1 to 3 set 61 to 41, 42 and 41, and the watch came at version 1
abbrev log : List Batch
log = batch 1 [] (Set a (0x41 ∷ []) ∷ []) ∷ batch 2 [] (Set a (0x42 ∷ []) ∷ []) ∷ batch 3 [] (Set a (0x41 ∷ []) ∷ []) ∷ []

abbrev watch : Watch
watch = record { number = 1; key = a; value = Some (0x41 ∷ []); since = 1 }

course : map (λ version. (standing_at log watch version).state) (1 ∷ 2 ∷ 3 ∷ []) ≡ Waiting ∷ Fired 2 ∷ Fired 2 ∷ []
course = refl

-- version 2 releases 61 in place
abbrev dropping : List Batch
dropping = batch 1 [] (Set a (0x41 ∷ []) ∷ []) ∷ batch 2 (Release (span 0x61 0x62) ∷ []) (Set a (0x42 ∷ []) ∷ []) ∷ []

dropped : (standing_at dropping watch 2).state ≡ Lost 2
dropped = refl

stepped : (after_version (released_in (batch 2 (Release (span 0x61 0x62) ∷ []) [])) (Some (0x42 ∷ [])) 2 waits).state ≡ Lost 2
stepped = refl
