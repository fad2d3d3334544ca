-- Lives and reports that no script demands.
use Rattle.std.proofs.Common.{◌≡◌, ℕ, true, false, List, [], ◌∷◌, Some, None, inl, inr, length, map, refl, sym, ap, ◌∙◌, arith, le_refl}
use Rattle.std.proofs.lemmas.List.{same_from_push}
use Rattle.st_fold.specs.declared.plan.Kind.TheVariants as kind
use Rattle.st_fold.specs.declared.plan.LifePlan.{LifePlan}
use Rattle.st_fold.specs.declared.plan.Script.{Script}
use Rattle.st_fold.specs.declared.report.Answered.{Answered}
use Rattle.st_fold.specs.declared.report.Damage.TheVariants as damage
use Rattle.st_fold.specs.declared.report.Ending.{Ending}
use Rattle.st_fold.specs.declared.report.Ending.TheVariants as ending
use Rattle.st_fold.specs.declared.report.Event.{Event}
use Rattle.st_fold.specs.declared.report.Event.TheVariants.{Opened, Applied, Closed, Killed}
use Rattle.st_fold.specs.declared.report.Fault.TheVariants as fault
use Rattle.st_fold.specs.declared.report.ForeignPart.TheVariants as foreign
use Rattle.st_fold.specs.declared.report.Life.{Life}
use Rattle.st_fold.specs.declared.request.Answer.{Answer}
use Rattle.st_fold.specs.declared.request.Answer.TheVariants.{Value, Absent, FutureVersion, Stopped}
use Rattle.st_model.specs.Plain.{fresh_opening, plain_state}
use Rattle.st_fold.specs.Endings.{status_of}
use Rattle.st_model.specs.Report.{Begun, IsDemanded, IsLife, ends_life, fresh}
use Rattle.st_model.specs.State.{Given}
use Rattle.st_model.specs.Trace.{is_at_rest, state_after}
use Rattle.st_model.proofs.RowParts.{gets, given_to, life_to, playing, sets}

abbrev given : Given
given = given_to 1 (sets 1 97 49 ∷ [])

-- reader 1 gets the key twice at version 1, and a third get is left to the end
abbrev plan : LifePlan
plan = record (playing 1 (gets 1 1 97 1 ∷ gets 2 1 97 1 ∷ []) []) { lasts = gets 3 0 97 0 ∷ [] }

abbrev answer : ℕ → List ℕ → Answer → Answered
answer number places told = record { request = number; places = places; answer = told }

abbrev one : Answer
one = Value (49 ∷ [])

abbrev life_with : List Event → List Answered → Ending → Life
life_with trace answers how = record { opened = 0; trace = trace; answers = answers; ending = how }

abbrev Refused : Life → Type 0
Refused life = IsLife given fresh_opening plan life → ⊥

abbrev whole : List Event
whole = Opened 0 ∷ Applied 1 ∷ Closed ∷ []

-- a wrong value
wrong_value : Refused (life_with whole (answer 1 (2 ∷ []) (Value (50 ∷ [])) ∷ answer 2 (2 ∷ []) one ∷ answer 3 (2 ∷ []) Absent ∷ []) ending.Closed)
wrong_value life = let e : Value (50 ∷ []) ≡ Value (49 ∷ []) = life.answered.1 in grind arith

-- a value at a place where its version hadn't come
too_early : Refused (life_with whole (answer 1 (1 ∷ []) one ∷ answer 2 (2 ∷ []) one ∷ answer 3 (2 ∷ []) Absent ∷ []) ending.Closed)
too_early life = life.answered.1

-- a refusal after fewer polls than `patience` says, and one after more
gives_up_early : Refused (life_with whole (answer 1 (1 ∷ 1 ∷ []) (FutureVersion 0 2) ∷ answer 2 (2 ∷ []) one ∷ answer 3 (2 ∷ []) Absent ∷ []) ending.Closed)
gives_up_early life = life.answered.1

gives_up_late : Refused (life_with whole (answer 1 (1 ∷ 1 ∷ 1 ∷ 1 ∷ []) (FutureVersion 0 4) ∷ answer 2 (2 ∷ []) one ∷ answer 3 (2 ∷ []) Absent ∷ []) ending.Closed)
gives_up_late life = life.answered.1

-- a request without an answer, one that was stopped by a life that closed, and one that was answered twice
no_answer : Refused (life_with whole (answer 1 (2 ∷ []) one ∷ answer 2 (2 ∷ []) one ∷ []) ending.Closed)
no_answer life = life.answered.2.2

stops : Refused (life_with whole (answer 1 (2 ∷ []) one ∷ answer 2 [] Stopped ∷ answer 3 (2 ∷ []) Absent ∷ []) ending.Closed)
stops life = life.answered.2.1

answered_twice : Refused (life_with whole (answer 1 (2 ∷ []) one ∷ answer 2 (2 ∷ []) one ∷ answer 3 (2 ∷ []) Absent ∷ answer 3 (2 ∷ []) Absent ∷ []) ending.Closed)
answered_twice life = life.answered.2.2.2

-- the answer of another request
of_another : Refused (life_with whole (answer 2 (2 ∷ []) one ∷ answer 1 (2 ∷ []) one ∷ answer 3 (2 ∷ []) Absent ∷ []) ending.Closed)
of_another life = let e : 2 ≡ 1 = life.answered.0 in omega (arith, e)

-- the second request of a reader polled before its first
takes_turns_back : Refused (life_with whole (answer 1 (2 ∷ []) one ∷ answer 2 (1 ∷ 2 ∷ []) one ∷ answer 3 (2 ∷ []) Absent ∷ []) ending.Closed)
takes_turns_back life = omega (arith, (life.in_order 1).0)

-- a request of the end polled before the end
asks_last_early : Refused (life_with whole (answer 1 (2 ∷ []) one ∷ answer 2 (2 ∷ []) one ∷ answer 3 (1 ∷ []) Absent ∷ []) ending.Closed)
asks_last_early life =
    let split = same_from_push (Opened 0 ∷ Applied 1 ∷ []) life.ends.events Closed Closed life.ends.trace in
    let e : 1 ≡ 2 = life.ends.lasts 0 0 (le_refl 1) ∙ ap length (sym split.0) in
    omega (arith, e)

-- a life that closes while a batch is due
closes_early : IsLife given fresh_opening (life_to 1) (life_with (Opened 0 ∷ Closed ∷ []) [] ending.Closed) → ⊥
closes_early life =
    let split = same_from_push (Opened 0 ∷ []) life.ends.events Closed Closed life.ends.trace in
    let after : Some (plain_state 0) ≡ Some life.ends.state = ap (state_after given fresh_opening) split.0 ∙ life.ends.after in
    let at : plain_state 0 ≡ life.ends.state = cc in
    let rest : false ≡ true = ap (is_at_rest given) at ∙ life.ends.at_rest in
    cc

-- a life that was killed though it was to close, one that ends otherwise than it says, and one that isn't legal
killed_unasked : IsLife given fresh_opening (life_to 1) (life_with (Opened 0 ∷ Killed ∷ []) [] ending.Killed) → ⊥
killed_unasked life = let none : None ≡ Some (life.ends.calls, life.ends.choice) = life.ends.to_kill in cc

closes_by_fault : IsLife given fresh_opening (life_to 1) (life_with whole [] ending.Faulted) → ⊥
closes_by_fault life = let end : true ≡ false = life.ends in cc

applies_twice : IsLife given fresh_opening (life_to 1) (life_with (Opened 0 ∷ Applied 1 ∷ Applied 1 ∷ []) [] ending.Faulted) → ⊥
applies_twice life = let none : false ≡ true = life.legal in cc

-- ---- reports

abbrev script : Script
script = record { settings = given.settings; own = given.own; log = given.log; lives = life_to 1 ∷ life_to 1 ∷ [] }

-- a life of the script that was begun
abbrev begun : Life → Begun
begun life = record { plan = life_to 1; opening = fresh_opening; life = life }

-- what such reports begin with, and their statuses
opens_empty : fresh script ≡ record { version = 0; available = given.own }
opens_empty = refl

statuses : map status_of
    (None ∷ Some fault.Words ∷ Some (fault.Script 1 kind.Head) ∷ Some (fault.Read 1) ∷ Some (fault.Device 1) ∷ Some (fault.Peer 1)
    ∷ Some (fault.Damaged (damage.File 0 1)) ∷ Some fault.Memory ∷ Some (fault.Full 2 1) ∷ Some (fault.Foreign foreign.Version) ∷ [])
    ≡ 0 ∷ 2 ∷ 3 ∷ 4 ∷ 6 ∷ 7 ∷ 8 ∷ 9 ∷ 10 ∷ 11 ∷ []
statuses = refl

-- of these faults, those that may end a life
end_lives : map ends_life
    (None ∷ Some fault.Words ∷ Some (fault.Script 1 kind.Head) ∷ Some (fault.Read 1) ∷ Some (fault.Device 1) ∷ Some (fault.Peer 1)
    ∷ Some (fault.Damaged (damage.File 0 1)) ∷ Some fault.Memory ∷ Some (fault.Full 2 1) ∷ Some (fault.Foreign foreign.Version) ∷ [])
    ≡ false ∷ false ∷ false ∷ false ∷ true ∷ true ∷ false ∷ true ∷ true ∷ false ∷ []
end_lives = refl

-- a life that is missing, or a fault, beside status 0; and a fault with the status of another
misses_a_life : IsDemanded script fresh_opening 0 None (begun (life_with whole [] ending.Closed) ∷ []) → ⊥
misses_a_life report = let e : 1 ≡ 2 = report.all_lives refl in omega (arith, e)

hides_its_fault : IsDemanded script fresh_opening 0 (Some fault.Memory) [] → ⊥
hides_its_fault report = let e : 0 ≡ 9 = report.status_is in omega (arith, e)

tells_another : IsDemanded script fresh_opening 4 (Some fault.Memory) [] → ⊥
tells_another report = let e : 4 ≡ 9 = report.status_is in omega (arith, e)

-- a life after one that faulted, a third life of two, and a life that ends by a fault of the words
goes_on : IsDemanded script fresh_opening 9 (Some fault.Memory)
    (begun (life_with (Opened 0 ∷ []) [] ending.Faulted) ∷ begun (life_with whole [] ending.Closed) ∷ []) → ⊥
goes_on report =
    let e : 1 ≡ 0 = ap length (report.lives_are.3 refl) in
    omega (arith, e)

one_too_many : (a b c : Begun) → IsDemanded script fresh_opening 9 (Some fault.Memory) (a ∷ b ∷ c ∷ []) → ⊥
one_too_many a b c report = report.lives_are.4.4

faults_by_words : IsDemanded script fresh_opening 2 (Some fault.Words) (begun (life_with (Opened 0 ∷ []) [] ending.Faulted) ∷ []) → ⊥
faults_by_words report =
    let e : false ≡ true = report.faulted 0 (begun (life_with [] [] ending.Faulted)) (le_refl 1) refl in
    cc

-- a life that opens at a version that isn't durable
opens_elsewhere : (second : Begun) → second.opening.version ≡ 1
    → IsDemanded script fresh_opening 0 None (begun (life_with whole [] ending.Closed) ∷ second ∷ []) → ⊥
opens_elsewhere second at report =
    elim report.lives_are.4.1 [
      | inl durable ↦ omega (arith, at, durable.0)
      | inr flight ↦ cc
    ]

-- a failed source of fetches in a script of which no life is told, and in one that lets none fail
fails_before : IsDemanded script fresh_opening 7 (Some (fault.Peer 1)) [] → ⊥
fails_before report = report.cause

fails_unasked : IsDemanded script fresh_opening 7 (Some (fault.Peer 1)) (begun (life_with (Opened 0 ∷ []) [] ending.Faulted) ∷ []) → ⊥
fails_unasked report = let none : false ≡ true = report.cause.1 in cc
