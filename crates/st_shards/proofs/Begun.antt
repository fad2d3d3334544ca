-- Each change keeps pieces begun.
use Rattle.std.proofs.Common.{◌≡◌, ℕ, zero, suc, ◌<◌, Bool, true, false, ◌&&◌, List, [], ◌∷◌, ◌++◌, map, length, take, drop, get_or, refl, arith}
use Rattle.std.specs.List.{AllByRecursion, flat_map}
use Rattle.std.proofs.Math.Bool.{cond}
use Rattle.std.proofs.lemmas.Bool.{cond_both, not_from_false}
use Rattle.st_key.specs.Spans.{Span, key_less, holds}
use Rattle.st_key.specs.Parts.{least, greatest}
use Rattle.st_key.specs.KeyOrder.{less_irrefl, less_asym}
use Rattle.st_model.specs.declared.piece.Phase.{Phase}
use Rattle.st_model.specs.declared.piece.Phase.TheVariants.{Absent, WaitPrevious, Fetching, Waiting, Readable}
use Rattle.st_model.specs.declared.piece.Piece.{Piece}
use Rattle.st_model.specs.Pieces.{span_of, part, phase_in, nearest, cut, cut_where, cut_keys, change_within, lies_in, waits, first_phase, first_pieces, in_phase, by_phase, rows_taken, rows_in_base, inject, is_whole}
use Rattle.st_shards.specs.Begun.{is_begun, AreBegun}

pub all-append : {X : Type 0} (P : X → Type 0) (xs ys : List X) → AllByRecursion P xs → AllByRecursion P ys → AllByRecursion P (xs ++ ys)
all-append P [] ys h g = g
all-append P (x ∷ xs) ys h g = (h.0, all-append P xs ys h.1 g)

all-flat_map : {X : Type 0} (P : X → Type 0) (f : X → List X) → ((x : X) → P x → AllByRecursion P (f x)) → (xs : List X)
    → AllByRecursion P xs → AllByRecursion P (flat_map f xs)
all-flat_map P f each [] h = h
all-flat_map P f each (x ∷ xs) h = all-append P (f x) (flat_map f xs) (each x h.0) (all-flat_map P f each xs h.1)

all-map : {X : Type 0} (P : X → Type 0) (f : X → X) → ((x : X) → P x → P (f x)) → (xs : List X) → AllByRecursion P xs → AllByRecursion P (map f xs)
all-map P f each [] h = h
all-map P f each (x ∷ xs) h = (each x h.0, all-map P f each xs h.1)

all-made : {X Y : Type 0} (P : Y → Type 0) (f : X → Y) → ((x : X) → P (f x)) → (xs : List X) → AllByRecursion P (map f xs)
all-made P f each [] = tt
all-made P f each (x ∷ xs) = (each x, all-made P f each xs)

pub all-get : {X : Type 0} (P : X → Type 0) (xs : List X) (i : ℕ) (d : X) → AllByRecursion P xs → i < length xs → P (get_or xs i d)
all-get P [] i d h lt = absurd (omega arith)
all-get P (x ∷ xs) zero d h lt = h.0
all-get P (x ∷ xs) (suc i) d h lt = all-get P xs i d h.1 (omega arith)

pub all-put : {X : Type 0} (P : X → Type 0) (xs ys : List X) (i : ℕ) → AllByRecursion P xs → AllByRecursion P ys
    → AllByRecursion P (take i xs ++ (ys ++ drop (suc i) xs))
all-put P [] ys zero h g = all-append P ys [] g h
all-put P [] ys (suc i) h g = all-append P ys [] g h
all-put P (x ∷ xs) ys zero h g = all-append P ys xs g h.1
all-put P (x ∷ xs) ys (suc i) h g = (h.0, all-put P xs ys i h.1 g)

abbrev pub IsBegun : Piece → Type 0
IsBegun piece = is_begun piece.begin piece.phase ≡ true

greatest_ge : (a b : List ℕ) → key_less (greatest a b) a ≡ false
greatest_ge a b = cond_both (key_less a b) b a (λ k. key_less k a ≡ false) (λ lt. less_asym a b lt) (λ _. less_irrefl a)

begun-phase_in : (span : Span) (phase : Phase) → is_begun span.begin (phase_in span phase) ≡ true
begun-phase_in span (Fetching at upto taken in_base) =
    not_from_false (key_less (nearest span upto) span.begin) (greatest_ge span.begin (least upto span.end))
begun-phase_in span (Absent since) = refl
begun-phase_in span (WaitPrevious since) = refl
begun-phase_in span (Waiting transferred) = refl
begun-phase_in span Readable = refl

begun-cut : (key : List ℕ) (piece : Piece) → IsBegun piece → AllByRecursion IsBegun (cut key piece)
begun-cut key piece h =
    let low : Span = record { begin = piece.begin; end = key } in
    let high : Span = record { begin = key; end = piece.end } in
    cond_both (key_less piece.begin key && key_less key piece.end) (part piece low ∷ (part piece high ∷ [])) (piece ∷ [])
    (λ l. AllByRecursion IsBegun l)
    (λ _. (begun-phase_in low piece.phase, (begun-phase_in high piece.phase, tt)))
    (λ _. (h, tt))

begun-cut_where : (test : Phase → Bool) (key : List ℕ) (pieces : List Piece) → AllByRecursion IsBegun pieces
    → AllByRecursion IsBegun (cut_where test key pieces)
begun-cut_where test key pieces h =
    all-flat_map IsBegun (λ piece. cond (test piece.phase) (cut key piece) (piece ∷ []))
    (λ piece b. cond_both (test piece.phase) (cut key piece) (piece ∷ []) (λ l. AllByRecursion IsBegun l) (λ _. begun-cut key piece b) (λ _. (b, tt)))
    pieces h

pub begun-change_within : (span : Span) (test : Phase → Bool) (to : Phase → Phase) (pieces : List Piece)
    → ((begin : List ℕ) (phase : Phase) → is_begun begin phase ≡ true → is_begun begin (to phase) ≡ true)
    → AreBegun pieces → AreBegun (change_within span test to pieces)
begun-change_within span test to pieces keeps h =
    all-map IsBegun (λ (piece : Piece). cond (test piece.phase && lies_in (span_of piece) span) (record piece { phase = to piece.phase }) piece)
    (λ piece b.
    cond_both (test piece.phase && lies_in (span_of piece) span) (record piece { phase = to piece.phase }) piece IsBegun
    (λ _. keeps piece.begin piece.phase b) (λ _. b))
    (cut_where test span.end (cut_where test span.begin pieces))
    (begun-cut_where test span.end (cut_where test span.begin pieces) (begun-cut_where test span.begin pieces h))

pub begun-waits : (begin : List ℕ) (phase : Phase) → is_begun begin phase ≡ true → is_begun begin (waits phase) ≡ true
begun-waits begin (Fetching at upto taken in_base) h = h
begun-waits begin (Absent since) h = refl
begun-waits begin (WaitPrevious since) h = refl
begun-waits begin (Waiting transferred) h = refl
begun-waits begin Readable h = refl

pub begun-by_phase : (change : Phase → Phase) (pieces : List Piece)
    → ((begin : List ℕ) (phase : Phase) → is_begun begin phase ≡ true → is_begun begin (change phase) ≡ true)
    → AreBegun pieces → AreBegun (by_phase change pieces)
begun-by_phase change pieces keeps h =
    all-map IsBegun (λ (piece : Piece). in_phase (change piece.phase) piece) (λ piece b. keeps piece.begin piece.phase b) pieces h

pub begun-rows_taken : (begin : List ℕ) (phase : Phase) → is_begun begin phase ≡ true → is_begun begin (rows_taken phase) ≡ true
begun-rows_taken begin (Fetching at upto taken in_base) h = h
begun-rows_taken begin (Absent since) h = refl
begun-rows_taken begin (WaitPrevious since) h = refl
begun-rows_taken begin (Waiting transferred) h = refl
begun-rows_taken begin Readable h = refl

pub begun-rows_in_base : (durable : ℕ) (begin : List ℕ) (phase : Phase) → is_begun begin phase ≡ true
    → is_begun begin (rows_in_base durable phase) ≡ true
begun-rows_in_base durable begin (Fetching at upto taken in_base) h = h
begun-rows_in_base durable begin (Absent since) h = refl
begun-rows_in_base durable begin (WaitPrevious since) h = refl
begun-rows_in_base durable begin (Waiting transferred) h =
    cond_both _ Readable (Waiting transferred) (λ phase. is_begun begin phase ≡ true) (λ _. refl) (λ _. refl)
begun-rows_in_base durable begin Readable h = refl

pub begun-inject : (version : ℕ) (pieces : List Piece) → AreBegun pieces → AreBegun (map (inject version) pieces)
begun-inject version pieces h =
    all-map IsBegun (inject version)
    (λ piece b. cond_both (is_whole piece) (in_phase (Waiting version) piece) piece IsBegun (λ _. refl) (λ _. b))
    pieces h

begun-first : (version : ℕ) (available assigned : Bool) (begin : List ℕ) → is_begun begin (first_phase version available assigned) ≡ true
begun-first version true assigned begin = refl
begun-first version false true begin = refl
begun-first version false false begin = refl

pub begun-first_pieces : (version : ℕ) (available assigned : List Span) → AreBegun (first_pieces version available assigned)
begun-first_pieces version available assigned =
    all-made IsBegun
    (λ span. record { begin = span.begin; end = span.end; phase = first_phase version (holds available span.begin) (holds assigned span.begin) })
    (λ span. begun-first version (holds available span.begin) (holds assigned span.begin) span.begin)
    (cut_keys (available ++ assigned))
