-- Two lists that fit each other place by place.
use Rattle.std.proofs.Common.{◌≡◌, ℕ, zero, suc, ◌<◌, ◌≤◌, List, [], ◌∷◌, ◌++◌, length, get_or, refl, ap, subst, sym, ◌∙◌, arith}
use Rattle.std.specs.List.{AllZip, insert, remove}
use Rattle.std.proofs.Math.ListN.{set}
use Rattle.std.specs.Prelude.{Option}
use Rattle.st_model.specs.declared.piece.Phase.{Phase}
use Rattle.st_model.specs.declared.piece.Piece.{Piece}
use Rattle.st_model.specs.Pieces.{in_phase}
use Rattle.st_shards.specs.Spares.{Settles, AreSettled}

pub zip-push : {A B : Type 0} (R : A → B → Type 0) (xs : List A) (ys : List B) (x : A) (y : B) → AllZip R xs ys → R x y
    → AllZip R (xs ++ x ∷ []) (ys ++ y ∷ [])
zip-push R [] [] x y h r = (r, tt)
zip-push R [] (b ∷ ys) x y h r = absurd h
zip-push R (a ∷ xs) [] x y h r = absurd h
zip-push R (a ∷ xs) (b ∷ ys) x y h r = (h.0, zip-push R xs ys x y h.1 r)

pub zip-set : {A B : Type 0} (R : A → B → Type 0) (xs : List A) (ys : List B) (i : ℕ) (x : A) (y : B) → AllZip R xs ys → R x y
    → AllZip R (set xs i x) (set ys i y)
zip-set R [] [] i x y h r = h
zip-set R [] (b ∷ ys) i x y h r = absurd h
zip-set R (a ∷ xs) [] i x y h r = absurd h
zip-set R (a ∷ xs) (b ∷ ys) zero x y h r = (r, h.1)
zip-set R (a ∷ xs) (b ∷ ys) (suc i) x y h r = (h.0, zip-set R xs ys i x y h.1 r)

pub zip-insert : {A B : Type 0} (R : A → B → Type 0) (xs : List A) (ys : List B) (i : ℕ) (x : A) (y : B) → AllZip R xs ys → R x y
    → AllZip R (insert xs i x) (insert ys i y)
zip-insert R [] [] zero x y h r = (r, tt)
zip-insert R [] [] (suc i) x y h r = (r, tt)
zip-insert R [] (b ∷ ys) i x y h r = absurd h
zip-insert R (a ∷ xs) [] i x y h r = absurd h
zip-insert R (a ∷ xs) (b ∷ ys) zero x y h r = (r, h)
zip-insert R (a ∷ xs) (b ∷ ys) (suc i) x y h r = (h.0, zip-insert R xs ys i x y h.1 r)

pub zip-remove : {A B : Type 0} (R : A → B → Type 0) (xs : List A) (ys : List B) (i : ℕ) → AllZip R xs ys
    → AllZip R (remove xs i) (remove ys i)
zip-remove R [] [] zero h = h
zip-remove R [] [] (suc i) h = h
zip-remove R [] (b ∷ ys) i h = absurd h
zip-remove R (a ∷ xs) [] i h = absurd h
zip-remove R (a ∷ xs) (b ∷ ys) zero h = h.1
zip-remove R (a ∷ xs) (b ∷ ys) (suc i) h = (h.0, zip-remove R xs ys i h.1)

pub zip-get : {A B : Type 0} (R : A → B → Type 0) (xs : List A) (ys : List B) (i : ℕ) (d : A) (e : B) → AllZip R xs ys → i < length xs
    → R (get_or xs i d) (get_or ys i e)
zip-get R [] [] i d e h lt = absurd (omega arith)
zip-get R [] (b ∷ ys) i d e h lt = absurd h
zip-get R (a ∷ xs) [] i d e h lt = absurd h
zip-get R (a ∷ xs) (b ∷ ys) zero d e h lt = h.0
zip-get R (a ∷ xs) (b ∷ ys) (suc i) d e h lt = zip-get R xs ys i d e h.1 (omega arith)

pub zip-length : {A B : Type 0} (R : A → B → Type 0) (xs : List A) (ys : List B) → AllZip R xs ys → length xs ≡ length ys
zip-length R [] [] h = refl
zip-length R [] (b ∷ ys) h = absurd h
zip-length R (a ∷ xs) [] h = absurd h
zip-length R (a ∷ xs) (b ∷ ys) h = ap suc (zip-length R xs ys h.1)

-- ---- pieces and their spare keys

abbrev Fits : Piece → Option (List ℕ) → Type 0
Fits piece spare = Settles piece.phase spare

pub settled-length : (pieces : List Piece) (spares : List (Option (List ℕ))) → AreSettled pieces spares → length pieces ≡ length spares
settled-length pieces spares h = zip-length Fits pieces spares h

-- the length, against that of the pieces as callers see them
pub in_spares : (seen pieces : List Piece) (spares : List (Option (List ℕ))) (at : ℕ) → pieces ≡ seen → AreSettled pieces spares
    → at < length seen → at < length spares
in_spares seen pieces spares at same h lt =
    let e : length pieces ≡ length spares = settled-length pieces spares h in
    let v : length pieces ≡ length seen = ap length same in
    omega arith

pub in_spares_too : (seen pieces : List Piece) (spares : List (Option (List ℕ))) (at : ℕ) → pieces ≡ seen → AreSettled pieces spares
    → at ≤ length seen → at ≤ length spares
in_spares_too seen pieces spares at same h le =
    let e : length pieces ≡ length spares = settled-length pieces spares h in
    let v : length pieces ≡ length seen = ap length same in
    omega arith

pub settled-set : (pieces : List Piece) (spares : List (Option (List ℕ))) (at : ℕ) (piece : Piece) (spare : Option (List ℕ))
    → AreSettled pieces spares → Settles piece.phase spare → AreSettled (set pieces at piece) (set spares at spare)
settled-set pieces spares at piece spare h s = zip-set Fits pieces spares at piece spare h s

pub settled-push : (pieces : List Piece) (spares : List (Option (List ℕ))) (piece : Piece) (spare : Option (List ℕ))
    → AreSettled pieces spares → Settles piece.phase spare → AreSettled (pieces ++ piece ∷ []) (spares ++ spare ∷ [])
settled-push pieces spares piece spare h s = zip-push Fits pieces spares piece spare h s

pub settled-insert : (pieces : List Piece) (spares : List (Option (List ℕ))) (at : ℕ) (piece : Piece) (spare : Option (List ℕ))
    → AreSettled pieces spares → Settles piece.phase spare → AreSettled (insert pieces at piece) (insert spares at spare)
settled-insert pieces spares at piece spare h s = zip-insert Fits pieces spares at piece spare h s

pub settled-remove : (pieces : List Piece) (spares : List (Option (List ℕ))) (at : ℕ) → AreSettled pieces spares
    → AreSettled (remove pieces at) (remove spares at)
settled-remove pieces spares at h = zip-remove Fits pieces spares at h

pub settled-get : (pieces : List Piece) (spares : List (Option (List ℕ))) (at : ℕ) (d : Piece) (e : Option (List ℕ))
    → AreSettled pieces spares → at < length pieces → Settles (get_or pieces at d).phase (get_or spares at e)
settled-get pieces spares at d e h lt = zip-get Fits pieces spares at d e h lt

-- what was read of both at one place
pub settled-read : (pieces : List Piece) (spares : List (Option (List ℕ))) (at : ℕ) (piece : Piece) (phase : Phase) (was spare : Option (List ℕ))
    → AreSettled pieces spares → at < length pieces → piece ≡ get_or pieces at piece → was ≡ get_or spares at was
    → phase ≡ piece.phase → spare ≡ was → Settles phase spare
settled-read pieces spares at piece phase was spare h lt read read' same same' =
    subst (λ p. Settles p spare) (sym same)
    (subst (λ s. Settles piece.phase s) (sym same')
    (subst (λ (p : Piece). Settles p.phase was) (sym read)
    (subst (λ s. Settles (get_or pieces at piece).phase s) (sym read') (settled-get pieces spares at piece was h lt))))

default_same : {X : Type 0} (xs : List X) (i : ℕ) (d e : X) → i < length xs → get_or xs i d ≡ get_or xs i e
default_same [] i d e lt = absurd (omega arith)
default_same (x ∷ xs) zero d e lt = refl
default_same (x ∷ xs) (suc i) d e lt = default_same xs i d e (omega arith)

-- a piece whose phase alone was changed, as callers see it
pub phase_set : (seen pieces : List Piece) (at : ℕ) (piece other : Piece) (phase was : Phase) (change : Phase → Phase)
    → pieces ≡ seen → at < length seen → piece ≡ get_or pieces at piece → was ≡ piece.phase → phase ≡ change was
    → set pieces at (record { begin = piece.begin; end = piece.end; phase = phase })
    ≡ set seen at (in_phase (change (get_or seen at other).phase) (get_or seen at other))
phase_set seen pieces at piece other phase was change e lt read same is =
    let v : length pieces ≡ length seen = ap length e in
    let it : piece ≡ get_or seen at other = read ∙ (default_same pieces at piece other (omega arith) ∙ ap (λ l. get_or l at other) e) in
    ap (λ l. set l at (in_phase phase piece)) e
    ∙ (ap (λ p. set seen at (in_phase p piece)) (is ∙ ap change same)
    ∙ ap (λ (p : Piece). set seen at (in_phase (change p.phase) p)) it)
