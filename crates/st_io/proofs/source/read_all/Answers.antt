use Rattle.std.proofs.Common.{◌≡◌, ℕ, ◌+◌, List, ◌++◌, Option, refl, sym, ap, ◌∙◌, append-nil, [], ◌∷◌, None, Some, arith, rules, length, length-append}
use Rattle.std.specs.Io.KnownBytes.{Consumes, IsAtEnd}
use Rattle.std.proofs.KnownBytes.{Consumes-trans}
use Rattle.std.proofs.lemmas.List.{places}
use Rattle.std.proofs.lemmas.Result.{err_from_is_err_and}
use Rattle.st_io.specs.Source.{Takes, TakesAll}
use Rattle.st_io.proofs.source.read_all.Goals as goal

-- two takings, one after the other
Takes-two : (a b c : Option (List ℕ)) (xs ys : List ℕ) (n m : ℕ) → length xs ≡ n → m ≡ length ys
    → Consumes a b xs → Consumes b c ys → Takes a c (n + m)
Takes-two a b c xs ys n m n_is m_is first second =
    (xs ++ ys, omega (arith, length-append xs ys), Consumes-trans a b c xs ys first second)

-- a taking of nothing more, at the end, leaves nothing
TakesAll-at_end : (a b c : Option (List ℕ)) (xs ys : List ℕ) → length ys ≡ 0 → Consumes a b xs → Consumes b c ys → IsAtEnd c → TakesAll a c xs
TakesAll-at_end None b c xs ys none first second end = tt
TakesAll-at_end (Some u) None c xs ys none first second end = absurd first
TakesAll-at_end (Some u) (Some v) None xs ys none first second end = absurd second
TakesAll-at_end (Some u) (Some v) (Some w) xs (y ∷ ys) none first second end = absurd (omega (arith, none))
TakesAll-at_end (Some u) (Some v) (Some w) xs [] none first second end =
    (sym (first ∙ ap (λ l. xs ++ l) (second ∙ end) ∙ append-nil xs), ap Some end)

pub returns-then-n-eq0-clause-all : goal.returns-then-n-eq0-clause-all
returns-then-n-eq0-clause-all g c =
    let kept = c.loop-n.invariant in
    let read = c.in-Ok.ensures in
    let none = c.if-n-eq0.true in
    TakesAll-at_end _ _ _ _ _ (omega (arith, read.bound.1)) kept.2 read.bytes.0 (read.bytes.1 none (search (rules, places)))

pub returns-then-n-spare-clause-given_up : goal.returns-then-n-spare-clause-given_up
returns-then-n-spare-clause-given_up g c =
    let kept = c.loop-n.invariant in
    let read = c.in-Ok.ensures in
    let len : length c.loop-n.bytes.items ≡ c.loop-n.bytes.len = search (rules, places) in
    ((c.loop-n.bytes.len + c.in-Ok.n, omega arith, Takes-two _ _ _ _ _ _ _ len read.bound.1 kept.2 read.bytes.0), refl)

pub returns-in_err-extend_from_slice-clause-given_up :
    goal.returns-in_err-extend_from_slice-clause-given_up
returns-in_err-extend_from_slice-clause-given_up g c =
    let gave_up = err_from_is_err_and c.from_residual-in_err-extend_from_slice.result c.from_residual-in_err-extend_from_slice.ensures.1 in
    let kept = c.loop-n.invariant in
    let read = c.in-Ok.ensures in
    let len : length c.loop-n.bytes.items ≡ c.loop-n.bytes.len = search (rules, places) in
    rw (gave_up.1, gave_up.2) (c.loop-n.bytes.len + c.in-Ok.n, omega arith, Takes-two _ _ _ _ _ _ _ len read.bound.1 kept.2 read.bytes.0)
