use Rattle.std.proofs.Common.{◌≡◌, ◌<◌, ◌∙◌, ap, sym, subst, not, rules, length, is_some}
use Rattle.std.proofs.lemmas.Bool.{false≢true}
use Rattle.st_key.specs.Spans.{key_less}
use Rattle.st_ptree.specs.Entries.{found, pairs_of, same}
use Rattle.st_engine.specs.Replay.{kept_to}
use Rattle.st_engine.proofs.Above.{first-found, fewer, kept-without, none-above}
use Rattle.st_engine.proofs.Cases.{if_ok, on_if, on_ok}
use Rattle.st_engine.proofs.recovery.remove_next.Goals as goal

pub returns-in_default-clause-none : goal.returns-in_default-clause-none
returns-in_default-clause-none g c = λ _. none-above c.pairs_are_a_map.ensures.kept c.args.last.now c.args.pairs.now c.in_default.ensures.value

pub returns-clause-kept : goal.returns-clause-kept
returns-clause-kept g c =
    let last = c.args.last.now in
    let key = c.as_slice.result.now in
    let one : key ≡ c.in-Some.key.now = search rules in
    let there = first-found last c.in-Some.key.now c.in-Some.field-0-1.now c.args.pairs.now c.in-Some.ensures.value in
    on_ok c.remove.result (λ is.
    ap (kept_to last) (ap pairs_of is ∙ c.pairs_are_a_map.ensures.kept c.args.pairs.now (λ k. not (same key k)))
    ∙ kept-without last key (pairs_of c.args.pairs.now) (ap (key_less last) one ∙ there.0)) c.remove.ensures.ok

pub returns-clause-fewer : goal.returns-clause-fewer
returns-clause-fewer g c =
    let key = c.as_slice.result.now in
    let one : key ≡ c.in-Some.key.now = search rules in
    let there = first-found c.args.last.now c.in-Some.key.now c.in-Some.field-0-1.now c.args.pairs.now c.in-Some.ensures.value in
    on_if c.remove.result (λ was_there is _. subst (λ es. length es < length c.args.pairs.now) (sym is) (fewer key c.args.pairs.now (ap (λ k. is_some (found k c.args.pairs.now)) one ∙ there.1))) c.remove.ensures.ok

pub returns-clause-none : goal.returns-clause-none
returns-clause-none g c =
    let key = c.as_slice.result.now in
    let one : key ≡ c.in-Some.key.now = search rules in
    let there = first-found c.args.last.now c.in-Some.key.now c.in-Some.field-0-1.now c.args.pairs.now c.in-Some.ensures.value in
    if_ok c.remove.result (λ was_there is gone. absurd (false≢true (sym gone ∙ is ∙ ap (λ k. is_some (found k c.args.pairs.now)) one ∙ there.1))) c.remove.ensures.told
