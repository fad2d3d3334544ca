use Rattle.std.proofs.Common.{◌≡◌, ◌∙◌, ◌++◌, ◌∷◌, [], ℕ, List, not, filter, take, ap, sym, rules}
use Rattle.std.proofs.lemmas.List.{take_all, take_more}
use Rattle.st_key.specs.Spans.{Span, holds, within}
use Rattle.st_ptree.specs.Entries.{pairs_of, without_range}
use Rattle.st_restart.specs.Opened.{stored_keys}
use Rattle.st_restart.proofs.Available.{kept-all, on-ok, taken-more}
use Rattle.st_restart.proofs.reopening.take_out.Goals as goal

pub loop-range-init : goal.loop-range-init
loop-range-init g c = sym (kept-all (pairs_of c.args.pairs.now))

pub loop-range-preserved : goal.loop-range-preserved
loop-range-preserved g c =
    let others = c.args.others.now in
    let at = c.loop-range.range-index in
    let range = c.range-item.result in
    let erased : c.erase.new.self ≡ without_range c.loop-range.pairs range.begin range.end = search rules in
    ap pairs_of erased
    ∙ c.pairs_are_a_map.ensures.kept c.loop-range.pairs (λ key. not (within range key))
    ∙ ap (filter (λ (pair : List ℕ × List ℕ). not (within range pair.0))) c.loop-range.invariant
    ∙ taken-more (take at others) range (pairs_of c.args.pairs.now)
    ∙ ap (λ (spans : List Span). filter (λ (pair : List ℕ × List ℕ). not (holds spans pair.0)) (pairs_of c.args.pairs.now))
    (sym (take_more others at range c.loop-range-test.true ∙ ap (λ (r : Span). take at others ++ r ∷ []) (sym c.range-item.is)))

pub returns : goal.returns
returns g c =
    let others = c.args.others.now in
    on-ok c.erase-2.result
    (λ erased.
    ap pairs_of erased
    ∙ c.pairs_are_a_map.ensures.kept c.loop-range.pairs (λ key. not (within stored_keys key))
    ∙ ap (filter (λ (pair : List ℕ × List ℕ). not (within stored_keys pair.0)))
    (c.loop-range.invariant
    ∙ ap (λ (spans : List Span). filter (λ (pair : List ℕ × List ℕ). not (holds spans pair.0)) (pairs_of c.args.pairs.now)) (take_all c.loop-range.range-index others c.loop-range-test.false)))
    c.erase-2.ensures.ok
