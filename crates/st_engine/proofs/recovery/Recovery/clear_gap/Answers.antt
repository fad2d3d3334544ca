use Rattle.std.proofs.Common.{◌≡◌, ◌∙◌, ◌++◌, ◌&&◌, [], ◌∷◌, ap, sym, not, filter, Some, None}
use Rattle.st_key.specs.Spans.{key_less}
use Rattle.st_ptree.specs.Entries.{pairs_of, within}
use Rattle.st_engine.specs.Replay.{Recovery, is_above}
use Rattle.st_engine.proofs.Cases.{on_ok}
use Rattle.st_engine.proofs.Gaps.{above_after, none_below}
use Rattle.st_engine.proofs.recovery.Recovery.clear_gap.Goals as goal

pub returns-in-None-clause-pairs : goal.returns-in-None-clause-pairs
returns-in-None-clause-pairs g c =
    let end = c.args.key.now in
    let none : c.args.self.now.last ≡ None = sym (ap (λ (r : Recovery). r.last) c.self.view_is) ∙ c.in-None.is in
    on_ok c.erase.result (λ is.
    ap pairs_of is
    ∙ c.pairs_are_a_map.ensures.kept c.self.inside.pairs (λ key. not (within [] end key))
    ∙ (λ i. filter (λ pair. not (not (none_below pair.0 i) && key_less pair.0 end)) (c.self.view_is i).pairs)
    ∙ (λ i. filter (λ pair. not (is_above (sym none i) pair.0 && key_less pair.0 end)) c.args.self.now.pairs)) c.erase.ensures.ok

pub returns-in_ok-begin-in-Some-clause-pairs : goal.returns-in_ok-begin-in-Some-clause-pairs
returns-in_ok-begin-in-Some-clause-pairs g c =
    let end = c.args.key.now in
    let last = c.in-Some.last in
    let begin : c.deref.result.now ≡ last ++ 0 ∷ [] = c.deref.ensures.value ∙ c.in_ok-begin-in-Some.ensures ∙ ap (λ l. l ++ 0 ∷ []) c.as_slice.ensures in
    let some : c.args.self.now.last ≡ Some last = sym (ap (λ (r : Recovery). r.last) c.self.view_is) ∙ c.in-Some.is in
    on_ok c.erase-in-Some.result (λ is.
    ap pairs_of is
    ∙ c.pairs_are_a_map.ensures.kept c.self.inside.pairs (λ key. not (within c.deref.result.now end key))
    ∙ (λ i. filter (λ pair. not (not (key_less pair.0 (begin i)) && key_less pair.0 end)) (c.self.view_is i).pairs)
    ∙ (λ i. filter (λ pair. not (above_after last pair.0 i && key_less pair.0 end)) c.args.self.now.pairs)
    ∙ (λ i. filter (λ pair. not (is_above (sym some i) pair.0 && key_less pair.0 end)) c.args.self.now.pairs)) c.erase-in-Some.ensures.ok
