use Rattle.std.proofs.Common.{◌≡◌, ◌∙◌, List, [], ◌∷◌, true, ap, sym, refl, not, filter, Some, None}
use Rattle.st_key.specs.Spans.{key_less}
use Rattle.st_ptree.specs.Entries.{pairs_of}
use Rattle.st_engine.specs.Replay.{Recovery, is_above}
use Rattle.st_engine.proofs.Cases.{on_ok}
use Rattle.st_engine.proofs.recovery.Recovery.clear_rest.Goals as goal

none : {X : Type 0} → (xs : List X) → [] ≡ filter (λ (_ : X). not true) xs
none [] = refl
none (x ∷ xs) = none xs

pub returns-in-None-clause-pairs : goal.returns-in-None-clause-pairs
returns-in-None-clause-pairs g c =
    let last : c.args.self.now.last ≡ None = sym (ap (λ (r : Recovery). r.last) c.self.view_is) ∙ c.in-None.is in
    ap pairs_of c.new.ensures ∙ none c.args.self.now.pairs ∙ (λ i. filter (λ pair. not (is_above (sym last i) pair.0)) c.args.self.now.pairs)

pub returns-in-Some-clause-pairs : goal.returns-in-Some-clause-pairs
returns-in-Some-clause-pairs g c =
    let last : c.args.self.now.last ≡ Some c.in-Some.last = sym (ap (λ (r : Recovery). r.last) c.self.view_is) ∙ c.in-Some.is in
    on_ok c.clear_above.result (λ is.
    is
    ∙ (λ i. filter (λ pair. not (key_less (c.as_slice.ensures i) pair.0)) (c.self.view_is i).pairs)
    ∙ (λ i. filter (λ pair. not (is_above (sym last i) pair.0)) c.args.self.now.pairs)) c.clear_above.ensures
