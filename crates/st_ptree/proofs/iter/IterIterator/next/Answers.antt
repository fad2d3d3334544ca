use Rattle.std.proofs.Common.{rules, ◌≡◌, ◌∙◌, ◌<◌, ℕ, List, ◌∷◌, Option, Some, length, arith, ap, sym, subst}
use Rattle.std.specs.Option.{option_map}
use Rattle.st_ptree.specs.Going.{pairs_from}
use Rattle.st_ptree.proofs.Going.{above_from}
use Rattle.st_ptree.proofs.iter.IterIterator.next.Goals as goal

pub returns-clause-steps : goal.returns-clause-steps
returns-clause-steps g c =
    let map = c.self.inside.map.now in
    let pair : List ℕ × g.row.T.Denot = (c.in_ok-found.found.0.now, c.in_ok-found.found.1.now) in
    let here : option_map (λ f. (f.0.now, f.1.now)) c.self.inside.next ≡ Some pair = search rules in
    let next = option_map (λ f. (f.0.now, f.1.now)) c.next_in-self-inside.result in
    sym c.self.view_is
    ∙ ap (λ (o : Option _). pairs_from o map) here
    ∙ ap (λ (l : List _). pair ∷ l) (sym (above_from pair.0 map next c.next_in-self-inside.ensures.ordered c.next_in-self-inside.ensures.value))

pub returns-clause-goes : goal.returns-clause-goes
returns-clause-goes g c =
    record {
      on = λ _. (tt, tt, subst (λ (l : List _). length (pairs_from (option_map (λ f. (f.0.now, f.1.now)) c.next_in-self-inside.result) c.self.inside.map.now) < length l) (sym (returns-clause-steps g c)) (omega arith));
      keeps = tt;
      rests = λ _. tt;
    }
