use Rattle.std.proofs.Common.{◌∙◌, ◌++◌, ◌≤◌, List, ap, subst, sym}
use Rattle.std.specs.List.{AllByRecursion, flat_map}
use Rattle.st_adding.specs.Updates.{Update, batches_between, updates_from, updates_in}
use Rattle.st_adding.proofs.Logs.{drop_undoes, none_between, updates_more, updates_to}
use Rattle.st_adding.proofs.Parts.{below_lies, from_lies, updates_again}
use Rattle.st_adding.proofs.laws.held_updates_are_those_of_the_log.Goals as goal

pub returns-clause-fresh : goal.returns-clause-fresh
returns-clause-fresh c log piece at = ap (λ bs. updates_in piece (flat_map updates_from bs)) (sym (none_between at log))

pub returns-clause-held : goal.returns-clause-held
returns-clause-held c log before newest batch held rises le is now =
    ap (λ (us : List Update). us ++ updates_in held.piece (updates_from batch)) now ∙ updates_more log held.piece before held.at newest batch rises le is

pub returns-clause-below : goal.returns-clause-below
returns-clause-below c log newest key held under now =
    ap (updates_in (record { begin = held.piece.begin; end = key })) now
    ∙ updates_again _ held.piece (flat_map updates_from (batches_between held.at newest log)) (below_lies held.piece key under)

pub returns-clause-from : goal.returns-clause-from
returns-clause-from c log newest key held over now =
    ap (updates_in (record { begin = key; end = held.piece.end })) now
    ∙ updates_again _ held.piece (flat_map updates_from (batches_between held.at newest log)) (from_lies held.piece key over)

pub returns-clause-to_newest : goal.returns-clause-to_newest
returns-clause-to_newest c log newest held now =
    subst (λ (us : List Update). AllByRecursion (λ update. update.0 ≤ newest) us) (sym now) (updates_to log held.piece held.at newest)

pub returns-clause-undone : goal.returns-clause-undone
returns-clause-undone c newest batch held are lt = drop_undoes held newest batch are lt
