use Rattle.st_ptree.specs.Entries.{pairs_of}
use Rattle.st_versioned.specs.Root.{over}
use Rattle.st_board.specs.Storing.{making_root}
use Rattle.st_course.specs.Sent.{stored_as}
use Rattle.st_board.proofs.Going.{goes-stored}
use Rattle.st_board.proofs.storing.store.Goals as goal

pub returns-clause-going_on : goal.returns-clause-going_on
returns-clause-going_on g c =
    let window = c.args.window.now in
    goes-stored c.abandoning_undoes.ensures.changed c.abandoning_undoes.ensures.mutated c.store_as.result
    (stored_as c.args.mutation.now (over (making_root window) (pairs_of c.args.base.now))) window c.store_as.new.window
    c.requires.going_on c.store_as.ensures.ok c.store_as.ensures.stands c.store_as.ensures.err
