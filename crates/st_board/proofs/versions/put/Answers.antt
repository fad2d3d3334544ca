use Rattle.std.proofs.Common.{◌∙◌, ap}
use Rattle.st_versioned.specs.Window.{abandoned}
use Rattle.st_board.proofs.versions.put.Goals as goal

pub returns-in-Err-clause-err : goal.returns-in-Err-clause-err
returns-in-Err-clause-err g c =
    c.abandon.ensures.abandoned
    ∙ c.store_all.ensures.going_on.undone
    ∙ ap abandoned c.in_ok-begin.ensures.ok
    ∙ c.abandoning_undoes.ensures.begun c.args.window.now c.args.batch.now.version c.making.ensures.stands c.requires.sealed
