use Rattle.std.proofs.Common.{◌≡◌, ◌∙◌, Option, sym, subst}
use Rattle.st_board.specs.Base.{Store}
use Rattle.st_board.specs.Stands.{Standing}
use Rattle.st_core.specs.Lending.{with_board}
use Rattle.st_core.specs.Server.{Serves, Serving}
use Rattle.st_disk.specs.History.{History}
use Rattle.st_model.specs.State.{Given, Opening}
use Rattle.st_core.proofs.tests.play.Goals as goal

-- a board that comes back as it was
serves-again : {D P : Type 0} {given : Given} {opening : Opening} {store : Store} {told : D → Option History} {server : Serving D P} {board : Standing}
    → board ≡ server.board → Serves given opening store told server → Serves given opening store told (with_board server board)
serves-again {given = given} {opening = opening} {store = store} {told = told} {server = server} same serves =
    subst (λ board. Serves given opening store told (with_board server board)) (sym same) serves

pub due-requires-2 : goal.due-requires-2
due-requires-2 g c = record { serves = serves-again (c.newest_of.ensures ∙ c.board_mut.ensures.board) c.drive.ensures.serves }

pub drive-requires-2-clause-serves : goal.drive-requires-2-clause-serves
drive-requires-2-clause-serves g c = serves-again (c.newest_of.ensures ∙ c.board_mut.ensures.board) c.drive.ensures.serves
