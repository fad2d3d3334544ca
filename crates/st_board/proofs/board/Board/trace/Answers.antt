use Rattle.std.proofs.Common.{subst}
use Rattle.st_board.specs.Stands.{StandsFor}
use Rattle.st_board.proofs.Standing.{stands-for}
use Rattle.st_board.proofs.board.Board.trace.Goals as goal

pub returns-clause-stands : goal.returns-clause-stands
returns-clause-stands g c =
    subst (StandsFor g.N.Story.given g.N.Story.opening g.N.Story.store) c.self.view_is (stands-for g.N.Story.given g.N.Story.opening g.N.Story.store _ c.self.invariant.0)
