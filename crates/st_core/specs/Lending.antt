-- A board that a server lends out.
use Rattle.std.specs.Borrow.{Fml, Lends, MutBor, RattleType}
use Rattle.st_board.specs.Stands.{Standing}
use Rattle.st_board.specs.contracts.board.Board.{the_row as board_row}
use Rattle.st_board.specs.declared.story.Story as story
use Rattle.st_core.specs.Server.{Serving}
use Rattle.st_core.specs.contracts.server.Server.{the_row}
use Rattle.st_disk.specs.declared.disk.Disk as disk

-- the server with this board
abbrev pub with_board : {D P : Type 0} → Serving D P → Standing → Serving D P
with_board server board = record server { board = board }

-- once the loan ends the server has the board that was left, and is else as it was
abbrev pub LendsBoard : (N D P : RattleType) → story.Ghosts N.Denot → disk.Ghosts D.Denot → MutBor (Serving D.Denot P.Denot) → MutBor Standing → Fml
LendsBoard N D P life told server board = Lends (the_row N D P life told) (board_row N life) server board (with_board server.now)
