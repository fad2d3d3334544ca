use Rattle.st_board.specs.Rows.{row_given, row_opening, row_store}
use Rattle.st_life.proofs.tests.readers_are_polled_in_turn.Given as goal

-- the log is the two batches
abbrev pub ghosts-play : goal.ghosts-play
ghosts-play g a = record { given = row_given a.first.now a.second.now; opening = row_opening; store = row_store }
