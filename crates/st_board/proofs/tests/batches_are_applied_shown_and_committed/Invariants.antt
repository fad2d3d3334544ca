use Rattle.st_board.specs.Rows.{row_given, row_opening, row_store}
use Rattle.st_board.proofs.tests.batches_are_applied_shown_and_committed.Given as goal

-- the log is the two batches
abbrev pub ghosts-play : goal.ghosts-play
ghosts-play g a = record { given = row_given a.first.now a.second.now; opening = row_opening; store = row_store }

-- the ledger is the new one
abbrev pub ghosts-base_of : goal.ghosts-base_of
ghosts-base_of g a = record { name = a.blank.name; parts = a.blank.parts }
