use Rattle.st_session.specs.Rows.{row_given, row_opening, row_store}
use Rattle.st_session.proofs.tests.requests_are_answered_from_a_board.Given as goal

-- the log is the two batches
abbrev pub ghosts-play : goal.ghosts-play
ghosts-play g a = record { given = row_given a.first.now a.second.now; opening = row_opening; store = row_store }

-- the ledger is the new one
abbrev pub ghosts-base_of : goal.ghosts-base_of
ghosts-base_of g a = record { name = a.blank.name; parts = a.blank.parts }
