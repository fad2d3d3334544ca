use Rattle.st_engine.proofs.tests.listed.Given as goal

-- the ledger is the new one
abbrev pub ghosts-listed_in : goal.ghosts-listed_in
ghosts-listed_in a = record { name = a.blank.name; parts = a.blank.parts }
