use Rattle.st_restart.proofs.tests.value.Given as goal

-- the ledger is the new one
abbrev pub ghosts-value_in : goal.ghosts-value_in
ghosts-value_in a = record { name = a.blank.name; parts = a.blank.parts }
