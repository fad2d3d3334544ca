use Rattle.st_restart.proofs.reopening.opening_with.Given as goal

-- the ledger is the new one
abbrev pub ghosts-take_out : goal.ghosts-take_out
ghosts-take_out a = record { name = a.blank.name; parts = a.blank.parts }
