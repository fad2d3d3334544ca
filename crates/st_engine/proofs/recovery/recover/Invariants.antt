use Rattle.st_engine.proofs.recovery.recover.Given as goal

-- the ledger is the new one
abbrev pub ghosts-recover_in : goal.ghosts-recover_in
ghosts-recover_in a = record { name = a.blank.name; parts = a.blank.parts }
