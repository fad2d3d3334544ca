use Rattle.st_engine.proofs.snapshot.write.Given as goal

-- the ledger is the new one
abbrev pub ghosts-write_in : goal.ghosts-write_in
ghosts-write_in a = record { name = a.blank.name; parts = a.blank.parts }
