use Rattle.st_versioned.proofs.root.Root.above.Given as goal

-- the ledger is the new one
abbrev pub ghosts-above_in : goal.ghosts-above_in
ghosts-above_in a = record { name = a.blank.name; parts = a.blank.parts }
