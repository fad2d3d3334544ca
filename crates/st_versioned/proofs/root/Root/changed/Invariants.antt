use Rattle.st_versioned.proofs.root.Root.changed.Given as goal

-- the ledger is the new one
abbrev pub ghosts-changed_in : goal.ghosts-changed_in
ghosts-changed_in a = record { name = a.blank.name; parts = a.blank.parts }
