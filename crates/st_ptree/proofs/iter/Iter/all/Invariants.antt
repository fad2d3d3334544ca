use Rattle.st_ptree.proofs.iter.Iter.all.Given as goal

-- the ledger is the new one
abbrev pub ghosts-first_in : goal.ghosts-first_in
ghosts-first_in g a = record { name = a.blank.name; parts = a.blank.parts }
