use Rattle.st_ptree.proofs.iter.IterIterator.next.Given as goal

-- the ledger is the new one
abbrev pub ghosts-next_in : goal.ghosts-next_in
ghosts-next_in g a = record { name = a.blank.name; parts = a.blank.parts }
