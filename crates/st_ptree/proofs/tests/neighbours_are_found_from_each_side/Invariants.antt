use Rattle.st_ptree.proofs.tests.neighbours_are_found_from_each_side.Given as goal

-- the ledger is the new one
abbrev pub ghosts-find_neighbours : goal.ghosts-find_neighbours
ghosts-find_neighbours g a = record { name = a.blank.name; parts = a.blank.parts }
