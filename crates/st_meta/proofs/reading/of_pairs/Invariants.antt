use Rattle.st_meta.proofs.reading.of_pairs.Given as goal

-- the ledger is the new one
abbrev pub ghosts-of_pairs_in : goal.ghosts-of_pairs_in
ghosts-of_pairs_in a = record { name = a.blank.name; parts = a.blank.parts }
