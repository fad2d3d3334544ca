use Rattle.st_meta.proofs.tests.map.Given as goal

-- the ledger is the new one
abbrev pub ghosts-map_in : goal.ghosts-map_in
ghosts-map_in a = record { name = a.blank.name; parts = a.blank.parts }
