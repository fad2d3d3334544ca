use Rattle.st_versioned.proofs.tests.a_base_tells_what_a_root_does_not.Given as goal

-- the ledger is the new one
abbrev pub ghosts-read_over_base : goal.ghosts-read_over_base
ghosts-read_over_base g a = record { name = a.blank.name; parts = a.blank.parts }
