use Rattle.st_versioned.proofs.tests.a_forgotten_version_has_no_root.Given as goal

-- the ledger is the new one
abbrev pub ghosts-forget : goal.ghosts-forget
ghosts-forget g a = record { name = a.blank.name; parts = a.blank.parts }
