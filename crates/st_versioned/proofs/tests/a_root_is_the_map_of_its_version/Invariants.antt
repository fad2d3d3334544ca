use Rattle.st_versioned.proofs.tests.a_root_is_the_map_of_its_version.Given as goal

-- the ledger is the new one
abbrev pub ghosts-read_versions : goal.ghosts-read_versions
ghosts-read_versions g a = record { name = a.blank.name; parts = a.blank.parts }
