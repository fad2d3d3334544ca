use Rattle.st_ptree.proofs.tests.a_change_is_none_of_a_sharer.Given as goal

-- the ledger is the new one
abbrev pub ghosts-share_and_change : goal.ghosts-share_and_change
ghosts-share_and_change g a = record { name = a.blank.name; parts = a.blank.parts }
