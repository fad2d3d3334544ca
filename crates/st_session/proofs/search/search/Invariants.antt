use Rattle.st_session.proofs.search.search.Given as goal

-- the ledger is the new one
abbrev pub ghosts-search_in : goal.ghosts-search_in
ghosts-search_in a = record { name = a.blank.name; parts = a.blank.parts }
