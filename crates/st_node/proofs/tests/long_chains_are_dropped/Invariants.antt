use Rattle.st_node.proofs.tests.long_chains_are_dropped.Given as goal

-- the ledgers are the new ones
abbrev pub ghosts-chain : goal.ghosts-chain
ghosts-chain a = record { name = a.blank.name; parts = a.blank.parts }
