use Rattle.st_node.proofs.tests.a_node_tells_its_parts.Given as goal

-- the ledger is the new one
abbrev pub ghosts-tell_parts : goal.ghosts-tell_parts
ghosts-tell_parts g a = record { name = a.blank.name; parts = a.blank.parts }
