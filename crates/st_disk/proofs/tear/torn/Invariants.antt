use Rattle.std.proofs.Common.{◌≡◌, ◌++◌, ℕ, List, drop}
use Rattle.rand_pcg.specs.Lcg.{Lcg}
use Rattle.st_disk.specs.FileState.{FileState}
use Rattle.st_disk.specs.Left.{torn_from}
use Rattle.st_disk.proofs.tear.torn.Given as goal

abbrev pub invariant-loop-place : goal.invariant-loop-place
invariant-loop-place l =
    let file : FileState = record { synced = l.synced; seen = l.seen; written = l.written } in
    let rest : List ℕ × Lcg = torn_from file l.place (drop l.place l.seen) l.words in
    let all : List ℕ × Lcg = (l.left.items ++ rest.0, rest.1) in all ≡ torn_from file 0 l.seen l.initial.words
