use Rattle.std.proofs.Common.{◌≡◌, false, drop, fold}
use Rattle.st_course.specs.Jobs.{clears_of}
use Rattle.st_key.specs.Parts.{without_span}
use Rattle.st_restart.proofs.reopening.unavailable.Given as goal

-- what is left when the pieces that are left are taken out too
abbrev pub invariant-loop-piece : goal.invariant-loop-piece
invariant-loop-piece l = fold without_span l.others (drop l.piece-index l.available) ≡ clears_of false l.available
