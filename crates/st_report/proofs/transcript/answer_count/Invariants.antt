use Rattle.std.proofs.Common.{◌≡◌, length, take}
use Rattle.std.specs.List.{sum_by}
use Rattle.st_report.proofs.transcript.answer_count.Given as goal

-- the answers of the lives so far
abbrev pub invariant-loop-life : goal.invariant-loop-life
invariant-loop-life l = l.count ≡ sum_by (λ life. length life.answers) (take l.life-index l.lives)
