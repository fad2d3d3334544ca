use Rattle.std.proofs.Common.{◌≡◌, ◌+◌, ◌≤◌, length}
use Rattle.st_script.specs.Words.{lines}
use Rattle.st_script.specs.Reading.{script_of, judge_lines}
use Rattle.st_script.proofs.read.Given as goal

-- what is left to read, after the draft, makes the whole script
abbrev pub invariant-loop-rest : goal.invariant-loop-rest
invariant-loop-rest l = record {
  whole : script_of l.bytes ≡ judge_lines l.number l.draft (lines l.rest);
  counted : l.number + length l.rest ≤ 67108865;
}

abbrev pub decreases-loop-rest : goal.decreases-loop-rest
decreases-loop-rest l = length l.rest
