use Rattle.std.proofs.Common.{◌≡◌, drop}
use Rattle.st_script.specs.Fields.{number_of}
use Rattle.st_script.proofs.Numbers.{read_digits}
use Rattle.st_script.proofs.field.decimal.Given as goal

-- what is left to read gives the number of the whole word
abbrev pub invariant-loop-byte : goal.invariant-loop-byte
invariant-loop-byte l = number_of l.word ≡ read_digits l.number (drop l.byte-index l.word)
