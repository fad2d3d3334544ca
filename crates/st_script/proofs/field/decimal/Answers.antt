use Rattle.std.proofs.Common.{arith, rules, tests}
use Rattle.st_script.proofs.Numbers.{number_of_is}
use Rattle.st_script.proofs.field.decimal.Goals as goal

pub loop-byte-init : goal.loop-byte-init
loop-byte-init c = number_of_is c.args.word.now (search (rules, tests)) (omega arith)
