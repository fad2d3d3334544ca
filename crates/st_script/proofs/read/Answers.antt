use Rattle.std.proofs.Common.{arith}
use Rattle.std.proofs.lemmas.Grind.{common_steps}
use Rattle.st_script.specs.Outcome.{Reads}
use Rattle.st_script.specs.Reading.{script_of}
use Rattle.st_script.proofs.Played.{playable-read}
use Rattle.st_script.proofs.read.Goals as goal

pub returns-clause-playable : goal.returns-clause-playable
returns-clause-playable c =
    let exact : Reads c.finish.result (script_of c.args.bytes.now) = grind (arith, common_steps) in
    playable-read c.finish.result c.args.bytes.now exact
