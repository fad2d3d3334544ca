use Rattle.std.proofs.Common.{refl}
use Rattle.st_life.specs.Readers.{IsAskable}
use Rattle.st_life.proofs.Merging.{all_merged}
use Rattle.st_life.proofs.readers.all_asked.Goals as goal

pub loop-request-init : goal.loop-request-init
loop-request-init c =
    rw c.new-asked.ensures.items (refl, tt, all_merged IsAskable c.args.asks.now c.args.lasts.now c.requires.asks c.requires.lasts)
