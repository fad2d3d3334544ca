use Rattle.std.proofs.Common.{[], sym}
use Rattle.st_fold.specs.Map.{batches_to}
use Rattle.st_fold.specs.Effects.{after_batches}
use Rattle.st_fold.proofs.value.value_to.Goals as goal

pub loop-batch-init : goal.loop-batch-init
loop-batch-init c = sym (after_batches c.args.key.now [] (batches_to c.args.version c.args.log.now))
