use Rattle.std.proofs.Common.{[]}
use Rattle.st_fold.specs.Map.{batches_to}
use Rattle.st_fold.specs.Effects.{after_one, after_all, after_batches}
use Rattle.st_fold.proofs.laws.keys_change_by_themselves.Goals as goal

pub returns : goal.returns
returns c = record {
  mutation = λ pairs mutation key. after_one key pairs mutation;
  batch = λ pairs batch key. after_all key pairs batch.mutations;
  log = λ log version key. after_batches key [] (batches_to version log);
}
