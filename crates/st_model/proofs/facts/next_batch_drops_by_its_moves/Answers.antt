use Rattle.st_model.proofs.Bits.{is_next}
use Rattle.st_model.proofs.Drops.{next_drops, none_dropped_between}
use Rattle.st_model.proofs.facts.next_batch_drops_by_its_moves.Goals as goal

pub returns : goal.returns
returns c = record {
  next = λ given state batch key rises next. next_drops given state.newest batch key (is_next given state.newest 0 batch rises next);
  none_between = λ given state batch version key rises next. none_dropped_between given state.newest batch version key (is_next given state.newest 0 batch rises next);
}
