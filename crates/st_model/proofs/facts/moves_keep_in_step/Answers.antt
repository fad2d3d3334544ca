use Rattle.st_model.proofs.Moves.{step_move, moved_key}
use Rattle.st_model.proofs.facts.moves_keep_in_step.Goals as goal

pub returns : goal.returns
returns c = record { step = step_move; phases = moved_key }
