use Rattle.st_model.proofs.Reached.{idle_by_key, idle_by_move}
use Rattle.st_model.proofs.facts.reached_keys_are_idle.Goals as goal

pub returns : goal.returns
returns c = record { phases = idle_by_key; moves = idle_by_move }
