use Rattle.st_demand.proofs.Holding.{trace_holds}
use Rattle.st_demand.proofs.laws.served_states_hold_all_keys.Goals as goal

pub returns : goal.returns
returns c = λ given opening trace state servable after. trace_holds given opening servable trace state after
