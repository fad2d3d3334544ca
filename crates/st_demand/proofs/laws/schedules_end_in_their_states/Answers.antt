use Rattle.st_demand.proofs.Plays.{breaks_to, plays_to}
use Rattle.st_demand.proofs.laws.schedules_end_in_their_states.Goals as goal

pub returns : goal.returns
returns c = λ _. record {
  played = λ stage life servable plan within plays. plays_to stage servable plan within life plays;
  broken = λ stage life servable plan within breaks. breaks_to stage servable plan within life breaks;
}
