use Rattle.st_demand.proofs.Plays.{breaks, plays}
use Rattle.st_demand.proofs.laws.schedules_are_demanded.Goals as goal

pub returns : goal.returns
returns c = λ _. record {
  played = λ stage life servable plan within played. plays stage servable plan within life played;
  broken = λ stage life servable plan within broke. breaks stage servable plan within life broke;
}
