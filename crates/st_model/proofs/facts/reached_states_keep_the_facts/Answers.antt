use Rattle.st_model.proofs.Reached.{reached, reached_at}
use Rattle.st_model.proofs.facts.reached_states_keep_the_facts.Goals as goal

pub returns : goal.returns
returns c = record {
  last = λ given opening trace state rises sound legal. reached given opening trace state 0 rises sound legal;
  places = reached_at;
}
