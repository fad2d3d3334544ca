use Rattle.st_model.proofs.Walks.{next_step, reached}
use Rattle.st_model.proofs.laws.plain_steps_are_steps.Goals as goal

pub returns : goal.returns
returns c = record {
  leads = λ given plan steps plain life. (reached given plan plain life steps).0;
  goes_on = λ given plan steps plain life. next_step given plan plain life steps;
}
