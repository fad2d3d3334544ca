use Rattle.st_model.proofs.Acts.{made, not_made}
use Rattle.st_model.proofs.facts.acts_make_steps.Goals as goal

pub returns : goal.returns
returns c = record { made = made; not_made = not_made }
