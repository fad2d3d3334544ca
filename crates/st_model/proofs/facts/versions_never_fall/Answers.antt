use Rattle.st_model.proofs.Counts.{never_fell}
use Rattle.st_model.proofs.facts.versions_never_fall.Goals as goal

pub returns : goal.returns
returns c = never_fell
