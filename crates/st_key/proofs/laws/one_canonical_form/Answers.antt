use Rattle.st_key.proofs.Canonical.{one_form}
use Rattle.st_key.proofs.laws.one_canonical_form.Goals as goal

pub returns : goal.returns
returns c = one_form
