use Rattle.st_versioned.proofs.Forgetting.{decided-above}
use Rattle.st_versioned.proofs.laws.decisions_above_stay.Goals as goal

pub returns : goal.returns
returns c = λ version rows key apart. decided-above version rows apart key
