use Rattle.st_versioned.proofs.Windows.{abandoned-begun, abandoned-mutated}
use Rattle.st_versioned.proofs.laws.abandoning_undoes.Goals as goal

pub returns-clause-begun : goal.returns-clause-begun
returns-clause-begun c = abandoned-begun

pub returns-clause-mutated : goal.returns-clause-mutated
returns-clause-mutated c = abandoned-mutated
