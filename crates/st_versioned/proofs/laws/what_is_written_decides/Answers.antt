use Rattle.st_versioned.proofs.Changes.{is-changed}
use Rattle.st_versioned.proofs.laws.what_is_written_decides.Goals as goal

pub returns-clause-decides : goal.returns-clause-decides
returns-clause-decides c = λ version change rows key apart has_key. (is-changed version change rows apart has_key).decides key

pub returns-clause-apart : goal.returns-clause-apart
returns-clause-apart c = λ version change rows apart has_key. (is-changed version change rows apart has_key).apart
