use Rattle.st_watch.proofs.Course.{bounded-is-first, first-is-next}
use Rattle.st_watch.proofs.laws.first_above_is_next.Goals as goal

pub returns-clause-first : goal.returns-clause-first
returns-clause-first c = first-is-next

pub returns-clause-bounded : goal.returns-clause-bounded
returns-clause-bounded c = λ low log upto newest batch rises is. first-is-next low log newest batch rises (bounded-is-first low log upto newest batch rises is)
