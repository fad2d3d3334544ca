use Rattle.st_watch.proofs.Course.{keeps-value}
use Rattle.st_watch.proofs.laws.waiting_keeps_its_value.Goals as goal

pub returns : goal.returns
returns c = keeps-value
