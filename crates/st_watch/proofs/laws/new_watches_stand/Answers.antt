use Rattle.st_watch.proofs.Course.{new-stands}
use Rattle.st_watch.proofs.laws.new_watches_stand.Goals as goal

pub returns : goal.returns
returns c = new-stands
