use Rattle.st_life.proofs.Synced.{rest-leaves, unserved-leaves}
use Rattle.st_life.proofs.laws.whole_lives_leave_their_commits.Goals as goal

pub returns : goal.returns
returns c = record { at_rest = rest-leaves; unserved = unserved-leaves }
