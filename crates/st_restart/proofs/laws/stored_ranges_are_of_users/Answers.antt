use Rattle.st_restart.proofs.Users.{ranges-users}
use Rattle.st_restart.proofs.laws.stored_ranges_are_of_users.Goals as goal

pub returns : goal.returns
returns c = λ spans key are held. ranges-users spans are key held
