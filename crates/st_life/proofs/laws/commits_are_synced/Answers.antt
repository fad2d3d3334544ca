use Rattle.st_life.proofs.Synced.{commits-lead, commits-synced}
use Rattle.st_life.proofs.laws.commits_are_synced.Goals as goal

pub returns : goal.returns
returns c = record { synced = commits-synced; files = commits-lead }
