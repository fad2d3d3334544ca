use Rattle.st_life.proofs.Played.{only-life, only-lives}
use Rattle.st_life.proofs.laws.lives_are_the_only_ones.Goals as goal

pub returns : goal.returns
returns c = record { one = only-life; all = only-lives }
