use Rattle.st_model.proofs.Plays.{plays}
use Rattle.st_model.proofs.laws.play_is_a_life.Goals as goal

pub returns : goal.returns
returns c = λ given plan life plain plain_life. plays given plan plain plain_life life
