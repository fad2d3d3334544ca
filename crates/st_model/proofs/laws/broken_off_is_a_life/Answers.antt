use Rattle.st_model.proofs.Plays.{breaks_off}
use Rattle.st_model.proofs.laws.broken_off_is_a_life.Goals as goal

pub returns : goal.returns
returns c = λ given plan life plain plain_life. breaks_off given plan plain plain_life life
