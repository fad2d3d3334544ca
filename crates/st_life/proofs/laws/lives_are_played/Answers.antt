use Rattle.st_life.proofs.Played.{plays-out}
use Rattle.st_life.proofs.laws.lives_are_played.Goals as goal

pub returns : goal.returns
returns c = λ script plan before start patient rows numbered starts.
    plays-out script plan before start c.schedules_come_to_an_end.ensures patient rows numbered starts
