use Rattle.st_ptree.proofs.Nearest.{first-least, last-greatest}
use Rattle.st_ptree.proofs.laws.neighbours_are_nearest.Goals as goal

pub returns : goal.returns
returns g c = record {
  least = λ entries keeps ordered. first-least keeps entries ordered;
  greatest = λ entries keeps ordered. last-greatest keeps entries ordered;
}
