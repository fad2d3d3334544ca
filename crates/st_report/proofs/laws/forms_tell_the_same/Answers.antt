use Rattle.st_report.proofs.Untraced.{the_same}
use Rattle.st_report.proofs.laws.forms_tell_the_same.Goals as goal

pub returns : goal.returns
returns c = the_same
