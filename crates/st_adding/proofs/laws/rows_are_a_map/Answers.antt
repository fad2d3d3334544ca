use Rattle.st_adding.proofs.Handed.{forgotten_at, forgotten_rises, handed_at, handed_rises}
use Rattle.st_adding.proofs.laws.rows_are_a_map.Goals as goal

pub returns-clause-handed : goal.returns-clause-handed
returns-clause-handed c rows pairs key = handed_at rows pairs key

pub returns-clause-handed_rise : goal.returns-clause-handed_rise
returns-clause-handed_rise c rows pairs rise = handed_rises rows pairs rise

pub returns-clause-forgotten : goal.returns-clause-forgotten
returns-clause-forgotten c span pairs key = forgotten_at span pairs key

pub returns-clause-forgotten_rise : goal.returns-clause-forgotten_rise
returns-clause-forgotten_rise c span pairs rise = forgotten_rises span pairs rise
