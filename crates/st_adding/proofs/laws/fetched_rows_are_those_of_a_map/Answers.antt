use Rattle.st_adding.proofs.Handed.{block_outside, folded_rises, goes_on, same_rows}
use Rattle.st_adding.proofs.laws.fetched_rows_are_those_of_a_map.Goals as goal

pub returns-clause-goes_on : goal.returns-clause-goes_on
returns-clause-goes_on c pairs whole begin middle end rise same none = goes_on pairs whole begin middle end rise same none

pub returns-clause-elsewhere : goal.returns-clause-elsewhere
returns-clause-elsewhere c pairs whole span key rise out = block_outside span whole pairs key rise out

pub returns-clause-same_rows : goal.returns-clause-same_rows
returns-clause-same_rows c span pairs whole rise whole_rises same = same_rows span pairs whole rise whole_rises same

pub returns-clause-folded : goal.returns-clause-folded
returns-clause-folded c log version = folded_rises log version
