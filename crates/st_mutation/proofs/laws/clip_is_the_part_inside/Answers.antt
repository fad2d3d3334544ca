use Rattle.st_mutation.proofs.Parts.{inside_part, outside_part}
use Rattle.st_mutation.proofs.laws.clip_is_the_part_inside.Goals as goal

pub returns-clause-inside : goal.returns-clause-inside
returns-clause-inside c = inside_part

pub returns-clause-outside : goal.returns-clause-outside
returns-clause-outside c = outside_part
