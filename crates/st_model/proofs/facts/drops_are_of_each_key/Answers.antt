use Rattle.st_model.proofs.Dropped.{drop_of, has_drop, dropped_keys}
use Rattle.st_model.proofs.facts.drops_are_of_each_key.Goals as goal

pub returns : goal.returns
returns c = record { of_moves = drop_of; by_moves = has_drop; spans = dropped_keys c.clip_is_the_part_inside.ensures.inside c.clip_is_the_part_inside.ensures.outside }
