use Rattle.st_model.proofs.Reached.{fresh_sound, next_sound}
use Rattle.st_model.proofs.facts.openings_are_sound.Goals as goal

pub returns : goal.returns
returns c = record { fresh = fresh_sound; next = next_sound }
