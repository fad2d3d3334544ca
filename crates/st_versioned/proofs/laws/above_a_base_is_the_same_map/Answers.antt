use Rattle.st_versioned.proofs.Bottoms.{above-same}
use Rattle.st_versioned.proofs.laws.above_a_base_is_the_same_map.Goals as goal

pub returns : goal.returns
returns c = λ version rows base key apart same. above-same version rows base key apart same
