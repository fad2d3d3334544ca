use Rattle.std.proofs.Common.{[], refl, subst}
use Rattle.st_engine.specs.Replay.{from_map}
use Rattle.st_engine.proofs.Sorted.{Sorted, sorted_frames}
use Rattle.st_engine.proofs.laws.mounted_maps_are_in_order.Goals as goal

pub returns : goal.returns
returns c = λ pairs files mounts. subst Sorted mounts.from_empty (sorted_frames mounts.frames (from_map []) refl)
