use Rattle.st_disk.specs.Recordings.{image-after_sync}
use Rattle.st_disk.proofs.laws.a_synced_file_has_one_image.Goals as goal

pub returns : goal.returns
returns c = image-after_sync
