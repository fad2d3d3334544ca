use Rattle.st_ops.proofs.Parts.{joined, parted}
use Rattle.st_ops.proofs.laws.form_of_parts.Goals as goal

pub returns : goal.returns
returns c = record { joined = joined; parted = parted }
