use Rattle.st_ops.proofs.Fields.{Numbers}
use Rattle.st_ops.proofs.Payloads.{reading_again, one_payload}
use Rattle.st_ops.proofs.laws.one_spelling.Goals as goal

pub returns : goal.returns
returns c =
    let numbers : Numbers = record { put = c.put_is_taken.ensures; taken = c.taken_is_put.ensures } in
    record { read = reading_again numbers; one = one_payload numbers }
