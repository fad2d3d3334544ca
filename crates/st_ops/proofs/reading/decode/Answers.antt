use Rattle.std.proofs.Common.{arith}
use Rattle.st_ops.proofs.Breaks.{is_broken}
use Rattle.st_ops.proofs.Payloads.{is_found, is_only}
use Rattle.st_ops.proofs.reading.decode.Goals as goal

pub returns-clause-found : goal.returns-clause-found
returns-clause-found c =
    is_found (record { put = c.put_is_taken.ensures; taken = c.taken_is_put.ensures }) c.args.bytes.now _ (λ i. omega (arith, c.type_inv.bytes i)) c.read.ensures

pub returns-clause-only : goal.returns-clause-only
returns-clause-only c = is_only (record { put = c.put_is_taken.ensures; taken = c.taken_is_put.ensures }) c.args.bytes.now _ c.read.ensures

pub returns-clause-broken : goal.returns-clause-broken
returns-clause-broken c =
    is_broken (record { put = c.put_is_taken.ensures; taken = c.taken_is_put.ensures }) c.args.bytes.now _ (λ i. omega (arith, c.type_inv.bytes i)) c.read.ensures
