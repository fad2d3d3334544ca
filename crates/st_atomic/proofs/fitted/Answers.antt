use Rattle.std.proofs.Common.{rules}
use Rattle.st_atomic.proofs.Sweeps.{fit_made}
use Rattle.st_atomic.proofs.fitted.Goals as goal

pub returns : goal.returns
returns c =
    let made = fit_made c.args.bytes.now c.extend_from_slice.new.self.items c.args.len (search rules) in
    cc (made, c.in_ok-resize.ensures.items)
