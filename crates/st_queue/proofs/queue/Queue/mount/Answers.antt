use Rattle.std.proofs.Common.{None, refl}
use Rattle.st_queue.specs.declared.state.State.{State}
use Rattle.st_queue.proofs.Appends.{told-settled}
use Rattle.st_queue.proofs.Held.{holds-mounted}
use Rattle.st_queue.proofs.queue.Queue.mount.Goals as goal

pub invariant_of-result : goal.invariant_of-result
invariant_of-result g c =
    holds-mounted _ _ c.in-Ok.reading _ c.in-Ok.ensures.synced c.in-Ok.ensures.reads c.in-Ok.ensures.fits refl refl refl refl c.requires.limit

pub returns-in-Ok-clause-stands : goal.returns-in-Ok-clause-stands
returns-in-Ok-clause-stands g c =
    let state : State = record {
      current = c.in-Ok.reading.current;
      prepared = None;
      unshut = c.in-Ok.reading.unshut;
      older = c.in-Ok.reading.older;
      discarded = 0;
      broken = None;
      swap = c.args.swap;
      limit = c.args.limit;
    } in
    told-settled _ _ ((holds-mounted _ _ c.in-Ok.reading state c.in-Ok.ensures.synced c.in-Ok.ensures.reads c.in-Ok.ensures.fits refl refl refl refl c.requires.limit).settled refl)
