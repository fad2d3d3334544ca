use Rattle.std.proofs.Common.{subst}
use Rattle.st_queue.specs.Reading.{IsReading}
use Rattle.st_queue.proofs.Syncs.{mount-answers}
use Rattle.st_queue.proofs.mounting.read_disk.Goals as goal

pub returns-clause-reads : goal.returns-clause-reads
returns-clause-reads g c =
    mount-answers _ (g.D.Disk.history c.sync_both.new.disk) (g.D.Disk.history c.read_whole.new.disk) c.in_ok-sync_both.ensures.ok c.in_ok-zero.ensures.same c.in_ok-zero.zero.items c.in_ok-one.one.items
    c.in_ok-zero.ensures.ok c.in_ok-one.ensures.ok c.read_files.result
    (subst (λ (z : _). IsReading (z, c.in_ok-one.one.items) c.read_files.result) c.deref.ensures.value (subst (λ (o : _). IsReading (c.deref.result.now, o) c.read_files.result) c.deref-2.ensures.value c.read_files.ensures.reads))
