use Rattle.std.proofs.Common.{sym, subst}
use Rattle.st_disk.specs.History.{seen}
use Rattle.st_life.specs.Play.{bounds_of}
use Rattle.st_run.specs.Opening.{FailsToOpen}
use Rattle.st_run.proofs.Files.{as-before, file-opens, if-told}
use Rattle.st_run.proofs.Refused.{refused-mount, refused-store}
use Rattle.st_run.proofs.opening.open.Goals as goal

pub returns-in-Err-clause-err : goal.returns-in-Err-clause-err
returns-in-Err-clause-err g c =
    subst (λ why. FailsToOpen g.D.Disk.history g.D.Disk.fault_count c.args.disk c.args.own.now c.args.log.now (record { disk = c.in-Err.field-0.disk; why = why })) (sym c.fault_of.ensures)
    (refused-mount g.D.Disk.history g.D.Disk.fault_count c.args.disk c.args.own.now c.args.log.now c.in-Err.field-0
    c.in-Err.ensures.err c.in-Err.ensures.cause c.in-Err.ensures.never_falls)

pub returns-in-Ok-read-clause-ok : goal.returns-in-Ok-read-clause-ok
returns-in-Ok-read-clause-ok g c =
    let engine = c.in-Ok.engine in
    let reads = as-before engine (g.D.Disk.history c.args.disk) (g.D.Disk.history engine.disk) c.in-Ok.ensures.ok.synced (c.in-Ok.ensures.agrees c.in-Ok.ensures.ok.unbroken) in
    record {
      mounted = c.in-Ok.ensures.ok;
      opens = c.in-Ok-read.ensures.ok;
      files =
          if-told (g.D.Disk.history c.args.disk)
          (λ h reads. file-opens c.files_open_as_they_mount.ensures c.args.own.now engine.store.fresh engine.store.pairs (seen h) reads _ c.in-Ok-read.ensures.ok.opens)
          reads;
      untouched = c.read.ensures.untouched;
    }

pub returns-in-Err-read-clause-err : goal.returns-in-Err-read-clause-err
returns-in-Err-read-clause-err g c =
    subst (λ (disk : g.row.D.Denot). FailsToOpen g.D.Disk.history g.D.Disk.fault_count c.args.disk c.args.own.now c.args.log.now (record { disk = disk; why = c.in-Err-read.why }))
    (sym c.dismount.ensures)
    (refused-store g.D.Disk.history g.D.Disk.fault_count c.args.disk c.args.own.now c.args.log.now c.files_open_as_they_mount.ensures (bounds_of c.args.settings.now)
    c.in-Ok.engine c.in-Ok.ensures.ok c.in-Ok.ensures.agrees c.in-Ok.ensures.no_fault c.in-Err-read.why c.in-Err-read.ensures.err)
