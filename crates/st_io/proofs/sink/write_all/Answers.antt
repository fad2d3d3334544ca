use Rattle.std.proofs.Common.{arith, length-drop}
use Rattle.std.proofs.KnownBytes.{Appends-trans}
use Rattle.std.proofs.Math.Seq.{take-add}
use Rattle.std.proofs.lemmas.List.{take_rest}
use Rattle.st_io.proofs.sink.write_all.Goals as goal

pub loop-done-preserved : goal.loop-done-preserved
loop-done-preserved g c =
    let kept = c.loop-done.invariant in
    let write = c.in-Ok.ensures in
    let bytes = c.args.bytes.now in
    let done = c.loop-done.done in
    let appended = rw (take_rest bytes done) at write.bytes in
    (omega (arith, length-drop done bytes, write.bound), rw (take-add done c.in-Ok.n bytes) (Appends-trans _ _ _ _ _ kept.1 appended), omega (arith, write.never_falls))
