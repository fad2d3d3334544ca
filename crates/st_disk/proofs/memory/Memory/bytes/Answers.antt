use Rattle.std.proofs.Common.{sym, ◌∙◌}
use Rattle.st_disk.proofs.Told.{reads_zero, reads_one}
use Rattle.st_disk.proofs.memory.Memory.bytes.Goals as goal

pub returns-then-file-eq0 : goal.returns-then-file-eq0
returns-then-file-eq0 c = c.deref.ensures.value ∙ sym (reads_zero c.self.inside c.self.invariant c.args.self.now c.self.view_is c.args.file c.if-file-eq0.true)

pub returns-else-file-eq0 : goal.returns-else-file-eq0
returns-else-file-eq0 c = c.deref-else-file-eq0.ensures.value ∙ sym (reads_one c.self.inside c.self.invariant c.args.self.now c.self.view_is c.args.file c.if-file-eq0.false)
