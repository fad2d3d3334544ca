use Rattle.std.proofs.Common.{◌||◌, not, Bool, Some, length, refl, sym, ap, subst, ◌∙◌, arith}
use Rattle.st_disk.specs.Recorded.{Recorded, history_of}
use Rattle.st_disk.specs.History.{risen, counted, after_write}
use Rattle.st_disk.specs.declared.memory.Memory.TheInside.{Inside}
use Rattle.st_disk.proofs.Told.{reads_zero, reads_one}
use Rattle.st_disk.proofs.Steps.{Steps, is_one, write_zero, write_one}
use Rattle.st_disk.proofs.memory.MemoryDisk.write_at.Goals as goal
use Rattle.st_disk.proofs.memory.MemoryDisk.write_at.Goals.{then-file-eq0+in_ok-write, else-file-eq0+in_ok-write-2}

pub write-requires : goal.write-requires
write-requires c =
    let begins = c.requires.begins _ refl in
    omega (arith, begins, ap length (reads_zero c.self.inside c.self.invariant c.args.self.now c.self.view_is c.args.file c.if-file-eq0.true))

pub write-requires-else-file-eq0 : goal.write-requires-else-file-eq0
write-requires-else-file-eq0 c =
    let begins = c.requires.begins _ refl in
    omega (arith, begins, ap length (reads_one c.self.inside c.self.invariant c.args.self.now c.self.view_is c.args.file c.if-file-eq0.false))

steps : (c : goal.After-self-2-1) → Steps c.self.inside (record c.if-file-eq0.self-inside { made = c.saturating_add-self-inside.result }) (after_write c.args.file c.args.at c.args.bytes.now)
steps c =
    let m = c.self.inside in
    let made = c.saturating_add-self-inside.result in
    let at = c.args.at in
    let bytes = c.args.bytes.now in
    let begins = c.requires.begins _ refl in
    elim c.if-file-eq0.branch [
      | then-file-eq0+in_ok-write w ↦
          let reads = reads_zero m c.self.invariant c.args.self.now c.self.view_is c.args.file w.if-file-eq0.true in
          subst (λ (j : Inside). Steps m (record j { made = made }) (after_write c.args.file at bytes)) (sym w.self-inside-is)
          (write_zero c.args.file (sym w.if-file-eq0.true) m _ at bytes c.self.invariant (omega (arith, begins, ap length reads)) w.in_ok-write.ensures.entry w.in_ok-write.ensures.ok refl (ap (λ (b : Bool). m.zero_unsynced || not b) w.is_empty.ensures) refl w.in_ok-write.ensures.room (c.saturating_add-self-inside.ensures ∙ ap (λ (j : Inside). risen j.made) w.self-inside-is))
      | else-file-eq0+in_ok-write-2 w ↦
          let reads = reads_one m c.self.invariant c.args.self.now c.self.view_is c.args.file w.if-file-eq0.false in
          subst (λ (j : Inside). Steps m (record j { made = made }) (after_write c.args.file at bytes)) (sym w.self-inside-is)
          (write_one c.args.file (is_one c.args.file c.requires.file w.if-file-eq0.false) m _ at bytes c.self.invariant (omega (arith, begins, ap length reads)) w.in_ok-write-2.ensures.entry w.in_ok-write-2.ensures.ok refl (ap (λ (b : Bool). m.one_unsynced || not b) w.is_empty-else-file-eq0.ensures) refl w.in_ok-write-2.ensures.room (c.saturating_add-self-inside.ensures ∙ ap (λ (j : Inside). risen j.made) w.self-inside-is))
    ]

pub invariant_of-self-2 : goal.invariant_of-self-2
invariant_of-self-2 c = (steps c).kept

pub returns-clause-ok : goal.returns-clause-ok
returns-clause-ok c =
    ap (λ (h : _). Some h) ((steps c).told ∙ ap (λ (r : Recorded). counted (after_write c.args.file c.args.at c.args.bytes.now (history_of r))) c.self.view_is)
