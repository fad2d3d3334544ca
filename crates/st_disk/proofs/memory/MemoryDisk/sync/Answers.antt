use Rattle.std.proofs.Common.{Some, refl, sym, ap, subst, ◌∙◌}
use Rattle.st_disk.specs.Recorded.{Recorded, history_of}
use Rattle.st_disk.specs.History.{risen, counted, after_sync}
use Rattle.st_disk.specs.declared.memory.Memory.TheInside.{Inside}
use Rattle.st_disk.proofs.Steps.{Steps, is_one, sync_zero, sync_one, sync_idle, clean_zero, clean_one}
use Rattle.st_disk.proofs.memory.MemoryDisk.sync.Goals as goal
use Rattle.st_disk.proofs.memory.MemoryDisk.sync.Goals.{then-file-eq0+then-self, then-file-eq0+else-self, else-file-eq0+then-self-2, else-file-eq0+else-self-2}

steps : (c : goal.After-self-2-1) → Steps c.self.inside (record c.if-file-eq0.self-inside { made = c.saturating_add-self-inside.result }) (after_sync c.args.file)
steps c =
    let m = c.self.inside in
    let made = c.saturating_add-self-inside.result in
    elim c.if-file-eq0.branch [
      | then-file-eq0+then-self w ↦
          subst (λ (j : Inside). Steps m (record j { made = made }) (after_sync c.args.file)) (sym w.self-inside-is)
          (sync_zero c.args.file (sym w.if-file-eq0.true) m _ c.self.invariant w.if-self.true w.push_reserved.ensures.items refl refl refl refl w.push_reserved.ensures.len w.push_reserved.ensures.capacity (c.saturating_add-self-inside.ensures ∙ ap (λ (j : Inside). risen j.made) w.self-inside-is))
      | then-file-eq0+else-self w ↦
          subst (λ (j : Inside). Steps m (record j { made = made }) (after_sync c.args.file)) (sym w.self-inside-is)
          (sync_idle 0 c.args.file (sym w.if-file-eq0.true) m _ c.self.invariant (clean_zero m c.self.invariant w.if-self.false) refl refl refl refl refl refl refl (c.saturating_add-self-inside.ensures ∙ ap (λ (j : Inside). risen j.made) w.self-inside-is))
      | else-file-eq0+then-self-2 w ↦
          subst (λ (j : Inside). Steps m (record j { made = made }) (after_sync c.args.file)) (sym w.self-inside-is)
          (sync_one c.args.file (is_one c.args.file c.requires w.if-file-eq0.false) m _ c.self.invariant w.if-self-2.true w.push_reserved-then-self-2.ensures.items refl refl refl refl w.push_reserved-then-self-2.ensures.len w.push_reserved-then-self-2.ensures.capacity (c.saturating_add-self-inside.ensures ∙ ap (λ (j : Inside). risen j.made) w.self-inside-is))
      | else-file-eq0+else-self-2 w ↦
          subst (λ (j : Inside). Steps m (record j { made = made }) (after_sync c.args.file)) (sym w.self-inside-is)
          (sync_idle 1 c.args.file (is_one c.args.file c.requires w.if-file-eq0.false) m _ c.self.invariant (clean_one m c.self.invariant w.if-self-2.false) refl refl refl refl refl refl refl (c.saturating_add-self-inside.ensures ∙ ap (λ (j : Inside). risen j.made) w.self-inside-is))
    ]

pub invariant_of-self : goal.invariant_of-self
invariant_of-self c = (steps c).kept

pub returns-clause-ok : goal.returns-clause-ok
returns-clause-ok c =
    ap (λ (h : _). Some h) ((steps c).told ∙ ap (λ (r : Recorded). counted (after_sync c.args.file (history_of r))) c.self.view_is)
