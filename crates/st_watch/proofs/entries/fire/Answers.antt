use Rattle.std.proofs.Common.{◌∙◌, ap, arith, set, sym}
use Rattle.std.proofs.lemmas.Bool.{false≢true}
use Rattle.std.proofs.lemmas.List.{set-get_or}
use Rattle.std.specs.Option.{option_copied}
use Rattle.st_watch.specs.Layout.{after_value, with_change}
use Rattle.st_watch.proofs.Lists.{mapped-next}
use Rattle.st_watch.proofs.entries.fire.Goals as goal
use Rattle.st_watch.proofs.entries.fire.Goals.{then-fire_one, else-fire_one}

pub loop-entry-preserved : goal.loop-entry-preserved
loop-entry-preserved c =
    let at = c.loop-entry.entry-index in
    record {
      fired = ap (set c.loop-entry.entries at) c.fire_one.ensures.fired
          ∙ mapped-next (with_change (after_value (option_copied c.args.now) c.args.version)) c.args.entries.now c.loop-entry.entries at _ c.entry-item.result
          (omega arith) (omega arith) c.loop-entry.invariant.fired;
      none = λ is. elim c.if-fire_one.branch [
        | then-fire_one w ↦ absurd (false≢true (sym is ∙ w.any-is))
        | else-fire_one w ↦
            ap (set c.loop-entry.entries at) (c.fire_one.ensures.none w.if-fire_one.false)
            ∙ set-get_or c.loop-entry.entries at _
            ∙ c.loop-entry.invariant.none (sym w.any-is ∙ is)
      ];
    }
