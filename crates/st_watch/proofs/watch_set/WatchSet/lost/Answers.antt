use Rattle.std.proofs.Common.{◌≡◌, ◌∙◌, List, length, map, ap, subst, sym}
use Rattle.std.specs.List.Sorted.{IsPermutation}
use Rattle.st_watch.specs.declared.entry.Entry.{Entry}
use Rattle.st_watch.specs.declared.entry.Standing.{Standing}
use Rattle.st_watch.specs.Layout.{IsDistinct, IsParted, with_change}
use Rattle.st_watch.specs.Watches.{after_loss}
use Rattle.st_watch.proofs.Numbers.{changed-count, changed-distinct}
use Rattle.st_watch.proofs.Sets.{filled, set-changed}
use Rattle.st_watch.proofs.watch_set.WatchSet.lost.Goals as goal

module _ (c : goal.After-self-2-1) where
  abbrev change : Standing → Standing
  change = after_loss c.args.range.now c.args.version

  abbrev old : List Entry
  old = c.self.inside.entries.items

  abbrev new : List Entry
  new = c.take_away-self-inside.new.entries

  moved : IsPermutation (map (with_change change) old) new
  moved = subst (λ l. IsPermutation (map (with_change change) l) new) c.deref_mut.ensures.value c.take_away-self-inside.ensures.moved

  whole : length new ≡ c.self.inside.entries.len
  whole = changed-count change old new c.self.invariant.1 moved ∙ ap length (sym c.deref_mut.ensures.value) ∙ c.deref_mut.ensures.len

pub invariant_of-self : goal.invariant_of-self
invariant_of-self c =
    subst (λ l. IsParted l c.take_away-self-inside.result × IsDistinct l) (sym (filled (new c) (old c) c.self.inside.entries.len (whole c)))
    (c.take_away-self-inside.ensures.parted, changed-distinct (change c) (old c) (new c) c.self.invariant.1 (moved c))

pub returns : goal.returns
returns c = set-changed (change c) c.self.inside.limit (old c) (new c) _ c.args.self.now c.self.view_is c.self.invariant.1 (moved c) (filled (new c) (old c) c.self.inside.entries.len (whole c))
