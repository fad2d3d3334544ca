use Rattle.std.proofs.Common.{◌≡◌, false, true, drop, subst, sym, take}
use Rattle.std.specs.List.{AllByRecursion}
use Rattle.st_key.specs.Spans.{key_less}
use Rattle.st_watch.specs.declared.entry.Entry.{Entry}
use Rattle.st_watch.specs.Watches.{IsNextKey, NoNextKey, Watches}
use Rattle.st_watch.proofs.Sets.{next-found, next-none}
use Rattle.st_watch.proofs.watch_set.WatchSet.next_key.Goals as goal

pub returns-then-at-self : goal.returns-then-at-self
returns-then-at-self c =
    let inside = c.self.inside in
    let at = c.count_below-at.result in
    subst (λ (b : Watches). IsNextKey b c.args.key.now c.index.result.now.standing.key) c.self.view_is
    (next-found inside.limit inside.entries.items inside.waiting c.self.invariant.0 c.self.invariant.1 c.args.key.now at
    (subst (λ l. AllByRecursion (λ (e : Entry). key_less e.standing.key c.args.key.now ≡ true) (take at (take inside.waiting l))) c.deref.ensures.value c.count_below-at.ensures.first)
    c.index.result.now c.if-at-self.true (sym c.index.ensures)
    (subst (λ l. AllByRecursion (λ (e : Entry). key_less e.standing.key c.args.key.now ≡ false) (drop at (take inside.waiting l))) c.deref.ensures.value c.count_below-at.ensures.others))

pub returns-else-at-self : goal.returns-else-at-self
returns-else-at-self c =
    let inside = c.self.inside in
    let at = c.count_below-at.result in
    subst (λ (b : Watches). NoNextKey b c.args.key.now) c.self.view_is
    (next-none inside.limit inside.entries.items inside.waiting c.self.invariant.0 c.self.invariant.1 c.args.key.now at
    (subst (λ l. AllByRecursion (λ (e : Entry). key_less e.standing.key c.args.key.now ≡ true) (take at (take inside.waiting l))) c.deref.ensures.value c.count_below-at.ensures.first)
    c.if-at-self.false)
