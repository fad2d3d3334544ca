use Rattle.std.proofs.Common.{◌≡◌, None, subst, sym}
use Rattle.st_watch.specs.Layout.{IsDistinct, IsParted}
use Rattle.st_watch.specs.Watches.{Watches, watch_of}
use Rattle.st_watch.proofs.Numbers.{more-distinct}
use Rattle.st_watch.proofs.Sets.{set-registered}
use Rattle.st_watch.proofs.watch_set.WatchSet.insert.Goals as goal

pub invariant_of-self : goal.invariant_of-self
invariant_of-self c = subst (λ l. IsParted l c.self.inside.waiting × IsDistinct l) (sym c.in_err-self-inside.ensures.err) c.self.invariant

pub invariant_of-self-2 : goal.invariant_of-self-2
invariant_of-self-2 c = (
  c.in_ok-self-inside.ensures.parted,
  more-distinct c.args.entry c.self.inside.entries.items c.put_in.new.entries.items c.self.invariant.1
      (subst (λ (b : Watches). watch_of b c.args.entry.id ≡ None) (sym c.self.view_is) c.requires) c.in_ok-self-inside.ensures.moved,
)

pub returns-clause-ok : goal.returns-clause-ok
returns-clause-ok c =
    set-registered c.self.inside.limit c.args.entry c.self.inside.entries.items c.put_in.new.entries.items c.args.self.now c.self.view_is c.self.invariant.1 c.requires
    c.in_ok-self-inside.ensures.moved
