use Rattle.std.proofs.Common.{◌≡◌, ◌∙◌, None, Some, List, ap, is_some, refl, sym}
use Rattle.std.proofs.lemmas.Bool.{false≢true}
use Rattle.std.specs.List.{position}
use Rattle.st_watch.specs.declared.entry.Entry.{Entry}
use Rattle.st_watch.specs.Watches.{Watches, watch_of}
use Rattle.st_watch.proofs.Numbers.{by, less-distinct, less-known, some-entry, unknown-none}
use Rattle.st_watch.proofs.Sets.{set-released}
use Rattle.st_watch.proofs.watch_set.WatchSet.release.Goals as goal

module _ (c : goal.After-self-1) where
  abbrev old : List Entry
  old = c.self.inside.entries.items

  placed : position (by c.args.id) old ≡ Some c.in-Some.at
  placed = ap (position (by c.args.id)) (sym c.deref.ensures.value) ∙ sym c.place_of.ensures ∙ c.in-Some.is

  abbrev any : Entry
  any = some-entry old c.args.id c.in-Some.at placed

pub invariant_of-self : goal.invariant_of-self
invariant_of-self c = (
  c.take_out-self-inside.ensures.parted,
  less-distinct (old c) c.take_out-self-inside.new.entries.items c.args.id c.in-Some.at (any c) c.self.invariant.1 (placed c) c.take_out-self-inside.ensures.left,
)

pub returns-in-Some-clause-found : goal.returns-in-Some-clause-found
returns-in-Some-clause-found c = (
  λ _. ap (λ (b : Watches). is_some (watch_of b c.args.id)) (sym c.self.view_is)
      ∙ less-known (old c) c.take_out-self-inside.new.entries.items c.args.id c.in-Some.at (any c) c.self.invariant.1 (placed c) c.take_out-self-inside.ensures.left,
  λ _. refl,
)

pub returns-in-Some-clause-released : goal.returns-in-Some-clause-released
returns-in-Some-clause-released c =
    set-released c.self.inside.limit (old c) c.take_out-self-inside.new.entries.items c.args.id c.in-Some.at (any c) c.args.self.now c.self.view_is c.self.invariant.1 (placed c)
    c.take_out-self-inside.ensures.left

pub returns-in-None-clause-found : goal.returns-in-None-clause-found
returns-in-None-clause-found c =
    let none : watch_of c.args.self.now c.args.id ≡ None =
    ap (λ (b : Watches). watch_of b c.args.id) (sym c.self.view_is)
    ∙ unknown-none c.self.inside.entries.items c.args.id (ap (position (by c.args.id)) (sym c.deref.ensures.value) ∙ sym c.place_of.ensures ∙ c.in-None.is) in (
      λ is. absurd (false≢true is),
      λ some. absurd (false≢true (ap is_some (sym none) ∙ some)),
    )
