use Rattle.std.proofs.Common.{◌≡◌, ◌∙◌, ◌≤◌, ap, arith, nat_le, nat_lt, rules, subst, sym}
use Rattle.std.proofs.lemmas.Fn.{filter_same}
use Rattle.std.specs.Option.{option_map_or}
use Rattle.st_versioned.specs.Window.{Stands, Versions, forgot, kept_from, last_to}
use Rattle.st_versioned.proofs.Windows.{forgot-is, kept_from-is, stands-forgot}
use Rattle.st_versioned.proofs.window.Window.forget_before.Goals as goal
use Rattle.st_versioned.proofs.window.Window.forget_before.Goals.{in-Some, in-None}

module _ (c : goal.After-retain-2) where
  abbrev window : Versions
  window = record { forgotten = c.self.inside.forgotten; newest = c.self.inside.newest; roots = c.self.inside.roots.items; making = c.self.inside.making; mutations = c.self.inside.mutations.items }

  from_is : c.match-last_to.from ≡ kept_from c.max-forgotten.result c.self.inside.roots.items
  from_is =
      let last = kept_from-is (λ k. k.now) c.last_to.result (last_to c.max-forgotten.result c.self.inside.roots.items) (c.last_to.ensures ∙ ap (λ (v : Versions). last_to c.max-forgotten.result v.roots) (sym c.self.view_is)) in
      elim c.match-last_to.branch [
        | in-Some w ↦ w.from-is ∙ w.version-from.ensures ∙ ap (λ o. option_map_or (λ k. k.now.version) o 0) (sym w.in-Some.is) ∙ last
        | in-None w ↦ w.from-is ∙ ap (λ o. option_map_or (λ k. k.now.version) o 0) (sym w.in-None.is) ∙ last
      ]

  forgot_is : record { forgotten = c.max-forgotten.result; newest = c.self.inside.newest; roots = c.retain.new.self.items; making = c.self.inside.making; mutations = c.retain-2.new.self.items } ≡ forgot c.args.version window
  forgot_is =
      forgot-is c.args.version window c.max-forgotten.result c.match-last_to.from c.retain.new.self.items c.retain-2.new.self.items c.max-forgotten.ensures from_is
      (filter_same _ (λ kept. nat_le c.match-last_to.from kept.version) _ (λ x b f' k. search rules) _ _ c.retain.ensures.filtered)
      (filter_same _ (λ made. nat_lt c.max-forgotten.result made.0) _ (λ x b f' k. search rules) _ _ c.retain-2.ensures.filtered)

pub invariant_of-self : goal.invariant_of-self
invariant_of-self c =
    let le : c.args.version ≤ c.self.inside.newest = subst (λ (v : Versions). c.args.version ≤ v.newest) (sym c.self.view_is) c.requires in (
      λ x is. let room = c.self.invariant.0 x is in omega (arith, room, c.retain.ensures.bound, c.retain.ensures.capacity),
      subst (λ (w : Versions). Stands w) (sym (forgot_is c)) (stands-forgot c.args.version (window c) le c.self.invariant.1),
    )

pub returns-clause-forgot : goal.returns-clause-forgot
returns-clause-forgot c = forgot_is c ∙ ap (forgot c.args.version) c.self.view_is

pub returns-clause-stands : goal.returns-clause-stands
returns-clause-stands c = (invariant_of-self c).1
