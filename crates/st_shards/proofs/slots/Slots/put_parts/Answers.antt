use Rattle.std.proofs.Common.{◌≡◌, ◌∷◌, ◌++◌, drop, length, suc, take, arith, ap, sym, ◌∙◌, set}
use Rattle.std.specs.Option.{option_to_list}
use Rattle.st_shards.proofs.Cuts.{set_parts, cut_parts}
use Rattle.st_shards.proofs.slots.Slots.put_parts.Goals as goal

pub overflow_add-at : goal.overflow_add-at
overflow_add-at c =
    let v : length c.self.inside.pieces.items ≡ length c.args.self.now = ap length c.self.view_is in
    omega (arith, c.self.inside.pieces.ok.0)

pub returns-in_ok-insert-in-Some-clause-ok : goal.returns-in_ok-insert-in-Some-clause-ok
returns-in_ok-insert-in-Some-clause-ok c =
    c.replace.ensures.items
    ∙ (ap (λ ps. set ps c.args.at c.args.parts.first) c.in_ok-insert-in-Some.ensures.ok
    ∙ (cut_parts c.args.self.now c.args.at c.args.parts.first c.in-Some.second c.requires
    ∙ ap (λ o. take c.args.at c.args.self.now ++ (c.args.parts.first ∷ (option_to_list o ++ drop (suc c.args.at) c.args.self.now)))
    (sym c.in-Some.is)))

pub returns-in-None-clause-ok : goal.returns-in-None-clause-ok
returns-in-None-clause-ok c =
    c.replace-in-None.ensures.items
    ∙ (set_parts c.args.self.now c.args.at c.args.parts.first c.requires
    ∙ ap (λ o. take c.args.at c.args.self.now ++ (c.args.parts.first ∷ (option_to_list o ++ drop (suc c.args.at) c.args.self.now)))
    (sym c.in-None.is))
