use Rattle.std.proofs.Common.{◌≡◌, ◌∙◌, ap, filter, nat_le, rules}
use Rattle.std.proofs.lemmas.Fn.{filter_same}
use Rattle.st_adding.specs.Updates.{dropped_to}
use Rattle.st_adding.proofs.held.Held.drop_to.Goals as goal

pub returns : goal.returns
returns c =
    let inside = c.self.inside in
    let kept : c.retain.new.self.items ≡ filter (λ update. nat_le update.0 c.args.version) inside.updates.items =
    filter_same _ (λ update. nat_le update.0 c.args.version) _ (λ x b f' k. search rules) _ _ c.retain.ensures.filtered in
    ap (λ updates. record { piece = inside.piece; at = inside.at; updates = updates }) kept ∙ ap (dropped_to c.args.version) c.self.view_is
