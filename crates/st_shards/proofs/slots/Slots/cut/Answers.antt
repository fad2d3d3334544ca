use Rattle.std.proofs.Common.{◌≡◌, ◌<◌, ◌≤◌, length, get_or, set, arith, subst, sym, ap, ◌∙◌}
use Rattle.st_model.specs.Partition.{IsPlaceOf}
use Rattle.st_model.specs.Pieces.{cut_where}
use Rattle.st_shards.specs.Changes.{moves}
use Rattle.st_shards.proofs.Cuts.{uncut_is, cut_is, undo_is}
use Rattle.st_shards.proofs.slots.Slots.cut.Goals as goal

pub returns-then-at-as_slice-clause-ok : goal.returns-then-at-as_slice-clause-ok
returns-then-at-as_slice-clause-ok c =
    sym (ap (λ k. cut_where (moves c.args.change) k c.args.self.now) (sym c.bytes.ensures.value)
    ∙ c.place_of-at.ensures.past c.requires (c.if-at-as_slice.true ∙ ap length c.as_slice.ensures) (moves c.args.change))

pub returns-clause-ok : goal.returns-clause-ok
returns-clause-ok c =
    let e : length c.as_slice.result.now ≡ length c.args.self.now = ap length c.as_slice.ensures in
    let le : c.place_of-at.result ≤ length c.args.self.now = c.place_of-at.ensures.bound in
    let ne = c.if-at-as_slice.false in
    let lt : c.place_of-at.result < length c.args.self.now = omega (arith, ne) in
    let place : IsPlaceOf c.args.self.now c.args.place.now c.place_of-at.result =
    subst (λ k. IsPlaceOf c.args.self.now k c.place_of-at.result) c.bytes.ensures.value (c.place_of-at.ensures.held c.requires lt) in
    uncut_is (moves c.args.change) c.args.place.now c.args.self.now c.place_of-at.result c.index-as_slice-at.result
    (c.pieces_change_at_a_place.ensures.cut (moves c.args.change) c.args.place.now c.args.self.now c.place_of-at.result
    c.index-as_slice-at.result c.requires place)
    lt (c.index-as_slice-at.is ∙ ap (λ ps. get_or ps c.place_of-at.result c.index-as_slice-at.result) c.as_slice-2.ensures)
    (sym c.is_cut.ensures ∙ c.if-is_cut.false)

pub returns-then-is_cut-clause-ok : goal.returns-then-is_cut-clause-ok
returns-then-is_cut-clause-ok c =
    let e : length c.as_slice.result.now ≡ length c.args.self.now = ap length c.as_slice.ensures in
    let le : c.place_of-at.result ≤ length c.args.self.now = c.place_of-at.ensures.bound in
    let ne = c.if-at-as_slice.false in
    let lt : c.place_of-at.result < length c.args.self.now = omega (arith, ne) in
    let place : IsPlaceOf c.args.self.now c.args.place.now c.place_of-at.result =
    subst (λ k. IsPlaceOf c.args.self.now k c.place_of-at.result) c.bytes.ensures.value (c.place_of-at.ensures.held c.requires lt) in
    c.replace-whole.ensures.items
    ∙ (ap (λ ps. set ps c.place_of-at.result c.in_ok-left.left) c.in_ok-insert.ensures.ok
    ∙ cut_is (moves c.args.change) c.args.place.now c.args.self.now c.place_of-at.result c.index-as_slice-at.result
    c.in_ok-left.left c.in_ok-right.right
    (c.pieces_change_at_a_place.ensures.cut (moves c.args.change) c.args.place.now c.args.self.now c.place_of-at.result
    c.index-as_slice-at.result c.requires place)
    lt (c.index-as_slice-at.is ∙ ap (λ ps. get_or ps c.place_of-at.result c.index-as_slice-at.result) c.as_slice-2.ensures)
    (sym c.is_cut.ensures ∙ c.if-is_cut.true)
    (place.1 c.index-as_slice-at.result).0 c.in_ok-left.ensures c.in_ok-right.ensures)

pub returns-then-is_cut-clause-undo : goal.returns-then-is_cut-clause-undo
returns-then-is_cut-clause-undo c =
    let e : length c.as_slice.result.now ≡ length c.args.self.now = ap length c.as_slice.ensures in
    let le : c.place_of-at.result ≤ length c.args.self.now = c.place_of-at.ensures.bound in
    let ne = c.if-at-as_slice.false in
    let lt : c.place_of-at.result < length c.args.self.now = omega (arith, ne) in
    undo_is c.args.self.now c.insert.new.self c.replace-whole.new.self c.place_of-at.result c.in_ok-left.left c.in_ok-right.right
    c.replace-whole.result lt c.in_ok-insert.ensures.ok c.replace-whole.ensures.items c.replace-whole.ensures.handed
