use Rattle.std.proofs.Common.{◌≡◌, ◌∙◌, ◌++◌, ◌∷◌, [], Ok, IsTrue, ap, sym, subst, rules}
use Rattle.st_ops.specs.Grammar.{IsPayload, has_form}
use Rattle.st_ops.specs.Reading.{reading}
use Rattle.st_ops.specs.Spelling.{spelt}
use Rattle.st_ops.specs.declared.op.Op.TheVariants.{Commit}
use Rattle.st_ptree.specs.Entries.{pairs_of}
use Rattle.st_engine.specs.Snapshot.{room_of, snap, whole_of}
use Rattle.st_engine.proofs.Items.{snap_form}
use Rattle.st_engine.proofs.engine.Engine.prepared.Goals as goal

pub encode-requires : goal.encode-requires
encode-requires g c =
    let ops = c.args.ops.now in
    let form : IsTrue (has_form c.in_ok-written.written.ops.items) =
    subst (λ l. IsTrue (has_form l)) (sym c.in_ok-written.ensures.ops)
    (snap_form c.form_of_parts.ensures.joined ops c.requires.changes (pairs_of c.in_ok-pairs.pairs) c.in_ok-written.ensures.ordered c.in_ok-clone.field-0 (room_of c.self.inside.quota ops)) in
    let payload : IsPayload c.deref.result.now = subst IsPayload (sym c.deref.ensures.value) (record { form = form; fits = c.in_ok-written.ensures.fits }) in
    payload

pub returns-clause-payload : goal.returns-clause-payload
returns-clause-payload g c =
    let ops = c.args.ops.now in
    let cursor : c.in_ok-clone.field-0 ≡ c.self.inside.cursor = search rules in
    let whole : c.in_ok-written.written.ops.items ≡ whole_of c.args.self.now.bounds.quota c.args.self.now.store.cursor c.args.self.now.store.pairs ops =
    c.in_ok-written.ensures.ops
    ∙ (λ i. ops ++ snap (cursor i) (room_of c.self.inside.quota ops) (c.in_ok-pairs.ensures.pairs i) ++ Commit ∷ [])
    ∙ ap (λ m. whole_of m.bounds.quota m.store.cursor m.store.pairs ops) c.self.view_is in
    c.in_ok-payload.ensures ∙ ap spelt (c.deref.ensures.value ∙ whole)

pub returns-clause-read : goal.returns-clause-read
returns-clause-read g c =
    let ops = c.args.ops.now in
    let cursor : c.in_ok-clone.field-0 ≡ c.self.inside.cursor = search rules in
    let whole : c.in_ok-written.written.ops.items ≡ whole_of c.args.self.now.bounds.quota c.args.self.now.store.cursor c.args.self.now.store.pairs ops =
    c.in_ok-written.ensures.ops
    ∙ (λ i. ops ++ snap (cursor i) (room_of c.self.inside.quota ops) (c.in_ok-pairs.ensures.pairs i) ++ Commit ∷ [])
    ∙ ap (λ m. whole_of m.bounds.quota m.store.cursor m.store.pairs ops) c.self.view_is in
    let form : IsTrue (has_form c.in_ok-written.written.ops.items) =
    subst (λ l. IsTrue (has_form l)) (sym c.in_ok-written.ensures.ops)
    (snap_form c.form_of_parts.ensures.joined ops c.requires.changes (pairs_of c.in_ok-pairs.pairs) c.in_ok-written.ensures.ordered c.in_ok-clone.field-0 (room_of c.self.inside.quota ops)) in
    let payload : IsPayload c.deref.result.now = subst IsPayload (sym c.deref.ensures.value) (record { form = form; fits = c.in_ok-written.ensures.fits }) in
    ap reading c.in_ok-payload.ensures ∙ c.one_spelling.ensures.read c.deref.result.now payload ∙ ap (λ l. Ok l) (c.deref.ensures.value ∙ whole)

pub returns-clause-form : goal.returns-clause-form
returns-clause-form g c =
    let ops = c.args.ops.now in
    let cursor : c.in_ok-clone.field-0 ≡ c.self.inside.cursor = search rules in
    let whole : c.in_ok-written.written.ops.items ≡ whole_of c.args.self.now.bounds.quota c.args.self.now.store.cursor c.args.self.now.store.pairs ops =
    c.in_ok-written.ensures.ops
    ∙ (λ i. ops ++ snap (cursor i) (room_of c.self.inside.quota ops) (c.in_ok-pairs.ensures.pairs i) ++ Commit ∷ [])
    ∙ ap (λ m. whole_of m.bounds.quota m.store.cursor m.store.pairs ops) c.self.view_is in
    let form : IsTrue (has_form c.in_ok-written.written.ops.items) =
    subst (λ l. IsTrue (has_form l)) (sym c.in_ok-written.ensures.ops)
    (snap_form c.form_of_parts.ensures.joined ops c.requires.changes (pairs_of c.in_ok-pairs.pairs) c.in_ok-written.ensures.ordered c.in_ok-clone.field-0 (room_of c.self.inside.quota ops)) in
    subst (λ l. IsTrue (has_form l)) whole form
