use Rattle.std.proofs.Common.{◌≡◌, ◌∙◌, ◌∷◌, [], ap, le-leb, rules, sym}
use Rattle.st_ptree.specs.Entries.{pairs_of}
use Rattle.st_versioned.specs.Root.{Row}
use Rattle.st_versioned.proofs.Forgetting.{swept, swept-all, swept-nothing, swept-old}
use Rattle.st_versioned.proofs.Lasts.{pairs-without}
use Rattle.st_versioned.proofs.root.above_in.Goals as goal

pub loop-key-init : goal.loop-key-init
loop-key-init g c =
    let items : c.into_iter-key-iterator.result ≡ pairs_of c.args.entries.now = search rules in
    (λ i. swept c.args.version (items i) (pairs_of (c.in_ok-above.ensures.same i))) ∙ swept-all c.args.version (pairs_of c.args.entries.now) c.requires.apart

pub loop-key-preserved-in_ok-remove : goal.loop-key-preserved-in_ok-remove
loop-key-preserved-in_ok-remove g c =
    let pair : Row = (c.in-Some.key.now, c.in-Some.dated.now) in
    let items : c.loop-key.key-iterator ≡ pair ∷ c.next.new.self = search rules in
    ap (swept c.args.version c.next.new.self) (pairs-without c.in-Some.key.now c.as_slice.result.now c.loop-key.above c.remove.new.self c.as_slice.ensures c.in_ok-remove.ensures.ok)
    ∙ sym (swept-old c.args.version pair c.next.new.self (pairs_of c.loop-key.above) (le-leb _ _ c.if-dated-version.true))
    ∙ sym (ap (λ l. swept c.args.version l (pairs_of c.loop-key.above)) items)
    ∙ c.loop-key.invariant

pub returns : goal.returns
returns g c =
    let items : c.loop-key.key-iterator ≡ [] = search rules in
    sym (swept-nothing c.args.version (pairs_of c.loop-key.above))
    ∙ sym (ap (λ l. swept c.args.version l (pairs_of c.loop-key.above)) items)
    ∙ c.loop-key.invariant
