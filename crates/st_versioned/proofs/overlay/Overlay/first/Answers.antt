use Rattle.std.proofs.Common.{◌≡◌, ◌<◌, Some, None, filter, length, sym, subst, rules}
use Rattle.st_ptree.specs.Entries.{pairs_of}
use Rattle.st_versioned.specs.Neighbours.{is_beyond}
use Rattle.st_versioned.specs.Root.{over}
use Rattle.st_versioned.specs.declared.bound.Bound.{Bound}
use Rattle.st_versioned.proofs.Search.{Searched, candidates, first-candidate, searched-all, searched-fewer, searched-found, searched-more}
use Rattle.st_versioned.proofs.overlay.Overlay.first.Goals as goal

pub returns-in-Some-get : goal.returns-in-Some-get
returns-in-Some-get g c =
    let root = pairs_of c.args.self.now.root.now.entries in
    let base = pairs_of c.args.self.now.base.now in
    let value : over root base c.in-Some.key.now ≡ Some c.in-Some-get.value.now = sym c.in-Some-get.ensures.value in
    searched-found root base c.args.bound c.loop-key.side c.loop-key.invariant c.in-Some.key.now c.in-Some-get.value.now
    (first-candidate root base c.loop-key.side _ _ (Some c.in-Some.key.now) c.in-Some.ensures c.first_in.ensures c.first_in-in-loop-key.ensures) value

pub loop-key-smaller : goal.loop-key-smaller
loop-key-smaller g c =
    let root = pairs_of c.args.self.now.root.now.entries in
    let base = pairs_of c.args.self.now.base.now in
    let side = c.loop-key.side in
    subst (λ (next : Bound). length (filter (is_beyond next) (candidates root base)) < length (filter (is_beyond side) (candidates root base))) (sym c.behind-side.ensures)
    (searched-fewer root base c.args.bound side c.loop-key.invariant c.in-Some.key (first-candidate root base side _ _ (Some c.in-Some.key.now) c.in-Some.ensures c.first_in.ensures c.first_in-in-loop-key.ensures))

pub loop-key-preserved : goal.loop-key-preserved
loop-key-preserved g c =
    let root = pairs_of c.args.self.now.root.now.entries in
    let base = pairs_of c.args.self.now.base.now in
    let side = c.loop-key.side in
    let none : over root base c.in-Some.key.now ≡ None = search rules in
    subst (λ (next : Bound). Searched root base c.args.bound next) (sym c.behind-side.ensures)
    (searched-more root base c.args.bound side c.loop-key.invariant c.in-Some.key (first-candidate root base side _ _ (Some c.in-Some.key.now) c.in-Some.ensures c.first_in.ensures c.first_in-in-loop-key.ensures) none)

pub returns : goal.returns
returns g c =
    let root = pairs_of c.args.self.now.root.now.entries in
    let base = pairs_of c.args.self.now.base.now in
    searched-all root base c.args.bound c.loop-key.side c.loop-key.invariant
    (first-candidate root base c.loop-key.side _ _ None c.in_default.ensures c.first_in.ensures c.first_in-in-loop-key.ensures)
