use Rattle.std.proofs.Common.{◌≡◌, ◌∙◌, ◌≤◌, Some, IsNone, IsSomeAnd, refl, ap, sym, subst}
use Rattle.std.specs.Option.{option_map}
use Rattle.st_ptree.specs.Entries.{pairs_of}
use Rattle.st_versioned.specs.Root.{over}
use Rattle.st_versioned.specs.Window.{root_of}
use Rattle.st_board.specs.Stands.{Standing, StandsFor}
use Rattle.st_course.specs.Sent.{value_of}
use Rattle.st_board.proofs.Standing.{never-outside, stands-for}
use Rattle.st_board.proofs.board.Board.shared.Goals as goal

pub returns : goal.returns
returns g c = λ key users.
    let given = g.N.Story.given in
    let board = c.args.self.now in
    let stands = subst (StandsFor given g.N.Story.opening g.N.Story.store) c.self.view_is (stands-for given g.N.Story.opening g.N.Story.store _ c.self.invariant.0) in
    let is : root_of board.window c.args.version ≡ Some (pairs_of c.in-Some.root.entries) =
    sym (c.in_ok-root.ensures.root ∙ ap (λ (b : Standing). root_of b.window c.args.version) c.self.view_is) ∙ ap (option_map (λ root. pairs_of root.entries)) c.in-Some.is in
    ap (λ base. over (pairs_of c.in-Some.root.entries) base key) (ap pairs_of c.in_ok-share-in-Some.ensures.same ∙ ap (λ (b : Standing). b.base) c.self.view_is)
    ∙ subst (λ o. IsSomeAnd o (λ r. over r board.base key ≡ value_of given.log c.args.version key)) is (stands.versions c.args.version key c.requires.oldest c.requires.newest users)

pub unreachable-requires : goal.unreachable-requires
unreachable-requires g c =
    never-outside g.N.Story.given g.N.Story.opening g.N.Story.store _ c.self.invariant.0 c.args.version
    (subst (λ (b : Standing). b.state.oldest ≤ c.args.version) (sym c.self.view_is) c.requires.oldest)
    (subst (λ (b : Standing). c.args.version ≤ b.state.newest) (sym c.self.view_is) c.requires.newest)
    (c.in_ok-root.ensures.none.0 (subst IsNone (sym c.in-None.is) refl))
