use Rattle.std.proofs.Common.{◌≡◌, ◌∙◌, ◌++◌, ◌∷◌, [], None, ap, sym, subst, arith}
use Rattle.st_fold.specs.declared.report.Event.TheVariants.{Opened}
use Rattle.st_meta.specs.declared.state.Meta.{Meta}
use Rattle.st_model.specs.Pieces.{first_pieces}
use Rattle.st_model.specs.State.{Opening}
use Rattle.st_ptree.specs.Entries.{pairs_of}
use Rattle.st_course.specs.Course.{clears_after}
use Rattle.st_course.specs.Jobs.{clears_of}
use Rattle.st_board.specs.Stands.{IsStill, Keeps, board_of}
use Rattle.st_board.proofs.Beginning.{keeps-first}
use Rattle.st_board.proofs.board.Board.begin.Goals as goal

pub invariant_of-result : goal.invariant_of-result
invariant_of-result g c =
    let given = g.N.Story.given in
    let store = g.N.Story.store in
    let version = c.args.o.version in
    let durable : Meta = record { version = version; assigned = c.args.o.assigned; available = c.args.o.available } in
    let opened : c.push_reserved.new.self.items ≡ Opened version ∷ [] =
    c.push_reserved.ensures.items ∙ ap (λ (l : _). l ++ Opened version ∷ []) (c.reserve.ensures.items ∙ c.new-trace.ensures.items) in (
      subst (λ (opening : Opening). Keeps given opening store (board_of c.push_reserved.new.self.items version durable None c.in-Ok.shards c.in_ok-window.window (pairs_of c.args.o.base))) (sym c.requires.named)
          (keeps-first given (record { version = version; available = c.args.o.available }) (subst (IsStill given) c.requires.named c.requires.still) store
          (pairs_of c.args.o.base) c.in-Ok.shards c.push_reserved.new.self.items c.in_ok-window.window opened
          (c.in-Ok.ensures.ok ∙ ap (first_pieces version c.args.o.available) c.requires.assigned)
          c.in_ok-window.ensures.new c.in_ok-window.ensures.stands c.requires.base c.requires.pairs),
      c.requires.settings,
      c.requires.assigned,
      (λ next is. absurd (cc (is))),
      c.requires.clears
          ∙ ap (λ (opening : Opening). clears_of store.fresh opening.available) (sym c.requires.named)
          ∙ ap (clears_after given g.N.Story.opening store.fresh) (sym opened),
      omega (arith, c.in_ok-reserve.ensures.ok, c.reserve.ensures.len, c.push_reserved.ensures.len, c.push_reserved.ensures.capacity),
    )
