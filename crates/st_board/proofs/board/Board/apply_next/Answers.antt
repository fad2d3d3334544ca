use Rattle.std.proofs.Common.{◌≡◌, ◌∙◌, ◌++◌, ◌∷◌, [], Some, ap, sym, subst, arith}
use Rattle.st_fold.specs.declared.report.Event.TheVariants.{Applied}
use Rattle.st_model.specs.State.{after_batch, next_batch}
use Rattle.st_ptree.specs.Entries.{pairs_of}
use Rattle.st_versioned.specs.Window.{begun, sealed}
use Rattle.st_course.specs.Course.{clears_after}
use Rattle.st_board.specs.Stands.{Standing}
use Rattle.st_board.specs.Storing.{all_stored}
use Rattle.st_board.proofs.Applying.{clears-applied, is_after, keeps-applied, short-keys}
use Rattle.st_board.proofs.Deciding.{WritesDecide}
use Rattle.st_board.proofs.Room.{at-most-two}
use Rattle.st_board.proofs.board.Board.apply_next.Goals as goal

pub put_next-requires-clause-short : goal.put_next-requires-clause-short
put_next-requires-clause-short g c =
    short-keys g.N.Story.given g.N.Story.opening g.N.Story.store _ c.self.invariant.0 c.args.batch.now
    (subst (λ (b : Standing). next_batch g.N.Story.given b.state ≡ Some c.args.batch.now) (sym c.self.view_is) c.requires.next)

pub returns-clause-state : goal.returns-clause-state
returns-clause-state g c =
    sym (is_after g.N.Story.given g.N.Story.opening g.N.Story.store _ c.self.invariant.0 c.args.batch.now
    (subst (λ (b : Standing). next_batch g.N.Story.given b.state ≡ Some c.args.batch.now) (sym c.self.view_is) c.requires.next))
    ∙ ap (λ (b : Standing). after_batch b.state c.args.batch.now) c.self.view_is

pub invariant_of-self-2 : goal.invariant_of-self-2
invariant_of-self-2 g c = (
  keeps-applied g.N.Story.given g.N.Story.opening g.N.Story.store _ c.self.invariant.0 c.args.batch.now
      (subst (λ (b : Standing). next_batch g.N.Story.given b.state ≡ Some c.args.batch.now) (sym c.self.view_is) c.requires.next)
      c.course_goes_on.ensures.behind writing c.clip_is_the_part_inside.ensures.inside
      c.put_next.new.window
      (c.in_ok-put_next.ensures.ok ∙ ap (λ pieces. sealed (all_stored (pairs_of c.self.inside.base) pieces (begun c.args.batch.now.version c.self.inside.window) c.args.batch.now.mutations)) c.pieces.ensures.value)
      c.put_next.ensures.stands
      c.push_reserved.new.self.items
      applied,
  c.self.invariant.1,
  c.self.invariant.2,
  c.self.invariant.3,
  c.self.invariant.4
      ∙ sym (ap (clears_after g.N.Story.given g.N.Story.opening g.N.Story.store.fresh) applied
      ∙ clears-applied g.N.Story.given g.N.Story.opening g.N.Story.store _ c.self.invariant.0 c.args.batch.now
      (subst (λ (b : Standing). next_batch g.N.Story.given b.state ≡ Some c.args.batch.now) (sym c.self.view_is) c.requires.next)
      c.course_goes_on.ensures.behind),
  (let few = at-most-two c.self.inside.flight in omega (arith, c.in_ok-reserve.ensures.ok, c.reserve.ensures.len, c.push_reserved.ensures.len, c.push_reserved.ensures.capacity)),
)
  where
    writing : WritesDecide
    writing = record { decides = c.what_is_written_decides.ensures.decides; apart = c.what_is_written_decides.ensures.apart; above = c.decisions_above_stay.ensures }

    applied : c.push_reserved.new.self.items ≡ c.self.inside.trace.items ++ Applied c.args.batch.now.version ∷ []
    applied = c.push_reserved.ensures.items ∙ ap (λ items. items ++ Applied c.args.batch.now.version ∷ []) c.reserve.ensures.items
