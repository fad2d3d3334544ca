use Rattle.std.proofs.Common.{◌≡◌, ◌∙◌, ◌≤◌, ◌+◌, ◌++◌, ◌∷◌, ℕ, List, [], Some, None, vec_len, vec_capacity, ap, sym, subst, arith}
use Rattle.std.specs.Option.{option_map}
use Rattle.st_fold.specs.declared.report.Event.TheVariants as event
use Rattle.st_model.specs.Pieces.{by_phase, rows_in_base}
use Rattle.st_model.specs.State.{Opening, ended}
use Rattle.st_ptree.specs.Entries.{pairs_of}
use Rattle.st_versioned.specs.Root.{value_at}
use Rattle.st_versioned.specs.Window.{Stands, forgot}
use Rattle.st_course.specs.Course.{clears_after, job_after}
use Rattle.st_board.specs.Base.{value_behind}
use Rattle.st_board.specs.Kept.{IsUsers}
use Rattle.st_board.specs.Stands.{Keeps, Standing, board_of, flight_of, still_to_come}
use Rattle.st_board.proofs.Commits.{clears-committed, flight-there, job-flown, keeps-committed}
use Rattle.st_board.proofs.Lists.{none-is}
use Rattle.st_board.proofs.board.Board.committed.Goals as goal

pub invariant_of-self : goal.invariant_of-self
invariant_of-self g c =
    let given = g.N.Story.given in
    let opening = g.N.Story.opening in
    let store = g.N.Story.store in
    let keeps = c.self.invariant.0 in
    let trace = c.self.inside.trace.items in
    let window = c.self.inside.window in
    let board : Standing = board_of trace c.self.inside.newest c.self.inside.durable c.self.inside.flight c.self.inside.shards window (pairs_of c.self.inside.base) in
    let next = c.in-Some.next in
    let flight : Opening = flight_of next in
    let flown : c.self.inside.flight ≡ Some next = sym c.take.ensures.value ∙ c.in-Some.is in
    let in_flight : board.state.flight ≡ Some flight = ap (option_map flight_of) flown in
    let in_course : job_after given opening store.fresh trace ≡ Some c.args.job =
    ap (λ (b : Standing). job_after given opening store.fresh b.trace) c.self.view_is ∙ c.requires.job in
    let version_is : flight.version ≡ c.args.job.version = job-flown given opening store board keeps flight in_flight c.args.job in_course in
    let based : (key : List ℕ) → IsUsers key → value_at (pairs_of c.args.base) key ≡ value_behind key (value_at board.base key) c.args.job.ops =
    λ key users. c.requires.base key users ∙ (λ i. value_behind key (value_at (sym c.self.view_is i).base key) c.args.job.ops) in
    let more : c.push_reserved.new.self.items ≡ trace ++ event.Durable flight.version ∷ [] =
    c.push_reserved.ensures.items ∙ ap (λ v. trace ++ event.Durable v ∷ []) (sym version_is) in
    let forgotten : c.forget_before.new.self ≡ forgot flight.version window = c.forget_before.ensures.forgot ∙ ap (λ v. forgot v window) (sym version_is) in
    let landed : c.take.new.self ≡ None = c.take.ensures.after in
    let one_more : still_to_come c.take.new.self ≡ 1 = ap still_to_come landed in
    let room : vec_len c.self.inside.trace + 2 ≤ vec_capacity c.self.inside.trace = subst (λ o. vec_len c.self.inside.trace + still_to_come o ≤ vec_capacity c.self.inside.trace) flown c.self.invariant.5 in (
      subst (λ (b : Standing). Keeps given opening store b)
          (λ i. record { trace = c.push_reserved.new.self.items; state = record (ended board.state flight) { flight = option_map flight_of (sym landed i); pieces = sym (c.settle.ensures ∙ ap (λ v. by_phase (rows_in_base v) c.self.inside.shards) (sym version_is)) i }; window = sym forgotten i; base = pairs_of c.args.base })
          (keeps-committed given opening store board keeps flight in_flight c.args.job in_course c.course_goes_on.ensures.behind (pairs_of c.args.base) based c.push_reserved.new.self.items more (subst Stands forgotten c.forget_before.ensures.stands)),
      c.self.invariant.1,
      c.self.invariant.3 next flown,
      (λ other is. absurd (cc (sym landed ∙ is))),
      c.clear.ensures.items
          ∙ sym (ap (clears_after given opening store.fresh) more
          ∙ clears-committed given opening store board keeps flight in_flight c.args.job in_course c.course_goes_on.ensures.behind),
      omega (arith, room, one_more, c.push_reserved.ensures.len, c.push_reserved.ensures.capacity),
    )

pub unreachable-requires : goal.unreachable-requires
unreachable-requires g c =
    let given = g.N.Story.given in
    let opening = g.N.Story.opening in
    let store = g.N.Story.store in
    let board : Standing = board_of c.self.inside.trace.items c.self.inside.newest c.self.inside.durable c.self.inside.flight c.self.inside.shards c.self.inside.window (pairs_of c.self.inside.base) in
    flight-there given opening store board c.self.invariant.0 c.args.job
    (ap (λ (b : Standing). job_after given opening store.fresh b.trace) c.self.view_is ∙ c.requires.job)
    (ap (option_map flight_of) (sym c.take.ensures.value ∙ none-is c.take.result c.in_default.not-Some))
