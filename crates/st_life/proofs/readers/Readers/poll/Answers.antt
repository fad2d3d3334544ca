use Rattle.std.proofs.Common.{◌≡◌, ◌∙◌, ◌<◌, sym, subst, ap, arith, length, List, [], map, set}
use Rattle.std.proofs.lemmas.List.{length-set}
use Rattle.std.specs.List.{AllByRecursion}
use Rattle.st_model.specs.Schedule.{Session, events_of_poll, poll_first, polls_left, polls_to_come}
use Rattle.st_life.specs.Readers.{Reading}
use Rattle.st_life.specs.Waiting.{AreSought, IsFirstOpen, IsWaiting, session_of}
use Rattle.st_life.proofs.Polls.{all_set, first_fewer, first_is_open, first_polled, has_first, no_events, none_polled, poll_first-none, sought_after}
use Rattle.st_life.proofs.readers.Readers.poll.Goals as goal

pub returns-in_default-clause-ok : goal.returns-in_default-clause-ok
returns-in_default-clause-ok g c =
    let now = c.args.self.now in
    c.in_default.ensures.same
    ∙ ap (λ (sessions : List Session). record now { sessions = sessions })
    (sym (poll_first-none g.N.Story.given c.args.reader (length c.args.board.now.trace) c.args.board.now.state now.sessions c.in_default.ensures.found))

pub poll-requires-clause-open : goal.poll-requires-clause-open
poll-requires-clause-open g c =
    let seen = ap (λ (reading : Reading). reading.sessions) (c.self.view_is ∙ c.in-Some.ensures.same) in
    first_is_open c.args.reader c.in-Some.place c.self.inside.asked.items c.index_mut.result.now
    (subst (IsFirstOpen c.args.reader c.in-Some.place) (sym seen) c.in-Some.ensures.found) c.index_mut.ensures.value

pub returns-clause-done : goal.returns-clause-done
returns-clause-done g c = sym (has_first c.args.reader c.in-Some.place c.args.self.now.sessions c.in-Some.ensures.found)

pub returns-clause-ok : goal.returns-clause-ok
returns-clause-ok g c =
    let given = g.N.Story.given in
    let at = length c.args.board.now.trace in
    let state = c.args.board.now.state in
    let is = c.self.view_is ∙ c.in-Some.ensures.same in
    let seen = ap (λ (reading : Reading). reading.sessions) is in
    let first = subst (IsFirstOpen c.args.reader c.in-Some.place) (sym seen) c.in-Some.ensures.found in
    let done = first_polled c.args.reader c.in-Some.place c.self.inside.asked.items c.index_mut.result.now first c.index_mut.ensures.value
    given at state c.poll.new.self c.in_ok-poll.ensures.polled ∙ ap (poll_first given c.args.reader at state) seen in
    λ k. record { patience = (is k).patience; sessions = done k }

pub returns-clause-fewer : goal.returns-clause-fewer
returns-clause-fewer g c = λ _.
    let patience = c.args.self.now.patience in
    let one = c.index_mut.result.now in
    let new = c.poll.new.self in
    let items = c.self.inside.asked.items in
    let seen = ap (λ (reading : Reading). reading.sessions) (c.self.view_is ∙ c.in-Some.ensures.same) in
    let first = subst (IsFirstOpen c.args.reader c.in-Some.place) (sym seen) c.in-Some.ensures.found in
    let less = subst (λ n. polls_to_come n (session_of new) < polls_to_come n (session_of one)) (sym c.requires.patience) c.in_ok-poll.ensures.fewer in
    subst (λ sessions. polls_left patience (map session_of (set items c.in-Some.place new)) < polls_left patience sessions) seen
    (first_fewer c.args.reader c.in-Some.place items one first c.index_mut.ensures.value patience new less)

pub invariant_of-self-2 : goal.invariant_of-self-2
invariant_of-self-2 g c =
    let given = g.N.Story.given in
    let at = length c.args.board.now.trace in
    let state = c.args.board.now.state in
    let items = c.self.inside.asked.items in
    let new = c.poll.new.self in
    let is = c.self.view_is ∙ c.in-Some.ensures.same in
    let seen = ap (λ (reading : Reading). reading.sessions) is in
    let first = subst (IsFirstOpen c.args.reader c.in-Some.place) (sym seen) c.in-Some.ensures.found in
    let done = first_polled c.args.reader c.in-Some.place items c.index_mut.result.now first c.index_mut.ensures.value
    given at state new c.in_ok-poll.ensures.polled in
    let patience = ap (λ (reading : Reading). reading.patience) is ∙ c.requires.patience in (
      subst (λ n. AllByRecursion (IsWaiting n) (set items c.in-Some.place new)) (sym patience)
          (all_set (IsWaiting given.settings.patience) items c.in-Some.place new
          (subst (λ n. AllByRecursion (IsWaiting n) items) patience c.self.invariant.0) c.in_ok-poll.ensures.waiting),
      subst (AreSought c.self.inside.first) (sym done)
          (sought_after given c.args.reader at state c.self.inside.first (map session_of items) c.self.invariant.1),
      c.self.invariant.2,
      omega (arith, length-set items c.in-Some.place new, c.self.invariant.3),
    )

pub returns-in_default-clause-events : goal.returns-in_default-clause-events
returns-in_default-clause-events g c =
    none_polled g.N.Story.given c.args.reader c.args.board.now.state c.args.self.now.sessions c.in_default.ensures.found

pub returns-in_err-poll-clause-events : goal.returns-in_err-poll-clause-events
returns-in_err-poll-clause-events g c =
    let seen = ap (λ (reading : Reading). reading.sessions) (c.self.view_is ∙ c.in-Some.ensures.same) in
    subst (λ sessions. events_of_poll g.N.Story.given c.args.reader c.args.board.now.state sessions ≡ []) seen
    (no_events g.N.Story.given c.args.reader c.args.board.now.state c.self.inside.patience c.self.inside.asked.items c.self.invariant.0)

pub returns-clause-events : goal.returns-clause-events
returns-clause-events g c =
    let seen = ap (λ (reading : Reading). reading.sessions) (c.self.view_is ∙ c.in-Some.ensures.same) in
    subst (λ sessions. events_of_poll g.N.Story.given c.args.reader c.args.board.now.state sessions ≡ []) seen
    (no_events g.N.Story.given c.args.reader c.args.board.now.state c.self.inside.patience c.self.inside.asked.items c.self.invariant.0)
