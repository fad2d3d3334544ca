use Rattle.std.proofs.Common.{◌≡◌, [], OnOk, length, sym, subst}
use Rattle.st_board.specs.Stands.{Standing}
use Rattle.st_model.specs.Schedule.{events_of_poll}
use Rattle.st_model.specs.State.{Given}
use Rattle.st_life.specs.Readers.{polled}
use Rattle.st_life.specs.Running.{Playing}
use Rattle.st_life.proofs.running.Running.poll.Goals as goal

pub returns-clause-polled : goal.returns-clause-polled
returns-clause-polled g c =
    subst (λ (given : Given). OnOk c.poll.result (c.poll.new.self ≡ polled given c.args.reader (length c.args.self.now.server.board.trace) c.args.self.now.server.board.state c.args.self.now.reading)) (sym c.self.invariant.1.given_is)
    (subst (λ (p : Playing _ _). OnOk c.poll.result (c.poll.new.self ≡ polled g.N.Story.given c.args.reader (length p.server.board.trace) p.server.board.state p.reading)) c.self.view_is
    (subst (λ (board : Standing). OnOk c.poll.result (c.poll.new.self ≡ polled g.N.Story.given c.args.reader (length board.trace) board.state c.self.inside.readers)) c.board_mut.ensures.board c.poll.ensures.ok))

pub returns-clause-events : goal.returns-clause-events
returns-clause-events g c =
    subst (λ (given : Given). events_of_poll given c.args.reader c.args.self.now.server.board.state c.args.self.now.reading.sessions ≡ []) (sym c.self.invariant.1.given_is)
    (subst (λ (p : Playing _ _). events_of_poll g.N.Story.given c.args.reader p.server.board.state p.reading.sessions ≡ []) c.self.view_is
    (subst (λ (board : Standing). events_of_poll g.N.Story.given c.args.reader board.state c.self.inside.readers.sessions ≡ []) c.board_mut.ensures.board c.poll.ensures.events))
