use Rattle.std.proofs.Common.{length}
use Rattle.st_life.proofs.Versioned.{has_fewer, is_polled, waits}
use Rattle.st_life.proofs.asked.Asked.poll.Goals as goal

pub returns-clause-polled : goal.returns-clause-polled
returns-clause-polled g c =
    is_polled g.N.Story.given c.args.board.now.state (length c.args.board.now.trace) c.args.self.now c.requires.waiting c.requires.open
    c.poll_board.new.self c.answer_of.result c.in_ok-poll_board.ensures.place
    (c.answer_of.ensures g.N.Story.given.log c.args.board.now.state c.args.self.now.session c.in_ok-poll_board.ensures.polled)

pub returns-clause-waiting : goal.returns-clause-waiting
returns-clause-waiting g c =
    waits g.N.Story.given c.args.board.now.state (length c.args.board.now.trace) c.args.self.now c.requires.waiting c.requires.open
    c.poll_board.new.self c.answer_of.result c.in_ok-poll_board.ensures.place
    (c.answer_of.ensures g.N.Story.given.log c.args.board.now.state c.args.self.now.session c.in_ok-poll_board.ensures.polled)

pub returns-clause-fewer : goal.returns-clause-fewer
returns-clause-fewer g c =
    has_fewer g.N.Story.given c.args.board.now.state (length c.args.board.now.trace) c.args.self.now c.requires.waiting c.requires.open
    c.poll_board.new.self c.answer_of.result c.in_ok-poll_board.ensures.place
    (c.answer_of.ensures g.N.Story.given.log c.args.board.now.state c.args.self.now.session c.in_ok-poll_board.ensures.polled)
