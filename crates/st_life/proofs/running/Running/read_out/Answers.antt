use Rattle.std.proofs.Common.{◌∙◌, [], sym, subst}
use Rattle.std.proofs.lemmas.Result.{err_from_is_err_and}
use Rattle.st_disk.specs.Fuse.{fused_history}
use Rattle.st_life.specs.Running.{LeadsOn}
use Rattle.st_life.proofs.Closing.{turn-more, turn-over}
use Rattle.st_life.proofs.running.Running.read_out.Goals as goal

pub returns-in_err-poll-clause-err : goal.returns-in_err-poll-clause-err
returns-in_err-poll-clause-err g c =
    let p = err_from_is_err_and c.from_residual.result c.from_residual.ensures.1 in
    rw p.1 (λ later turn.
    subst (λ now. LeadsOn (fused_history g.D.Disk.history) g.B.Beginning.start g.B.Beginning.told [] [] c.args.self.now now) (sym c.in_err-poll.ensures.err)
    (c.loop.invariant.0 later turn).0)

pub loop-preserved : goal.loop-preserved
loop-preserved g c = (
  turn-more (fused_history g.D.Disk.history) g.B.Beginning.start g.B.Beginning.told c.args.reader c.args.self.now c.loop.self c.poll.new.self
      c.in_ok-poll.ensures.server c.in_ok-poll.ensures.polled c.in_ok-poll.ensures.events c.loop.invariant.0 (sym c.in_ok-poll.ensures.done ∙ c.if-branch.true),
  c.in_ok-poll.ensures.server ∙ c.loop.invariant.1,
)

pub returns-clause-ok : goal.returns-clause-ok
returns-clause-ok g c =
    turn-over (fused_history g.D.Disk.history) g.B.Beginning.start g.B.Beginning.told c.args.reader c.args.self.now c.loop.self c.poll.new.self
    c.in_ok-poll.ensures.server c.in_ok-poll.ensures.polled c.in_ok-poll.ensures.events c.loop.invariant.0 (sym c.in_ok-poll.ensures.done ∙ c.if-branch.false)
