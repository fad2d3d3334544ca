use Rattle.std.proofs.Common.{◌-◌, arith}
use Rattle.st_watch.proofs.Changes.{parted-without, parted-without-ended}
use Rattle.st_watch.proofs.entries.take_out.Goals as goal

pub returns-then-at-waiting-clause-parted : goal.returns-then-at-waiting-clause-parted
returns-then-at-waiting-clause-parted c =
    parted-without c.args.entries.now.items c.remove.new.self.items c.args.waiting (c.args.waiting - 1) c.args.at c.requires.parted c.remove.ensures.items
    c.if-at-waiting.true (omega (arith, c.if-at-waiting.true))

pub returns-else-at-waiting-clause-parted : goal.returns-else-at-waiting-clause-parted
returns-else-at-waiting-clause-parted c =
    parted-without-ended c.args.entries.now.items c.remove.new.self.items c.args.waiting c.args.at c.requires.parted c.remove.ensures.items
    c.if-at-waiting.false c.requires.bound
