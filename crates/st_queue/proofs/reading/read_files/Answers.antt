use Rattle.st_queue.proofs.Rising.{alone-below, reading-below, reading-next, reading-rises}
use Rattle.st_queue.proofs.reading.read_files.Goals as goal

pub returns-then-zero_live-clause-numbers : goal.returns-then-zero_live-clause-numbers
returns-then-zero_live-clause-numbers c = reading-rises c.read_alone.result (alone-below 0 c.args.zero.now c.read_alone.result c.read_alone.ensures.frames c.read_alone.ensures.end)

pub returns-then-zero_live-clause-next : goal.returns-then-zero_live-clause-next
returns-then-zero_live-clause-next c = reading-next c.read_alone.result (alone-below 0 c.args.zero.now c.read_alone.result c.read_alone.ensures.frames c.read_alone.ensures.end)

pub returns-then-not-zero_live-clause-numbers : goal.returns-then-not-zero_live-clause-numbers
returns-then-not-zero_live-clause-numbers c = reading-rises c.read_alone-then-not-zero_live.result (alone-below 1 c.args.one.now c.read_alone-then-not-zero_live.result c.read_alone-then-not-zero_live.ensures.frames c.read_alone-then-not-zero_live.ensures.end)

pub returns-then-not-zero_live-clause-next : goal.returns-then-not-zero_live-clause-next
returns-then-not-zero_live-clause-next c = reading-next c.read_alone-then-not-zero_live.result (alone-below 1 c.args.one.now c.read_alone-then-not-zero_live.result c.read_alone-then-not-zero_live.ensures.frames c.read_alone-then-not-zero_live.ensures.end)

pub returns-clause-numbers : goal.returns-clause-numbers
returns-clause-numbers c = reading-rises c.read_both.result (reading-below (c.args.zero.now, c.args.one.now) c.read_both.result c.read_both.ensures.reads)

pub returns-clause-next : goal.returns-clause-next
returns-clause-next c = reading-next c.read_both.result (reading-below (c.args.zero.now, c.args.one.now) c.read_both.result c.read_both.ensures.reads)
