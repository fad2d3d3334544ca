use Rattle.std.proofs.Common.{arith}
use Rattle.st_queue.proofs.Current.{end-fits}
use Rattle.st_queue.proofs.reading.end_of.Goals as goal

pub size-requires : goal.size-requires
size-requires c = let fits = end-fits c.args.file c.args.bytes.now c.args.frames.now c.requires.live c.requires.frames in omega (arith, fits.0)

pub overflow_add-result : goal.overflow_add-result
overflow_add-result c = let fits = end-fits c.args.file c.args.bytes.now c.args.frames.now c.requires.live c.requires.frames in omega (arith, fits.0, c.size.ensures)

pub overflow_add-result-2 : goal.overflow_add-result-2
overflow_add-result-2 c = let fits = end-fits c.args.file c.args.bytes.now c.args.frames.now c.requires.live c.requires.frames in omega (arith, fits.0, fits.1, c.number-2.ensures)

pub returns-clause-fits : goal.returns-clause-fits
returns-clause-fits c =
    let fits = end-fits c.args.file c.args.bytes.now c.args.frames.now c.requires.live c.requires.frames in
    (c.requires.file, omega (arith, fits.0, c.size.ensures), omega (arith, fits.1, c.size.ensures, c.number-2.ensures), omega (arith, fits.2, c.number.ensures))
