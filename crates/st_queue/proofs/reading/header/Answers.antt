use Rattle.std.proofs.Common.{sym, ◌∙◌}
use Rattle.st_queue.proofs.FramesLemmas.{header_is}
use Rattle.st_queue.proofs.reading.header.Goals as goal

pub returns : goal.returns
returns c =
    header_is c.args.bytes.now c.in_ok-generation.generation c.in_ok-first.first c.if-not-starts_with.ensures.value
    (sym c.take_u64.ensures ∙ c.in_ok-generation.was) c.if-generation-gt-MAX_NUMBER.false
    (sym c.take_u64-2.ensures ∙ c.in_ok-first.was) c.if-first-gt-MAX_NUMBER.false
