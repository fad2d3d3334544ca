use Rattle.std.proofs.Common.{true, false, length, ap, ◌∙◌}
use Rattle.st_disk.specs.Entries.{file_of}
use Rattle.st_disk.proofs.Undone.{length-written, tears}
use Rattle.st_disk.proofs.tear.left_files.Goals as goal

pub torn-requires : goal.torn-requires
torn-requires c =
    ap length (c.deref-2.ensures.value ∙ c.in_ok-first.ensures.written) ∙ length-written false c.args.entries.now c.args.zero.now c.requires.zero.1.seen

pub torn-requires-2 : goal.torn-requires-2
torn-requires-2 c =
    ap length (c.deref-4.ensures.value ∙ c.in_ok-second.ensures.written) ∙ length-written true c.args.entries.now c.args.one.now c.requires.one.1.seen

pub returns : goal.returns
returns c =
    let entries = c.args.entries.now in
    tears c.args.choice (file_of false entries c.args.zero.now, file_of true entries c.args.one.now) c.if-choice-eq0.false c.if-choice-eq1.false
    _ _ _ c.seed_from_u64-words.ensures _ _ _ _ _ _
    (c.deref.ensures.value ∙ c.in_ok-first.ensures.synced) c.requires.zero.1.seen (c.deref-2.ensures.value ∙ c.in_ok-first.ensures.written)
    (c.deref-3.ensures.value ∙ c.in_ok-second.ensures.synced) c.requires.one.1.seen (c.deref-4.ensures.value ∙ c.in_ok-second.ensures.written)
    _ _ c.in_ok-left_zero.ensures c.in_ok-left_one.ensures
