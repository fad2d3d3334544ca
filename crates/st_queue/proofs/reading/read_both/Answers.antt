use Rattle.std.proofs.Common.{◌∙◌, ap, Ok, Option, ℕ, rules}
use Rattle.st_queue.specs.Due.{is_released}
use Rattle.st_queue.proofs.Current.{frames-both}
use Rattle.st_queue.proofs.reading.read_both.Goals as goal

pub returns-clause-reads : goal.returns-clause-reads
returns-clause-reads c = (
  frames-both c.args.zero.now c.args.one.now c.requires.zero c.requires.one c.in_ok-first.first.items c.in_ok-second.second.items c.in_ok-first.ensures c.in_ok-second.ensures (Ok c.in_ok-frames.frames.items) c.in_ok-frames.ensures,
  c.both_ends.ensures.newer,
  search rules,
  record {
    unshut_is = c.requires.unshut;
    older_is = λ discarded. ap (λ (o : Option ℕ). is_released o discarded) c.behind_last.ensures ∙ c.both_ends.ensures.older discarded;
  },
)
