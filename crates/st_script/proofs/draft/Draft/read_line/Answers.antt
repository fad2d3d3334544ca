use Rattle.st_script.specs.Words.{words}
use Rattle.st_script.proofs.Drafts.{judge-take}
use Rattle.st_script.proofs.draft.Draft.read_line.Goals as goal

pub returns : goal.returns
returns c =
    let all = words c.args.line.now in
    let judged = rw (c.deref.ensures.value, c.in_ok-first_words.ensures, judge-take c.args.self.now all) at c.judge.ensures in
    rw (← c.is_skipped.ensures, c.if-is_skipped.false) judged
