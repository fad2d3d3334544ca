use Rattle.std.proofs.Common.{◌≡◌, ◌+◌, ◌∙◌, ap, sym, subst, drop, arith}
use Rattle.st_cursor.proofs.Places.{goes_on, up_to, within}
use Rattle.st_cursor.proofs.cursor.count_on.Goals as goal

pub split_at-requires : goal.split_at-requires
split_at-requires c = let is = within c.args.last c.args.log.now in omega (arith, c.requires.from)

pub returns : goal.returns
returns c =
    let on : c.args.from + up_to c.args.version (drop c.args.from c.args.log.now) ≡ up_to c.args.version c.args.log.now =
    subst (λ n. n + up_to c.args.version (drop n c.args.log.now) ≡ up_to c.args.version c.args.log.now) (sym c.requires.from) (goes_on c.args.last c.args.version c.args.log.now c.requires.later) in
    ap (λ n. c.args.from + n) (c.count_to.ensures.value ∙ ap (up_to c.args.version) c.split_at.ensures.back) ∙ on
