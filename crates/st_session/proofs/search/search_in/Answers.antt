use Rattle.std.proofs.Common.{IfOk, subst, sym}
use Rattle.st_fold.specs.Reading.{span_of}
use Rattle.st_fold.specs.declared.request.Ask.{Ask}
use Rattle.st_session.specs.Seen.{AreShortIn, IsFoundIn, value_in}
use Rattle.st_session.proofs.search.search_in.Goals as goal

pub get-requires : goal.get-requires
get-requires g c = subst (λ (a : Ask). AreShortIn (span_of a) (value_in c.args.view.now)) c.in-Get.is c.requires.short

pub rows-requires : goal.rows-requires
rows-requires g c = subst (λ (a : Ask). AreShortIn (span_of a) (value_in c.args.view.now)) c.in-Rows.is c.requires.short

pub select-requires : goal.select-requires
select-requires g c = subst (λ (a : Ask). AreShortIn (span_of a) (value_in c.args.view.now)) c.in-Select.is c.requires.short

pub returns-in-Get : goal.returns-in-Get
returns-in-Get g c = subst (λ (a : Ask). IfOk c.get.result (IsFoundIn c.args.view.now a)) (sym c.in-Get.is) c.get.ensures
