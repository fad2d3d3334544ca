use Rattle.std.proofs.Common.{rules, tests, ◌∙◌}
use Rattle.std.proofs.lemmas.Iterator.{YieldsList-from_slice}
use Rattle.std.proofs.lemmas.Iterator.Search.{any_from_yields_List}
use Rattle.st_script.specs.Fields.{is_word}
use Rattle.st_script.proofs.Drafts.{list_any-map}
use Rattle.st_script.proofs.draft.later.is_among.Goals as goal

pub returns : goal.returns
returns c =
    any_from_yields_List (λ text. is_word c.args.word.now text.now) _ _ _ c.any.ensures.ran (YieldsList-from_slice c.args.known.now cc) (λ x b q k. search (rules, tests))
    ∙ list_any-map (is_word c.args.word.now) _ c.args.known.now
