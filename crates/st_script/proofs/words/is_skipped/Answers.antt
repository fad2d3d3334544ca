use Rattle.std.proofs.Common.{◌≡◌, ◌==◌, not, true, option_map, find, rules, tests, ap, ◌∙◌}
use Rattle.std.specs.Option.{option_map_or}
use Rattle.std.proofs.lemmas.Iterator.{YieldsList-from_slice}
use Rattle.std.proofs.lemmas.Iterator.Search.{find_from_yields_List}
use Rattle.st_script.proofs.Cutting.{is_skipped-words}
use Rattle.st_script.proofs.words.is_skipped.Goals as goal

pub returns-in-Some : goal.returns-in-Some
returns-in-Some c =
    let line = c.args.line.now in
    let found = find_from_yields_List (λ b. not (b == 32)) _ _ c.find.result c.find.ensures.ran (YieldsList-from_slice line cc) (λ x b q k. search (rules, tests)) in
    let is : option_map (λ x. x.now) c.find.result ≡ find (λ b. not (b == 32)) line = found in
    ap (λ o. option_map_or (λ b. b == 35) o true) (rw c.in-Some.is at is) ∙ is_skipped-words line

pub returns-in-None : goal.returns-in-None
returns-in-None c =
    let line = c.args.line.now in
    let found = find_from_yields_List (λ b. not (b == 32)) _ _ c.find.result c.find.ensures.ran (YieldsList-from_slice line cc) (λ x b q k. search (rules, tests)) in
    ap (λ o. option_map_or (λ b. b == 35) o true) (rw c.in-None.is at found) ∙ is_skipped-words line
