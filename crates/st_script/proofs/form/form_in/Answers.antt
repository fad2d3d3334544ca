use Rattle.std.proofs.Common.{◌≡◌, Option, Some, None, MatchOption, IsSomeAnd, option_map, refl, ap, rules, tests, ◌∙◌}
use Rattle.std.proofs.lemmas.Iterator.{YieldsList-from_slice}
use Rattle.std.proofs.lemmas.Iterator.Search.{find_from_yields_List}
use Rattle.st_script.specs.Fields.{is_word}
use Rattle.st_script.proofs.Drafts.{find-map}
use Rattle.st_script.proofs.form.form_in.Goals as goal

-- a value that is made of another, where there is one
mapped : {A B : Type 0} (f : A → B) (o : Option A) (r : Option B) (makes : A → B → Type 0) → MatchOption o (r ≡ None) (λ x. IsSomeAnd r (makes x)) → ((x : A) (y : B) → makes x y → y ≡ f x) → r ≡ option_map f o
mapped f None r makes made k = made
mapped f (Some x) None makes made k = absurd made
mapped f (Some x) (Some y) makes made k = ap Some (k x y made)

option_map-twice : {A B C : Type 0} (f : A → B) (g : B → C) (o : Option A) → option_map (λ x. g (f x)) o ≡ option_map g (option_map f o)
option_map-twice f g None = refl
option_map-twice f g (Some x) = refl

pub returns : goal.returns
returns c =
    let word = c.args.word.now in
    let found = find_from_yields_List (λ row. is_word word row.0.now) _ _ c.find.result c.find.ensures.ran (YieldsList-from_slice c.args.table.now cc) (λ x b q k. search (rules, tests)) in
    mapped (λ row. row.now.1) c.find.result c.map.result _ c.map.ensures.cases (λ x y made. search (rules, tests))
    ∙ option_map-twice (λ row. row.now) (λ row. row.1) c.find.result
    ∙ ap (option_map (λ row. row.1)) found
    ∙ find-map (λ row. is_word word row.0) (λ row. (row.0.now, row.1)) (λ row. row.1) c.args.table.now
