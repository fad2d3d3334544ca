use Rattle.std.proofs.Common.{◌≡◌, ◌==◌, List, Option, map, not, Result, rules, tests}
use Rattle.std.specs.Prelude.{MatchResult, OnOk}
use Rattle.std.specs.Iterator.{Drains, Yields}
use Rattle.std.proofs.lemmas.Iterator.{YieldsList, YieldsList-from_take}
use Rattle.std.proofs.lemmas.Iterator.Adapters.{fact_from_extend}
use Rattle.std.proofs.lemmas.Iterator.Consumers.{YieldsList-at, YieldsList-from_filter}
use Rattle.std.proofs.lemmas.Iterator.Splits.{YieldsList-from_slice_split}
use Rattle.st_script.specs.Words.{is_empty}
use Rattle.st_script.proofs.words.first_words.Goals as goal

-- what a list holds that a chain was added to, whose items are read as others
extended : {T A C E Q : Type 0} {steps : T → Option A → T → Type 0} {all : List C} {P : List A → Type 0} {s : T} (v : A → C) (r : Result (Unit {0}) E)
    → ((it : T) × (xs : List A) × (it ≡ s) × P xs × MatchResult r (λ _. Drains steps it xs) (λ _. (t : T) × Yields steps it xs t))
    → YieldsList steps v s all → ((xs : List A) → map v xs ≡ all → P xs → Q) → OnOk r Q
extended v r ran road says = fact_from_extend v r ran (λ it b. YieldsList-at b road) says

pub returns : goal.returns
returns c =
    extended (λ word. word.now) c.extend.result c.extend.ensures.ran (
    YieldsList-from_take _ (YieldsList-at c.take.ensures.source (
    YieldsList-from_filter _ (λ piece. not (is_empty piece)) (YieldsList-at c.filter.ensures.source (
    YieldsList-from_slice_split _ (λ byte. byte == 32) c.args.line.now c.split.ensures.rest c.split.ensures.done c.split.ensures.closure (λ x b q k. search (rules, tests))))
    c.filter.ensures.closure (λ x b q k. search (rules, tests))))
    c.take.ensures.count) (λ xs e h. rw (h.0, c.clear.ensures.items) e)
