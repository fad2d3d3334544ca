use Rattle.std.proofs.Common.{◌≡◌, ◌∙◌, ℕ, List, filter, ap, rules}
use Rattle.std.proofs.lemmas.Fn.{filter_same}
use Rattle.st_fold.specs.Map.{folded}
use Rattle.st_key.specs.Spans.{holds}
use Rattle.st_restart.proofs.agreement.base_at.Goals as goal

pub returns : goal.returns
returns c =
    filter_same _ (λ (row : List ℕ × List ℕ). holds c.args.available.now row.0) _ (λ x b f' k. search rules) _ _ c.retain.ensures.filtered
    ∙ ap (filter (λ (row : List ℕ × List ℕ). holds c.args.available.now row.0)) (c.in_ok-rows.ensures ∙ c.in_ok-pairs.ensures)
