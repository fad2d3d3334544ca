use Rattle.std.proofs.Common.{◌≡◌, sym, ◌∙◌}
use Rattle.std.proofs.lemmas.Bool.{OnFalse_from, both_ways, true_from_ne_false}
use Rattle.std.specs.List.{list_any}
use Rattle.st_key.specs.Parts.{has_all}
use Rattle.st_key.specs.Spans.{holds}
use Rattle.st_key.proofs.Cover.{covers_from, misses_from}
use Rattle.st_key.proofs.key_set.Ranges.covers.Goals as goal

pub returns-clause-missed : goal.returns-clause-missed
returns-clause-missed c =
    let found : c.has_in_one_piece.result ≡ list_any (has_all c.args.r.now.begin c.args.r.now.end) c.args.self.now =
    rw (c.begin.ensures.value, c.end.ensures.value) at c.has_in_one_piece.ensures.value in
    OnFalse_from _ _ (λ none.
    misses_from c.args.self.now c.args.r.now c.has_in_one_piece.ensures.canonical c.begin.ensures.ordered (sym found ∙ none))

pub returns-clause-covered : goal.returns-clause-covered
returns-clause-covered c =
    let found : c.has_in_one_piece.result ≡ list_any (has_all c.args.r.now.begin c.args.r.now.end) c.args.self.now =
    rw (c.begin.ensures.value, c.end.ensures.value) at c.has_in_one_piece.ensures.value in (
      (λ covered. covers_from c.args.self.now c.args.r.now (sym found ∙ covered)),
      (λ all. true_from_ne_false c.has_in_one_piece.result (λ none.
          let missed = misses_from c.args.self.now c.args.r.now c.has_in_one_piece.ensures.canonical c.begin.ensures.ordered (sym found ∙ none) in
          both_ways (holds c.args.self.now missed.0) missed.2 (all missed.0 missed.1))),
    )
