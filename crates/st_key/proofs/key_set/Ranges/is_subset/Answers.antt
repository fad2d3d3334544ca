use Rattle.std.proofs.Common.{◌≡◌, ◌∙◌, ◌+◌, ◌&&◌, true, false, drop, refl, ap, sym, subst, rules}
use Rattle.std.proofs.lemmas.Bool.{both_ways, false≢true}
use Rattle.std.proofs.lemmas.List.{drop_all}
use Rattle.std.specs.List.{list_all}
use Rattle.st_key.specs.Parts.{begins_by, ending_from, lies_in}
use Rattle.st_key.specs.Spans.{is_canonical}
use Rattle.st_key.proofs.Subset.{canonical-ending, lies_from, step-at, subset_from}
use Rattle.st_key.proofs.key_set.Ranges.is_subset.Goals as goal

pub returns-then-not-begins_by-clause-value : goal.returns-then-not-begins_by-clause-value
returns-then-not-begins_by-clause-value c =
    let few = c.pieces-piece-items.result.now in
    let piece = c.piece-item.result in
    let left = c.loop-piece.left.now in
    let at = c.loop-piece.piece-index in
    let rises = subst (λ l. is_canonical l ≡ true) (sym c.pieces-piece-items.ensures.value) c.pieces-piece-items.ensures.canonical in
    let late : begins_by (ending_from left piece.end) piece.begin ≡ false = search rules in
    sym (sym c.loop-piece.invariant.same
    ∙ step-at left few at piece c.loop-piece-test.true c.piece-item.is c.loop-piece.invariant.canonical rises
    ∙ ap (λ b. b && list_all (lies_in (ending_from left piece.end)) (drop (at + 1) few)) late)

pub returns-then-not-begins_by-clause-subset : goal.returns-then-not-begins_by-clause-subset
returns-then-not-begins_by-clause-subset c = (
  λ is. absurd (false≢true is),
  λ subset. absurd (both_ways (list_all (lies_in c.args.other.now) c.args.self.now) (sym (returns-then-not-begins_by-clause-value c))
      (lies_from c.args.self.now c.args.other.now c.pieces-piece-items.ensures.canonical c.pieces-left.ensures.canonical subset)),
)

pub loop-piece-preserved : goal.loop-piece-preserved
loop-piece-preserved c =
    let few = c.pieces-piece-items.result.now in
    let piece = c.piece-item.result in
    let left = c.loop-piece.left.now in
    let at = c.loop-piece.piece-index in
    let rises = subst (λ l. is_canonical l ≡ true) (sym c.pieces-piece-items.ensures.value) c.pieces-piece-items.ensures.canonical in
    let early : begins_by (ending_from left piece.end) piece.begin ≡ true = search rules in
    let next : c.ending_from-left.result.now ≡ ending_from left piece.end = search rules in
    record {
      same =
          ap (λ l. list_all (lies_in l) (drop (at + 1) few)) next
          ∙ sym (ap (λ b. b && list_all (lies_in (ending_from left piece.end)) (drop (at + 1) few)) early)
          ∙ sym (step-at left few at piece c.loop-piece-test.true c.piece-item.is c.loop-piece.invariant.canonical rises)
          ∙ c.loop-piece.invariant.same;
      canonical = subst (λ l. is_canonical l ≡ true) (sym next) (canonical-ending left piece.end c.loop-piece.invariant.canonical);
    }

pub returns-clause-subset : goal.returns-clause-subset
returns-clause-subset c =
    let few = c.pieces-piece-items.result.now in
    let all : list_all (lies_in c.args.other.now) c.args.self.now ≡ true =
    sym c.loop-piece.invariant.same ∙ ap (list_all (lies_in c.loop-piece.left.now)) (drop_all c.loop-piece.piece-index few c.loop-piece-test.false) in
    (λ _. subset_from c.args.self.now c.args.other.now all, λ _. refl)
