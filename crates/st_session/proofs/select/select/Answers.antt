use Rattle.std.proofs.Common.{rules, ◌≡◌, ◌∙◌, Some, None, ap, List, ℕ}
use Rattle.st_fold.specs.declared.request.Found.TheVariants as found
use Rattle.st_ptree.specs.Entries.{pairs_of}
use Rattle.st_session.specs.Walking.{goes_back, passed_over}
use Rattle.st_session.proofs.Selected.{selects}
use Rattle.st_session.proofs.select.select.Goals as goal
use Rattle.st_versioned.specs.Root.{over}

pub returns-in_ok-short_key-in-Some : goal.returns-in_ok-short_key-in-Some
returns-in_ok-short_key-in-Some g c = λ pairs map.
    let turns : c.direction-reverse.result.0 ≡ goes_back c.args.offset = search rules in
    let passes : c.direction-reverse.result.1 ≡ passed_over c.args.offset = search rules in
    ap (λ (k : List ℕ). found.Key k) c.in_ok-short_key-in-Some.ensures
    ∙ selects (over (pairs_of c.args.overlay.now.root.now.entries) (pairs_of c.args.overlay.now.base.now)) c.args.key.now c.args.or_equal c.args.range.now c.args.offset c.direction-reverse.result.0 c.direction-reverse.result.1 c.start-at_it.result.0.now c.start-at_it.result.1
    turns passes c.start-at_it.ensures.sought pairs map
    (Some (c.in-Some.found.now, c.in-Some.field-0-1.now)) (c.in-Some.ensures.nth pairs map)

pub returns-in-None : goal.returns-in-None
returns-in-None g c = λ pairs map.
    let turns : c.direction-reverse.result.0 ≡ goes_back c.args.offset = search rules in
    let passes : c.direction-reverse.result.1 ≡ passed_over c.args.offset = search rules in
    c.none_found.ensures
    ∙ selects (over (pairs_of c.args.overlay.now.root.now.entries) (pairs_of c.args.overlay.now.base.now)) c.args.key.now c.args.or_equal c.args.range.now c.args.offset c.direction-reverse.result.0 c.direction-reverse.result.1 c.start-at_it.result.0.now c.start-at_it.result.1
    turns passes c.start-at_it.ensures.sought pairs map None (c.in-None.ensures.nth pairs map)
