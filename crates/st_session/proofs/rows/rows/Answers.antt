use Rattle.std.proofs.Common.{rules, ◌≡◌, ◌∙◌, ◌-◌, ◌&&◌, true, false, nat_lt, List, ℕ, [], ◌∷◌, ◌++◌, arith, ap}
use Rattle.st_fold.specs.Map.{Map}
use Rattle.st_fold.specs.Reading.{size_of}
use Rattle.st_fold.specs.declared.request.Answer.TheVariants.{Rows}
use Rattle.st_ptree.specs.Entries.{pairs_of}
use Rattle.st_session.proofs.Shown.{no-bytes, no-rows, stands-cut, stands-so}
use Rattle.st_session.proofs.rows.rows.Goals as goal
use Rattle.st_session.proofs.rows.rows.Goals.{then-rows_left-eq0-via-then-rows_left-eq0, then-rows_left-eq0-via-else-rows_left-eq0+then-bytes_left-eq0}
use Rattle.st_versioned.specs.Root.{over}

pub returns-then-rows_left-eq0 : goal.returns-then-rows_left-eq0
returns-then-rows_left-eq0 g c = λ pairs map.
    let spent : (nat_lt 0 c.loop-key.rows_left && nat_lt 0 c.loop-key.bytes_left) ≡ false =
    elim c.then-rows_left-eq0.branch [
      | then-rows_left-eq0-via-then-rows_left-eq0 w ↦ no-rows c.loop-key.rows_left c.loop-key.bytes_left (search rules)
      | then-rows_left-eq0-via-else-rows_left-eq0+then-bytes_left-eq0 w ↦ no-bytes c.loop-key.rows_left c.loop-key.bytes_left (search rules)
    ] in
    ap (λ (t : Map). Rows t true) c.from_vec.ensures
    ∙ stands-cut (over (pairs_of c.args.overlay.now.root.now.entries) (pairs_of c.args.overlay.now.base.now)) c.args.reverse c.args.range.now c.args.rows c.args.bytes
    c.loop-key.taken.items c.loop-key.rows_left c.loop-key.bytes_left c.loop-key.at.now c.loop-key.or_equal c.loop-key.invariant
    (c.in-Some.key.now, c.in-Some.value.now) c.in-Some.ensures.next spent pairs map

pub loop-key-preserved : goal.loop-key-preserved
loop-key-preserved g c =
    let shown : c.push-in-Some.new.self.items ≡ c.loop-key.taken.items ++ (c.in-Some.key.now, c.in-Some.value.now) ∷ [] = search rules in
    let less : c.saturating_sub-bytes_left.result ≡ c.loop-key.bytes_left - size_of (c.in-Some.key.now, c.in-Some.value.now) = search rules in
    stands-so (over (pairs_of c.args.overlay.now.root.now.entries) (pairs_of c.args.overlay.now.base.now)) c.args.reverse c.args.range.now c.args.rows c.args.bytes
    c.loop-key.taken.items c.loop-key.rows_left c.loop-key.bytes_left c.loop-key.at.now c.loop-key.or_equal c.loop-key.invariant
    (c.in-Some.key.now, c.in-Some.value.now) c.push-in-Some.new.self.items c.saturating_sub-bytes_left.result c.in-Some.ensures.next c.in-Some.ensures.inside
    (omega arith) (omega arith) shown less
