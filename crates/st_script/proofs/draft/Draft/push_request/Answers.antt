use Rattle.std.proofs.Common.{◌≡◌, ◌+◌, false, nat_le, nat_lt, refl, rules, tests, arith, le-ltb}
use Rattle.std.proofs.lemmas.Bool.{false≢true}
use Rattle.st_fold.specs.declared.request.Request.{Request}
use Rattle.st_script.specs.Draft.{add_request, rows_asked, max_requests, max_rows}
use Rattle.st_script.proofs.Drafts.{on_last-set, on_last-none}
use Rattle.st_script.proofs.draft.Draft.push_request.Goals as goal
use Rattle.st_script.proofs.draft.Draft.push_request.Goals.{in-Some+in_ok-add_request, in_default}

pub returns : goal.returns
returns c =
    let lives = c.self.inside.lives in
    let size = lives.ok.0 in
    let request : Request = record { number = c.self.inside.requests + 1; reader = c.args.reader; ask = c.args.ask } in
    let some : nat_le max_requests c.self.inside.requests ≡ false = search (rules, tests) in
    let sum : c.saturating_add-rows.result ≡ c.self.inside.rows + c.rows_asked.result = omega arith in
    let rows : c.saturating_add-rows.result ≡ c.self.inside.rows + rows_asked c.args.ask = rw c.rows_asked.ensures at sum in
    let room : nat_lt max_rows (c.self.inside.rows + rows_asked c.args.ask) ≡ false = le-ltb max_rows _ (rw rows at c.if-rows-gt-MAX_ROWS.false) in
    elim c.match-last_mut.branch [
      | in-Some+in_ok-add_request w ↦
          let life = w.in-Some.life.now in
          let added : w.add_request.new.life ≡ add_request request life = search rules in
          let last = on_last-set (add_request request) lives.items lives.len life size (w.in-Some.ensures.variant.0 refl) w.in-Some.ensures.value in
          rw (w.self-inside-is, ← c.self.view_is, some, room, rows, last, added) refl
      | in_default w ↦
          let none = on_last-none (add_request request) lives.items lives.len size (λ some. false≢true (w.in_default.ensures.variant.1 some)) in
          rw (w.self-inside-is, ← c.self.view_is, some, room, rows, none) refl
    ]
