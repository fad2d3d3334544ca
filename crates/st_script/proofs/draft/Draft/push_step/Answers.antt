use Rattle.std.proofs.Common.{◌≡◌, ◌++◌, ◌∷◌, [], refl, rules}
use Rattle.std.proofs.lemmas.Bool.{false≢true}
use Rattle.st_script.specs.Draft.{add_step}
use Rattle.st_script.proofs.Drafts.{on_last-set, on_last-none}
use Rattle.st_script.proofs.draft.Draft.push_step.Goals as goal
use Rattle.st_script.proofs.draft.Draft.push_step.Goals.{in-Some+in_ok-push, in_default}

pub returns : goal.returns
returns c =
    let lives = c.self.inside.lives in
    let size = lives.ok.0 in
    elim c.match-last_mut.branch [
      | in-Some+in_ok-push w ↦
          let life = w.in-Some.life.now in
          let pushed : w.push.new.self ≡ life.dos ++ (c.args.step, c.args.count) ∷ [] = search rules in
          let last = on_last-set (add_step (c.args.step, c.args.count)) lives.items lives.len life size (w.in-Some.ensures.variant.0 refl) w.in-Some.ensures.value in
          rw (w.self-inside-is, ← c.self.view_is, last, pushed) refl
      | in_default w ↦
          let none = on_last-none (add_step (c.args.step, c.args.count)) lives.items lives.len size (λ some. false≢true (w.in_default.ensures.variant.1 some)) in
          rw (w.self-inside-is, ← c.self.view_is, none) refl
    ]
