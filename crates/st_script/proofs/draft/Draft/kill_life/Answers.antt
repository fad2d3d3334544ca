use Rattle.std.proofs.Common.{refl}
use Rattle.std.proofs.lemmas.Bool.{false≢true}
use Rattle.st_script.specs.Draft.{kill_after}
use Rattle.st_script.proofs.Drafts.{on_last-set, on_last-none}
use Rattle.st_script.proofs.draft.Draft.kill_life.Goals as goal
use Rattle.st_script.proofs.draft.Draft.kill_life.Goals.{in-Some, in_default}

pub returns : goal.returns
returns c =
    let lives = c.self.inside.lives in
    let size = lives.ok.0 in
    let kill = kill_after c.args.calls c.args.choice in
    elim c.match-last_mut.branch [
      | in-Some w ↦
          let last = on_last-set kill lives.items lives.len w.in-Some.life.now size (w.in-Some.ensures.variant.0 refl) w.in-Some.ensures.value in
          rw (w.self-inside-is, ← c.self.view_is, last) refl
      | in_default w ↦
          let none = on_last-none kill lives.items lives.len size (λ some. false≢true (w.in_default.ensures.variant.1 some)) in
          rw (w.self-inside-is, ← c.self.view_is, none) refl
    ]
