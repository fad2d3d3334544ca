use Rattle.std.proofs.Common.{◌≡◌, ◌++◌, ◌∷◌, [], refl, rules}
use Rattle.std.proofs.lemmas.Bool.{false≢true}
use Rattle.st_script.specs.Draft.{add_mutation}
use Rattle.st_script.proofs.Drafts.{on_last-set, on_last-none}
use Rattle.st_script.proofs.draft.Draft.push_mutation.Goals as goal
use Rattle.st_script.proofs.draft.Draft.push_mutation.Goals.{in-Some+in_ok-push, in_default+in-Set+in-Some-1, in_default+in-Set+in-None-1, in_default+in-Clear+in-Some-1, in_default+in-Clear+in-None-1, in_default+in-Atomic+in-Some-1, in_default+in-Atomic+in-None-1}

pub returns : goal.returns
returns c =
    let log = c.self.inside.log in
    let size = log.ok.0 in
    let none = on_last-none (add_mutation c.args.mutation) log.items log.len size in
    elim c.match-last_mut.branch [
      | in-Some+in_ok-push w ↦
          let batch = w.in-Some.batch.now in
          let pushed : w.push.new.self ≡ batch.mutations ++ c.args.mutation ∷ [] = search rules in
          let last = on_last-set (add_mutation c.args.mutation) log.items log.len batch size (w.in-Some.ensures.variant.0 refl) w.in-Some.ensures.value in
          rw (w.self-inside-is, ← c.self.view_is, last, pushed) refl
      | in_default+in-Set+in-Some-1 w ↦ rw (w.self-inside-is, ← c.self.view_is, none (λ some. false≢true (w.in_default.ensures.variant.1 some))) refl
      | in_default+in-Set+in-None-1 w ↦ rw (w.self-inside-is, ← c.self.view_is, none (λ some. false≢true (w.in_default.ensures.variant.1 some))) refl
      | in_default+in-Clear+in-Some-1 w ↦ rw (w.self-inside-is, ← c.self.view_is, none (λ some. false≢true (w.in_default.ensures.variant.1 some))) refl
      | in_default+in-Clear+in-None-1 w ↦ rw (w.self-inside-is, ← c.self.view_is, none (λ some. false≢true (w.in_default.ensures.variant.1 some))) refl
      | in_default+in-Atomic+in-Some-1 w ↦ rw (w.self-inside-is, ← c.self.view_is, none (λ some. false≢true (w.in_default.ensures.variant.1 some))) refl
      | in_default+in-Atomic+in-None-1 w ↦ rw (w.self-inside-is, ← c.self.view_is, none (λ some. false≢true (w.in_default.ensures.variant.1 some))) refl
    ]
