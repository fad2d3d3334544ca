use Rattle.std.proofs.Common.{Err, ◌≡◌, ◌∙◌, Some, None, true, ap, sym, subst, rules}
use Rattle.std.specs.Option.{option_map}
use Rattle.st_disk.specs.History.{with_file}
use Rattle.st_queue.specs.Place.{next_file, next_place}
use Rattle.st_queue.specs.Writing.{ToldSettled, entered}
use Rattle.st_queue.specs.declared.frame.QueueRefusal.{QueueRefusal}
use Rattle.st_queue.specs.declared.place.Place.{Place}
use Rattle.st_queue.proofs.Held.{holds-entered, holds-refused, prepared-place}
use Rattle.std.proofs.lemmas.Option.{same_Some}
use Rattle.st_disk.specs.Calls.{ToldStoppedIn}
use Rattle.st_queue.specs.Writing.{enter_calls}
use Rattle.st_queue.proofs.state.enter_next.Goals as goal

pub enter-requires-clause-prepared : goal.enter-requires-clause-prepared
enter-requires-clause-prepared g c =
    let unbroken : c.args.state.now.broken ≡ None = search rules in
    let ready = prepared-place _ c.args.state.now c.requires.holds unbroken (c.requires.prepared unbroken) in ready.1

pub returns-clause-holds : goal.returns-clause-holds
returns-clause-holds g c =
    let state = c.args.state.now in
    let told = g.D.Disk.history c.args.disk.now in
    let new = g.D.Disk.history c.enter.new.disk in
    let unbroken : state.broken ≡ None = search rules in
    let ready = prepared-place told state c.requires.holds unbroken (c.requires.prepared unbroken) in
    let calls : new ≡ option_map (entered (next_file state.current)) told = search rules in
    let settled : ToldSettled new (Some (next_place state.current)) = search rules in
    let unshut_is : c.with_flag-state.result ≡ with_file (next_file state.current) true state.unshut = c.with_flag-state.ensures ∙ ap (λ (p : Place). with_file p.file true state.unshut) c.next_place.ensures in
    rw (unshut_is, c.last_behind-state.ensures) (holds-entered told new state (next_place state.current) c.requires.holds unbroken ready.0 calls settled)

pub enter-requires-clause-settled : goal.enter-requires-clause-settled
enter-requires-clause-settled g c = let unbroken : c.args.state.now.broken ≡ None = search rules in c.requires.holds.settled unbroken

pub returns-in-Err-clause-holds : goal.returns-in-Err-clause-holds
returns-in-Err-clause-holds g c =
    let unbroken : c.args.state.now.broken ≡ None = search rules in
    holds-refused _ _ c.args.state.now c.in-Err.refusal c.requires.holds unbroken c.in-Err.ensures.err (λ e. c.enter.ensures.enters.same (c.in-Err.is ∙ ap (λ (r : QueueRefusal). Err r) e)) _ c.broken_by-state.ensures

pub returns-in-Err-clause-stopped : goal.returns-in-Err-clause-stopped
returns-in-Err-clause-stopped g c = λ outside place is.
    let unbroken : c.args.state.now.broken ≡ None = search rules in
    let ready = prepared-place _ c.args.state.now c.requires.holds unbroken (c.requires.prepared unbroken) in
    subst (λ (p : Place). ToldStoppedIn (λ _. enter_calls p.file) (g.D.Disk.history c.args.disk.now) (g.D.Disk.history c.enter.new.disk)) (same_Some (next_place c.args.state.now.current) place (sym ready.0 ∙ is)) c.in-Err.ensures.stopped
