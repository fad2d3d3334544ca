use Rattle.std.proofs.Common.{Err, ◌≡◌, ◌∙◌, false, ap, rules}
use Rattle.std.specs.Option.{option_map}
use Rattle.st_disk.specs.History.{with_file}
use Rattle.st_queue.specs.Place.{next_file}
use Rattle.st_queue.specs.Writing.{shut_first}
use Rattle.st_queue.specs.declared.frame.QueueRefusal.{QueueRefusal}
use Rattle.st_queue.specs.declared.place.Place.{Place}
use Rattle.st_queue.proofs.Held.{due-released, holds-refused, holds-shut}
use Rattle.st_queue.proofs.state.shut_next.Goals as goal

pub returns-in-Err-clause-any_moment : goal.returns-in-Err-clause-any_moment
returns-in-Err-clause-any_moment g c = c.shut.ensures.shuts.any_moment c.args.state.now.discarded (due-released _ c.args.state.now c.requires.holds c.requires.unbroken c.requires.due)

pub returns-clause-any_moment : goal.returns-clause-any_moment
returns-clause-any_moment g c = c.shut.ensures.shuts.any_moment c.args.state.now.discarded (due-released _ c.args.state.now c.requires.holds c.requires.unbroken c.requires.due)

pub returns-clause-less : goal.returns-clause-less
returns-clause-less g c =
    c.in_default.ensures.shuts.less c.args.state.now.discarded (due-released _ c.args.state.now c.requires.holds c.requires.unbroken c.requires.due)

pub returns-clause-holds : goal.returns-clause-holds
returns-clause-holds g c =
    let state = c.args.state.now in
    let told = g.D.Disk.history c.args.disk.now in
    let calls : g.D.Disk.history c.shut.new.disk ≡ option_map (shut_first (next_file state.current)) told = search rules in
    let unshut_is : c.with_flag-state.result ≡ with_file (next_file state.current) false state.unshut = c.with_flag-state.ensures ∙ ap (λ (p : Place). with_file p.file false state.unshut) c.next_place-file.ensures in
    rw (unshut_is, c.requires.unprepared) (holds-shut told _ state c.requires.holds c.requires.unbroken c.requires.unprepared calls)

pub shut-requires-clause-settled : goal.shut-requires-clause-settled
shut-requires-clause-settled g c = c.requires.holds.settled c.requires.unbroken

pub returns-in-Err-clause-holds : goal.returns-in-Err-clause-holds
returns-in-Err-clause-holds g c =
    holds-refused _ _ c.args.state.now c.in-Err.refusal c.requires.holds c.requires.unbroken c.in-Err.ensures.err (λ e. c.shut.ensures.shuts.same (c.in-Err.is ∙ ap (λ (r : QueueRefusal). Err r) e)) _ c.broken_by-state.ensures
