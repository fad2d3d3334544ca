use Rattle.std.proofs.Common.{◌≡◌, ◌∙◌, Some, None, Err, ap, refl, sym, subst, rules}
use Rattle.std.specs.Option.{ForSome, option_map}
use Rattle.std.proofs.lemmas.Option.{same_Some}
use Rattle.st_queue.specs.Reading.{Fits}
use Rattle.st_queue.specs.Writing.{IsSettled, ToldSettled, appended, behind_frame}
use Rattle.st_queue.specs.declared.frame.QueueRefusal.{QueueRefusal}
use Rattle.st_queue.proofs.Held.{full-appends, holds-appended, holds-unappended}
use Rattle.st_disk.specs.Calls.{ToldStoppedIn}
use Rattle.st_queue.specs.Writing.{append_calls}
use Rattle.st_queue.specs.declared.place.Place.{Place}
use Rattle.st_queue.proofs.state.append.Goals as goal

pub returns-then-length-state-clause-appends : goal.returns-then-length-state-clause-appends
returns-then-length-state-clause-appends g c = λ unbroken place is.
    full-appends place c.args.payload.now _ _ _ _ refl (subst (λ (o : _). ForSome (g.D.Disk.history c.args.disk.now) (λ h. IsSettled h o)) is (c.requires.holds.settled unbroken))

pub returns-in-Err-clause-holds : goal.returns-in-Err-clause-holds
returns-in-Err-clause-holds g c =
    let unbroken : c.args.state.now.broken ≡ None = search rules in
    let is : c.args.state.now.current ≡ Some c.unwrap-place.result = search rules in
    holds-unappended _ _ c.args.state.now c.unwrap-place.result c.in-Err.refusal c.requires.holds unbroken is c.in-Err.ensures.err
    (λ e. c.append_frame.ensures.appends.stays (c.in-Err.is ∙ ap (λ (r : QueueRefusal). Err r) e))
    (λ e. c.append_frame.ensures.beside (c.in-Err.is ∙ ap (λ (r : QueueRefusal). Err r) e)) _ c.broken_by-state.ensures

pub returns-clause-holds : goal.returns-clause-holds
returns-clause-holds g c =
    let place = c.unwrap-place.result in
    let unbroken : c.args.state.now.broken ≡ None = search rules in
    let is : c.args.state.now.current ≡ Some place = search rules in
    let calls : g.D.Disk.history c.append_frame.new.disk ≡ option_map (appended place c.args.payload.now) (g.D.Disk.history c.args.disk.now) = search rules in
    let settled : ToldSettled (g.D.Disk.history c.append_frame.new.disk) (Some (behind_frame place c.args.payload.now)) = search rules in
    let fits : Fits c.behind_frame.result = search rules in
    holds-appended _ _ c.args.state.now place c.behind_frame.result c.args.payload.now c.requires.holds unbroken is c.behind_frame.ensures fits calls settled

pub returns-in-Err-clause-stopped : goal.returns-in-Err-clause-stopped
returns-in-Err-clause-stopped g c = λ outside place is.
    let found : c.args.state.now.current ≡ Some c.unwrap-place.result = search rules in
    subst (λ (p : Place). ToldStoppedIn (λ _. append_calls p c.args.payload.now) (g.D.Disk.history c.args.disk.now) (g.D.Disk.history c.append_frame.new.disk)) (same_Some c.unwrap-place.result place (sym found ∙ is)) c.in-Err.ensures.stopped
