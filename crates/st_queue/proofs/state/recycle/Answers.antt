use Rattle.std.proofs.Common.{◌≡◌, refl, ap, subst}
use Rattle.std.specs.Option.{option_map}
use Rattle.std.specs.Result.{OnOk}
use Rattle.st_queue.specs.Place.{next_file, next_generation, next_number}
use Rattle.st_queue.specs.Writing.{after_put, header_bytes}
use Rattle.st_queue.specs.declared.place.Place.{Place}
use Rattle.st_queue.specs.declared.state.State.{State}
use Rattle.std.specs.Prelude.{Option}
use Rattle.st_queue.proofs.Held.{less-then, less-told, recycled-both}
use Rattle.st_queue.proofs.Recycles.{leaves-all, less-none}
use Rattle.st_disk.specs.Calls.{ToldStoppedIn}
use Rattle.std.proofs.lemmas.Result.{IfErr-weaker}
use Rattle.std.specs.Result.{OnErr}
use Rattle.st_queue.specs.Writing.{head_calls}
use Rattle.st_queue.proofs.Stops.{if_err, recycle_stops-first, recycle_stops-second}
use Rattle.st_queue.proofs.state.recycle.Goals as goal

pub returns-in-Some-spent-clause-any_moment : goal.returns-in-Some-spent-clause-any_moment
returns-in-Some-spent-clause-any_moment g c = λ unbroken.
    let told = g.D.Disk.history c.args.disk.now in
    less-none c.args.state.now.discarded told told (leaves-all c.args.state.now.current told told refl (c.requires.holds.settled unbroken))

pub returns-in-Some-spent-clause-frames : goal.returns-in-Some-spent-clause-frames
returns-in-Some-spent-clause-frames g c = less-told c.args.state.now.discarded (g.D.Disk.history c.args.disk.now)

pub returns-clause-any_moment : goal.returns-clause-any_moment
returns-clause-any_moment g c = λ unbroken.
    less-then c.args.state.now.discarded _ _ _ c.shut_next.ensures.any_moment c.in_ok-shut_next.ensures.less c.head_next.ensures.any_moment

pub returns-clause-calls : goal.returns-clause-calls
returns-clause-calls g c =
    let old = c.args.state.now.current in
    let mid = g.D.Disk.history c.shut_next.new.disk in
    let new = g.D.Disk.history c.head_next.new.disk in
    let same : c.shut_next.new.state.current ≡ old = ap (λ (s : State). s.current) c.in_ok-shut_next.ensures.ok in
    recycled-both (next_file old) (next_generation old) (next_number old) _ mid new c.head_next.result c.in_ok-shut_next.ensures.calls
    (subst (λ (o : Option Place). OnOk c.head_next.result (new ≡ option_map (after_put (next_file o) 1 (header_bytes (next_generation o) (next_number o))) mid)) same c.head_next.ensures.calls)

pub returns-in_err-shut_next-clause-stopped : goal.returns-in_err-shut_next-clause-stopped
returns-in_err-shut_next-clause-stopped g c =
    let old = c.args.state.now.current in
    if_err c.from_residual.result _ (λ refusal outside. recycle_stops-first (next_file old) (next_generation old) (next_number old) _ _ c.in_err-shut_next.ensures.stopped)

pub returns-clause-stopped : goal.returns-clause-stopped
returns-clause-stopped g c =
    let old = c.args.state.now.current in
    let mid = g.D.Disk.history c.shut_next.new.disk in
    let new = g.D.Disk.history c.head_next.new.disk in
    let same : c.shut_next.new.state.current ≡ old = ap (λ (s : State). s.current) c.in_ok-shut_next.ensures.ok in
    let stopped = subst (λ (o : Option Place). OnErr c.head_next.result (ToldStoppedIn (λ _. head_calls (next_file o) (next_generation o) (next_number o)) mid new)) same c.head_next.ensures.stopped in
    IfErr-weaker c.head_next.result (λ _. ToldStoppedIn (λ _. head_calls (next_file old) (next_generation old) (next_number old)) mid new) _
    (λ refusal stopped outside. recycle_stops-second (next_file old) (next_generation old) (next_number old) _ mid new c.in_ok-shut_next.ensures.calls stopped) stopped
