use Rattle.std.proofs.Common.{◌≡◌, ◌∷◌, [], subst}
use Rattle.std.specs.Option.{option_map}
use Rattle.std.specs.Result.{OnOk}
use Rattle.st_disk.specs.Moments.{ToldLeavesOnly}
use Rattle.st_queue.specs.Writing.{after_put, LeavesTorn}
use Rattle.st_queue.specs.declared.place.Place.{Place}
use Rattle.st_queue.proofs.Recycles.{enters}
use Rattle.st_disk.specs.Calls.{ToldStoppedIn}
use Rattle.std.specs.Result.{OnErr}
use Rattle.st_queue.specs.Writing.{enter_calls}
use Rattle.st_queue.proofs.writing.enter.Goals as goal

pub returns-clause-enters : goal.returns-clause-enters
returns-clause-enters g c =
    let told = g.D.Disk.history c.args.disk.now in
    let new = g.D.Disk.history c.put.new.disk in
    let ok = subst (λ (p : Place). OnOk c.put.result (new ≡ option_map (after_put p.file 0 (1 ∷ [])) told)) c.next_place.ensures c.put.ensures.ok in
    let leaves = subst (λ (p : Place). ToldLeavesOnly told new (LeavesTorn p.file 0 1 told)) c.next_place.ensures c.put.ensures.any_moment in
    enters c.args.current told c.requires.settled c.requires.prepared new c.put.result ok c.put.ensures.no_memory leaves

pub returns-clause-stopped : goal.returns-clause-stopped
returns-clause-stopped g c =
    subst (λ (p : Place). OnErr c.put.result (ToldStoppedIn (λ _. enter_calls p.file) (g.D.Disk.history c.args.disk.now) (g.D.Disk.history c.put.new.disk))) c.next_place.ensures c.put.ensures.stopped
