use Rattle.std.proofs.Common.{◌≡◌, ◌∷◌, [], true, false, subst, rules}
use Rattle.std.specs.Option.{option_map}
use Rattle.std.specs.Result.{OnOk}
use Rattle.st_disk.specs.Moments.{ToldLeavesOnly}
use Rattle.st_queue.specs.Writing.{after_put, LeavesTorn}
use Rattle.st_queue.specs.declared.place.Place.{Place}
use Rattle.st_queue.proofs.Recycles.{shuts, shuts-none}
use Rattle.st_disk.specs.Calls.{ToldStoppedIn}
use Rattle.std.specs.Result.{OnErr}
use Rattle.std.proofs.lemmas.Result.{on_err_weaker}
use Rattle.st_queue.specs.Writing.{put_calls}
use Rattle.st_queue.proofs.Stops.{shut_stops}
use Rattle.st_queue.proofs.writing.shut.Goals as goal

pub returns-then-not-unshut-clause-shuts : goal.returns-then-not-unshut-clause-shuts
returns-then-not-unshut-clause-shuts g c = let closed : c.args.unshut ≡ false = search rules in shuts-none c.args.current _ c.requires.settled c.args.unshut closed c.requires.unshut

pub returns-clause-shuts : goal.returns-clause-shuts
returns-clause-shuts g c =
    let told = g.D.Disk.history c.args.disk.now in
    let new = g.D.Disk.history c.put.new.disk in
    let unshut : c.args.unshut ≡ true = search rules in
    let ok = subst (λ (p : Place). OnOk c.put.result (new ≡ option_map (after_put p.file 0 (0 ∷ [])) told)) c.next_place.ensures c.put.ensures.ok in
    let leaves = subst (λ (p : Place). ToldLeavesOnly told new (LeavesTorn p.file 0 1 told)) c.next_place.ensures c.put.ensures.any_moment in
    shuts c.args.current told c.requires.settled new c.put.result c.args.unshut unshut c.requires.unshut ok c.put.ensures.no_memory leaves

pub returns-clause-stopped : goal.returns-clause-stopped
returns-clause-stopped g c =
    let told = g.D.Disk.history c.args.disk.now in
    let new = g.D.Disk.history c.put.new.disk in
    let unshut : c.args.unshut ≡ true = search rules in
    let stopped = subst (λ (p : Place). OnErr c.put.result (ToldStoppedIn (λ _. put_calls p.file 0 (0 ∷ [])) told new)) c.next_place.ensures c.put.ensures.stopped in
    on_err_weaker c.put.result (λ stopped. shut_stops c.args.current told new c.args.unshut unshut c.requires.unshut stopped) stopped
