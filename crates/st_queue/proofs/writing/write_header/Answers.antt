use Rattle.std.proofs.Common.{◌≡◌, ◌≤◌, ◌∙◌, List, ℕ, length, refl, ap, sym, subst, rules}
use Rattle.std.specs.Option.{option_map, ForSome}
use Rattle.std.specs.Result.{OnOk}
use Rattle.st_disk.specs.History.{of_file, seen}
use Rattle.st_disk.specs.Moments.{ToldLeavesOnly}
use Rattle.st_queue.specs.Place.{next_place}
use Rattle.st_queue.specs.Writing.{header_bytes, after_put, LeavesTorn}
use Rattle.st_queue.specs.declared.place.Place.{Place}
use Rattle.st_queue.proofs.Recycles.{head-begins, heads, heads-none}
use Rattle.st_disk.specs.Calls.{ToldStoppedIn}
use Rattle.std.specs.Result.{OnErr}
use Rattle.st_queue.specs.Place.{next_file, next_generation, next_number}
use Rattle.st_queue.specs.Writing.{put_calls}
use Rattle.st_queue.proofs.Stops.{if_err, put_stops-none}
use Rattle.st_queue.proofs.writing.write_header.Goals as goal

pub returns-in_err-bytes-clause-heads : goal.returns-in_err-bytes-clause-heads
returns-in_err-bytes-clause-heads g c = heads-none c.args.current _ c.requires.settled _ _ (search rules) refl

pub put-requires-clause-begins : goal.put-requires-clause-begins
put-requires-clause-begins g c =
    subst (λ (p : Place). ForSome (g.D.Disk.history c.args.disk.now) (λ h. 1 ≤ length (of_file p.file (seen h)))) (sym c.next_place-place.ensures) (head-begins c.args.current _ c.requires.settled c.requires.shut c.requires.unspent)

pub returns-clause-heads : goal.returns-clause-heads
returns-clause-heads g c =
    let told = g.D.Disk.history c.args.disk.now in
    let new = g.D.Disk.history c.put.new.disk in
    let place_is = c.next_place-place.ensures in
    let bytes_is : c.deref.result.now ≡ header_bytes (next_place c.args.current).generation (next_place c.args.current).next = c.deref.ensures.value ∙ c.in_ok-bytes.ensures ∙ ap (λ (p : Place). header_bytes p.generation p.next) place_is in
    let ok = subst (λ (p : Place). OnOk c.put.result (new ≡ option_map (after_put p.file 1 c.deref.result.now) told)) place_is c.put.ensures.ok in
    let leaves = subst (λ (p : Place). ToldLeavesOnly told new (LeavesTorn p.file 1 (length c.deref.result.now) told)) place_is c.put.ensures.any_moment in
    heads c.args.current told c.requires.settled c.requires.shut c.requires.unspent new c.put.result
    (subst (λ (l : List ℕ). OnOk c.put.result (new ≡ option_map (after_put (next_place c.args.current).file 1 l) told)) bytes_is ok)
    c.put.ensures.no_memory
    (subst (λ (l : List ℕ). ToldLeavesOnly told new (LeavesTorn (next_place c.args.current).file 1 (length l) told)) bytes_is leaves)

pub returns-in_err-bytes-clause-stopped : goal.returns-in_err-bytes-clause-stopped
returns-in_err-bytes-clause-stopped g c =
    let current = c.args.current in
    let told = g.D.Disk.history c.args.disk.now in
    if_err c.from_residual.result _ (λ _. put_stops-none (next_file current) 1 (header_bytes (next_generation current) (next_number current)) told told refl)

pub returns-clause-stopped : goal.returns-clause-stopped
returns-clause-stopped g c =
    let told = g.D.Disk.history c.args.disk.now in
    let new = g.D.Disk.history c.put.new.disk in
    let place_is = c.next_place-place.ensures in
    let bytes_is : c.deref.result.now ≡ header_bytes (next_place c.args.current).generation (next_place c.args.current).next = c.deref.ensures.value ∙ c.in_ok-bytes.ensures ∙ ap (λ (p : Place). header_bytes p.generation p.next) place_is in
    let stopped = subst (λ (p : Place). OnErr c.put.result (ToldStoppedIn (λ _. put_calls p.file 1 c.deref.result.now) told new)) place_is c.put.ensures.stopped in
    subst (λ (l : List ℕ). OnErr c.put.result (ToldStoppedIn (λ _. put_calls (next_place c.args.current).file 1 l) told new)) bytes_is stopped
