use Rattle.std.proofs.Common.{◌≡◌, ◌+◌, ℕ, List, length, Err, Some, refl, ◌∙◌, ap, subst, rules}
use Rattle.std.specs.Option.{option_map}
use Rattle.st_disk.specs.Moments.{ToldLeavesOnly}
use Rattle.st_queue.specs.declared.frame.QueueRefusal.{QueueRefusal}
use Rattle.st_queue.specs.Writing.{frame_bytes, after_put, beside, LeavesTorn}
use Rattle.st_queue.proofs.Appends.{ends-at_once, ends-first, ends-both, append-middle, first-begins, settled-synced, gate-begins}
use Rattle.st_queue.proofs.Puts.{beside-put}
use Rattle.st_disk.specs.Calls.{ToldStoppedIn}
use Rattle.std.proofs.lemmas.Result.{on_err_weaker}
use Rattle.st_queue.specs.Writing.{put_calls}
use Rattle.st_queue.proofs.Stops.{if_err, append_stops-none, append_stops-first, append_stops-second}
use Rattle.st_queue.proofs.writing.append_frame.Goals as goal

pub returns-in_err-bytes-clause-appends : goal.returns-in_err-bytes-clause-appends
returns-in_err-bytes-clause-appends g c =
    ends-at_once c.args.place c.args.payload.now c.requires.small c.requires.next c.requires.listed _ _ _ refl (search rules) c.requires.settled

pub put-requires-clause-begins : goal.put-requires-clause-begins
put-requires-clause-begins g c = first-begins c.args.place c.args.payload.now c.requires.small c.requires.next c.requires.listed _ c.requires.settled

pub put-requires-clause-synced : goal.put-requires-clause-synced
put-requires-clause-synced g c = settled-synced (Some c.args.place) _ c.requires.settled

pub returns-in_err-put-clause-appends : goal.returns-in_err-put-clause-appends
returns-in_err-put-clause-appends g c =
    let place = c.args.place in
    let told = g.D.Disk.history c.args.disk.now in
    let new = g.D.Disk.history c.put.new.disk in
    let bytes_is : c.deref.result.now ≡ frame_bytes place.next c.args.payload.now = c.deref.ensures.value ∙ c.in_ok-bytes.ensures in
    let leaves = subst (λ (l : List ℕ). ToldLeavesOnly told new (LeavesTorn place.file (place.gate + 1) (length l) told)) bytes_is c.put.ensures.any_moment in
    let is : c.from_residual-in_err-put.result ≡ Err c.in_err-put.field-0.0 = search rules in
    ends-first place c.args.payload.now c.requires.small c.requires.next c.requires.listed told new _ c.in_err-put.field-0.0 is (λ e. c.put.ensures.no_memory (c.in_err-put.was ∙ ap (λ (r : QueueRefusal). Err r) e)) leaves c.requires.settled

pub put-requires-2-clause-begins : goal.put-requires-2-clause-begins
put-requires-2-clause-begins g c =
    let place = c.args.place in
    let told = g.D.Disk.history c.args.disk.now in
    let new = g.D.Disk.history c.put.new.disk in
    let bytes_is : c.deref.result.now ≡ frame_bytes place.next c.args.payload.now = c.deref.ensures.value ∙ c.in_ok-bytes.ensures in
    let wrote : new ≡ option_map (after_put place.file (place.gate + 1) (frame_bytes place.next c.args.payload.now)) told =
    c.in_ok-put.ensures.ok ∙ ap (λ (l : List ℕ). option_map (after_put place.file (place.gate + 1) l) told) bytes_is in
    gate-begins place c.args.payload.now c.requires.small c.requires.next c.requires.listed new (append-middle place c.args.payload.now c.requires.small c.requires.next c.requires.listed told new wrote c.requires.settled).0

pub put-requires-2-clause-synced : goal.put-requires-2-clause-synced
put-requires-2-clause-synced g c =
    let place = c.args.place in
    let told = g.D.Disk.history c.args.disk.now in
    let new = g.D.Disk.history c.put.new.disk in
    let bytes_is : c.deref.result.now ≡ frame_bytes place.next c.args.payload.now = c.deref.ensures.value ∙ c.in_ok-bytes.ensures in
    let wrote : new ≡ option_map (after_put place.file (place.gate + 1) (frame_bytes place.next c.args.payload.now)) told =
    c.in_ok-put.ensures.ok ∙ ap (λ (l : List ℕ). option_map (after_put place.file (place.gate + 1) l) told) bytes_is in
    settled-synced (Some place) new (append-middle place c.args.payload.now c.requires.small c.requires.next c.requires.listed told new wrote c.requires.settled).0

pub returns-clause-appends : goal.returns-clause-appends
returns-clause-appends g c =
    let place = c.args.place in
    let told = g.D.Disk.history c.args.disk.now in
    let new = g.D.Disk.history c.put.new.disk in
    let bytes_is : c.deref.result.now ≡ frame_bytes place.next c.args.payload.now = c.deref.ensures.value ∙ c.in_ok-bytes.ensures in
    let wrote : new ≡ option_map (after_put place.file (place.gate + 1) (frame_bytes place.next c.args.payload.now)) told =
    c.in_ok-put.ensures.ok ∙ ap (λ (l : List ℕ). option_map (after_put place.file (place.gate + 1) l) told) bytes_is in
    let leaves = subst (λ (l : List ℕ). ToldLeavesOnly told new (LeavesTorn place.file (place.gate + 1) (length l) told)) bytes_is c.put.ensures.any_moment in
    ends-both place c.args.payload.now c.requires.small c.requires.next c.requires.listed told new (g.D.Disk.history c.put-2.new.disk) c.put-2.result wrote leaves c.put-2.ensures.ok c.put-2.ensures.no_memory c.put-2.ensures.any_moment c.requires.settled

pub returns-clause-beside : goal.returns-clause-beside
returns-clause-beside g c = λ wanting.
    let place = c.args.place in
    let told = g.D.Disk.history c.args.disk.now in
    let same : g.D.Disk.history c.put-2.new.disk ≡ g.D.Disk.history c.put.new.disk = c.put-2.ensures.no_memory wanting in
    ap (beside place.file) (same ∙ c.in_ok-put.ensures.ok) ∙ beside-put place.file (place.gate + 1) c.deref.result.now told

pub returns-in_err-bytes-clause-stopped : goal.returns-in_err-bytes-clause-stopped
returns-in_err-bytes-clause-stopped g c = if_err c.from_residual.result _ (λ _. append_stops-none c.args.place c.args.payload.now (g.D.Disk.history c.args.disk.now))

pub returns-in_err-put-clause-stopped : goal.returns-in_err-put-clause-stopped
returns-in_err-put-clause-stopped g c =
    let place = c.args.place in
    let told = g.D.Disk.history c.args.disk.now in
    let new = g.D.Disk.history c.put.new.disk in
    let bytes_is : c.deref.result.now ≡ frame_bytes place.next c.args.payload.now = c.deref.ensures.value ∙ c.in_ok-bytes.ensures in
    if_err c.from_residual-in_err-put.result _ (λ _. append_stops-first place c.args.payload.now told new
    (subst (λ (l : List ℕ). ToldStoppedIn (λ _. put_calls place.file (place.gate + 1) l) told new) bytes_is c.in_err-put.ensures.stopped))

pub returns-clause-stopped : goal.returns-clause-stopped
returns-clause-stopped g c =
    let place = c.args.place in
    let told = g.D.Disk.history c.args.disk.now in
    let new = g.D.Disk.history c.put.new.disk in
    let bytes_is : c.deref.result.now ≡ frame_bytes place.next c.args.payload.now = c.deref.ensures.value ∙ c.in_ok-bytes.ensures in
    let wrote : new ≡ option_map (after_put place.file (place.gate + 1) (frame_bytes place.next c.args.payload.now)) told =
    c.in_ok-put.ensures.ok ∙ ap (λ (l : List ℕ). option_map (after_put place.file (place.gate + 1) l) told) bytes_is in
    on_err_weaker c.put-2.result (λ stopped. append_stops-second place c.args.payload.now told new _ wrote stopped) c.put-2.ensures.stopped
