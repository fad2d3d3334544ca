use Rattle.std.proofs.Common.{◌≡◌, ◌∙◌, ◌<◌, ◌^◌, Ok, Err, IsTrue, false, is_ok, ap, sym, subst, rules}
use Rattle.std.proofs.lemmas.Result.{err_from_is_err_and}
use Rattle.st_ops.specs.Grammar.{has_form}
use Rattle.st_ops.specs.Reading.{reading}
use Rattle.st_ptree.specs.Entries.{pairs_of}
use Rattle.st_queue.specs.declared.frame.QueueRefusal.{QueueRefusal}
use Rattle.st_engine.specs.Answers.{payload_for}
use Rattle.st_engine.specs.Commit.{is_ended_by, place_in}
use Rattle.st_engine.specs.Engine.{Mounted, over}
use Rattle.st_engine.specs.Replay.{ops_on}
use Rattle.st_engine.specs.Snapshot.{cursor_behind, room_of, whole_of}
use Rattle.st_engine.proofs.Commits.{IsAnswered, IsRefused, IsUnwritten, IsWritten, answered, begin_behind, none-leaves, none-refuses, refused, state_behind}
use Rattle.st_engine.proofs.Sorted.{Sorted}
use Rattle.st_engine.proofs.engine.Engine.commit.Given as given
use Rattle.st_engine.proofs.engine.Engine.commit.Goals as goal

pub append-written-requires : goal.append-written-requires
append-written-requires g c = record { listed = ap (λ r. is_ok r) (ap reading c.deref.ensures.value ∙ c.in_ok-ready.ensures.read) }

pub returns-in_err-ready-clause-err : goal.returns-in_err-ready-clause-err
returns-in_err-ready-clause-err g c =
    let p = err_from_is_err_and c.from_residual.result c.from_residual.ensures.1 in
    rw (p.1, p.2) (none-refuses g.D.Disk.history c.args.ops.now c.args.self.now)

pub returns-in_err-ready-clause-any_moment : goal.returns-in_err-ready-clause-any_moment
returns-in_err-ready-clause-any_moment g c = none-leaves g.D.Disk.history c.args.ops.now c.args.self.now c.prepared.ensures.keeps

pub returns-in_err-ready-clause-agrees : goal.returns-in_err-ready-clause-agrees
returns-in_err-ready-clause-agrees g c = c.prepared.ensures.keeps.agrees

-- the queue refused the frame
refused-here : (g : given.Over) → (c : goal.Joined-ready g) → IsRefused {D = g.row.D.Denot} g.D.Disk.history c.args.ops.now c.args.self.now
    (over c.append-written.new.queue (pairs_of c.self.inside.pairs) c.self.inside.fresh c.self.inside.cursor c.self.inside.began c.self.inside.quota) c.in_err-seq.field-0.0
refused-here g c =
    let ops = c.args.ops.now in
    let refusal = c.in_err-seq.field-0.0 in
    let queue = c.self.inside.queue in
    let mid = c.append-written.new.queue in
    let pairs = pairs_of c.self.inside.pairs in
    let sorted = subst Sorted (sym (ap (λ m. m.store.pairs) c.self.view_is)) c.prepared.ensures.before in
    let payload : c.deref.result.now ≡ payload_for ops (over queue pairs c.self.inside.fresh c.self.inside.cursor c.self.inside.began c.self.inside.quota) =
    c.deref.ensures.value ∙ c.in_ok-ready.ensures.payload ∙ ap (payload_for ops) (sym c.self.view_is) in
    let read : reading c.deref.result.now ≡ Ok (whole_of c.self.inside.quota c.self.inside.cursor pairs ops) =
    ap reading c.deref.ensures.value ∙ c.in_ok-ready.ensures.read ∙ ap (λ m. Ok (whole_of m.bounds.quota m.store.cursor m.store.pairs ops)) (sym c.self.view_is) in
    let unwritten : IsUnwritten g.D.Disk.history queue mid c.deref.result.now refusal = record {
      broken = c.in_err-seq.ensures.err;
      refuses = c.in_err-seq.ensures.refuses;
      is_broken = λ faults is. c.append-written.ensures.broken faults (c.in_err-seq.was ∙ ap (λ (r : QueueRefusal). Err r) is);
      stopped = c.in_err-seq.ensures.stopped;
      full = λ long limit is. c.append-written.ensures.full_calls long limit (c.in_err-seq.was ∙ ap (λ (r : QueueRefusal). Err r) is);
      leaves = c.append-written.ensures.any_moment;
      settled = c.append-written.ensures.stands;
      stays = c.in_err-seq.ensures.stays;
      untouched = c.append-written.ensures.untouched;
      next = c.in_err-seq.ensures.same_next;
      discarded = c.append-written.ensures.discarded;
      swap = c.append-written.ensures.swap;
      limit = c.append-written.ensures.limit;
    } in
    subst (λ m. IsRefused g.D.Disk.history ops m (over mid pairs c.self.inside.fresh c.self.inside.cursor c.self.inside.began c.self.inside.quota) refusal) c.self.view_is
    (refused g.D.Disk.history queue pairs c.self.inside.fresh c.self.inside.cursor c.self.inside.began c.self.inside.quota ops c.requires.changes sorted c.self.invariant
    (ap reading (sym payload) ∙ read) mid refusal (subst (λ l. IsUnwritten g.D.Disk.history queue mid l refusal) payload unwritten) c.tells_due.ensures)

pub invariant_of-self : goal.invariant_of-self
invariant_of-self g c = (refused-here g c).keeps

pub returns-in_err-seq-clause-err : goal.returns-in_err-seq-clause-err
returns-in_err-seq-clause-err g c =
    let p = err_from_is_err_and c.from_residual-in_err-seq.result c.from_residual-in_err-seq.ensures.1 in
    rw (p.1, p.2) (refused-here g c).refuses

pub returns-in_err-seq-clause-any_moment : goal.returns-in_err-seq-clause-any_moment
returns-in_err-seq-clause-any_moment g c = (refused-here g c).leaves

pub returns-in_err-seq-clause-agrees : goal.returns-in_err-seq-clause-agrees
returns-in_err-seq-clause-agrees g c = (refused-here g c).keeps.agrees

-- the frame is appended
answered-here : (g : given.Over) → (c : goal.After-drop-ready-2 g) → IsAnswered {D = g.row.D.Denot} g.D.Disk.history c.args.ops.now c.args.self.now
    (over c.discard-self-inside.new.queue (pairs_of c.in_ok-ready.ready.pairs) false c.in_ok-ready.ready.cursor c.discard-self-inside.result c.self.inside.quota)
answered-here g c =
    let ops = c.args.ops.now in
    let queue = c.self.inside.queue in
    let mid = c.append-written.new.queue in
    let new = c.discard-self-inside.new.queue in
    let pairs = pairs_of c.self.inside.pairs in
    let quota = c.self.inside.quota in
    let cursor = c.self.inside.cursor in
    let old : Mounted g.row.D.Denot = over queue pairs c.self.inside.fresh cursor c.self.inside.began quota in
    let sorted = subst Sorted (sym (ap (λ m. m.store.pairs) c.self.view_is)) c.prepared.ensures.before in
    let payload : c.deref.result.now ≡ payload_for ops old = c.deref.ensures.value ∙ c.in_ok-ready.ensures.payload ∙ ap (payload_for ops) (sym c.self.view_is) in
    let read : reading c.deref.result.now ≡ Ok (whole_of quota cursor pairs ops) =
    ap reading c.deref.ensures.value ∙ c.in_ok-ready.ensures.read ∙ ap (λ m. Ok (whole_of m.bounds.quota m.store.cursor m.store.pairs ops)) (sym c.self.view_is) in
    let form : IsTrue (has_form (whole_of quota cursor pairs ops)) =
    subst (λ m. IsTrue (has_form (whole_of m.bounds.quota m.store.cursor m.store.pairs ops))) (sym c.self.view_is) c.in_ok-ready.ensures.form in
    let done = c.in_ok-seq.ensures.appends in
    let written : IsWritten g.D.Disk.history queue mid c.deref.result.now c.in_ok-seq.seq = record {
      unbroken = done.0;
      still = c.in_ok-seq.ensures.kept;
      within = c.in_ok-seq.ensures.within;
      calls = c.in_ok-seq.ensures.calls;
      more = done.1;
      leaves = c.append-written.ensures.any_moment done.0;
      settled = c.append-written.ensures.stands (c.in_ok-seq.ensures.kept ∙ done.0);
      place = c.in_ok-seq.ensures.ok;
      number = c.in_ok-seq.ensures.number;
      discarded = c.append-written.ensures.discarded;
      swap = c.append-written.ensures.swap;
      limit = c.append-written.ensures.limit;
    } in
    let small : c.self.inside.began < 2 ^ 64 = search rules in
    let ended : c.in_ok-ready.ready.ended ≡ is_ended_by quota old.store ops = c.in_ok-ready.ensures.ended ∙ ap (λ m. is_ended_by m.bounds.quota m.store ops) (sym c.self.view_is) in
    let pairs_are : ops_on pairs ops ≡ pairs_of c.in_ok-ready.ready.pairs = ap (λ m. ops_on m.store.pairs ops) c.self.view_is ∙ sym c.in_ok-ready.ensures.pairs in
    let cursor_is : cursor_behind cursor (room_of quota ops) (ops_on pairs ops) ≡ c.in_ok-ready.ready.cursor =
    ap (λ m. cursor_behind m.store.cursor (room_of m.bounds.quota ops) (ops_on m.store.pairs ops)) c.self.view_is ∙ sym c.in_ok-ready.ensures.cursor in
    let began_is : begin_behind (is_ended_by quota old.store ops) c.self.inside.began (place_in queue.state).next ≡ c.discard-self-inside.result =
    sym (c.discard-self-inside.ensures.began ∙ (λ i. begin_behind (ended i) c.self.inside.began (c.in_ok-seq.ensures.number i))) in
    let state_is = c.discard-self-inside.ensures.state ∙ ap (λ b. state_behind b c.self.inside.began mid.state) ended in
    let base = answered g.D.Disk.history queue pairs c.self.inside.fresh cursor c.self.inside.began quota ops c.requires.changes sorted c.self.invariant (ap reading (sym payload) ∙ read)
    mid new c.in_ok-seq.seq (subst (λ l. IsWritten g.D.Disk.history queue mid l c.in_ok-seq.seq) payload written) small form c.discard-self-inside.ensures.disk state_is c.tells_due-2.ensures in
    subst (λ m. IsAnswered g.D.Disk.history ops m (over new (pairs_of c.in_ok-ready.ready.pairs) false c.in_ok-ready.ready.cursor c.discard-self-inside.result quota)) c.self.view_is
    (subst (λ m. IsAnswered g.D.Disk.history ops old m) (λ i. over new (pairs_are i) false (cursor_is i) (began_is i) quota) base)

pub invariant_of-self-2 : goal.invariant_of-self-2
invariant_of-self-2 g c = (answered-here g c).keeps

pub returns-clause-ok : goal.returns-clause-ok
returns-clause-ok g c = (answered-here g c).commits

pub returns-clause-any_moment : goal.returns-clause-any_moment
returns-clause-any_moment g c = λ unbroken. (answered-here g c).leaves

pub returns-clause-agrees : goal.returns-clause-agrees
returns-clause-agrees g c = (answered-here g c).keeps.agrees
