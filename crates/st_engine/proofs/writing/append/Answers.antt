use Rattle.std.proofs.Common.{◌≡◌, ◌∙◌, Some, None, Err, ap, sym, subst, inl}
use Rattle.std.proofs.lemmas.Option.{same_Some}
use Rattle.std.proofs.lemmas.Result.{err_from_is_err_and}
use Rattle.std.specs.Option.{option_map}
use Rattle.st_disk.specs.Calls.{told_stopped-second}
use Rattle.st_queue.specs.Mounting.{IsOutside}
use Rattle.st_queue.specs.Queue.{IsBefore, is_due}
use Rattle.st_queue.specs.Writing.{append_calls, appended, told_frames}
use Rattle.st_queue.specs.declared.frame.QueueRefusal.{QueueRefusal}
use Rattle.st_queue.specs.declared.frame.QueueRefusal.TheVariants.{Broken, Full}
use Rattle.st_queue.specs.declared.state.State.{State}
use Rattle.st_engine.proofs.Cases.{no-fault, none-if, same_Err}
use Rattle.st_engine.specs.Commit.{Past, begin_in, past_end, past_number, place_in}
use Rattle.st_engine.proofs.Histories.{fewer-or-more, joined-more, one-more, still-less}
use Rattle.st_engine.proofs.Refusals.{broken-same, end-past, ends-past, number-past, past-ends, refused-as, refused-first, refused-frames, refused-then, told-broken, unbroken-before}
use Rattle.st_engine.proofs.Runs.{stopped-all, stopped-begun, then-appended}
use Rattle.st_engine.proofs.writing.append.Goals as goal

pub returns-in_err-enter_due-clause-broken : goal.returns-in_err-enter_due-clause-broken
returns-in_err-enter_due-clause-broken g c = λ faults is.
    let p = err_from_is_err_and c.from_residual.result c.from_residual.ensures.1 in
    c.enter_due.ensures.broken faults (c.in_err-enter_due.was ∙ ap (λ (r : QueueRefusal). Err r) (same_Err c.in_err-enter_due.field-0.0 (Broken faults) c.from_residual.result (p.1 ∙ ap (λ (r : QueueRefusal). Err r) p.2) is))

pub returns-in_err-enter_due-clause-was_broken : goal.returns-in_err-enter_due-clause-was_broken
returns-in_err-enter_due-clause-was_broken g c = λ faults broken.
    let p = err_from_is_err_and c.from_residual.result c.from_residual.ensures.1 in
    p.1 ∙ ap (λ (r : QueueRefusal). Err r) (p.2 ∙ c.in_err-enter_due.ensures.was_broken faults broken)

pub returns-in_err-enter_due-clause-full : goal.returns-in_err-enter_due-clause-full
returns-in_err-enter_due-clause-full g c = λ long limit is.
    let p = err_from_is_err_and c.from_residual.result c.from_residual.ensures.1 in
    let full = c.enter_due.ensures.full long limit (c.in_err-enter_due.was ∙ ap (λ (r : QueueRefusal). Err r) (same_Err c.in_err-enter_due.field-0.0 (Full long limit) c.from_residual.result (p.1 ∙ ap (λ (r : QueueRefusal). Err r) p.2) is)) in
    (full.0, number-past c.args.queue.now.state c.args.payload.now (record { length = long; limit = limit }) full.1)

pub returns-in_err-enter_due-clause-full_calls : goal.returns-in_err-enter_due-clause-full_calls
returns-in_err-enter_due-clause-full_calls g c = λ long limit is.
    let p = err_from_is_err_and c.from_residual.result c.from_residual.ensures.1 in
    let was = c.in_err-enter_due.was ∙ ap (λ (r : QueueRefusal). Err r) (same_Err c.in_err-enter_due.field-0.0 (Full long limit) c.from_residual.result (p.1 ∙ ap (λ (r : QueueRefusal). Err r) p.2) is) in
    refused-first c.args.queue.now.state c.args.payload.now _ long limit _ (c.enter_due.ensures.full long limit was).1 (ap g.D.Disk.history (c.enter_due.ensures.full_calls long limit was))

pub returns-in_err-enter_due-clause-past : goal.returns-in_err-enter_due-clause-past
returns-in_err-enter_due-clause-past g c = λ past unbroken is.
    let p = err_from_is_err_and c.from_residual.result c.from_residual.ensures.1 in
    let refusal = c.in_err-enter_due.field-0.0 in
    let state = c.args.queue.now.state in
    rw (p.1, p.2) (refused-as refusal c.in_err-enter_due.ensures.refuses
    (λ faults at.
    let was : state.broken ≡ Some faults = c.enter_due.ensures.broken faults (c.in_err-enter_due.was ∙ ap (λ (r : QueueRefusal). Err r) at) in
    cc (was, unbroken))
    past
    (λ long limit at.
    let full = c.enter_due.ensures.full long limit (c.in_err-enter_due.was ∙ ap (λ (r : QueueRefusal). Err r) at) in
    same_Some (record { length = long; limit = limit }) past (sym (number-past state c.args.payload.now (record { length = long; limit = limit }) full.1) ∙ is)))

pub returns-in_err-enter_due-clause-any_moment : goal.returns-in_err-enter_due-clause-any_moment
returns-in_err-enter_due-clause-any_moment g c = λ old. fewer-or-more _ _ _ _ (c.enter_due.ensures.any_moment old)

pub returns-in_err-enter_due-clause-stopped : goal.returns-in_err-enter_due-clause-stopped
returns-in_err-enter_due-clause-stopped g c = λ unbroken.
    let p = err_from_is_err_and c.from_residual.result c.from_residual.ensures.1 in
    let state = c.args.queue.now.state in
    let refusal = c.in_err-enter_due.field-0.0 in
    rw (p.1) (λ outside behind.
    let here : IsOutside refusal = subst IsOutside p.2 outside in
    let none = none-if (past_number (is_due state) state.current) (λ (past : Past) number.
    subst IsOutside (same_Err refusal (Full past.length past.limit) c.enter_due.result c.in_err-enter_due.was (c.enter_due.ensures.past past unbroken number)) here) in
    stopped-begun state c.args.payload.now behind _ _ none (c.in_err-enter_due.ensures.stopped unbroken here))

pub returns-in_err-seq-clause-any_moment : goal.returns-in_err-seq-clause-any_moment
returns-in_err-seq-clause-any_moment g c = λ old.
    let mid = c.in_ok-enter_due.ensures.kept ∙ old in
    joined-more _ _ _ _ _ _ (c.enter_due.ensures.any_moment old) (c.enter_due.ensures.frames old mid) (c.enter_due.ensures.stands mid) (c.append.ensures.appends mid _ c.in_ok-enter_due.ensures.ok).any_moment

pub returns-in_err-seq-clause-stays : goal.returns-in_err-seq-clause-stays
returns-in_err-seq-clause-stays g c =
    let p = err_from_is_err_and c.from_residual-in_err-seq.result c.from_residual-in_err-seq.ensures.1 in
    let refusal = c.in_err-seq.field-0.0 in
    rw (p.1) (λ unbroken.
    let after = sym (ap (λ (s : State). s.broken) c.in_err-seq.ensures.err) ∙ unbroken in
    let mid = unbroken-before refusal c.enter_due.new.queue.state after in
    let old = sym c.in_ok-enter_due.ensures.kept ∙ mid in
    still-less _ _ _ _ (c.enter_due.ensures.frames old mid)
    (refused-frames _ _ c.append.result refusal c.enter_due.new.queue.state c.in_err-seq.was c.in_err-seq.ensures.refuses (c.append.ensures.appends mid _ c.in_ok-enter_due.ensures.ok).same
    (λ before. ap (λ disk. told_frames (g.D.Disk.history disk)) (c.in_err-seq.ensures.untouched before)) after))

pub returns-in_err-seq-clause-broken : goal.returns-in_err-seq-clause-broken
returns-in_err-seq-clause-broken g c = λ faults is.
    let p = err_from_is_err_and c.from_residual-in_err-seq.result c.from_residual-in_err-seq.ensures.1 in
    let refusal = c.in_err-seq.field-0.0 in
    sym c.in_ok-enter_due.ensures.kept
    ∙ (c.append.ensures.broken faults).0 (c.in_err-seq.was ∙ ap (λ (r : QueueRefusal). Err r) (same_Err refusal (Broken faults) c.from_residual-in_err-seq.result (p.1 ∙ ap (λ (r : QueueRefusal). Err r) p.2) is))

pub returns-in_err-seq-clause-was_broken : goal.returns-in_err-seq-clause-was_broken
returns-in_err-seq-clause-was_broken g c = λ faults broken.
    let p = err_from_is_err_and c.from_residual-in_err-seq.result c.from_residual-in_err-seq.ensures.1 in
    p.1 ∙ ap (λ (r : QueueRefusal). Err r) (p.2 ∙ same_Err c.in_err-seq.field-0.0 (Broken faults) c.append.result c.in_err-seq.was ((c.append.ensures.broken faults).1 (c.in_ok-enter_due.ensures.kept ∙ broken)))

pub returns-in_err-seq-clause-full : goal.returns-in_err-seq-clause-full
returns-in_err-seq-clause-full g c = λ long limit is.
    let p = err_from_is_err_and c.from_residual-in_err-seq.result c.from_residual-in_err-seq.ensures.1 in
    let state = c.args.queue.now.state in
    let full = same_Err c.in_err-seq.field-0.0 (Full long limit) c.from_residual-in_err-seq.result (p.1 ∙ ap (λ (r : QueueRefusal). Err r) p.2) is in
    let past = (c.append.ensures.full long limit).0 (c.in_err-seq.was ∙ ap (λ (r : QueueRefusal). Err r) full) in
    let unbroken = sym c.in_ok-enter_due.ensures.kept ∙ past.unbroken in (
      unbroken,
      end-past state c.args.payload.now (c.in_ok-enter_due.ensures.within unbroken)
          ∙ past-ends state c.enter_due.new.queue.state c.args.payload.now c.enter_due.ensures.limit c.in_ok-enter_due.ensures.ok long limit past,
    )

pub returns-in_err-seq-clause-full_calls : goal.returns-in_err-seq-clause-full_calls
returns-in_err-seq-clause-full_calls g c = λ long limit is.
    let p = err_from_is_err_and c.from_residual-in_err-seq.result c.from_residual-in_err-seq.ensures.1 in
    let state = c.args.queue.now.state in
    let refusal = c.in_err-seq.field-0.0 in
    let full = same_Err refusal (Full long limit) c.from_residual-in_err-seq.result (p.1 ∙ ap (λ (r : QueueRefusal). Err r) p.2) is in
    let past = (c.append.ensures.full long limit).0 (c.in_err-seq.was ∙ ap (λ (r : QueueRefusal). Err r) full) in
    let unbroken = sym c.in_ok-enter_due.ensures.kept ∙ past.unbroken in
    refused-then state c.args.payload.now _ long limit _ (c.in_ok-enter_due.ensures.within unbroken)
    (past-ends state c.enter_due.new.queue.state c.args.payload.now c.enter_due.ensures.limit c.in_ok-enter_due.ensures.ok long limit past)
    (ap g.D.Disk.history (c.in_err-seq.ensures.untouched (subst IsBefore (sym full) tt)) ∙ c.in_ok-enter_due.ensures.calls)

pub returns-in_err-seq-clause-past : goal.returns-in_err-seq-clause-past
returns-in_err-seq-clause-past g c = λ past unbroken is.
    let p = err_from_is_err_and c.from_residual-in_err-seq.result c.from_residual-in_err-seq.ensures.1 in
    let state = c.args.queue.now.state in
    let end = sym (end-past state c.args.payload.now (c.in_ok-enter_due.ensures.within unbroken)) ∙ is in
    let ends = ends-past state c.enter_due.new.queue.state c.args.payload.now c.enter_due.ensures.limit c.in_ok-enter_due.ensures.ok past (c.in_ok-enter_due.ensures.kept ∙ unbroken) end in
    rw (p.1, p.2) (inl (same_Err c.in_err-seq.field-0.0 (Full past.length past.limit) c.append.result c.in_err-seq.was ((c.append.ensures.full past.length past.limit).1 ends)))

pub returns-in_err-seq-clause-stopped : goal.returns-in_err-seq-clause-stopped
returns-in_err-seq-clause-stopped g c = λ unbroken.
    let p = err_from_is_err_and c.from_residual-in_err-seq.result c.from_residual-in_err-seq.ensures.1 in
    let state = c.args.queue.now.state in
    let refusal = c.in_err-seq.field-0.0 in
    rw (p.1) (λ outside behind.
    let here : IsOutside refusal = subst IsOutside p.2 outside in
    let within = none-if (past_end state.limit (place_in state) c.args.payload.now) (λ (past : Past) end.
    let ends = ends-past state c.enter_due.new.queue.state c.args.payload.now c.enter_due.ensures.limit c.in_ok-enter_due.ensures.ok past (c.in_ok-enter_due.ensures.kept ∙ unbroken) end in
    subst IsOutside (same_Err refusal (Full past.length past.limit) c.append.result c.in_err-seq.was ((c.append.ensures.full past.length past.limit).1 ends)) here) in
    stopped-all state c.args.payload.now behind (g.D.Disk.history c.args.queue.now.disk) _ (c.in_ok-enter_due.ensures.within unbroken) within
    (told_stopped-second (begin_in state) (append_calls (place_in state) c.args.payload.now) (g.D.Disk.history c.args.queue.now.disk) _ _ c.in_ok-enter_due.ensures.calls
    (c.in_err-seq.ensures.stopped here (place_in state) c.in_ok-enter_due.ensures.ok)))

pub returns-in_err-seq-clause-untouched : goal.returns-in_err-seq-clause-untouched
returns-in_err-seq-clause-untouched g c = λ faults broken.
    let refusal = c.in_err-seq.field-0.0 in
    let failed = (c.in_err-seq.ensures.broken faults).1 (c.in_ok-enter_due.ensures.kept ∙ broken) in
    let disk = c.in_err-seq.ensures.untouched (told-broken refusal faults failed) in
    let state = c.in_err-seq.ensures.err ∙ broken-same refusal faults c.enter_due.new.queue.state failed in
    (λ i. record { disk = disk i; state = state i }) ∙ c.enter_due.ensures.untouched faults broken

pub returns-clause-any_moment : goal.returns-clause-any_moment
returns-clause-any_moment g c = λ old.
    let mid = c.in_ok-enter_due.ensures.kept ∙ old in
    joined-more _ _ _ _ _ _ (c.enter_due.ensures.any_moment old) (c.enter_due.ensures.frames old mid) (c.enter_due.ensures.stands mid) (c.append.ensures.appends mid _ c.in_ok-enter_due.ensures.ok).any_moment

pub returns-clause-appends : goal.returns-clause-appends
returns-clause-appends g c =
    let kept = c.in_ok-enter_due.ensures.kept in
    let old : c.args.queue.now.state.broken ≡ None = no-fault c.args.queue.now.state.broken (λ faults is. let failed = (c.append.ensures.broken faults).1 (kept ∙ is) in let done = c.in_ok-seq.was in cc (failed, done)) in
    let mid = kept ∙ old in
    (old, one-more _ _ _ _ _ _ (c.enter_due.ensures.frames old mid) (c.enter_due.ensures.stands mid) (c.in_ok-seq.ensures.appends mid _ c.in_ok-enter_due.ensures.ok).frames)

pub returns-clause-calls : goal.returns-clause-calls
returns-clause-calls g c =
    let state = c.args.queue.now.state in
    let mid : c.enter_due.new.queue.state.broken ≡ None =
    no-fault c.enter_due.new.queue.state.broken (λ faults is. let failed = (c.append.ensures.broken faults).1 is in let done = c.in_ok-seq.was in cc (failed, done)) in
    (c.in_ok-seq.ensures.appends mid _ c.in_ok-enter_due.ensures.ok).calls
    ∙ ap (option_map (appended (place_in state) c.args.payload.now)) c.in_ok-enter_due.ensures.calls
    ∙ then-appended state c.args.payload.now (g.D.Disk.history c.args.queue.now.disk)

pub returns-clause-was_broken : goal.returns-clause-was_broken
returns-clause-was_broken g c = λ faults broken.
    let failed = (c.append.ensures.broken faults).1 (c.in_ok-enter_due.ensures.kept ∙ broken) in let done = c.in_ok-seq.was in absurd (cc (failed, done))

pub returns-clause-within : goal.returns-clause-within
returns-clause-within g c =
    let state = c.args.queue.now.state in
    let mid : c.enter_due.new.queue.state.broken ≡ None =
    no-fault c.enter_due.new.queue.state.broken (λ faults is. let failed = (c.append.ensures.broken faults).1 is in let done = c.in_ok-seq.was in cc (failed, done)) in
    let none = c.in_ok-enter_due.ensures.within (sym c.in_ok-enter_due.ensures.kept ∙ mid) in
    end-past state c.args.payload.now none
    ∙ none-if _ (λ (past : Past) end.
    let full = (c.append.ensures.full past.length past.limit).1 (ends-past state c.enter_due.new.queue.state c.args.payload.now c.enter_due.ensures.limit c.in_ok-enter_due.ensures.ok past mid end) in
    let done = c.in_ok-seq.was in
    cc (full, done))

pub returns-clause-past : goal.returns-clause-past
returns-clause-past g c = λ past unbroken is.
    let state = c.args.queue.now.state in
    let end = sym (end-past state c.args.payload.now (c.in_ok-enter_due.ensures.within unbroken)) ∙ is in
    let full = (c.append.ensures.full past.length past.limit).1
    (ends-past state c.enter_due.new.queue.state c.args.payload.now c.enter_due.ensures.limit c.in_ok-enter_due.ensures.ok past (c.in_ok-enter_due.ensures.kept ∙ unbroken) end) in
    let done = c.in_ok-seq.was in
    absurd (cc (full, done))

pub returns-clause-untouched : goal.returns-clause-untouched
returns-clause-untouched g c = λ faults broken. absurd (cc ((c.in_ok-seq.ensures.broken faults).1 (c.in_ok-enter_due.ensures.kept ∙ broken)))
