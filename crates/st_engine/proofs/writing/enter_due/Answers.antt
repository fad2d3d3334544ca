use Rattle.std.proofs.Common.{◌≡◌, ◌∙◌, ap, sym, subst, Err, Some, None}
use Rattle.std.proofs.lemmas.Result.{err_from_is_err_and}
use Rattle.std.specs.Option.{option_map}
use Rattle.st_disk.specs.Calls.{told_stopped-first, told_stopped-second}
use Rattle.st_queue.specs.Mounting.{IsOutside}
use Rattle.st_queue.specs.Place.{next_file, next_generation, next_number, next_place}
use Rattle.st_queue.specs.Writing.{enter_calls, entered, recycle_calls}
use Rattle.st_queue.specs.declared.frame.QueueRefusal.{QueueRefusal}
use Rattle.st_queue.specs.declared.frame.QueueRefusal.TheVariants.{Broken, Full}
use Rattle.st_queue.specs.declared.state.State.{State}
use Rattle.st_engine.proofs.Cases.{no-fault, none-if, same_Err}
use Rattle.st_engine.proofs.Histories.{less-now, joined-frames, leaves-less, all-less}
use Rattle.st_engine.proofs.Refusals.{due-place, else-number, else-place, entering-writing, never-full, past-spent, spent-past, told-broken, told-full}
use Rattle.st_engine.proofs.Runs.{begun-stopped, none-begun, then-begun, told-recycled}
use Rattle.st_engine.proofs.writing.enter_due.Goals as goal

pub returns-in_err-recycle-clause-frames : goal.returns-in_err-recycle-clause-frames
returns-in_err-recycle-clause-frames g c = λ old new. less-now _ _ _ _ (c.recycle.ensures.any_moment old) (c.recycle.ensures.stands new)

pub returns-in_err-recycle-clause-broken : goal.returns-in_err-recycle-clause-broken
returns-in_err-recycle-clause-broken g c = λ faults is.
    let p = err_from_is_err_and c.from_residual.result c.from_residual.ensures.1 in
    (c.recycle.ensures.broken faults).0 (c.in_err-recycle.was ∙ ap (λ (r : QueueRefusal). Err r) (sym p.2) ∙ sym p.1 ∙ is)

pub returns-in_err-enter_next-clause-any_moment : goal.returns-in_err-enter_next-clause-any_moment
returns-in_err-enter_next-clause-any_moment g c = λ old.
    let ok = c.in_ok-recycle.ensures.ok in
    let still = ap (λ (s : State). s.broken) ok ∙ old in
    let less = less-now _ _ _ _ (c.recycle.ensures.any_moment old) (c.recycle.ensures.stands still) in
    joined-frames _ _ _ _ (c.recycle.ensures.any_moment old) less (c.enter_next.ensures.enters still (next_place c.args.queue.now.state.current) (ap (λ (s : State). s.prepared) ok)).any_moment

pub returns-in_err-enter_next-clause-frames : goal.returns-in_err-enter_next-clause-frames
returns-in_err-enter_next-clause-frames g c = λ old new.
    less-now _ _ _ _ (returns-in_err-enter_next-clause-any_moment g c old) (c.enter_next.ensures.stands new)

pub returns-in_err-enter_next-clause-broken : goal.returns-in_err-enter_next-clause-broken
returns-in_err-enter_next-clause-broken g c = λ faults is.
    let p = err_from_is_err_and c.from_residual-in_err-enter_next.result c.from_residual-in_err-enter_next.ensures.1 in
    sym (ap (λ (s : State). s.broken) c.in_ok-recycle.ensures.ok)
    ∙ (c.enter_next.ensures.broken faults).0 (c.in_err-enter_next.was ∙ ap (λ (r : QueueRefusal). Err r) (sym p.2) ∙ sym p.1 ∙ is)

pub returns-in_ok-enter_next-clause-any_moment : goal.returns-in_ok-enter_next-clause-any_moment
returns-in_ok-enter_next-clause-any_moment g c = λ old.
    let ok = c.in_ok-recycle.ensures.ok in
    let still = ap (λ (s : State). s.broken) ok ∙ old in
    let less = less-now _ _ _ _ (c.recycle.ensures.any_moment old) (c.recycle.ensures.stands still) in
    joined-frames _ _ _ _ (c.recycle.ensures.any_moment old) less (c.enter_next.ensures.enters still (next_place c.args.queue.now.state.current) (ap (λ (s : State). s.prepared) ok)).any_moment

pub returns-in_ok-enter_next-clause-calls : goal.returns-in_ok-enter_next-clause-calls
returns-in_ok-enter_next-clause-calls g c =
    let state = c.args.queue.now.state in
    let told = g.D.Disk.history c.args.queue.now.disk in
    let ok = c.in_ok-recycle.ensures.ok in
    let mid : c.recycle.new.self.state.broken ≡ None =
    no-fault c.recycle.new.self.state.broken (λ faults is. let failed = (c.enter_next.ensures.broken faults).1 is in let done = c.in_ok-enter_next.was in cc (failed, done)) in
    (c.in_ok-enter_next.ensures.enters mid (next_place state.current) (ap (λ (s : State). s.prepared) ok)).calls
    ∙ ap (option_map (entered (next_file state.current))) c.in_ok-recycle.ensures.calls
    ∙ then-begun state told (sym c.due.ensures.due ∙ c.if-due.true)

pub returns-in_ok-enter_next-clause-frames : goal.returns-in_ok-enter_next-clause-frames
returns-in_ok-enter_next-clause-frames g c = λ old new.
    less-now _ _ _ _ (returns-in_ok-enter_next-clause-any_moment g c old) (c.enter_next.ensures.stands new)

pub returns-else-due-clause-any_moment : goal.returns-else-due-clause-any_moment
returns-else-due-clause-any_moment g c = λ old. leaves-less _ _ _ (c.due.ensures.stands old)

pub returns-else-due-clause-frames : goal.returns-else-due-clause-frames
returns-else-due-clause-frames g c = λ old new. all-less c.args.queue.now.state.discarded (g.D.Disk.history c.args.queue.now.disk)

pub returns-in_err-recycle-clause-was_broken : goal.returns-in_err-recycle-clause-was_broken
returns-in_err-recycle-clause-was_broken g c = let p = err_from_is_err_and c.from_residual.result c.from_residual.ensures.1 in
    rw (p.1, p.2) (λ faults broken. same_Err c.in_err-recycle.field-0.0 (Broken faults) c.recycle.result c.in_err-recycle.was ((c.recycle.ensures.broken faults).1 broken))

pub returns-in_err-enter_next-clause-was_broken : goal.returns-in_err-enter_next-clause-was_broken
returns-in_err-enter_next-clause-was_broken g c = let p = err_from_is_err_and c.from_residual-in_err-enter_next.result c.from_residual-in_err-enter_next.ensures.1 in
    rw (p.1, p.2) (λ faults broken. same_Err c.in_err-enter_next.field-0.0 (Broken faults) c.enter_next.result c.in_err-enter_next.was
    ((c.enter_next.ensures.broken faults).1 (ap (λ (s : State). s.broken) c.in_ok-recycle.ensures.ok ∙ broken)))

pub returns-in_err-enter_next-clause-refuses : goal.returns-in_err-enter_next-clause-refuses
returns-in_err-enter_next-clause-refuses g c =
    let p = err_from_is_err_and c.from_residual-in_err-enter_next.result c.from_residual-in_err-enter_next.ensures.1 in
    rw (p.1, p.2) (entering-writing c.in_err-enter_next.field-0.0 c.in_err-enter_next.ensures.refuses)

pub returns-in_ok-enter_next-clause-ok : goal.returns-in_ok-enter_next-clause-ok
returns-in_ok-enter_next-clause-ok g c =
    ap (λ (s : State). s.current) c.in_ok-enter_next.ensures.ok ∙ ap (λ (s : State). s.prepared) c.in_ok-recycle.ensures.ok
    ∙ ap (λ p. Some p) (due-place c.args.queue.now.state (sym c.due.ensures.due ∙ c.if-due.true))

pub returns-else-due-clause-ok : goal.returns-else-due-clause-ok
returns-else-due-clause-ok g c = else-place c.args.queue.now.state (sym c.due.ensures.due ∙ c.if-due.false)

pub returns-in_err-recycle-clause-untouched : goal.returns-in_err-recycle-clause-untouched
returns-in_err-recycle-clause-untouched g c = λ faults broken.
    let before = told-broken c.in_err-recycle.field-0.0 faults ((c.in_err-recycle.ensures.broken faults).1 broken) in
    let disk = c.in_err-recycle.ensures.untouched before in
    let state = c.in_err-recycle.ensures.err.before before in
    λ i. record { disk = disk i; state = state i }

pub returns-in_err-enter_next-clause-untouched : goal.returns-in_err-enter_next-clause-untouched
returns-in_err-enter_next-clause-untouched g c = λ faults broken. absurd (cc ((c.in_ok-recycle.ensures.broken faults).1 broken))

pub returns-in_ok-enter_next-clause-untouched : goal.returns-in_ok-enter_next-clause-untouched
returns-in_ok-enter_next-clause-untouched g c = λ faults broken. absurd (cc ((c.in_ok-recycle.ensures.broken faults).1 broken))

pub returns-in_err-recycle-clause-full : goal.returns-in_err-recycle-clause-full
returns-in_err-recycle-clause-full g c = λ long limit is.
    let p = err_from_is_err_and c.from_residual.result c.from_residual.ensures.1 in
    let spent = (c.recycle.ensures.full long limit).0 (c.in_err-recycle.was ∙ ap (λ (r : QueueRefusal). Err r) (sym p.2) ∙ sym p.1 ∙ is) in
    (spent.unbroken, spent-past c.args.queue.now.state (sym c.due.ensures.due ∙ c.if-due.true) long limit spent)

pub returns-in_err-recycle-clause-full_calls : goal.returns-in_err-recycle-clause-full_calls
returns-in_err-recycle-clause-full_calls g c = λ long limit is.
    let p = err_from_is_err_and c.from_residual.result c.from_residual.ensures.1 in
    c.in_err-recycle.ensures.untouched (told-full c.in_err-recycle.field-0.0 long limit (ap (λ (r : QueueRefusal). Err r) (sym p.2) ∙ sym p.1 ∙ is))

pub returns-in_err-recycle-clause-past : goal.returns-in_err-recycle-clause-past
returns-in_err-recycle-clause-past g c = λ past unbroken number.
    let p = err_from_is_err_and c.from_residual.result c.from_residual.ensures.1 in
    let spent = past-spent c.args.queue.now.state (sym c.due.ensures.due ∙ c.if-due.true) past unbroken number in
    p.1 ∙ ap (λ (r : QueueRefusal). Err r) (p.2 ∙ same_Err c.in_err-recycle.field-0.0 (Full past.length past.limit) c.recycle.result c.in_err-recycle.was ((c.recycle.ensures.full past.length past.limit).1 spent))

pub returns-in_err-recycle-clause-stopped : goal.returns-in_err-recycle-clause-stopped
returns-in_err-recycle-clause-stopped g c = λ unbroken.
    let p = err_from_is_err_and c.from_residual.result c.from_residual.ensures.1 in
    let state = c.args.queue.now.state in
    let file = next_file state.current in
    rw (p.1) (λ outside. begun-stopped state _ _ (sym c.due.ensures.due ∙ c.if-due.true)
    (told_stopped-first (recycle_calls file (next_generation state.current) (next_number state.current)) (λ _. enter_calls file) _ _ (c.in_err-recycle.ensures.stopped (subst IsOutside p.2 outside))))

pub returns-in_err-enter_next-clause-full : goal.returns-in_err-enter_next-clause-full
returns-in_err-enter_next-clause-full g c = λ long limit is.
    let p = err_from_is_err_and c.from_residual-in_err-enter_next.result c.from_residual-in_err-enter_next.ensures.1 in
    let refusal = c.in_err-enter_next.field-0.0 in
    absurd (never-full refusal long limit c.in_err-enter_next.ensures.refuses (same_Err refusal (Full long limit) c.from_residual-in_err-enter_next.result (p.1 ∙ ap (λ (r : QueueRefusal). Err r) p.2) is))

pub returns-in_err-enter_next-clause-full_calls : goal.returns-in_err-enter_next-clause-full_calls
returns-in_err-enter_next-clause-full_calls g c = λ long limit is.
    let p = err_from_is_err_and c.from_residual-in_err-enter_next.result c.from_residual-in_err-enter_next.ensures.1 in
    let refusal = c.in_err-enter_next.field-0.0 in
    absurd (never-full refusal long limit c.in_err-enter_next.ensures.refuses (same_Err refusal (Full long limit) c.from_residual-in_err-enter_next.result (p.1 ∙ ap (λ (r : QueueRefusal). Err r) p.2) is))

pub returns-in_err-enter_next-clause-past : goal.returns-in_err-enter_next-clause-past
returns-in_err-enter_next-clause-past g c = λ past unbroken number.
    let spent = past-spent c.args.queue.now.state (sym c.due.ensures.due ∙ c.if-due.true) past unbroken number in
    let full = (c.recycle.ensures.full past.length past.limit).1 spent in
    let done = c.in_ok-recycle.was in
    absurd (cc (full, done))

pub returns-in_err-enter_next-clause-stopped : goal.returns-in_err-enter_next-clause-stopped
returns-in_err-enter_next-clause-stopped g c = λ unbroken.
    let p = err_from_is_err_and c.from_residual-in_err-enter_next.result c.from_residual-in_err-enter_next.ensures.1 in
    let state = c.args.queue.now.state in
    let file = next_file state.current in
    rw (p.1) (λ outside. begun-stopped state _ _ (sym c.due.ensures.due ∙ c.if-due.true)
    (told_stopped-second (recycle_calls file (next_generation state.current) (next_number state.current)) (enter_calls file) (g.D.Disk.history c.args.queue.now.disk) _ _
    (c.in_ok-recycle.ensures.calls ∙ told-recycled file (next_generation state.current) (next_number state.current) (g.D.Disk.history c.args.queue.now.disk))
    (c.in_err-enter_next.ensures.stopped (subst IsOutside p.2 outside) (next_place state.current) (ap (λ (s : State). s.prepared) c.in_ok-recycle.ensures.ok))))

pub returns-in_ok-enter_next-clause-past : goal.returns-in_ok-enter_next-clause-past
returns-in_ok-enter_next-clause-past g c = λ past unbroken number.
    let spent = past-spent c.args.queue.now.state (sym c.due.ensures.due ∙ c.if-due.true) past unbroken number in
    let full = (c.recycle.ensures.full past.length past.limit).1 spent in
    let done = c.in_ok-recycle.was in
    absurd (cc (full, done))

pub returns-else-due-clause-past : goal.returns-else-due-clause-past
returns-else-due-clause-past g c = λ past unbroken number.
    let none = else-number c.args.queue.now.state (sym c.due.ensures.due ∙ c.if-due.false) in
    absurd (cc (number, none))

pub returns-else-due-clause-calls : goal.returns-else-due-clause-calls
returns-else-due-clause-calls g c = none-begun c.args.queue.now.state (g.D.Disk.history c.args.queue.now.disk) (sym c.due.ensures.due ∙ c.if-due.false)

pub returns-in_ok-enter_next-clause-within : goal.returns-in_ok-enter_next-clause-within
returns-in_ok-enter_next-clause-within g c = λ unbroken.
    none-if _ (λ past number.
    let spent = past-spent c.args.queue.now.state (sym c.due.ensures.due ∙ c.if-due.true) past unbroken number in
    let full = (c.recycle.ensures.full past.length past.limit).1 spent in
    let done = c.in_ok-recycle.was in
    cc (full, done))

pub returns-else-due-clause-within : goal.returns-else-due-clause-within
returns-else-due-clause-within g c = λ unbroken. else-number c.args.queue.now.state (sym c.due.ensures.due ∙ c.if-due.false)
