use Rattle.std.proofs.Common.{◌≡◌, ◌∙◌, ◌+◌, ◌||◌, ◌∷◌, ℕ, suc, cond, Bool, Result, Ok, Err, IfErr, OnErr, refl, sym, ap, subst, arith}
use Rattle.std.proofs.lemmas.Result.{IfOk-weaker, err_from_is_err_and}
use Rattle.st_core.specs.declared.refusal.DriveRefusal.{DriveRefusal}
use Rattle.st_disk.specs.Fuse.{fused_history}
use Rattle.st_fold.specs.declared.plan.Do.TheVariants as step_of
use Rattle.st_life.specs.Running.{LeadsOn}
use Rattle.st_life.proofs.Leading.{act-leads, act-stops, flush-begins-not, flush-leads, flush-stops, poll-leads, stops-here}
use Rattle.st_life.proofs.running.Running.step.Goals as goal

one-more : (n : ℕ) → n + 1 ≡ suc n
one-more n = omega arith

-- a refusal, of which two things are known
both-err : {T : Type 0} (r : Result T DriveRefusal) (P R : DriveRefusal → Type 0) (Q : Type 0) → ((why : DriveRefusal) → P why → Q → R why) → IfErr r P → OnErr r Q → IfErr r R
both-err (Ok done) P R Q f p q = tt
both-err (Err why) P R Q f p q = f why p q

pub returns-in_err-begun-in-Flush-clause-err : goal.returns-in_err-begun-in-Flush-clause-err
returns-in_err-begun-in-Flush-clause-err g c =
    let p = err_from_is_err_and c.from_residual.result c.from_residual.ensures.1 in
    rw (p.1, p.2, c.in-Flush.is)
    (λ times later. rw (one-more times)
    (flush-begins-not (fused_history g.D.Disk.history) g.B.Beginning.start g.B.Beginning.told times later c.args.self.now c.act-in-Flush.new.self c.in_err-begun-in-Flush.field-0.0
    c.in_err-begun-in-Flush.ensures.reached c.in_err-begun-in-Flush.ensures.reading c.in_err-begun-in-Flush.ensures.err))

pub returns-in_err-ended-in-Flush-clause-err : goal.returns-in_err-ended-in-Flush-clause-err
returns-in_err-ended-in-Flush-clause-err g c =
    let p = err_from_is_err_and c.from_residual-in_err-ended-in-Flush.result c.from_residual-in_err-ended-in-Flush.ensures.1 in
    rw (p.1, p.2, c.in-Flush.is)
    (λ times later. rw (one-more times)
    (flush-stops (fused_history g.D.Disk.history) g.B.Beginning.start g.B.Beginning.told c.in_ok-begun-in-Flush.begun times later c.args.self.now c.act-in-Flush.new.self c.act-in-Flush-2.new.self
    c.in_err-ended-in-Flush.field-0.0 c.in_ok-begun-in-Flush.ensures.ok
    c.in_err-ended-in-Flush.ensures.reached c.in_err-ended-in-Flush.ensures.reading c.in_err-ended-in-Flush.ensures.err))

pub returns-in_err-poll-in-Poll-clause-err : goal.returns-in_err-poll-in-Poll-clause-err
returns-in_err-poll-in-Poll-clause-err g c =
    let p = err_from_is_err_and c.from_residual-in_err-poll-in-Poll.result c.from_residual-in_err-poll-in-Poll.ensures.1 in
    rw (p.1, p.2, c.in_err-poll-in-Poll.ensures.err)
    (λ times later.
    stops-here (fused_history g.D.Disk.history) g.B.Beginning.start g.B.Beginning.told ((c.args.one, times + 1) ∷ later) c.args.self.now c.args.self.now refl refl)

pub returns-in-Act-clause-ok : goal.returns-in-Act-clause-ok
returns-in-Act-clause-ok g c =
    rw c.in-Act.is
    (IfOk-weaker c.act.result _ _
    (λ done acts times later. rw (one-more times)
    (act-leads (fused_history g.D.Disk.history) g.B.Beginning.start g.B.Beginning.told c.in-Act.action done times later c.args.self.now c.act.new.self acts)) c.act.ensures.ok)

pub returns-in-Act-clause-err : goal.returns-in-Act-clause-err
returns-in-Act-clause-err g c =
    rw c.in-Act.is
    (both-err c.act.result _ _ _
    (λ why refused reached times later. rw (one-more times)
    (act-stops (fused_history g.D.Disk.history) g.B.Beginning.start g.B.Beginning.told c.in-Act.action times later c.args.self.now c.act.new.self why reached c.act.ensures.reading refused))
    c.act.ensures.err c.act.ensures.reached)

pub returns-then-begun-clause-ok : goal.returns-then-begun-clause-ok
returns-then-begun-clause-ok g c =
    let begun = c.in_ok-begun-in-Flush.begun in
    let ended = c.in_ok-ended-in-Flush.ended in
    let either : (begun || ended) ≡ begun = ap (λ (t : Bool). t || ended) c.if-begun.true ∙ sym c.if-begun.true in
    rw c.in-Flush.is
    (λ times later. rw (one-more times)
    (subst (λ (t : Bool). LeadsOn (fused_history g.D.Disk.history) g.B.Beginning.start g.B.Beginning.told ((step_of.Flush, suc times) ∷ later) (cond t ((step_of.Flush, times) ∷ later) later) c.args.self.now c.act-in-Flush-2.new.self)
    either (flush-leads (fused_history g.D.Disk.history) g.B.Beginning.start g.B.Beginning.told begun ended times later c.args.self.now c.act-in-Flush.new.self c.act-in-Flush-2.new.self
    c.in_ok-begun-in-Flush.ensures.ok c.in_ok-ended-in-Flush.ensures.ok)))

pub returns-else-begun-clause-ok : goal.returns-else-begun-clause-ok
returns-else-begun-clause-ok g c =
    let begun = c.in_ok-begun-in-Flush.begun in
    let ended = c.in_ok-ended-in-Flush.ended in
    let either : (begun || ended) ≡ ended = ap (λ (t : Bool). t || ended) c.if-begun.false in
    rw c.in-Flush.is
    (λ times later. rw (one-more times)
    (subst (λ (t : Bool). LeadsOn (fused_history g.D.Disk.history) g.B.Beginning.start g.B.Beginning.told ((step_of.Flush, suc times) ∷ later) (cond t ((step_of.Flush, times) ∷ later) later) c.args.self.now c.act-in-Flush-2.new.self)
    either (flush-leads (fused_history g.D.Disk.history) g.B.Beginning.start g.B.Beginning.told begun ended times later c.args.self.now c.act-in-Flush.new.self c.act-in-Flush-2.new.self
    c.in_ok-begun-in-Flush.ensures.ok c.in_ok-ended-in-Flush.ensures.ok)))

pub returns-in_ok-poll-in-Poll-clause-ok : goal.returns-in_ok-poll-in-Poll-clause-ok
returns-in_ok-poll-in-Poll-clause-ok g c =
    rw c.in-Poll.is
    (λ times later. rw (one-more times)
    (poll-leads (fused_history g.D.Disk.history) g.B.Beginning.start g.B.Beginning.told c.in-Poll.reader c.args.self.now c.poll.new.self
    c.in_ok-poll-in-Poll.ensures.server c.in_ok-poll-in-Poll.ensures.polled c.in_ok-poll-in-Poll.ensures.events
    c.in_ok-poll-in-Poll.field-0 times later c.in_ok-poll-in-Poll.ensures.done))
