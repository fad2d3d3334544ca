use Rattle.std.proofs.Common.{◌∙◌, ◌+◌, ℕ, List, [], ◌∷◌, refl, subst}
use Rattle.std.proofs.lemmas.Result.{err_from_is_err_and, on_err_weaker, on_ok_weaker}
use Rattle.st_disk.specs.Fuse.{fused_history}
use Rattle.st_life.specs.Running.{IsTurnOf, LeadsOn}
use Rattle.st_life.proofs.Closing.{all-readers, readers-from, readers-last, readers-next}
use Rattle.st_life.proofs.Leading.{lead-nowhere, lead-on}
use Rattle.st_life.proofs.running.Running.read_all.Goals as goal

pub loop-reader-init : goal.loop-reader-init
loop-reader-init g c =
    let told = fused_history g.D.Disk.history in
    let start = g.B.Beginning.start in
    let before = g.B.Beginning.told in
    (lead-nowhere told start before [] c.args.self.now, all-readers told start before c.args.self.now c.requires, refl)

pub returns-in_err-read_out-clause-err : goal.returns-in_err-read_out-clause-err
returns-in_err-read_out-clause-err g c =
    let told = fused_history g.D.Disk.history in
    let start = g.B.Beginning.start in
    let before = g.B.Beginning.told in
    let reader = c.loop-reader.reader in
    let now = c.loop-reader.self in
    let turn = subst (λ readers. IsTurnOf start.given readers now) (readers-next reader c.loop-reader-test.true) c.loop-reader.invariant.1 in
    let p = err_from_is_err_and c.from_residual.result c.from_residual.ensures.1 in
    rw p.1 (lead-on told start before [] [] [] c.args.self.now now c.read_out.new.self c.loop-reader.invariant.0 (c.in_err-read_out.ensures.err (readers-from (reader + 1)) turn))

pub returns-in_err-read_out-clause-server : goal.returns-in_err-read_out-clause-server
returns-in_err-read_out-clause-server g c = c.read_out.ensures.server ∙ c.loop-reader.invariant.2

pub loop-reader-preserved : goal.loop-reader-preserved
loop-reader-preserved g c =
    let told = fused_history g.D.Disk.history in
    let start = g.B.Beginning.start in
    let before = g.B.Beginning.told in
    let reader = c.loop-reader.reader in
    let now = c.loop-reader.self in
    let turn = subst (λ readers. IsTurnOf start.given readers now) (readers-next reader c.loop-reader-test.true) c.loop-reader.invariant.1 in
    let read = c.in_ok-read_out.ensures.ok (readers-from (reader + 1)) turn in
    (lead-on told start before [] [] [] c.args.self.now now c.read_out.new.self c.loop-reader.invariant.0 read.0, read.1, c.read_out.ensures.server ∙ c.loop-reader.invariant.2)

pub returns-clause-ok : goal.returns-clause-ok
returns-clause-ok g c =
    let told = fused_history g.D.Disk.history in
    let start = g.B.Beginning.start in
    let before = g.B.Beginning.told in
    let now = c.loop-reader.self in
    let turn = subst (λ readers. IsTurnOf start.given readers now) (readers-last c.loop-reader.reader c.loop-reader-test.false) c.loop-reader.invariant.1 in
    on_ok_weaker {Q = LeadsOn told start before [] [] c.args.self.now c.read_out-2.new.self × IsTurnOf start.given [] c.read_out-2.new.self} c.read_out-2.result
    (λ (read : (later : List ℕ) → IsTurnOf start.given (0 ∷ later) now → LeadsOn told start before [] [] now c.read_out-2.new.self × IsTurnOf start.given later c.read_out-2.new.self).
    (lead-on told start before [] [] [] c.args.self.now now c.read_out-2.new.self c.loop-reader.invariant.0 (read [] turn).0, (read [] turn).1))
    c.read_out-2.ensures.ok

pub returns-clause-err : goal.returns-clause-err
returns-clause-err g c =
    let told = fused_history g.D.Disk.history in
    let start = g.B.Beginning.start in
    let before = g.B.Beginning.told in
    let now = c.loop-reader.self in
    let turn = subst (λ readers. IsTurnOf start.given readers now) (readers-last c.loop-reader.reader c.loop-reader-test.false) c.loop-reader.invariant.1 in
    on_err_weaker c.read_out-2.result
    (λ (read : (later : List ℕ) → IsTurnOf start.given (0 ∷ later) now → LeadsOn told start before [] [] now c.read_out-2.new.self).
    lead-on told start before [] [] [] c.args.self.now now c.read_out-2.new.self c.loop-reader.invariant.0 (read [] turn))
    c.read_out-2.ensures.err
