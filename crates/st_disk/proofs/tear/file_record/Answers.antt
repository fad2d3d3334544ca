use Rattle.std.proofs.Common.{ℕ, List, true, length, replicate, sym, ap, ◌∙◌, arith, rules}
use Rattle.st_disk.specs.FileState.{overwritten}
use Rattle.st_disk.specs.Entries.{before_change}
use Rattle.st_disk.specs.declared.memory.Change.TheVariants.{Write}
use Rattle.st_disk.proofs.Undone.{step-first, step-write, step-other, step-sync, step-none}
use Rattle.st_disk.proofs.tear.file_record.Goals as goal

pub loop-rest-init : goal.loop-rest-init
loop-rest-init c = record {
  inside = omega arith;
  undone = step-first c.args.second c.args.entries.now c.args.stored.now c.requires.1.in_order c.requires.1.seen _ _ (search rules) (search rules);
}

pub returns-in-Sync-clause-synced : goal.returns-in-Sync-clause-synced
returns-in-Sync-clause-synced c =
    (step-sync c.args.second c.args.entries.now c.args.stored.now c.loop-rest.rest c.index-entries-rest.result _ _ (omega arith) c.loop-rest.invariant.inside c.index-entries-rest.is c.in-Sync.is c.if-entry-second.true c.loop-rest.invariant.undone).0

pub returns-in-Sync-clause-written : goal.returns-in-Sync-clause-written
returns-in-Sync-clause-written c =
    (step-sync c.args.second c.args.entries.now c.args.stored.now c.loop-rest.rest c.index-entries-rest.result _ _ (omega arith) c.loop-rest.invariant.inside c.index-entries-rest.is c.in-Sync.is c.if-entry-second.true c.loop-rest.invariant.undone).1

pub mark-requires : goal.mark-requires
mark-requires c =
    let step = step-write c.args.second c.args.entries.now c.args.stored.now c.loop-rest.rest c.index-entries-rest.result c.in-Write.at c.in-Write.bytes c.in-Write.before _ _ (omega arith) c.loop-rest.invariant.inside c.index-entries-rest.is c.in-Write.is c.if-entry-second.true c.loop-rest.invariant.undone in
    omega (arith, step.in_marks, ap length c.as_slice-count.ensures)

pub undo-requires-clause-inside : goal.undo-requires-clause-inside
undo-requires-clause-inside c =
    let step = step-write c.args.second c.args.entries.now c.args.stored.now c.loop-rest.rest c.index-entries-rest.result c.in-Write.at c.in-Write.bytes c.in-Write.before _ _ (omega arith) c.loop-rest.invariant.inside c.index-entries-rest.is c.in-Write.is c.if-entry-second.true c.loop-rest.invariant.undone in
    omega (arith, step.in_file, ap length c.as_slice.ensures)

pub undo-requires-clause-fewer : goal.undo-requires-clause-fewer
undo-requires-clause-fewer c =
    let step = step-write c.args.second c.args.entries.now c.args.stored.now c.loop-rest.rest c.index-entries-rest.result c.in-Write.at c.in-Write.bytes c.in-Write.before _ _ (omega arith) c.loop-rest.invariant.inside c.index-entries-rest.is c.in-Write.is c.if-entry-second.true c.loop-rest.invariant.undone in
    omega (arith, step.fewer, ap length c.as_slice.ensures, ap length c.as_slice-count.ensures)

pub loop-rest-preserved-in-Write : goal.loop-rest-preserved-in-Write
loop-rest-preserved-in-Write c =
    let step = step-write c.args.second c.args.entries.now c.args.stored.now c.loop-rest.rest c.index-entries-rest.result c.in-Write.at c.in-Write.bytes c.in-Write.before _ _ (omega arith) c.loop-rest.invariant.inside c.index-entries-rest.is c.in-Write.is c.if-entry-second.true c.loop-rest.invariant.undone in
    record { inside = omega arith; undone = step.undone _ _ (c.undo.ensures c.in-Write.bytes (ap length (sym c.as_slice-count.ensures)) ∙ ap (λ (l : List ℕ). before_change (Write c.in-Write.at c.in-Write.bytes l) c.loop-rest.synced.items) c.as_slice.ensures) (c.mark.ensures ∙ ap (λ (n : ℕ). overwritten c.in-Write.at (replicate n true) c.loop-rest.written.items) (ap length c.as_slice-count.ensures)) }

pub loop-rest-preserved : goal.loop-rest-preserved
loop-rest-preserved c = record {
  inside = omega arith;
  undone = step-other c.args.second c.args.entries.now c.args.stored.now c.loop-rest.rest c.index-entries-rest.result _ _ (omega arith) c.loop-rest.invariant.inside c.index-entries-rest.is c.if-entry-second.false c.loop-rest.invariant.undone;
}

pub returns-clause-synced : goal.returns-clause-synced
returns-clause-synced c =
    (step-none c.args.second c.args.entries.now c.args.stored.now c.loop-rest.rest _ _ (omega arith) c.loop-rest.invariant.undone).0

pub returns-clause-written : goal.returns-clause-written
returns-clause-written c =
    (step-none c.args.second c.args.entries.now c.args.stored.now c.loop-rest.rest _ _ (omega arith) c.loop-rest.invariant.undone).1
