-- Why a store isn't opened, and what that leaves.
use Rattle.std.proofs.Common.{◌≡◌, ◌≤◌, ℕ, List, Option, Result, Ok, Err, inl, refl, sym, ap, subst, arith}
use Rattle.std.specs.Result.{result_map_both}
use Rattle.st_disk.specs.History.{Files, History, risen, seen}
use Rattle.st_engine.specs.Answers.{FailsToMount, Mounts}
use Rattle.st_engine.specs.Engine.{Mounted, ToldAgrees}
use Rattle.st_engine.specs.Holding.{MountsTo, is_none_read}
use Rattle.st_engine.specs.Store.{Bounds}
use Rattle.st_fold.specs.Map.{Map}
use Rattle.st_fold.specs.declared.report.Damage.TheVariants.{File, Meta}
use Rattle.st_fold.specs.declared.report.Fault.{Fault}
use Rattle.st_fold.specs.declared.report.Fault.TheVariants as fault
use Rattle.st_key.specs.Spans.{Span}
use Rattle.st_mutation.specs.declared.batch.Batch.{Batch}
use Rattle.st_queue.specs.Mounting.{IsOfMount}
use Rattle.st_queue.specs.Writing.{frames_of}
use Rattle.st_queue.specs.declared.frame.QueueRefusal.{QueueRefusal}
use Rattle.st_queue.specs.declared.frame.QueueRefusal.TheVariants.{Broken, Damaged, DiskFault, Full, NoMemory}
use Rattle.st_queue.specs.declared.queue.QueueMount.{QueueMount}
use Rattle.st_restart.specs.Opened.{opened, opened_as}
use Rattle.st_run.specs.Opening.{FailsToOpen, IsFault, OpensNothing, fault_of}
use Rattle.st_run.proofs.Files.{as-before, file-damaged, file-foreign, file-unread, if-told}

module _ {D : Type 0} (told : D → Option History) (count : D → ℕ) (before : D) (own : List Span) (log : List Batch) where
  -- the store isn't mounted
  pub refused-mount : (refused : QueueMount D) → FailsToMount told before refused
      → ((faults : ℕ) → refused.why ≡ DiskFault faults → (faults ≡ count refused.disk) × (risen (count before) ≤ count refused.disk)) → count before ≤ count refused.disk
      → FailsToOpen told count before own log (record { disk = refused.disk; why = fault_of refused.why })
  refused-mount refused fails cause never_falls = record {
    why = by_why refused.why refl;
    never_falls = never_falls;
    came_to = fails.came_to;
    any_moment = fails.any_moment;
  }
    where
      by_why : (why : QueueRefusal) → refused.why ≡ why → IsFault own log (told before) (count before) (count refused.disk) (fault_of refused.why)
      by_why (DiskFault faults) is = subst (λ w. IsFault own log (told before) (count before) (count refused.disk) (fault_of w)) (sym is) (cause faults is)
      by_why (Damaged file at) is =
          subst (λ w. IsFault own log (told before) (count before) (count refused.disk) (fault_of w)) (sym is)
          (if-told (told before) (λ h mounted. file-unread own (seen h) (record { file = file; at = at }) mounted) (fails.damaged file at is))
      by_why NoMemory is = subst (λ w. IsFault own log (told before) (count before) (count refused.disk) (fault_of w)) (sym is) tt
      by_why (Broken faults) is = absurd (subst IsOfMount is fails.of_mount)
      by_why (Full length limit) is = absurd (subst IsOfMount is fails.of_mount)

  -- it is mounted, and opens to nothing
  pub refused-store : ((own : List Span) (pairs : Map) (files : Files) → MountsTo pairs files
      → opened own files ≡ result_map_both (λ one. one) Meta (opened_as own (is_none_read (frames_of files)) pairs))
      → (bounds : Bounds) (engine : Mounted D) → Mounts told before bounds engine → ToldAgrees told engine → count engine.disk ≡ count before
      → (why : Fault) → OpensNothing own log engine.store why → FailsToOpen told count before own log (record { disk = engine.disk; why = why })
  refused-store law bounds engine mounts agrees no_fault why nothing = record {
    why = by_why why nothing;
    never_falls = let e = no_fault in omega arith;
    came_to = inl mounts.synced;
    any_moment = mounts.any_moment;
  }
    where
      by_why : (why : Fault) → OpensNothing own log engine.store why → IsFault own log (told before) (count before) (count engine.disk) why
      by_why (fault.Damaged (Meta which)) nothing =
          if-told (told before) (λ h reads. file-damaged law own engine.store.fresh engine.store.pairs (seen h) reads which nothing)
          (as-before engine (told before) (told engine.disk) mounts.synced (agrees mounts.unbroken))
      by_why (fault.Foreign part) nothing =
          if-told (told before) (λ h reads. file-foreign law own engine.store.fresh engine.store.pairs (seen h) reads log part nothing)
          (as-before engine (told before) (told engine.disk) mounts.synced (agrees mounts.unbroken))
      by_why fault.Memory nothing = tt
      by_why (fault.Damaged (File file at)) nothing = absurd nothing
      by_why fault.Words nothing = absurd nothing
      by_why (fault.Script line kind) nothing = absurd nothing
      by_why (fault.Read faults) nothing = absurd nothing
      by_why (fault.Device faults) nothing = absurd nothing
      by_why (fault.Peer faults) nothing = absurd nothing
      by_why (fault.Full length limit) nothing = absurd nothing
