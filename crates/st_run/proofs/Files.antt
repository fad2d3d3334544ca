-- What files open as, by what their mount says of them.
use Rattle.std.proofs.Common.{◌≡◌, ◌∙◌, ℕ, Bool, true, false, List, [], ◌∷◌, Option, Some, None, Result, Ok, Err, IfSome, refl, sym, ap, subst}
use Rattle.std.specs.Option.{option_map}
use Rattle.std.specs.Result.{IsErrAnd, IsOkAnd, result_map_both}
use Rattle.std.proofs.lemmas.Bool.{false≢true}
use Rattle.st_disk.specs.History.{Files, History, seen}
use Rattle.st_engine.specs.Engine.{Agrees, Mounted}
use Rattle.st_engine.specs.Holding.{MountsTo, Reads, is_none_read}
use Rattle.st_engine.specs.Replay.{replay}
use Rattle.st_engine.specs.Store.{Kept, mount_of, store_of}
use Rattle.st_fold.specs.Map.{Map}
use Rattle.st_fold.specs.declared.report.Damage.{Damage}
use Rattle.st_fold.specs.declared.report.Damage.TheVariants.{File, Meta}
use Rattle.st_fold.specs.declared.report.ForeignPart.{ForeignPart}
use Rattle.st_key.specs.Spans.{Span}
use Rattle.st_key.specs.declared.part.MetaPart.{MetaPart}
use Rattle.st_mutation.specs.declared.batch.Batch.{Batch}
use Rattle.st_queue.specs.Frames.{Damage as Place}
use Rattle.st_queue.specs.Mounting.{after_both}
use Rattle.st_queue.specs.Writing.{frames_of}
use Rattle.st_queue.specs.declared.frame.Frame.{Frame}
use Rattle.st_restart.specs.Opened.{Opened, opened, opened_as, opened_of}
use Rattle.st_run.specs.Opening.{IsForeign}

-- files that can't be mounted open as damaged there
pub file-unread : (own : List Span) (files : Files) (place : Place) → mount_of files ≡ Err place → opened own files ≡ Err (File place.file place.at)
file-unread own files place is = of (frames_of files) is
  where
    keeps : List Frame → Kept
    keeps frames = record { files = files; store = store_of frames }

    of : (r : Result (List Frame) Place) → result_map_both keeps (λ (damage : Place). damage) r ≡ Err place → opened_of own r ≡ Err (File place.file place.at)
    of (Ok frames) is = absurd (cc is)
    of (Err found) is = ap (λ (one : Place). Err (File one.file one.at)) (subst (λ r. IsErrAnd r (λ one. found ≡ one)) is refl)

-- what a mount left, as the files were before it
pub as-before : {D : Type 0} (engine : Mounted D) (told now : Option History) → now ≡ option_map after_both told → IfSome now (λ h. Agrees engine h)
    → IfSome told (λ h. Reads engine.store.fresh engine.store.pairs (seen h))
as-before engine None now synced agrees = tt
as-before engine (Some h) now synced agrees = (subst (λ n. IfSome n (λ h. Agrees engine h)) synced agrees).reads

-- of a history that is told
pub if-told : {P Q : History → Type 0} (told : Option History) → ((h : History) → P h → Q h) → IfSome told P → IfSome told Q
if-told None leads holds = tt
if-told (Some h) leads holds = leads h holds

module _ (law : (own : List Span) (pairs : Map) (files : Files) → MountsTo pairs files
    → opened own files ≡ result_map_both (λ one. one) Meta (opened_as own (is_none_read (frames_of files)) pairs))
    (own : List Span) (fresh : Bool) (pairs : Map) (files : Files) (reads : Reads fresh pairs files) where
  as-read : opened own files ≡ result_map_both (λ one. one) Meta (opened_as own fresh pairs)
  as-read = law own pairs files reads.mounts ∙ ap (λ f. result_map_both (λ one. one) Meta (opened_as own f pairs)) reads.fresh_is

  pub file-opens : (one : Opened) → opened_as own fresh pairs ≡ Ok one → opened own files ≡ Ok one
  file-opens one is = as-read ∙ ap (result_map_both (λ one. one) Meta) is

  pub file-damaged : (which : MetaPart) → opened_as own fresh pairs ≡ Err which → opened own files ≡ Err (Meta which)
  file-damaged which is = as-read ∙ ap (result_map_both (λ one. one) Meta) is

  pub file-foreign : (log : List Batch) (part : ForeignPart) → IsOkAnd (opened_as own fresh pairs) (IsForeign own log part)
      → IsOkAnd (opened own files) (IsForeign own log part)
  file-foreign log part is = subst (λ r. IsOkAnd r (IsForeign own log part)) (sym as-read) (kept (opened_as own fresh pairs) is)
    where
      kept : (r : Result Opened MetaPart) → IsOkAnd r (IsForeign own log part) → IsOkAnd (result_map_both (λ one. one) Meta r) (IsForeign own log part)
      kept (Ok one) is = is
      kept (Err which) is = is
