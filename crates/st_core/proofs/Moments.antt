-- What a crash leaves while acts follow one another.
use Rattle.std.proofs.Common.{◌≡◌, ◌∙◌, ◌≤◌, ℕ, List, ◌++◌, length, Option, Some, None, IfSome, refl, sym, ap, subst, arith}
use Rattle.std.proofs.lemmas.List.{length-append, take-append-le, take_all}
use Rattle.st_core.specs.Server.{OpenWithin}
use Rattle.st_disk.specs.History.{Files, History, MayLeave}
use Rattle.st_disk.specs.Moments.{ToldLeavesOnly, joined, started, weaker}
use Rattle.st_fold.specs.declared.report.Event.{Event}
use Rattle.st_model.specs.Report.{MayOpen}
use Rattle.st_model.specs.State.{Given, Opening, State}
use Rattle.st_model.specs.Trace.{state_after}
use Rattle.st_restart.specs.After.{OpenBehind, OpenTo}

-- nothing happened
pub told-started : (told : Option History) (P : Files → Type 0) → IfSome told (λ h. (images : Files) → MayLeave h images → P images) → ToldLeavesOnly told told P
told-started None P all = refl
told-started (Some h) P all = started h P all

pub told-weaker : (old new : Option History) (P Q : Files → Type 0) → ToldLeavesOnly old new P → ((images : Files) → P images → Q images) → ToldLeavesOnly old new Q
told-weaker None new P Q only weaken = only
told-weaker (Some old) None P Q only weaken = only
told-weaker (Some old) (Some new) P Q only weaken = weaker old new P Q only weaken

pub told-joined : (old mid new : Option History) (P : Files → Type 0) → ToldLeavesOnly old mid P → ToldLeavesOnly mid new P → ToldLeavesOnly old new P
told-joined None None new P first second = second
told-joined None (Some mid) new P first second = absurd (cc (first))
told-joined (Some old) None new P first second = absurd first
told-joined (Some old) (Some mid) None P first second = absurd second
told-joined (Some old) (Some mid) (Some new) P first second = joined old mid new P first second

module _ (given : Given) (opening : Opening) where
  -- files that open behind a trace open so behind a longer one
  pub within-longer : (from : ℕ) (trace more : List Event) (files : Files) → OpenWithin given opening from trace files → OpenWithin given opening from (trace ++ more) files
  within-longer from trace more files within = record {
    place = within.place;
    low = within.low;
    high = let high = within.high in omega (arith, length-append trace more);
    opens = subst (λ t. OpenTo given (MayOpen (state_after given opening t)) files) (sym (take-append-le within.place trace more within.high)) within.opens;
  }

  -- or since an earlier place
  pub within-earlier : (from later : ℕ) (trace : List Event) (files : Files) → from ≤ later → OpenWithin given opening later trace files → OpenWithin given opening from trace files
  within-earlier from later trace files le within = record {
    place = within.place;
    low = let low = within.low in omega arith;
    high = within.high;
    opens = within.opens;
  }

  -- files that open behind the state of a trace
  pub within-now : (trace : List Event) (state : State) (files : Files) → state_after given opening trace ≡ Some state → OpenBehind given state files
      → OpenWithin given opening (length trace) trace files
  within-now trace state files legal opens = record {
    place = length trace;
    low = omega arith;
    high = omega arith;
    opens = subst (λ (o : Option State). OpenTo given (MayOpen o) files) (sym (ap (state_after given opening) (take_all (length trace) trace (omega arith)) ∙ legal)) opens;
  }

  -- nothing is done to the disk while the trace gets longer
  pub told-longer : (told now : Option History) → now ≡ told → (trace more after : List Event) → after ≡ trace ++ more
      → ToldLeavesOnly told told (OpenWithin given opening (length trace) trace) → ToldLeavesOnly told now (OpenWithin given opening (length trace) after)
  told-longer told now same trace more after is opens =
      subst (λ n. ToldLeavesOnly told n (OpenWithin given opening (length trace) after)) (sym same)
      (told-weaker told told (OpenWithin given opening (length trace) trace) (OpenWithin given opening (length trace) after) opens
      (λ images within. subst (λ (t : List Event). OpenWithin given opening (length trace) t images) (sym is) (within-longer (length trace) trace more images within)))
