-- Acts that follow one another.
use Rattle.std.proofs.Common.{◌≡◌, ◌∙◌, ◌+◌, ◌≤◌, ◌<◌, ◌++◌, ℕ, Bool, true, false, if◌then◌else◌, List, [], ◌∷◌, fold, take, drop, length, get_or, is_some, IfSome, IsTrue, Option, Some, None, refl, sym, ap, subst, arith, append_assoc}
use Rattle.std.specs.List.{cons_option}
use Rattle.std.proofs.lemmas.List.{append-nil, length-append, take-append-drop, take_more}
use Rattle.std.proofs.lemmas.List.Sums.{fold-append}
use Rattle.st_board.specs.Base.{Store}
use Rattle.st_core.specs.Acts.{act_on, event_of, reached_by, to}
use Rattle.st_core.specs.Refusing.{IsRefused, IsWell}
use Rattle.st_core.specs.Driving.{IsRun, IsStopped, ran_at, run_on}
use Rattle.st_core.specs.Server.{OpenWithin, Serves, Serving}
use Rattle.st_core.specs.declared.refusal.DriveRefusal.{DriveRefusal}
use Rattle.st_core.proofs.Acting.{acted-trace}
use Rattle.st_core.proofs.Refusals.{well-joined, well-same}
use Rattle.st_core.proofs.Running.{run-more, run-same}
use Rattle.st_core.proofs.Moments.{told-joined, told-weaker, within-earlier, within-longer}
use Rattle.st_disk.specs.Calls.{made}
use Rattle.st_disk.specs.History.{History}
use Rattle.st_disk.specs.Recorded.{Call}
use Rattle.st_disk.specs.Moments.{ToldLeavesOnly}
use Rattle.st_fold.specs.declared.plan.Act.{Act}
use Rattle.st_fold.specs.declared.report.Event.{Event}
use Rattle.st_model.specs.State.{Given, Opening}

-- how many events an act made
abbrev pub made_by : Bool → ℕ
made_by is_made = if is_made then 1 else 0

pub at_most : (b : Bool) → made_by b ≤ 1
at_most true = omega arith
at_most false = omega arith

module _ {D P : Type 0} (given : Given) (opening : Opening) (store : Store) (upto : ℕ) (told : D → Option History) (count : D → ℕ) (old : Serving D P) (acts : List Act) where
  -- so many of the acts were done, and made so many events
  pub record Driven (now : Serving D P) (at done : ℕ) : Type 0 where
    pub acted : reached_by now.board ≡ fold (act_on (to upto given)) (reached_by old.board) (take at acts)
    pub counted : length now.board.trace ≡ length old.board.trace + done
    pub few : done ≤ at
    pub serves : Serves given opening store told now
    pub well : IsWell count old.engine now.engine
    pub ran : IfSome (told old.engine.disk) (λ h. IsRun told h now.engine (fold (run_on given opening store.fresh old.engine.bounds upto) (ran_at old.board old.engine h) (take at acts)))
    pub opened : ToldLeavesOnly (told old.engine.disk) (told now.engine.disk) (OpenWithin given opening (length old.board.trace) now.board.trace)

  pub driven-first : Serves given opening store told old → ToldLeavesOnly (told old.engine.disk) (told old.engine.disk) (OpenWithin given opening (length old.board.trace) old.board.trace) → Driven old 0 0
  driven-first serves opened = record { acted = refl; counted = omega arith; few = omega arith; serves = serves; well = well-same count old.engine old.engine refl; ran = run-same told old.engine old.engine (ran_at old.board old.engine) refl (λ h. refl) (λ h. refl) (λ h. refl); opened = opened }

  one-event : (o : Option Event) (is_made : Bool) → is_made ≡ is_some o → length (cons_option o []) ≡ made_by is_made
  one-event None is_made is = ap made_by (sym is)
  one-event (Some event) is_made is = ap made_by (sym is)

  -- what a crash leaves since the first act, behind one more
  opened-more : (now next : Serving D P) (at done : ℕ) (more : List Event) → Driven now at done → next.board.trace ≡ now.board.trace ++ more
      → ToldLeavesOnly (told now.engine.disk) (told next.engine.disk) (OpenWithin given opening (length now.board.trace) next.board.trace)
      → ToldLeavesOnly (told old.engine.disk) (told next.engine.disk) (OpenWithin given opening (length old.board.trace) next.board.trace)
  opened-more now next at done more driven longer opens =
      told-joined (told old.engine.disk) (told now.engine.disk) (told next.engine.disk) (OpenWithin given opening (length old.board.trace) next.board.trace)
      (told-weaker (told old.engine.disk) (told now.engine.disk) (OpenWithin given opening (length old.board.trace) now.board.trace) (OpenWithin given opening (length old.board.trace) next.board.trace) driven.opened
      (λ images within. subst (λ (t : List Event). OpenWithin given opening (length old.board.trace) t images) (sym longer) (within-longer given opening (length old.board.trace) now.board.trace more images within)))
      (told-weaker (told now.engine.disk) (told next.engine.disk) (OpenWithin given opening (length now.board.trace) next.board.trace) (OpenWithin given opening (length old.board.trace) next.board.trace) opens
      (λ images within. within-earlier given opening (length old.board.trace) (length now.board.trace) next.board.trace images (let count = driven.counted in omega arith) within))

  pub driven-more : (now next : Serving D P) (at done : ℕ) (default : Act) (is_made : Bool) → Driven now at done → at < length acts → Serves given opening store told next
      → is_made ≡ is_some (event_of (to upto given) now.board.state (get_or acts at default))
      → reached_by next.board ≡ act_on (to upto given) (reached_by now.board) (get_or acts at default)
      → ToldLeavesOnly (told now.engine.disk) (told next.engine.disk) (OpenWithin given opening (length now.board.trace) next.board.trace)
      → IsWell count now.engine next.engine
      → ((first second : List Call) (h : History) → made (first ++ second) h ≡ made second (made first h))
      → IfSome (told now.engine.disk) (λ h. IsRun told h next.engine (run_on given opening store.fresh now.engine.bounds upto (ran_at now.board now.engine h) (get_or acts at default)))
      → Driven next (at + 1) (done + made_by is_made)
  driven-more now next at done default is_made driven inside serves made acted opens well join ran = record {
    acted =
        acted
        ∙ ap (λ r. act_on (to upto given) r action) driven.acted
        ∙ sym (fold-append (act_on (to upto given)) (reached_by old.board) (take at acts) (action ∷ []))
        ∙ ap (fold (act_on (to upto given)) (reached_by old.board)) (sym (take_more acts at default inside));
    counted =
        ap length longer ∙ length-append now.board.trace more
        ∙ (let count = driven.counted in let one = one-event (event_of (to upto given) now.board.state action) is_made made in omega arith);
    few = let few = driven.few in let one : made_by is_made ≤ 1 = at_most is_made in omega arith;
    serves = serves;
    well = well-joined count old.engine now.engine next.engine driven.well well;
    ran =
        subst (λ acts. IfSome (told old.engine.disk) (λ h. IsRun told h next.engine (fold (run_on given opening store.fresh old.engine.bounds upto) (ran_at old.board old.engine h) acts)))
        (sym (take_more acts at default inside))
        (run-more given opening store.fresh upto told old.board now.board old.engine now.engine next.engine (take at acts) action join driven.well.bounds driven.acted driven.ran ran);
    opened = opened-more now next at done more driven longer opens;
  }
    where
      action : Act
      action = get_or acts at default

      more : List Event
      more = cons_option (event_of (to upto given) now.board.state action) []

      longer : next.board.trace ≡ now.board.trace ++ more
      longer = ap (λ r. r.trace) acted ∙ acted-trace (to upto given) (reached_by now.board) action

  -- and where an act is refused
  pub driven-stopped : (now next : Serving D P) (at done : ℕ) (default : Act) (why : DriveRefusal) → Driven now at done → at < length acts
      → next.board ≡ now.board → IsTrue (is_some (event_of (to upto given) now.board.state (get_or acts at default)))
      → IsRefused told count now.engine next.engine next.flight (get_or acts at default) why
      → IsStopped given opening store.fresh upto told count old acts next why
  driven-stopped now next at done default why driven inside same due refused = record {
    done = take at acts;
    stop = get_or acts at default;
    left = drop (at + 1) acts;
    whole =
        sym (take-append-drop (at + 1) acts)
        ∙ ap (λ front. front ++ drop (at + 1) acts) (take_more acts at default inside)
        ∙ append_assoc (take at acts) (get_or acts at default ∷ []) (drop (at + 1) acts);
    reached = ap reached_by same ∙ driven.acted;
    due = subst (λ board. IsTrue (is_some (event_of (to upto given) board.state (get_or acts at default)))) (sym same) due;
    before = now.engine;
    well = driven.well;
    ran = driven.ran;
    refused = refused;
  }

  pub stopped-opens : (now next : Serving D P) (at done : ℕ) → Driven now at done → next.board ≡ now.board
      → ToldLeavesOnly (told now.engine.disk) (told next.engine.disk) (OpenWithin given opening (length now.board.trace) next.board.trace)
      → ToldLeavesOnly (told old.engine.disk) (told next.engine.disk) (OpenWithin given opening (length old.board.trace) next.board.trace)
  stopped-opens now next at done driven same opens = opened-more now next at done [] driven (ap (λ b. b.trace) same ∙ sym (append-nil now.board.trace)) opens
