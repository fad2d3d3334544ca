-- An open store makes a server that did nothing yet.
use Rattle.std.proofs.Common.{◌≡◌, ◌∙◌, ◌||◌, ℕ, Bool, true, false, cond, List, [], ◌∷◌, filter, Option, Some, None, Result, Ok, Err, IsTrue, refl, sym, ap, subst}
use Rattle.std.specs.Cmp.Lexicographic.{slice_cmp}
use Rattle.std.specs.FinMap.Entries.{find-where_key}
use Rattle.std.specs.Ordering.{nat_cmp}
use Rattle.std.specs.Result.{IsOkAnd, result_map_both}
use Rattle.std.proofs.lemmas.Map.Lookups.{exact_bytes}
use Rattle.st_board.specs.Base.{Store as Named}
use Rattle.st_board.specs.Kept.{IsUsers}
use Rattle.st_board.specs.Stands.{IsStill}
use Rattle.st_board.specs.declared.opening.Opening.{Opening}
use Rattle.st_core.specs.Server.{HoldsState, IsMade, IsUntouched, durable_of}
use Rattle.st_course.specs.Jobs.{meta_of}
use Rattle.st_course.specs.Sent.{value_of}
use Rattle.st_engine.specs.Store.{Store}
use Rattle.st_fold.specs.Map.{Map, folded, value_at}
use Rattle.st_fold.specs.Plain.{Rises}
use Rattle.st_fold.specs.declared.report.Event.TheVariants.{Opened as opened_at}
use Rattle.st_key.specs.Spans.{Span, all_keys, holds}
use Rattle.st_key.specs.declared.part.MetaPart.{MetaPart}
use Rattle.st_meta.specs.Reading.{meta_of as state_of}
use Rattle.st_meta.specs.Stored.{Stores}
use Rattle.st_meta.specs.declared.state.Meta.{Meta}
use Rattle.st_model.specs.State.{Given, Opening as Named_opening, assigned, first_state}
use Rattle.st_mutation.specs.declared.batch.Batch.{Batch}
use Rattle.st_ptree.specs.Entries.{pairs_of}
use Rattle.st_restart.specs.Agreement.{Agrees, is_version}
use Rattle.st_restart.specs.Opened.{Opened, as_opened, opened_as, opened_fresh, opened_with}
use Rattle.st_run.specs.Opening.{OpensTo}

of-ok : {A E : Type 0} {b : A} (r : Result A E) → r ≡ Ok b → IsOkAnd r (λ one. one ≡ b)
of-ok {b = b} r is = subst (λ r. IsOkAnd r (λ one. one ≡ b)) (sym is) refl

-- the opening of a store, as it is named
abbrev pub named : Opening → Named_opening
named opening = record { version = opening.version; available = opening.available }

module _ (own : List Span) (log : List Batch) (store : Store) (opening : Opening) (opens : OpensTo own log store opening) where
  -- a fresh store has what the server owns before its log begins
  pub fresh-is : store.fresh ≡ true → opened_fresh own ≡ as_opened true opening
  fresh-is fresh = of-ok (opened_as own true store.pairs) (subst (λ f. opened_as own f store.pairs ≡ Ok (as_opened f opening)) fresh opens.opens)

  pub agreed : Agrees own log (opened_fresh own) → Agrees own log (as_opened store.fresh opening)
  agreed untouched = by_fresh store.fresh refl
    where
      by_fresh : (fresh : Bool) → store.fresh ≡ fresh → Agrees own log (as_opened store.fresh opening)
      by_fresh true is = subst (λ f. Agrees own log (as_opened f opening)) (sym is) (subst (Agrees own log) (fresh-is is) untouched)
      by_fresh false is = opens.agrees is

  -- what is available has the pairs of the base
  pub available-pairs : (store.fresh ≡ true → store.pairs ≡ []) → filter (λ pair. holds opening.available pair.0) store.pairs ≡ pairs_of opening.base
  available-pairs untouched = by_fresh store.fresh refl
    where
      by_state : (r : Result Meta MetaPart) → result_map_both (opened_with store.pairs) (λ which. which) r ≡ Ok (as_opened false opening)
          → filter (λ pair. holds opening.available pair.0) store.pairs ≡ pairs_of opening.base
      by_state (Ok state) is =
          let same : opened_with store.pairs state ≡ as_opened false opening = of-ok (Ok (opened_with store.pairs state)) is in
          ap (λ (spans : List Span). filter (λ pair. holds spans pair.0) store.pairs) (sym (ap (λ o. o.available) same)) ∙ ap (λ o. o.base) same
      by_state (Err which) is = absurd (cc is)

      by_fresh : (fresh : Bool) → store.fresh ≡ fresh → filter (λ pair. holds opening.available pair.0) store.pairs ≡ pairs_of opening.base
      by_fresh true is = ap (filter (λ pair. holds opening.available pair.0)) (untouched is) ∙ ap (λ o. o.base) (fresh-is is)
      by_fresh false is = by_state (state_of store.pairs) (subst (λ f. opened_as own f store.pairs ≡ Ok (as_opened f opening)) is opens.opens)

  pub is-made : (given : Given) → (store.fresh ≡ true → store.pairs ≡ [])
      → IsMade given (named opening) (record { fresh = store.fresh; pairs = pairs_of opening.base }) (opened_at opening.version ∷ []) store.pairs
  is-made given untouched = record { mounted = store.pairs; opened = available-pairs untouched; made = refl }

module _ (given : Given) (store : Store) (opening : Opening) (opens : OpensTo given.own given.log store opening)
    (agrees : Agrees given.own given.log (as_opened store.fresh opening)) where
  pub holds-state : (store.fresh ≡ true → store.pairs ≡ []) → HoldsState given (first_state given (named opening)) store.fresh store.pairs
  holds-state untouched = by_fresh store.fresh refl
    where
      by_fresh : (fresh : Bool) → store.fresh ≡ fresh → HoldsState given (first_state given (named opening)) store.fresh store.pairs
      by_fresh true is =
          subst (λ f. HoldsState given (first_state given (named opening)) f store.pairs) (sym is)
          record {
            durable = λ i. record {
              version = (sym (fresh-is given.own given.log store opening opens is) i).version;
              available = (sym (fresh-is given.own given.log store opening opens is) i).available;
            };
            none = untouched is;
          }
      by_fresh false is =
          subst (λ f. HoldsState given (first_state given (named opening)) f store.pairs) (sym is)
          (subst (λ (spans : List Span). Stores store.pairs (record { version = opening.version; assigned = spans; available = opening.available })) agrees.assigned_is
          (opens.stored is))

  pub base-value : opening.available ≡ all_keys ∷ [] → (key : List ℕ) → IsUsers key → value_at (pairs_of opening.base) key ≡ value_of given.log opening.version key
  base-value all key users =
      ap (λ (m : Map). value_at m key) agrees.base
      ∙ find-where_key (slice_cmp nat_cmp) (holds opening.available) key (λ other e. ap (holds opening.available) (sym (exact_bytes key other e))) (folded given.log opening.version)
      ∙ ap (λ (t : Bool). cond t (value_at (folded given.log opening.version) key) None) (ap (λ (spans : List Span). holds spans key) all ∙ ap (λ (t : Bool). t || false) users)
