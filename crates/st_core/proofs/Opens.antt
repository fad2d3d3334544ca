-- How the files of a server open.
use Rattle.std.proofs.Common.{◌≡◌, ◌∙◌, ◌||◌, ⊎_elim, inl, inr, ℕ, Bool, true, false, cond, List, Option, Some, None, Result, Ok, Err, IsTrue, refl, sym, ap, subst}
use Rattle.std.specs.Cmp.Lexicographic.{slice_cmp}
use Rattle.std.specs.FinMap.Entries.{find-where_key}
use Rattle.std.specs.List.{list_all, list_any}
use Rattle.std.specs.Option.{option_map}
use Rattle.std.specs.Ordering.{nat_cmp}
use Rattle.std.specs.Result.{IsOkAnd}
use Rattle.std.proofs.lemmas.List.Sums.{fold-append}
use Rattle.std.proofs.lemmas.Option.{same_Some}
use Rattle.std.proofs.lemmas.Map.Lookups.{exact_bytes}
use Rattle.st_board.specs.Base.{LeadTo, Store, value_behind}
use Rattle.st_board.specs.Kept.{IsUsers}
use Rattle.st_board.specs.Stands.{IsStill, Standing, StandsFor}
use Rattle.st_core.specs.Server.{HoldsState, IsMade, Serves, ReadNow, Serving, durable_of}
use Rattle.st_core.proofs.Users.{none-beside}
use Rattle.st_course.specs.Course.{job_after, made_after}
use Rattle.st_course.specs.Jobs.{meta_of}
use Rattle.st_course.specs.Sent.{value_of}
use Rattle.st_course.specs.declared.job.CommitJob.{CommitJob}
use Rattle.st_disk.specs.History.{Files, History}
use Rattle.st_engine.specs.Holding.{MountsTo, Reads, is_none_read}
use Rattle.st_engine.specs.Replay.{op_on, ops_on}
use Rattle.st_fold.specs.Map.{Map, value_at}
use Rattle.st_fold.specs.declared.report.Damage.{Damage}
use Rattle.st_fold.specs.Plain.{Rises}
use Rattle.st_key.specs.Spans.{Span, all_keys, holds, within}
use Rattle.st_meta.specs.Stored.{IsState, Stores, is_other, is_range, sets_of, stored, with_stored}
use Rattle.st_meta.specs.declared.state.Meta.{Meta}
use Rattle.st_model.specs.Report.{MayOpen}
use Rattle.st_model.specs.State.{Given, Opening, State}
use Rattle.st_ops.specs.declared.op.Op.{Op}
use Rattle.st_queue.specs.Writing.{frames_of}
use Rattle.st_restart.specs.After.{IsStoreOf, OpenTo}
use Rattle.st_restart.specs.Agreement.{Agrees, is_version, opening_of}
use Rattle.st_restart.specs.Opened.{Opened}

-- the laws that it stands on
abbrev pub Untouched : Type 0
Untouched = (given : Given) (opening : Opening) (pairs : Map) (files : Files) → Rises 0 given.log → MountsTo pairs files
    → is_none_read (frames_of files) ≡ true → opening ≡ record { version = 0; available = given.own }
    → OpenTo given (λ one. one ≡ opening) files

abbrev pub Written : Type 0
Written = (given : Given) (opening : Opening) (pairs : Map) (files : Files) → MountsTo pairs files
    → is_none_read (frames_of files) ≡ false → IsStoreOf given opening pairs
    → OpenTo given (λ one. one ≡ opening) files

abbrev pub KeyByKey : Type 0
KeyByKey = (pairs : Map) (ops : List Op) (key : List ℕ) → value_at (ops_on pairs ops) key ≡ value_behind key (value_at pairs key) ops

abbrev pub RangesOfUsers : Type 0
RangesOfUsers = (spans : List Span) (key : List ℕ) → IsTrue (list_all is_range spans) → holds spans key ≡ true → within all_keys key ≡ true

abbrev pub WrittenIsStored : Type 0
WrittenIsStored = (pairs : Map) (meta : Meta) → IsState meta → list_any (λ pair. is_other pair.0) pairs ≡ false → Stores (with_stored meta pairs) meta

-- what opens to one opening may open so
opens-so : (given : Given) (opening : Opening) (may : Opening → Type 0) (files : Files) → may opening → OpenTo given (λ one. one ≡ opening) files → OpenTo given may files
opens-so given opening may files is opens = of _ opens
  where
    of : (r : Result Opened Damage) → IsOkAnd r (λ one. (opening_of one ≡ opening) × Agrees given.own given.log one)
        → IsOkAnd r (λ one. may (opening_of one) × Agrees given.own given.log one)
    of (Ok one) so = (subst may (sym so.0) is, so.1)
    of (Err why) so = absurd so

module _ (given : Given) (opening : Opening) (store : Store) (board : Standing) (pairs : Map)
    (still : IsStill given opening) (stands : StandsFor given opening store board) (made : IsMade given opening store board.trace pairs) (by_key : KeyByKey) (of_users : RangesOfUsers) where
  -- an available key has at first the value of the map that was mounted
  mounted-value : (key : List ℕ) → IsUsers key → value_at made.mounted key ≡ value_at store.pairs key
  mounted-value key users =
      sym (ap (λ (t : Bool). cond t (value_at made.mounted key) None) available)
      ∙ sym (find-where_key (slice_cmp nat_cmp) (holds opening.available) key (λ other e. ap (holds opening.available) (sym (exact_bytes key other e))) made.mounted)
      ∙ ap (λ (m : Map). value_at m key) made.opened
    where
      available : holds opening.available key ≡ true
      available = ap (λ spans. holds spans key) still.available ∙ ap (λ (t : Bool). t || false) users

  -- a user's key has one value in the engine and in the base
  pub base-value : (key : List ℕ) → IsUsers key → value_at pairs key ≡ value_at board.base key
  base-value key users =
      ap (λ (m : Map). value_at m key) made.made
      ∙ by_key made.mounted (made_after given opening store.fresh board.trace) key
      ∙ ap (λ v. value_behind key v (made_after given opening store.fresh board.trace)) (mounted-value key users)
      ∙ sym (stands.committed key users)

  -- the store of what is durable
  pub durable-store : Stores pairs (meta_of given (durable_of board.state)) → IsTrue (is_version given.log board.state.durable)
      → IsStoreOf given (durable_of board.state) pairs
  durable-store stores version = record {
    stored = stores;
    version = version;
    values = λ key held.
        let users = of_users board.state.available key stores.available.spells.ranges held in
        base-value key users ∙ stands.base_is key users;
  }

  -- nothing beside the users' keys but the stored state
  pub none-other : (fresh : Bool) → HoldsState given board.state fresh pairs → list_any (λ pair. is_other pair.0) pairs ≡ false
  none-other true holds = ap (list_any (λ (pair : List ℕ × List ℕ). is_other pair.0)) holds.none
  none-other false holds = holds.alone

  module _ (fresh : Bool) (holds : HoldsState given board.state fresh pairs) (is_stored : WrittenIsStored)
      (job : CommitJob) (in_flight : job_after given opening store.fresh board.trace ≡ Some job) (flight : Opening) (flies : board.state.flight ≡ Some flight)
      (state : IsState (meta_of given flight)) where
    lands : LeadTo (meta_of given flight) job.ops
    lands = stands.lands job in_flight flight flies

    -- the commit in flight stores its state
    pub flight-stores : Stores (ops_on pairs job.ops) (meta_of given flight)
    flight-stores =
        subst (λ m. Stores m (meta_of given flight))
        (sym (ap (ops_on pairs) lands.whole ∙ fold-append op_on pairs lands.changes (sets_of (stored (meta_of given flight)))))
        (is_stored (ops_on pairs lands.changes) (meta_of given flight) state (none-beside lands.changes pairs lands.users (none-other fresh holds)))

    flight-version : job.version ≡ flight.version
    flight-version =
        same_Some job.version flight.version
        (ap (option_map (λ (j : CommitJob). j.version)) (sym in_flight) ∙ stands.flown ∙ ap (option_map (λ (f : Opening). f.version)) flies)

    -- and is the store of its flight
    pub flight-store : IsTrue (is_version given.log flight.version) → IsStoreOf given flight (ops_on pairs job.ops)
    flight-store version = record {
      stored = flight-stores;
      version = version;
      values = λ key held.
          let users = of_users flight.available key state.available.ranges held in
          by_key pairs job.ops key
          ∙ ap (λ v. value_behind key v job.ops) (base-value key users)
          ∙ stands.flight job in_flight key users
          ∙ ap (λ v. value_of given.log v key) flight-version;
    }

module _ {D P : Type 0} (given : Given) (opening : Opening) (store : Store) (told : D → Option History) (server : Serving D P)
    (keeps : Serves given opening store told server) (stands : StandsFor given opening store server.board)
    (untouched : Untouched) (written : Written) (by_key : KeyByKey) (of_users : RangesOfUsers) (is_stored : WrittenIsStored) where
  abbrev state : State
  state = server.board.state

  -- files that read as the store open by what is durable
  opens-durable : (fresh : Bool) → HoldsState given state fresh server.engine.store.pairs → (files : Files) → Reads fresh server.engine.store.pairs files
      → OpenTo given (MayOpen (Some state)) files
  opens-durable true holds files reads =
      opens-so given (durable_of state) (MayOpen (Some state)) files (inl (refl, refl))
      (untouched given (durable_of state) server.engine.store.pairs files keeps.still.rises reads.mounts reads.fresh_is holds.durable)
  opens-durable false holds files reads =
      opens-so given (durable_of state) (MayOpen (Some state)) files (inl (refl, refl))
      (written given (durable_of state) server.engine.store.pairs files reads.mounts reads.fresh_is
      (durable-store given opening store server.board server.engine.store.pairs keeps.still stands keeps.made by_key of_users holds keeps.version))

  opens-flight : (job : CommitJob) → server.flight ≡ Some job → (files : Files) → Reads false (ops_on server.engine.store.pairs job.ops) files
      → OpenTo given (MayOpen (Some state)) files
  opens-flight job is files reads = of state.flight refl
    where
      in_flight : job_after given opening store.fresh server.board.trace ≡ Some job
      in_flight = sym keeps.flight ∙ is

      of : (o : Option Opening) → state.flight ≡ o → OpenTo given (MayOpen (Some state)) files
      of None none = absurd (cc (sym (ap (option_map (λ (j : CommitJob). j.version)) in_flight) ∙ stands.flown ∙ ap (option_map (λ (f : Opening). f.version)) none))
      of (Some flight) flies =
          opens-so given flight (MayOpen (Some state)) files (inr flies)
          (written given flight (ops_on server.engine.store.pairs job.ops) files reads.mounts reads.fresh_is
          (flight-store given opening store server.board server.engine.store.pairs keeps.still stands keeps.made by_key of_users server.engine.store.fresh keeps.stored is_stored job in_flight flight flies
          (keeps.storable flight flies) (keeps.next_version flight flies)))

  -- files that read as the store, or as the one behind the commit in flight, open behind the server's state
  pub opens-now : (files : Files) → ReadNow server.engine.store.fresh server.engine.store.pairs server.flight files → OpenTo given (MayOpen (Some state)) files
  opens-now files reads = of server.flight refl reads
    where
      of : (o : Option CommitJob) → server.flight ≡ o → ReadNow server.engine.store.fresh server.engine.store.pairs o files → OpenTo given (MayOpen (Some state)) files
      of None is reads = opens-durable server.engine.store.fresh keeps.stored files reads
      of (Some job) is reads = ⊎_elim (opens-durable server.engine.store.fresh keeps.stored files) (opens-flight job is files) reads
