-- A commit of a board: it begins, and it is durable.
use Rattle.std.proofs.Common.{◌≡◌, ◌∙◌, ◌≤◌, ◌<◌, ◌^◌, inl, inr, ◌++◌, ◌-◌, ◌&&◌, ℕ, suc, max, Bool, true, false, cond, nat_le, nat_lt, leb-true, le-leb, List, [], ◌∷◌, filter, fold, map, Option, Some, None, option_and_then, unwrap_or, refl, sym, ap, subst, arith}
use Rattle.std.specs.List.{AllByRecursion, flat_map, list_all, list_any}
use Rattle.std.specs.Option.{option_map, option_map_or, option_or}
use Rattle.std.proofs.lemmas.Bool.{lt-leb}
use Rattle.std.proofs.lemmas.List.{append-nil}
use Rattle.std.proofs.lemmas.Option.{same_Some}
use Rattle.st_fold.specs.Map.{Map, batches_to}
use Rattle.st_fold.specs.declared.report.Event.{Event}
use Rattle.st_fold.specs.declared.report.Event.TheVariants.{Began, Durable}
use Rattle.st_key.specs.Parts.{lies_in, with_span, without_span}
use Rattle.st_key.specs.Spans.{Span, all_keys}
use Rattle.st_meta.specs.Stored.{IsState, SpellsRanges, ranges_bytes, sets_of, stored}
use Rattle.st_meta.specs.declared.state.Meta.{Meta}
use Rattle.st_model.specs.Pieces.{by_phase, rows_in_base, rows_taken, span_of, waits_to}
use Rattle.st_model.specs.State.{Given, Opening, State, assigned, available_at, began, commit_due, commit_version, end_commit, ended, released, released_between, released_in, step}
use Rattle.st_model.specs.Trace.{is_end, state_after}
use Rattle.st_model.specs.declared.piece.Piece.{Piece}
use Rattle.st_mutation.specs.declared.batch.Batch.{Batch}
use Rattle.st_mutation.specs.declared.batch.Move.{Move}
use Rattle.st_mutation.specs.declared.batch.Mutation.{Mutation}
use Rattle.st_ops.specs.declared.op.Op.{Op}
use Rattle.st_ptree.specs.Entries.{last_of}
use Rattle.st_versioned.specs.Root.{value_at}
use Rattle.st_versioned.specs.Window.{Kept, Stands, forgot, kept_from, last_to, mutations_to}
use Rattle.st_course.specs.Course.{Course, behind, clears_after, course_of, job_after}
use Rattle.st_course.specs.Jobs.{clear_of, job_of, meta_of, op_of, rows_of}
use Rattle.st_course.specs.Sent.{batches_between, value_of}
use Rattle.st_course.specs.declared.job.CommitJob.{CommitJob}
use Rattle.st_board.specs.Base.{Among, IsWrite, LeadTo, Store, value_behind}
use Rattle.st_board.specs.Kept.{IsUsers, led_to}
use Rattle.st_board.specs.Stands.{IsFlight, Keeps, Standing}
use Rattle.st_board.proofs.Beginning.{all-assigned}
use Rattle.st_board.proofs.Between.{Climbs, among-above, between-above, climbs-between, filter-both, filter-mapped, filter-through, from-among, greatest-among, greatest-is-last, last-among, last-mapped, versions_of}
use Rattle.st_board.proofs.Forgetting.{kept-committed}
use Rattle.st_board.proofs.Jobs.{behind-append, behind-stored}
use Rattle.st_board.proofs.Lists.{all-filter, all-passing, same-number}
use Rattle.st_board.proofs.Sending.{ops-led, ops-users}
use Rattle.st_board.proofs.Traces.{CourseGoesOn, goes-on-more, legal-more}

-- ---- the version that is due

module _ (given : Given) (opening : Opening) (store : Store) (board : Standing) (keeps : Keeps given opening store board) where
  abbrev durable : ℕ
  durable = board.state.durable

  abbrev newest : ℕ
  newest = board.state.newest

  abbrev bound : ℕ
  bound = newest - given.settings.window

  order : durable ≤ newest
  order = let a = keeps.versions.stands.order in let b = keeps.versions.forgotten_is in let c = keeps.versions.newest_is in omega arith

  abbrev rooted : List ℕ
  rooted = durable ∷ versions_of given.log durable newest

  -- it is that of the last root up to the bound, or the durable one
  pub version-kept : unwrap_or (option_map (λ kept. kept.version) (last_to bound board.window.roots)) durable ≡ commit_version given board.state
  version-kept =
      ap (λ o. unwrap_or o durable)
      (sym (last-mapped (λ (kept : Kept). kept.version) (filter (λ kept. nat_le kept.version bound) board.window.roots))
      ∙ ap last_of (sym (filter-mapped (λ (kept : Kept). kept.version) (λ v. nat_le v bound) board.window.roots) ∙ ap (filter (λ v. nat_le v bound)) keeps.roots))
      ∙ by_test (nat_le durable bound)
      ∙ greatest-is-last bound newest (omega arith) given.log 0 durable keeps.still.rises
    where
      later : List ℕ
      later = filter (λ v. nat_le v bound) (versions_of given.log durable newest)

      by_test : (t : Bool) → unwrap_or (last_of (cond t (durable ∷ later) later)) durable ≡ unwrap_or (last_of later) durable
      by_test false = refl
      by_test true = by_last (last_of later)
        where
          by_last : (o : Option ℕ) → unwrap_or (option_or o (Some durable)) durable ≡ unwrap_or o durable
          by_last None = refl
          by_last (Some v) = refl

  climbs : (low : ℕ) → low ≤ durable → Climbs low (versions_of given.log durable newest)
  climbs low le = climbs-between given.log 0 durable newest low keeps.still.rises (omega arith)

  rooted_up : (v : ℕ) → Among v (versions_of given.log durable newest) → v ≤ newest
  rooted_up v among = within-newest (batches_between given.log durable newest) (all-filter (λ b. b.version ≤ newest) (λ b. nat_lt durable b.version) (batches_to newest given.log) (up given.log)) among
    where
      up : (log : List Batch) → AllByRecursion (λ b. b.version ≤ newest) (batches_to newest log)
      up log = all-passing (λ b. b.version ≤ newest) (λ b. nat_le b.version newest) (λ b is. leb-true b.version newest is) log

      within-newest : (batches : List Batch) → AllByRecursion (λ b. b.version ≤ newest) batches → Among v (map (λ b. b.version) batches) → v ≤ newest
      within-newest [] all among = absurd among
      within-newest (b ∷ batches) all (inl is) = let le = all.0 in omega arith
      within-newest (b ∷ batches) all (inr more) = within-newest batches all.1 more

  -- it can be read, and is durable or that of a batch
  pub version-among : Among (commit_version given board.state) rooted
  version-among = greatest-among bound durable newest given.log 0 (omega arith) keeps.still.rises

  pub version-above : durable ≤ commit_version given board.state
  version-above = by_place version-among
    where
      by_place : Among (commit_version given board.state) rooted → durable ≤ commit_version given board.state
      by_place (inl is) = omega arith
      by_place (inr more) = let lt = among-above durable (versions_of given.log durable newest) (commit_version given board.state) (climbs durable (omega arith)) more in omega arith

  pub version-read : commit_version given board.state ≤ newest
  version-read = by_place version-among
    where
      by_place : Among (commit_version given board.state) rooted → commit_version given board.state ≤ newest
      by_place (inl is) = omega (arith, order)
      by_place (inr more) = rooted_up (commit_version given board.state) more

  -- ---- a commit begins

  -- nothing is taken away, and nothing waits
  still_available : (version : ℕ) → available_at given board.state version ≡ board.state.available
  still_available version =
      ap (λ pieces. fold with_span (fold without_span board.state.available (released_between durable version given.log)) (map span_of (filter (waits_to version) pieces))) keeps.pieces
      ∙ ap (fold without_span board.state.available) (none_released (filter (λ b. nat_lt durable b.version) (batches_to version given.log))
      (all-filter (λ b. b.moves ≡ []) (λ b. nat_lt durable b.version) (batches_to version given.log) (all-filter (λ b. b.moves ≡ []) (λ b. nat_le b.version version) given.log keeps.still.no_moves)))
    where
      none_released : (batches : List Batch) → AllByRecursion (λ b. b.moves ≡ []) batches → flat_map released_in batches ≡ []
      none_released [] none = refl
      none_released (b ∷ batches) none = ap (λ (moves : List Move). flat_map released moves ++ flat_map released_in batches) none.0 ∙ none_released batches none.1

  abbrev version : ℕ
  version = commit_version given board.state

  abbrev flight : Opening
  flight = record { version = version; available = board.state.available }

  abbrev pub Begun : State
  Begun = record board.state { flight = Some flight; pieces = by_phase rows_taken board.state.pieces }

  pub is_begun : Begun ≡ began given board.state version
  is_begun = ap (λ (available : List Span). record board.state { flight = Some (record { version = version; available = available }); pieces = by_phase rows_taken board.state.pieces }) (sym (still_available version))

  -- it has these parts
  pub begun-of : (v : ℕ) (available : List Span) (pieces : List Piece) → v ≡ version → available ≡ board.state.available → pieces ≡ by_phase rows_taken board.state.pieces
      → Begun ≡ record board.state { flight = Some (record { version = v; available = available }); pieces = pieces }
  begun-of v available pieces is_version is_available are = λ i. record board.state { flight = Some (record { version = sym is_version i; available = sym is_available i }); pieces = sym are i }

  began-step : commit_due given board.state ≡ true → step given board.state (Began version) ≡ Some Begun
  began-step due =
      (λ i. cond (due i && same-number version i) (Some (began given board.state version)) None)
      ∙ ap Some (sym is_begun)

  pub clears-kept : clears_after given opening store.fresh board.trace ≡ keeps.course.clears
  clears-kept = ap (λ o. option_map_or (λ (course : Course). course.clears) o []) keeps.is_course

  -- its job, and the course behind its beginning
  abbrev pub Job : CommitJob
  Job = job_of given keeps.course.clears keeps.course.sent Begun flight

  abbrev pub Flying : Course
  Flying = behind given keeps.course (Began version) Begun

  -- what it takes of what was sent is what the window keeps up to its version, and no rows
  pub job-ops : Job.ops ≡ map clear_of keeps.course.clears ++ flat_map (λ made. op_of made.1) (mutations_to version board.window) ++ sets_of (stored (meta_of given flight))
  job-ops =
      (λ i.
      map clear_of keeps.course.clears
      ++ flat_map (λ made. op_of made.1) (taken i)
      ++ flat_map (rows_of given.log) (by_phase rows_taken (keeps.pieces i))
      ++ sets_of (stored (meta_of given flight)))
      ∙ ap (λ (l : List Op). l ++ sets_of (stored (meta_of given flight))) (append-nil (map clear_of keeps.course.clears ++ flat_map (λ made. op_of made.1) (mutations_to version board.window)))
    where
      taken : filter (λ made. nat_lt durable made.0 && nat_le made.0 version) keeps.course.sent ≡ mutations_to version board.window
      taken =
          filter-both (λ (made : ℕ × Mutation). nat_lt durable made.0) (λ made. nat_le made.0 version) keeps.course.sent
          ∙ ap (filter (λ made. nat_le made.0 version)) (sym keeps.follows.sent)

  -- behind it the base is that of its version
  job-leads : (key : List ℕ) → IsUsers key → value_behind key (value_at board.base key) Job.ops ≡ value_of given.log version key
  job-leads key users =
      ap (value_behind key (value_at board.base key)) (job-ops ∙ ap (λ clears. map clear_of clears ++ ops ++ sets_of (stored (meta_of given flight))) keeps.follows.clears)
      ∙ behind-append key (value_at board.base key) ops (sets_of (stored (meta_of given flight)))
      ∙ behind-stored key (value_behind key (value_at board.base key) ops) (meta_of given flight) users
      ∙ ops-led key (value_at board.base key) (mutations_to version board.window)
      (all-filter (λ (made : ℕ × Mutation). IsWrite made.1) (λ made. nat_le made.0 version) board.window.mutations keeps.follows.writes)
      ∙ ap (λ before. led_to key before (mutations_to version board.window)) (keeps.versions.base_is key users)
      ∙ keeps.versions.leads version key version-above version-read users
    where
      ops : List Op
      ops = flat_map (λ made. op_of made.1) (mutations_to version board.window)

  -- it changes keys of users, and stores the state of its commit
  job-lands : LeadTo (meta_of given flight) Job.ops
  job-lands = record {
    changes = flat_map (λ made. op_of made.1) (mutations_to version board.window);
    whole = job-ops ∙ ap (λ clears. map clear_of clears ++ flat_map (λ made. op_of made.1) (mutations_to version board.window) ++ sets_of (stored (meta_of given flight))) keeps.follows.clears;
    users = ops-users (mutations_to version board.window)
        (all-filter (λ (made : ℕ × Mutation). IsWrite made.1) (λ made. nat_le made.0 version) board.window.mutations keeps.follows.writes);
  }

  module _ (goes_on : CourseGoesOn) (due : commit_due given board.state ≡ true) (trace : List Event) (more : trace ≡ board.trace ++ Began version ∷ []) where
    is_flying : course_of given opening store.fresh trace ≡ Some Flying
    is_flying =
        ap (course_of given opening store.fresh) more
        ∙ goes_on given opening store.fresh board.trace board.state Begun (Began version) keeps.course keeps.legal keeps.is_course (began-step due)

    pub keeps-began : Keeps given opening store (record { trace = trace; state = Begun; window = board.window; base = board.base })
    keeps-began = record {
      still = keeps.still;
      legal = ap (state_after given opening) more ∙ legal-more given opening board.trace (Began version) board.state Begun keeps.legal keeps.going_on (began-step due);
      going_on = ap (list_any is_end) more ∙ goes-on-more board.trace (Began version) keeps.going_on refl;
      oldest = keeps.oldest;
      pieces = ap (by_phase rows_taken) keeps.pieces;
      available = keeps.available;
      flight = λ f is.
          subst (IsFlight given Begun) (same_Some flight f is) (record { above = version-above; read = version-read; there = version-among; available = keeps.available });
      versions = keeps.versions;
      roots = keeps.roots;
      course = Flying;
      is_course = is_flying;
      follows = record {
        state = refl;
        clears = keeps.follows.clears;
        sent = keeps.follows.sent;
        writes = keeps.follows.writes;
        flown = refl;
        leads = λ job is key users.
            subst (λ (j : CommitJob). value_behind key (value_at board.base key) j.ops ≡ value_of given.log j.version key) (same_Some Job job is) (job-leads key users);
        lands = λ job is g in_flight.
            subst (λ (j : CommitJob). LeadTo (meta_of given g) j.ops) (same_Some Job job is)
            (subst (λ (o : Opening). LeadTo (meta_of given o) Job.ops) (same_Some flight g in_flight) job-lands);
        committed = keeps.follows.committed;
      };
    }

    pub clears-began : clears_after given opening store.fresh trace ≡ clears_after given opening store.fresh board.trace
    clears-began = ap (λ o. option_map_or (λ (course : Course). course.clears) o []) is_flying ∙ sym clears-kept

    -- the operations that are handed out are those of the job
    pub job-begun : (clears : List Span) (meta : Meta) (ops : List Op) → clears ≡ keeps.course.clears
        → meta.version ≡ version → meta.assigned ≡ all_keys ∷ [] → meta.available ≡ board.state.available
        → ops ≡ map clear_of clears ++ flat_map (λ made. op_of made.1) (mutations_to meta.version board.window) ++ sets_of (stored meta)
        → job_after given opening store.fresh trace ≡ Some (record { version = version; ops = ops })
    job-begun clears meta ops left is_version is_assigned is_available are =
        ap (option_and_then (λ (course : Course). course.job)) is_flying
        ∙ ap (λ (l : List Op). Some (record { version = version; ops = l })) (job-ops ∙ sym (are ∙ same))
      where
        is_meta : meta ≡ meta_of given flight
        is_meta = λ i. record { version = is_version i; assigned = (is_assigned ∙ sym (all-assigned given opening keeps.still version)) i; available = is_available i }

        same : map clear_of clears ++ flat_map (λ made. op_of made.1) (mutations_to meta.version board.window) ++ sets_of (stored meta)
            ≡ map clear_of keeps.course.clears ++ flat_map (λ made. op_of made.1) (mutations_to version board.window) ++ sets_of (stored (meta_of given flight))
        same = λ i. map clear_of (left i) ++ flat_map (λ made. op_of made.1) (mutations_to (is_version i) board.window) ++ sets_of (stored (is_meta i))

  -- what it will store is a state
  pub state-stored : (v : ℕ) (available : List Span) → v < 2 ^ 64 → available ≡ board.state.available → IsState (meta_of given (record { version = v; available = available }))
  state-stored v available small same = record {
    small = small;
    assigned = spells (assigned given.own given.log v) (all-assigned given opening keeps.still v);
    available = spells available (same ∙ keeps.available);
    inside = λ i. list_all (lies_in (all-assigned given opening keeps.still v i)) ((same ∙ keeps.available) i);
  }
    where
      spells : (spans : List Span) → spans ≡ all_keys ∷ [] → SpellsRanges (ranges_bytes spans) spans
      spells spans is = subst (λ s. SpellsRanges (ranges_bytes s) s) (sym is) (record { spelled = refl; canonical = refl; ranges = refl; fits = omega arith })

  -- ---- a commit is durable

  -- behind the job in flight the base is that of the job's version
  pub flight-leads : (job : CommitJob) → job_after given opening store.fresh board.trace ≡ Some job → (key : List ℕ) → IsUsers key
      → value_behind key (value_at board.base key) job.ops ≡ value_of given.log job.version key
  flight-leads job is = keeps.follows.leads job (sym (ap (option_and_then (λ (course : Course). course.job)) keeps.is_course) ∙ is)

  -- a job that is in flight has its commit
  pub flight-there : (job : CommitJob) → job_after given opening store.fresh board.trace ≡ Some job → board.state.flight ≡ None → ⊥
  flight-there job is none =
      cc (sym (ap (option_map (λ (j : CommitJob). j.version)) (sym (ap (option_and_then (λ (course : Course). course.job)) keeps.is_course) ∙ is))
      ∙ keeps.follows.flown
      ∙ ap (option_map (λ (g : Opening). g.version)) none)

  module _ (f : Opening) (in_flight : board.state.flight ≡ Some f) (job : CommitJob) (in_course : job_after given opening store.fresh board.trace ≡ Some job) where
    abbrev pub Ended : State
    Ended = ended board.state f

    was_flight : IsFlight given board.state f
    was_flight = keeps.flight f in_flight

    has_job : keeps.course.job ≡ Some job
    has_job = sym (ap (option_and_then (λ (course : Course). course.job)) keeps.is_course) ∙ in_course

    pub job-flown : f.version ≡ job.version
    job-flown =
        same_Some f.version job.version
        (ap (option_map (λ (g : Opening). g.version)) (sym in_flight) ∙ sym keeps.follows.flown ∙ ap (option_map (λ (j : CommitJob). j.version)) has_job)

    pub ended-step : end_commit board.state f.version board.state.flight ≡ Some Ended
    ended-step =
        ap (end_commit board.state f.version) in_flight
        ∙ ap (λ (t : Bool). cond t (Some Ended) None) (same-number f.version)

    -- the roots that are left are those from the version on
    roots-left : (roots : List Kept) → map (λ kept. kept.version) roots ≡ rooted
        → map (λ kept. kept.version) (filter (λ kept. nat_le (kept_from f.version roots) kept.version) roots) ≡ f.version ∷ versions_of given.log f.version newest
    roots-left roots are =
        sym (filter-mapped (λ (kept : Kept). kept.version) (nat_le (kept_from f.version roots)) roots)
        ∙ (λ i. filter (nat_le (is_from i)) (are i))
        ∙ from-among durable (versions_of given.log durable newest) f.version (climbs durable (omega arith)) was_flight.there
        ∙ ap (λ t. f.version ∷ cond t (durable ∷ above) above) (lt-leb (suc f.version) durable (let low = was_flight.above in omega arith))
        ∙ ap (λ l. f.version ∷ l) (filter-mapped (λ (b : Batch). b.version) (nat_lt f.version) (batches_between given.log durable newest) ∙ ap (map (λ b. b.version)) (between-above given.log durable f.version newest was_flight.above))
      where
        above : List ℕ
        above = filter (nat_lt f.version) (versions_of given.log durable newest)

        is_last : option_map (λ kept. kept.version) (last_to f.version roots) ≡ Some f.version
        is_last =
            sym (last-mapped (λ (kept : Kept). kept.version) (filter (λ kept. nat_le kept.version f.version) roots))
            ∙ ap last_of (sym (filter-mapped (λ (kept : Kept). kept.version) (λ v. nat_le v f.version) roots) ∙ ap (filter (λ v. nat_le v f.version)) are)
            ∙ last-among durable (versions_of given.log durable newest) f.version (climbs durable (omega arith)) was_flight.there

        is_from : kept_from f.version roots ≡ f.version
        is_from = by_last (last_to f.version roots) is_last
          where
            by_last : (o : Option Kept) → option_map (λ kept. kept.version) o ≡ Some f.version → option_map_or (λ kept. kept.version) o 0 ≡ f.version
            by_last None is = absurd (cc (is))
            by_last (Some kept) is = same_Some kept.version f.version is

    -- nothing is left to be cleared
    pub clears-committed : CourseGoesOn → clears_after given opening store.fresh (board.trace ++ Durable f.version ∷ []) ≡ []
    clears-committed goes_on =
        ap (λ o. option_map_or (λ (course : Course). course.clears) o [])
        (goes_on given opening store.fresh board.trace board.state Ended (Durable f.version) keeps.course keeps.legal keeps.is_course ended-step)

    pub keeps-committed : CourseGoesOn → (next : Map)
        → ((key : List ℕ) → IsUsers key → value_at next key ≡ value_behind key (value_at board.base key) job.ops)
        → (trace : List Event) → trace ≡ board.trace ++ Durable f.version ∷ [] → Stands (forgot f.version board.window)
        → Keeps given opening store (record { trace = trace; state = Ended; window = forgot f.version board.window; base = next })
    keeps-committed goes_on next based trace more stands = record {
      still = keeps.still;
      legal = ap (state_after given opening) more ∙ legal-more given opening board.trace (Durable f.version) board.state Ended keeps.legal keeps.going_on ended-step;
      going_on = ap (list_any is_end) more ∙ goes-on-more board.trace (Durable f.version) keeps.going_on refl;
      oldest = refl;
      pieces = ap (by_phase (rows_in_base f.version)) keeps.pieces;
      available = was_flight.available;
      flight = λ g is. absurd (cc (is));
      versions =
          kept-committed given.log durable newest board.window board.base keeps.versions f.version was_flight.above was_flight.read next
          (λ key users. based key users ∙ flight-leads job in_course key users ∙ ap (λ v. value_of given.log v key) (sym job-flown)) stands;
      roots =
          ap (λ m. map (λ kept. kept.version) (filter (λ kept. nat_le (kept_from m board.window.roots) kept.version) board.window.roots)) is_version
          ∙ roots-left board.window.roots keeps.roots;
      course = behind given keeps.course (Durable f.version) Ended;
      is_course =
          ap (course_of given opening store.fresh) more
          ∙ goes_on given opening store.fresh board.trace board.state Ended (Durable f.version) keeps.course keeps.legal keeps.is_course ended-step;
      follows = record {
        state = refl;
        clears = refl;
        sent =
            ap (λ m. filter (λ made. nat_lt m made.0) board.window.mutations) is_version
            ∙ ap (filter (λ made. nat_lt f.version made.0)) keeps.follows.sent
            ∙ filter-through (λ (made : ℕ × Mutation). nat_lt f.version made.0) (λ made. nat_lt durable made.0) passes keeps.course.sent;
        writes = all-filter (λ (made : ℕ × Mutation). IsWrite made.1) (λ made. nat_lt (max board.window.forgotten f.version) made.0) board.window.mutations keeps.follows.writes;
        flown = refl;
        leads = λ other is. absurd (cc (is));
        lands = λ other is. absurd (cc (is));
        committed = λ key users.
            based key users
            ∙ ap (λ v. value_behind key v job.ops) (keeps.follows.committed key users)
            ∙ sym (behind-append key (value_at store.pairs key) keeps.course.made job.ops)
            ∙ ap (λ (o : Option CommitJob). value_behind key (value_at store.pairs key) (keeps.course.made ++ option_map_or (λ (j : CommitJob). j.ops) o [])) (sym has_job);
      };
    }
      where
        is_version : max board.window.forgotten f.version ≡ f.version
        is_version = let e = keeps.versions.forgotten_is in let low = was_flight.above in omega arith

        passes : (made : ℕ × Mutation) → nat_lt f.version made.0 ≡ true → nat_lt durable made.0 ≡ true
        passes made is =
            le-leb (suc durable) made.0 (let above = leb-true (suc f.version) made.0 is in let low = was_flight.above in omega arith)
