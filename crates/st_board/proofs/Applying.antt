-- A batch more on a board.
use Rattle.std.proofs.Common.{◌≡◌, ◌∙◌, ◌≤◌, ◌<◌, ◌++◌, ℕ, Bool, true, false, cond, nat_lt, nat_le, leb-false, le-leb, suc, List, [], ◌∷◌, filter, map, fold, Option, Some, None, refl, sym, ap, subst, arith}
use Rattle.std.specs.List.{AllByRecursion, find, list_any}
use Rattle.st_model.specs.Trace.{is_end, state_after}
use Rattle.std.specs.Option.{option_map_or}
use Rattle.std.proofs.lemmas.List.{map-append}
use Rattle.std.proofs.lemmas.List.Elements.{filter-append}
use Rattle.std.proofs.lemmas.Option.{same_Some}
use Rattle.st_fold.specs.Map.{batches_to}
use Rattle.st_fold.specs.Plain.{Rises}
use Rattle.st_fold.specs.declared.report.Event.{Event}
use Rattle.st_fold.specs.declared.report.Event.TheVariants.{Applied}
use Rattle.st_key.specs.Spans.{Span, all_keys, within}
use Rattle.st_model.specs.Pieces.{inject, move_piece}
use Rattle.st_model.specs.State.{Given, Opening, State, after_batch, apply_next, next_batch, step}
use Rattle.st_model.specs.declared.piece.Piece.{Piece}
use Rattle.st_mutation.specs.Clip.{clipped, value_by_part}
use Rattle.st_mutation.specs.Effect.{value_by}
use Rattle.st_mutation.specs.declared.batch.Batch.{Batch}
use Rattle.st_mutation.specs.declared.batch.Move.{Move}
use Rattle.st_mutation.specs.declared.batch.Mutation.{Mutation}
use Rattle.st_versioned.specs.Window.{Stands, Versions, begun, sealed}
use Rattle.st_course.specs.Course.{Course, behind, clears_after, course_of}
use Rattle.st_course.specs.Sent.{batches_between, sent_by, sent_of, value_of}
use Rattle.st_board.specs.Base.{Among, IsWrite, Store}
use Rattle.st_board.specs.Kept.{KeepsVersions}
use Rattle.st_board.specs.Logs.{HasShortKey}
use Rattle.st_board.specs.Stands.{Keeps, Standing, all_served}
use Rattle.st_board.specs.Storing.{all_stored}
use Rattle.st_board.proofs.Between.{among-more, between-next, versions_of}
use Rattle.st_board.proofs.Deciding.{WritesDecide}
use Rattle.st_board.proofs.Lists.{all-append, all-filter, same-number}
use Rattle.st_board.proofs.Logs.{IsNext, is-next, next_above, none_to}
use Rattle.st_board.proofs.Sealing.{adds, kept-applied, making-first, sealed-is, sealed-mutations}
use Rattle.st_board.proofs.Sending.{passes-dated, sent-all, sent-batch, users, writes-dated, writes-sent}
use Rattle.st_board.proofs.Traces.{CourseGoesOn, goes-on-more, legal-more}

-- what is found in a list is one of it
all-found : {X : Type 0} → (P : X → Type 0) (p : X → Bool) (xs : List X) (x : X) → AllByRecursion P xs → find p xs ≡ Some x → P x
all-found P p [] x all is = absurd (cc (is))
all-found P p (y ∷ xs) x all is = by_test (p y) is (all-found P p xs x all.1)
  where
    by_test : (t : Bool) → cond t (Some y) (find p xs) ≡ Some x → (find p xs ≡ Some x → P x) → P x
    by_test true here later = subst P (same_Some y x here) all.0
    by_test false here later = later here

-- the batch that a life applies next is the log's next one
next-of-log : (log : List Batch) (from upto newest : ℕ) (batch : Batch) → Rises from log → next_above (batches_to upto log) newest ≡ Some batch → next_above log newest ≡ Some batch
next-of-log [] from upto newest batch rises is = is
next-of-log (first ∷ log) from upto newest batch rises is = by_test (nat_le first.version upto) refl (next-of-log log first.version upto newest batch rises.1)
  where
    by_test : (t : Bool) → nat_le first.version upto ≡ t → (next_above (batches_to upto log) newest ≡ Some batch → next_above log newest ≡ Some batch) → next_above (first ∷ log) newest ≡ Some batch
    by_test false past later =
        let gt : upto < first.version = leb-false first.version upto past in
        absurd (cc (sym (ap (λ (t : Bool). next_above (cond t (first ∷ batches_to upto log) (batches_to upto log)) newest) past ∙ ap (λ l. next_above l newest) (none_to log first.version upto rises.1 (omega arith))) ∙ is))
    by_test true low later = by_next (nat_lt newest first.version) (sym (ap (λ (t : Bool). next_above (cond t (first ∷ batches_to upto log) (batches_to upto log)) newest) low) ∙ is)
      where
        by_next : (t : Bool) → cond t (Some first) (next_above (batches_to upto log) newest) ≡ Some batch → cond t (Some first) (next_above log newest) ≡ Some batch
        by_next true here = here
        by_next false here = later here

module _ (given : Given) (opening : Opening) (store : Store) (board : Standing) (keeps : Keeps given opening store board) (batch : Batch) (is : next_batch given board.state ≡ Some batch) where
  pub next-is : IsNext given.log board.state.newest batch
  next-is = is-next given.log 0 board.state.newest batch keeps.still.rises (next-of-log given.log 0 given.upto board.state.newest batch keeps.still.rises is)

  -- a batch of such a log moves nothing
  no_moves : batch.moves ≡ []
  no_moves = all-found (λ b. b.moves ≡ []) (λ b. nat_lt board.state.newest b.version) (batches_to given.upto given.log) batch (all-filter (λ b. b.moves ≡ []) (λ b. nat_le b.version given.upto) given.log keeps.still.no_moves) is

  pub short-keys : AllByRecursion HasShortKey batch.mutations
  short-keys = all-found (λ b. AllByRecursion HasShortKey b.mutations) (λ b. nat_lt board.state.newest b.version) (batches_to given.upto given.log) batch (all-filter (λ b. AllByRecursion HasShortKey b.mutations) (λ b. nat_le b.version given.upto) given.log keeps.still.short) is

  same_pieces : map (inject batch.version) (fold (move_piece batch.version) board.state.pieces batch.moves) ≡ board.state.pieces
  same_pieces =
      ap (λ (moves : List Move). map (inject batch.version) (fold (move_piece batch.version) board.state.pieces moves)) no_moves
      ∙ ap (map (inject batch.version)) keeps.pieces
      ∙ sym keeps.pieces

  abbrev Next : State
  Next = record board.state { newest = batch.version }

  pub is_after : after_batch board.state batch ≡ Next
  is_after = ap (λ (pieces : List Piece). record board.state { newest = batch.version; pieces = pieces }) same_pieces

  stepped : step given board.state (Applied batch.version) ≡ Some Next
  stepped =
      ap (apply_next board.state batch.version) is
      ∙ ap (λ (t : Bool). cond t (Some (after_batch board.state batch)) None) (same-number batch.version)
      ∙ ap Some is_after

  -- it clears no more and no less
  pub clears-applied : CourseGoesOn → clears_after given opening store.fresh (board.trace ++ Applied batch.version ∷ []) ≡ clears_after given opening store.fresh board.trace
  clears-applied goes_on =
      ap (λ o. option_map_or (λ (course : Course). course.clears) o [])
      (goes_on given opening store.fresh board.trace board.state Next (Applied batch.version) keeps.course keeps.legal keeps.is_course stepped)
      ∙ ap (λ o. option_map_or (λ (course : Course). course.clears) o []) (sym keeps.is_course)

  pub keeps-applied : CourseGoesOn → WritesDecide
      → ((mutation : Mutation) (to : Span) (key : List ℕ) (before : Option (List ℕ)) → within to key ≡ true → value_by_part key before (clipped mutation to) ≡ value_by key before mutation)
      → (window : Versions) → window ≡ sealed (all_stored board.base board.state.pieces (begun batch.version board.window) batch.mutations) → Stands window
      → (trace : List Event) → trace ≡ board.trace ++ Applied batch.version ∷ []
      → Keeps given opening store (record { trace = trace; state = Next; window = window; base = board.base })
  keeps-applied goes_on writing clip_inside window made stands trace more = record {
    still = keeps.still;
    legal = ap (state_after given opening) more ∙ legal-more given opening board.trace (Applied batch.version) board.state Next keeps.legal keeps.going_on stepped;
    going_on = ap (list_any is_end) more ∙ goes-on-more board.trace (Applied batch.version) keeps.going_on refl;
    oldest = keeps.oldest;
    pieces = keeps.pieces;
    available = keeps.available;
    flight = λ flight in_flight.
        let was = keeps.flight flight in_flight in
        record {
          above = was.above;
          read = let low = was.read in let lt = next-is.above in omega arith;
          there = subst (Among flight.version) (ap (λ l. durable ∷ l) (sym versions_next)) (among-more flight.version (durable ∷ versions_of given.log durable newest) (batch.version ∷ []) was.there);
          available = was.available;
        };
    versions =
        subst (λ w. KeepsVersions given.log durable batch.version w board.base) (sym one)
        (kept-applied given.log durable newest board.window board.base keeps.versions batch next-is writing clip_inside (subst Stands one stands));
    roots =
        ap (λ (w : Versions). map (λ kept. kept.version) w.roots) (one ∙ sealed-is batch.version board.window After (adds given.log durable newest board.window board.base keeps.versions batch next-is writing clip_inside))
        ∙ map-append (λ kept. kept.version) board.window.roots _
        ∙ ap (λ l. l ++ batch.version ∷ []) keeps.roots
        ∙ ap (λ l. durable ∷ l) (sym versions_next);
    course = Then;
    is_course = ap (course_of given opening store.fresh) more ∙ goes_on given opening store.fresh board.trace board.state Next (Applied batch.version) keeps.course keeps.legal keeps.is_course stepped;
    follows = record {
      state = refl;
      clears = keeps.follows.clears;
      sent = made_of ∙ (λ i. keeps.follows.sent i ++ passes i) ∙ sym (filter-append (λ made. nat_lt durable made.0) keeps.course.sent dated) ∙ ap (filter (λ made. nat_lt durable made.0)) (sym sent_more);
      writes =
          subst (AllByRecursion (λ (made : ℕ × Mutation). IsWrite made.1)) (sym made_of)
          (all-append (λ (made : ℕ × Mutation). IsWrite made.1) board.window.mutations dated keeps.follows.writes (writes-dated batch.version own (writes-sent (value_of given.log newest) batch.mutations)));
      flown = keeps.follows.flown;
      leads = keeps.follows.leads;
      lands = keeps.follows.lands;
      committed = keeps.follows.committed;
    };
  }
    where
      durable : ℕ
      durable = board.state.durable

      newest : ℕ
      newest = board.state.newest

      After : Versions
      After = all_stored board.base all_served (begun batch.version board.window) batch.mutations

      one : window ≡ sealed After
      one = made ∙ ap (λ pieces. sealed (all_stored board.base pieces (begun batch.version board.window) batch.mutations)) keeps.pieces

      order : board.state.durable ≤ board.state.newest
      order = let a = keeps.versions.stands.order in let b = keeps.versions.forgotten_is in let c = keeps.versions.newest_is in omega arith

      versions_next : versions_of given.log durable batch.version ≡ versions_of given.log durable newest ++ batch.version ∷ []
      versions_next =
          ap (map (λ b. b.version)) (between-next given.log durable newest batch next-is order)
          ∙ map-append (λ b. b.version) (batches_between given.log durable newest) (batch ∷ [])

      -- what is sent of the batch
      own : List Mutation
      own = sent_of users (value_of given.log newest) batch.mutations

      dated : List (ℕ × Mutation)
      dated = map (λ m. (batch.version, m)) own

      Then : Course
      Then = behind given keeps.course (Applied batch.version) Next

      sent_more : Then.sent ≡ keeps.course.sent ++ dated
      sent_more =
          (λ i. keeps.course.sent ++ option_map_or (λ b. map (λ m. (batch.version, m)) (sent_by given (keeps.follows.state i) b)) (next_batch given (keeps.follows.state i)) [])
          ∙ ap (λ (o : Option Batch). keeps.course.sent ++ option_map_or (λ b. map (λ m. (batch.version, m)) (sent_by given board.state b)) o []) is
          ∙ ap (λ l. keeps.course.sent ++ map (λ m. (batch.version, m)) l) (sent-batch given board.state batch keeps.pieces no_moves next-is)

      passes : dated ≡ filter (λ made. nat_lt durable made.0) dated
      passes = sym (passes-dated (nat_lt durable) batch.version (le-leb (suc durable) batch.version (let lt = next-is.above in omega (arith, order))) own)

      made_of : window.mutations ≡ board.window.mutations ++ dated
      made_of =
          ap (λ (w : Versions). w.mutations) one
          ∙ sealed-mutations After
          ∙ sent-all given.log board.base durable newest batch.version next-is.above keeps.versions.base_is writing (λ mutation key now is_users. clip_inside mutation all_keys key now is_users)
          (begun batch.version board.window) (value_of given.log newest) batch.mutations
          (making-first given.log durable newest board.window board.base keeps.versions batch next-is writing clip_inside)
