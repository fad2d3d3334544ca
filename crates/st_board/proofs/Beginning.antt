-- A board that opens.
use Rattle.std.proofs.Common.{◌≡◌, ◌∙◌, ℕ, Bool, true, false, cond, nat_le, List, [], ◌∷◌, fold, map, Some, None, refl, sym, ap, subst}
use Rattle.std.specs.List.{AllByRecursion, list_any}
use Rattle.st_fold.specs.Map.{Map, batches_to}
use Rattle.st_fold.specs.declared.report.Event.{Event}
use Rattle.st_fold.specs.declared.report.Event.TheVariants.{Opened}
use Rattle.st_key.specs.Spans.{Span, all_keys}
use Rattle.st_model.specs.Pieces.{first_pieces}
use Rattle.st_model.specs.State.{Given, Opening, assigned, first_state, move_span}
use Rattle.st_model.specs.Trace.{is_end, state_after}
use Rattle.st_model.specs.declared.piece.Piece.{Piece}
use Rattle.st_mutation.specs.declared.batch.Batch.{Batch}
use Rattle.st_mutation.specs.declared.batch.Move.{Move}
use Rattle.st_mutation.specs.declared.batch.Mutation.{Mutation}
use Rattle.st_versioned.specs.Root.{value_at}
use Rattle.st_versioned.specs.Window.{Stands, Versions}
use Rattle.st_course.specs.Course.{course_of, first_course}
use Rattle.st_course.specs.Jobs.{clears_of}
use Rattle.st_board.specs.Base.{IsWrite, Store}
use Rattle.st_board.specs.Kept.{IsUsers, KeepsVersions}
use Rattle.st_board.specs.Stands.{IsStill, Keeps, all_served}
use Rattle.st_course.specs.Sent.{value_of}
use Rattle.st_board.proofs.Between.{between-none}
use Rattle.st_board.proofs.Forgetting.{first_window, kept-first}
use Rattle.st_board.proofs.Lists.{all-filter, same-number}

-- a log that moves nothing leaves what is assigned
still-assigned : (spans : List Span) (batches : List Batch) → AllByRecursion (λ batch. batch.moves ≡ []) batches → fold (λ s batch. fold move_span s batch.moves) spans batches ≡ spans
still-assigned spans [] none = refl
still-assigned spans (batch ∷ batches) none =
    ap (λ (moves : List Move). fold (λ s b. fold move_span s b.moves) (fold move_span spans moves) batches) none.0
    ∙ still-assigned spans batches none.1

module _ (given : Given) (opening : Opening) (still : IsStill given opening) where
  pub all-assigned : (version : ℕ) → assigned given.own given.log version ≡ all_keys ∷ []
  all-assigned version =
      still-assigned given.own (batches_to version given.log) (all-filter (λ batch. batch.moves ≡ []) (λ batch. nat_le batch.version version) given.log still.no_moves)
      ∙ still.own

  -- all keys are in one piece that is served
  pub one-piece : first_pieces opening.version opening.available (assigned given.own given.log opening.version) ≡ all_served
  one-piece = λ i. first_pieces opening.version (still.available i) (all-assigned opening.version i)

  pub keeps-first : (store : Store) (base : Map) (pieces : List Piece) (trace : List Event) (window : Versions) → trace ≡ Opened opening.version ∷ []
      → pieces ≡ first_pieces opening.version opening.available (assigned given.own given.log opening.version) → window ≡ first_window opening.version → Stands window
      → ((key : List ℕ) → IsUsers key → value_at base key ≡ value_of given.log opening.version key) → store.pairs ≡ base
      → Keeps given opening store (record {
        trace = trace;
        state = record { newest = opening.version; oldest = opening.version; durable = opening.version; available = opening.available; flight = None; pieces = pieces; watches = [] };
        window = window;
        base = base;
      })
  keeps-first store base pieces trace window traced parted made stands based stored = record {
    still = still;
    legal =
        ap (state_after given opening) traced
        ∙ ap (λ (t : Bool). cond t (Some (first_state given opening)) None) (same-number opening.version)
        ∙ ap (λ (p : List Piece). Some (record (first_state given opening) { pieces = p })) (sym parted);
    going_on = ap (list_any is_end) traced;
    oldest = refl;
    pieces = parted ∙ one-piece;
    available = still.available;
    flight = λ flight in_flight. absurd (cc (in_flight));
    versions =
        subst (λ w. KeepsVersions given.log opening.version opening.version w base) (sym made)
        (kept-first given.log opening.version base based (subst Stands made stands));
    roots =
        ap (λ (w : Versions). map (λ kept. kept.version) w.roots) made
        ∙ ap (λ batches. opening.version ∷ map (λ batch. batch.version) batches) (sym (between-none given.log opening.version));
    course = first_course given opening store.fresh;
    is_course = ap (course_of given opening store.fresh) traced;
    follows = record {
      state = ap (λ (p : List Piece). record (first_state given opening) { pieces = p }) (sym parted);
      clears = ap (clears_of store.fresh) still.available ∙ by_fresh store.fresh;
      sent = ap (λ (w : Versions). w.mutations) made;
      writes = subst (λ (w : Versions). AllByRecursion (λ (sent : ℕ × Mutation). IsWrite sent.1) w.mutations) (sym made) tt;
      flown = refl;
      leads = λ job is. absurd (cc (is));
      lands = λ job is. absurd (cc (is));
      committed = λ key users. ap (λ (m : Map). value_at m key) (sym stored);
    };
  }
    where
      -- of all keys nothing is to be cleared
      by_fresh : (t : Bool) → clears_of t (all_keys ∷ []) ≡ []
      by_fresh true = refl
      by_fresh false = refl
