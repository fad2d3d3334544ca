-- The keys that moves drop, and the moves that drop them.
use Rattle.std.proofs.Common.{◌≡◌, ℕ, ◌-◌, Bool, true, false, ◌&&◌, ◌||◌, ◌==◌, List, [], ◌∷◌, ◌++◌, fold, Option, Some, None, is_none, ⊎_elim, if◌then◌else◌, refl, sym, ap, ap₂, ◌∙◌}
use Rattle.std.proofs.lemmas.Bool.{or_cases, or_left, or_right, and_parts, and_from, eq-eqb}
use Rattle.std.proofs.lemmas.List.Folds.{list_any-append}
use Rattle.std.specs.List.{cons_option, filter_map, list_any}
use Rattle.std.specs.Option.{option_map, option_map_or}
use Rattle.st_key.specs.Spans.{Span, within, holds}
use Rattle.st_fold.specs.Assigned.{assigned_by}
use Rattle.st_mutation.specs.Clip.{clipped, common, value_by_part}
use Rattle.st_mutation.specs.Effect.{value_by}
use Rattle.st_mutation.specs.declared.batch.Batch.{Batch}
use Rattle.st_mutation.specs.declared.batch.Move.{Move}
use Rattle.st_mutation.specs.declared.batch.Move.TheVariants.{Assign, Release}
use Rattle.st_mutation.specs.declared.batch.Mutation.{Mutation}
use Rattle.st_mutation.specs.declared.batch.Mutation.TheVariants.{Clear}
use Rattle.st_model.specs.Facts.{HasDrop, drops, dropped, is_assigned, is_dropped}
use Rattle.st_model.specs.State.{Given, move_span}
use Rattle.st_model.proofs.Bits.{holds-append, holds-assigned, holds-released}

-- ---- the moves that drop a key

drops_at : (key : List ℕ) (held : Bool) (before after : List Move) (span : Span) → fold (assigned_by key) held before ≡ true → within span key ≡ true
    → drops key held (before ++ Release span ∷ after) ≡ true
drops_at key held [] after span is_held inside =
    or_left (held && within span key) (drops key (assigned_by key held (Release span)) after) (and_from held (within span key) is_held inside)
drops_at key held (Assign r ∷ before) after span is_held inside = drops_at key (assigned_by key held (Assign r)) before after span is_held inside
drops_at key held (Release r ∷ before) after span is_held inside =
    or_right (held && within r key) (drops key (assigned_by key held (Release r)) (before ++ Release span ∷ after))
    (drops_at key (assigned_by key held (Release r)) before after span is_held inside)

pub has_drop : (key : List ℕ) (held : Bool) (moves : List Move) → HasDrop key held moves → drops key held moves ≡ true
has_drop key held moves h = ap (drops key held) h.whole ∙ drops_at key held h.before h.after h.span h.is_held h.inside

-- a move in front of others that drop the key
drop_behind : (key : List ℕ) (held : Bool) (move : Move) (moves : List Move) → HasDrop key (assigned_by key held move) moves → HasDrop key held (move ∷ moves)
drop_behind key held move moves h = record {
  before = move ∷ h.before;
  span = h.span;
  after = h.after;
  whole = ap (λ later. move ∷ later) h.whole;
  is_held = h.is_held;
  inside = h.inside;
}

pub drop_of : (key : List ℕ) (held : Bool) (moves : List Move) → drops key held moves ≡ true → HasDrop key held moves
drop_of key held [] e = cc
drop_of key held (Assign r ∷ moves) e = drop_behind key held (Assign r) moves (drop_of key (assigned_by key held (Assign r)) moves e)
drop_of key held (Release r ∷ moves) e =
    ⊎_elim
    (λ here. let both = and_parts held (within r key) here in
    record { before = []; span = r; after = moves; whole = refl; is_held = both.0; inside = both.1 })
    (λ later. drop_behind key held (Release r) moves (drop_of key (assigned_by key held (Release r)) moves later))
    (or_cases (held && within r key) (drops key (assigned_by key held (Release r)) moves) e)

-- a batch of the log whose moves drop the key
pub dropped_by : (given : Given) (early later : List Batch) (batch : Batch) (key : List ℕ) → given.log ≡ early ++ batch ∷ later
    → drops key (is_assigned given (batch.version - 1) key) batch.moves ≡ true → is_dropped given batch.version key ≡ true
dropped_by given early later batch key log does =
    ap (list_any drops_it) log ∙ list_any-append drops_it early (batch ∷ later)
    ∙ or_right (list_any drops_it early) (list_any drops_it (batch ∷ later))
    (or_left (drops_it batch) (list_any drops_it later)
    (and_from (batch.version == batch.version) (drops key (is_assigned given (batch.version - 1) key) batch.moves)
    (eq-eqb batch.version batch.version refl) does))
  where
    drops_it : Batch → Bool
    drops_it other = other.version == batch.version && drops key (is_assigned given (batch.version - 1) key) other.moves

-- ---- the spans that moves drop

-- from what the part of a mutation inside a span does to a key
module _ (inside_part : (mutation : Mutation) (to : Span) (key : List ℕ) (before : Option (List ℕ)) → within to key ≡ true
    → value_by_part key before (clipped mutation to) ≡ value_by key before mutation)
    (outside_part : (mutation : Mutation) (to : Span) (key : List ℕ) (before : Option (List ℕ)) → within to key ≡ false
    → value_by_part key before (clipped mutation to) ≡ before) where
  -- a key is in what two spans have in common exactly where it is in both
  within_common : (span to : Span) (key : List ℕ) → option_map_or (λ s. within s key) (common span to) false ≡ (within to key && within span key)
  within_common span to key =
      told (common span to)
      ∙ elim (within to key) as (λ v. within to key ≡ v
      → is_none (value_by_part key (Some []) (option_map Clear (common span to))) ≡ (v && within span key)) [
        | true ↦ λ inside. ap is_none (inside_part (Clear span) to key (Some []) inside) ∙ sym (by_test (within span key))
        | false ↦ λ outside. ap is_none (outside_part (Clear span) to key (Some []) outside)
      ]
      refl
    where
      -- what is left of the empty value
      clear_where : Bool → Option (List ℕ)
      clear_where test = if test then None else Some []

      by_test : (test : Bool) → test ≡ is_none (clear_where test)
      by_test true = refl
      by_test false = refl

      -- by what a clear of it leaves
      told : (part : Option Span) → option_map_or (λ s. within s key) part false ≡ is_none (value_by_part key (Some []) (option_map Clear part))
      told None = refl
      told (Some s) = by_test (within s key)

  holds_common : (span : Span) (spans : List Span) (key : List ℕ) → holds (filter_map (common span) spans) key ≡ (holds spans key && within span key)
  holds_common span [] key = refl
  holds_common span (to ∷ spans) key =
      put_in (common span to) (filter_map (common span) spans)
      ∙ ap₂ (λ x y. x || y) (within_common span to key) (holds_common span spans key)
      ∙ either (within to key) (holds spans key) (within span key)
    where
      put_in : (part : Option Span) (parts : List Span) → holds (cons_option part parts) key ≡ (option_map_or (λ s. within s key) part false || holds parts key)
      put_in None parts = refl
      put_in (Some s) parts = refl

      either : (x y z : Bool) → ((x && z) || (y && z)) ≡ ((x || y) && z)
      either true true true = refl
      either true true false = refl
      either true false true = refl
      either true false false = refl
      either false y z = refl

  pub dropped_keys : (spans : List Span) (moves : List Move) (key : List ℕ) → holds (dropped spans moves) key ≡ drops key (holds spans key) moves
  dropped_keys spans [] key = refl
  dropped_keys spans (Assign span ∷ moves) key =
      dropped_keys (move_span spans (Assign span)) moves key ∙ ap (λ held. drops key held moves) (holds-assigned spans span key)
  dropped_keys spans (Release span ∷ moves) key =
      holds-append (filter_map (common span) spans) (dropped (move_span spans (Release span)) moves) key
      ∙ ap₂ (λ x y. x || y) (holds_common span spans key)
      (dropped_keys (move_span spans (Release span)) moves key ∙ ap (λ held. drops key held moves) (holds-released spans span key))
