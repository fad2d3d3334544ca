-- What versions write decides the keys, as the crate of versions says.
use Rattle.std.proofs.Common.{◌≡◌, ℕ, Bool, true, false, cond, List, [], ◌∷◌, filter, Option, Some, None, IfSome, refl}
use Rattle.std.specs.Option.{option_map}
use Rattle.st_atomic.specs.Atomic.{changed}
use Rattle.st_course.specs.Sent.{compares, result_as, stored_as}
use Rattle.st_key.specs.KeyOrder.{less_after}
use Rattle.st_key.specs.Parts.{greatest, least}
use Rattle.st_key.specs.Spans.{Span, key_less, within}
use Rattle.st_mutation.specs.Clip.{clipped, not_empty}
use Rattle.st_mutation.specs.declared.batch.Mutation.{Mutation}
use Rattle.st_mutation.specs.declared.batch.Mutation.TheVariants.{Set, Clear, Atomic}
use Rattle.st_versioned.specs.Apart.{AreApart, HasKey, IsBelow}
use Rattle.st_versioned.specs.Root.{Row, behind, decided, decision_above}
use Rattle.st_versioned.specs.Writing.{made_above, written}
use Rattle.st_versioned.specs.declared.change.Change.{Change}
use Rattle.st_board.proofs.Lists.{all-filter}

pub record WritesDecide : Type 0 where
  pub decides : (version : ℕ) (change : Change) (rows : List Row) (key : List ℕ) → AreApart rows → HasKey change
      → decided (written version change rows) key ≡ behind (decided rows key) version change key
  pub apart : (version : ℕ) (change : Change) (rows : List Row) → AreApart rows → HasKey change → AreApart (written version change rows)
  pub above : (version : ℕ) (rows : List Row) (key : List ℕ) → AreApart rows
      → decided (made_above version rows) key ≡ decision_above version (decided rows key)

-- rows of which some are left out stay apart
apart-filter : (p : Row → Bool) (rows : List Row) → AreApart rows → AreApart (filter p rows)
apart-filter p [] apart = tt
apart-filter p (row ∷ rows) apart = by_test (p row) (apart-filter p rows apart.1)
  where
    by_test : (t : Bool) → AreApart (filter p rows) → AreApart (cond t (row ∷ filter p rows) (filter p rows))
    by_test true rest = (all-filter (IsBelow row) p rows apart.0, rest)
    by_test false rest = rest

pub apart-above : (version : ℕ) (rows : List Row) → AreApart rows → AreApart (made_above version rows)
apart-above version rows apart = apart-filter _ rows apart

-- ---- clears of some keys

-- a clear of some keys, or no clear
abbrev pub ClearsSome : Mutation → Type 0
ClearsSome (Set key value) = Unit {0}
ClearsSome (Clear span) = key_less span.begin span.end ≡ true
ClearsSome (Atomic op key operand) = Unit {0}

-- what is stored of it is one
pub stored-some : (mutation : Mutation) (before : List ℕ → Option (List ℕ)) → ClearsSome mutation → IfSome (stored_as mutation before) ClearsSome
stored-some (Set key value) before some = tt
stored-some (Clear span) before some = some
stored-some (Atomic op key operand) before some = by_result (before key) (changed op (before key) operand)
  where
    by_result : (old after : Option (List ℕ)) → IfSome (result_as op key old after) ClearsSome
    by_result old (Some value) = by_test (compares op)
      where
        by_test : (t : Bool) → IfSome (cond t None (Some (Set key value))) ClearsSome
        by_test true = tt
        by_test false = tt
    by_result None None = tt
    by_result (Some value) None = less_after key

-- a span that has a key
clear-some : (span : Span) → IfSome (option_map Clear (not_empty span)) ClearsSome
clear-some span = by_test (key_less span.begin span.end) refl
  where
    by_test : (t : Bool) → key_less span.begin span.end ≡ t → IfSome (option_map Clear (cond t (Some span) None)) ClearsSome
    by_test true is = is
    by_test false is = tt

-- and so is the part in a span of any mutation
pub part-some : (mutation : Mutation) (to : Span) → IfSome (clipped mutation to) ClearsSome
part-some (Set key value) to = by_test (within to key)
  where
    by_test : (t : Bool) → IfSome (cond t (Some (Set key value)) None) ClearsSome
    by_test true = tt
    by_test false = tt
part-some (Clear span) to = clear-some (record { begin = greatest span.begin to.begin; end = least span.end to.end })
part-some (Atomic op key operand) to = by_test (within to key)
  where
    by_test : (t : Bool) → IfSome (cond t (Some (Atomic op key operand)) None) ClearsSome
    by_test true = tt
    by_test false = tt
