-- Keys of users, and the pairs beside theirs.
use Rattle.std.proofs.Common.{◌≡◌, ◌∙◌, ◌&&◌, ◌||◌, not, ℕ, Bool, true, false, cond, List, [], ◌∷◌, filter, refl, sym, ap}
use Rattle.std.specs.Cmp.Lexicographic.{slice_cmp}
use Rattle.std.specs.FinMap.Entries.{by_order, put}
use Rattle.std.specs.List.{AllByRecursion, list_any}
use Rattle.std.specs.Ordering.{nat_cmp}
use Rattle.std.specs.declared.cmp.Ordering.{Ordering}
use Rattle.std.specs.declared.cmp.Ordering.TheVariants.{Less, Equal, Greater}
use Rattle.std.proofs.lemmas.Bool.{false≢true}
use Rattle.st_board.specs.Base.{IsOfUsers}
use Rattle.st_board.specs.Kept.{IsUsers}
use Rattle.st_engine.specs.Replay.{op_on, ops_on}
use Rattle.st_fold.specs.Map.{Map}
use Rattle.st_key.specs.Spans.{key_less, within}
use Rattle.st_meta.specs.Stored.{assigned_key, available_key, ff, is_key, is_other, version_key}
use Rattle.st_ops.specs.declared.op.Op.{Op}
use Rattle.st_ops.specs.declared.op.Op.TheVariants.{Set, Clear, SnapItem, SnapEnd, Commit}

and_right : (a b : Bool) → (a && b) ≡ true → b ≡ true
and_right true b is = is
and_right false b is = absurd (false≢true is)

-- a user's key is none beside users'
users-none : (key : List ℕ) → IsUsers key → is_other key ≡ false
users-none key users =
    ap (λ (t : Bool). not t && not (is_key assigned_key key) && not (is_key available_key key) && not (is_key version_key key))
    (and_right (not (key_less key [])) (key_less key ff) users)

module _ (test : List ℕ → Bool) where
  none-put : (key value : List ℕ) (pairs : Map) → test key ≡ false → list_any (λ pair. test pair.0) pairs ≡ false
      → list_any (λ pair. test pair.0) (put (slice_cmp nat_cmp) key value pairs) ≡ false
  none-put key value [] none others = ap (λ (t : Bool). t || false) none
  none-put key value (pair ∷ pairs) none others = by (slice_cmp nat_cmp key pair.0) (none-put key value pairs none)
    where
      here : test pair.0 ≡ false
      here = by_here (test pair.0) refl
        where
          by_here : (t : Bool) → test pair.0 ≡ t → test pair.0 ≡ false
          by_here true is = absurd (false≢true (sym others ∙ ap (λ (t : Bool). t || list_any (λ p. test p.0) pairs) is))
          by_here false is = is

      later : list_any (λ p. test p.0) pairs ≡ false
      later = sym (ap (λ (t : Bool). t || list_any (λ p. test p.0) pairs) here) ∙ others

      by : (o : Ordering) → (list_any (λ p. test p.0) pairs ≡ false → list_any (λ p. test p.0) (put (slice_cmp nat_cmp) key value pairs) ≡ false)
          → list_any (λ p. test p.0) (by_order o ((key, value) ∷ pair ∷ pairs) ((pair.0, value) ∷ pairs) (pair ∷ put (slice_cmp nat_cmp) key value pairs)) ≡ false
      by Less more = ap (λ (t : Bool). t || list_any (λ p. test p.0) (pair ∷ pairs)) none ∙ others
      by Equal more = ap (λ (t : Bool). t || list_any (λ p. test p.0) pairs) here ∙ later
      by Greater more = ap (λ (t : Bool). t || list_any (λ p. test p.0) (put (slice_cmp nat_cmp) key value pairs)) here ∙ more later

  none-filter : (keeps : List ℕ × List ℕ → Bool) (pairs : Map) → list_any (λ pair. test pair.0) pairs ≡ false → list_any (λ pair. test pair.0) (filter keeps pairs) ≡ false
  none-filter keeps [] none = refl
  none-filter keeps (pair ∷ pairs) none = by_test (test pair.0) refl (none-filter keeps pairs)
    where
      by_test : (t : Bool) → test pair.0 ≡ t → (list_any (λ p. test p.0) pairs ≡ false → list_any (λ p. test p.0) (filter keeps pairs) ≡ false)
          → list_any (λ p. test p.0) (filter keeps (pair ∷ pairs)) ≡ false
      by_test true is rest = absurd (false≢true (sym none ∙ ap (λ (t : Bool). t || list_any (λ p. test p.0) pairs) is))
      by_test false is rest = by_kept (keeps pair)
        where
          later : list_any (λ p. test p.0) (filter keeps pairs) ≡ false
          later = rest (sym (ap (λ (t : Bool). t || list_any (λ p. test p.0) pairs) is) ∙ none)

          by_kept : (t : Bool) → list_any (λ p. test p.0) (cond t (pair ∷ filter keeps pairs) (filter keeps pairs)) ≡ false
          by_kept true = ap (λ (u : Bool). u || list_any (λ p. test p.0) (filter keeps pairs)) is ∙ later
          by_kept false = later

-- operations on users' keys put no pair beside users'
pub none-beside : (ops : List Op) (pairs : Map) → AllByRecursion IsOfUsers ops → list_any (λ pair. is_other pair.0) pairs ≡ false
    → list_any (λ pair. is_other pair.0) (ops_on pairs ops) ≡ false
none-beside [] pairs all none = none
none-beside (Set key value ∷ ops) pairs all none =
    none-beside ops (op_on pairs (Set key value)) all.1 (none-put is_other key value pairs (users-none key all.0) none)
none-beside (Clear begin end ∷ ops) pairs all none =
    none-beside ops (op_on pairs (Clear begin end)) all.1 (none-filter is_other (λ pair. not (within (record { begin = begin; end = end }) pair.0)) pairs none)
none-beside (SnapItem key value ∷ ops) pairs all none = absurd all.0
none-beside (SnapEnd ∷ ops) pairs all none = absurd all.0
none-beside (Commit ∷ ops) pairs all none = absurd all.0
