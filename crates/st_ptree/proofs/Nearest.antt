-- The first and the last of some entries in order.
use Rattle.std.proofs.Common.{◌≡◌, ℕ, zero, suc, ◌<◌, Bool, true, false, cond, List, [], ◌∷◌, length, get_or, Option, Some, None, refl, sym, subst, arith}
use Rattle.std.specs.Prelude.{Contains, MatchOption}
use Rattle.std.specs.Option.{option_or}
use Rattle.std.specs.List.{AllByRecursion}
use Rattle.std.specs.FinMap.Entries as entries
use Rattle.st_ptree.specs.Entries.{key_cmp, less, first_of, last_of, is_ordered}
use Rattle.st_ptree.specs.Nearest.{HaveNone, IsLeast, IsGreatest}
use Rattle.st_ptree.proofs.Ordered.{both_true}
use Rattle.st_ptree.proofs.Orders.{less_asym, less_itself}

module _ {X : Type 0} (keeps : List ℕ → Bool) where
  here : (e : List ℕ × (ℕ × X)) (es : List (List ℕ × (ℕ × X))) → Contains (e ∷ es) e
  here e es = (0, omega arith, refl)

  later : (e f : List ℕ × (ℕ × X)) (es : List (List ℕ × (ℕ × X))) → Contains es f → Contains (e ∷ es) f
  later e f es there = (suc there.0, omega (arith, there.1), there.2)

  -- an entry below all of a list
  none_below : (e : List ℕ × (ℕ × X)) (es : List (List ℕ × (ℕ × X))) → entries.below_all key_cmp e.0 es ≡ true
      → AllByRecursion (λ other. keeps other.0 ≡ true → less other.0 e.0 ≡ false) es
  none_below e [] below = tt
  none_below e (f ∷ es) below =
      let parts = both_true (less e.0 f.0) (entries.below_all key_cmp e.0 es) below in
      (λ _. less_asym e.0 f.0 parts.0, none_below e es parts.1)

  -- an entry of a list is above one that is below all
  is_above : (e f : List ℕ × (ℕ × X)) (es : List (List ℕ × (ℕ × X))) → entries.below_all key_cmp e.0 es ≡ true → Contains es f → less f.0 e.0 ≡ false
  is_above e f es below there = at_place es there.0 below there.1 there.2
    where
      at_place : (es : List (List ℕ × (ℕ × X))) (k : ℕ) → entries.below_all key_cmp e.0 es ≡ true → k < length es → get_or es k f ≡ f → less f.0 e.0 ≡ false
      at_place [] k below inside is = absurd (omega arith)
      at_place (g ∷ es) zero below inside is =
          subst (λ (x : List ℕ × (ℕ × X)). less x.0 e.0 ≡ false) is (less_asym e.0 g.0 (both_true (less e.0 g.0) (entries.below_all key_cmp e.0 es) below).0)
      at_place (g ∷ es) (suc k) below inside is = at_place es k (both_true (less e.0 g.0) (entries.below_all key_cmp e.0 es) below).1 (omega arith) is

  pub first-least : (es : List (List ℕ × (ℕ × X))) → is_ordered es ≡ true
      → MatchOption (first_of (entries.where_key key_cmp keeps es)) (HaveNone keeps es) (IsLeast keeps es)
  first-least [] ordered = tt
  first-least (e ∷ es) ordered =
      by (keeps e.0) refl (first-least es parts.1)
    where
      parts : (entries.below_all key_cmp e.0 es ≡ true) × (is_ordered es ≡ true)
      parts = both_true (entries.below_all key_cmp e.0 es) (is_ordered es) ordered

      rest : List (List ℕ × (ℕ × X))
      rest = entries.where_key key_cmp keeps es

      skipped : (o : Option (List ℕ × (ℕ × X))) → false ≡ keeps e.0 → MatchOption o (HaveNone keeps es) (IsLeast keeps es) → MatchOption o (HaveNone keeps (e ∷ es)) (IsLeast keeps (e ∷ es))
      skipped None fails none = (sym fails, none)
      skipped (Some f) fails nearest = record {
        among = later e f es nearest.among;
        passes = nearest.passes;
        least = (λ passes. absurd (cc (fails, passes)), nearest.least);
      }

      by : (b : Bool) → b ≡ keeps e.0 → MatchOption (first_of rest) (HaveNone keeps es) (IsLeast keeps es)
          → MatchOption (first_of (cond b (e ∷ rest) rest)) (HaveNone keeps (e ∷ es)) (IsLeast keeps (e ∷ es))
      by true passes nearest = record {
        among = here e es;
        passes = sym passes;
        least = (λ _. less_itself e.0, none_below e es parts.0);
      }
      by false fails nearest = skipped (first_of rest) fails nearest

  pub last-greatest : (es : List (List ℕ × (ℕ × X))) → is_ordered es ≡ true
      → MatchOption (last_of (entries.where_key key_cmp keeps es)) (HaveNone keeps es) (IsGreatest keeps es)
  last-greatest [] ordered = tt
  last-greatest (e ∷ es) ordered =
      by (keeps e.0) refl (last-greatest es parts.1)
    where
      parts : (entries.below_all key_cmp e.0 es ≡ true) × (is_ordered es ≡ true)
      parts = both_true (entries.below_all key_cmp e.0 es) (is_ordered es) ordered

      rest : List (List ℕ × (ℕ × X))
      rest = entries.where_key key_cmp keeps es

      none_passes : (l : List (List ℕ × (ℕ × X))) → HaveNone keeps l → AllByRecursion (λ other. keeps other.0 ≡ true → less e.0 other.0 ≡ false) l
      none_passes [] none = tt
      none_passes (f ∷ l) none = (λ passes. absurd (cc (none.0, passes)), none_passes l none.1)

      further : (f : List ℕ × (ℕ × X)) → IsGreatest keeps es f → IsGreatest keeps (e ∷ es) f
      further f nearest = record {
        among = later e f es nearest.among;
        passes = nearest.passes;
        greatest = (λ _. is_above e f es parts.0 nearest.among, nearest.greatest);
      }

      skipped : (o : Option (List ℕ × (ℕ × X))) → false ≡ keeps e.0 → MatchOption o (HaveNone keeps es) (IsGreatest keeps es) → MatchOption o (HaveNone keeps (e ∷ es)) (IsGreatest keeps (e ∷ es))
      skipped None fails none = (sym fails, none)
      skipped (Some f) fails nearest = further f nearest

      kept : (o : Option (List ℕ × (ℕ × X))) → true ≡ keeps e.0 → MatchOption o (HaveNone keeps es) (IsGreatest keeps es)
          → MatchOption (option_or o (Some e)) (HaveNone keeps (e ∷ es)) (IsGreatest keeps (e ∷ es))
      kept None passes none = record {
        among = here e es;
        passes = sym passes;
        greatest = (λ _. less_itself e.0, none_passes es none);
      }
      kept (Some f) passes nearest = further f nearest

      by : (b : Bool) → b ≡ keeps e.0 → MatchOption (last_of rest) (HaveNone keeps es) (IsGreatest keeps es)
          → MatchOption (last_of (cond b (e ∷ rest) rest)) (HaveNone keeps (e ∷ es)) (IsGreatest keeps (e ∷ es))
      by true passes nearest = kept (last_of rest) passes nearest
      by false fails nearest = skipped (last_of rest) fails nearest
