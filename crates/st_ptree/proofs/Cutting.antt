-- Halves of trees.
use Rattle.std.specs.Ordering.{is_eq}
use Rattle.std.specs.declared.cmp.Ordering.{Ordering}
use Rattle.std.specs.declared.cmp.Ordering.TheVariants.{Less, Equal, Greater}
use Rattle.std.proofs.Common.{◌≡◌, ◌∙◌, ℕ, Bool, true, false, not, ◌||◌, ◌&&◌, cond, List, [], ◌∷◌, ◌++◌, refl, sym, ap, subst}
use Rattle.std.specs.FinMap.Entries as maps
use Rattle.std.specs.List.{AllByRecursion, filter}
use Rattle.std.proofs.lemmas.Bool.{false≢true}
use Rattle.st_node.specs.Shapes.{Shape, Tip, Fork, entries, entry_of, left_of, right_of, shape}
use Rattle.st_node.specs.declared.node.Node.{Node}
use Rattle.st_ptree.specs.Cut.{AreHalves, IsPassed, is_right}
use Rattle.st_ptree.specs.Entries.{key_cmp, less, same, within, before, without_key, without_range}
use Rattle.st_ptree.specs.Join.{Apart}
use Rattle.st_ptree.specs.Treap.{IsBefore, IsBehind, IsTreap}
use Rattle.st_ptree.specs.Ways.{over_node}
use Rattle.st_ptree.specs.declared.way.Side.{Side}
use Rattle.st_ptree.specs.declared.way.Side.TheVariants.{Left, Right}
use Rattle.st_ptree.specs.declared.way.Step.{Step}
use Rattle.st_ptree.proofs.Lists.{all_join, all_kept, all_pass, all_weaker, append_none, kept_all, kept_append, kept_none, kept_same}
use Rattle.st_ptree.proofs.Neighbours.{not_true}
use Rattle.st_ptree.proofs.Ordered.{all_below_is, both_true}
use Rattle.st_ptree.proofs.Orders.{above_is, apart_above, apart_below, before-earlier, before-later, before_falls, below_is, equal_is, less_asym, not_less_trans}

module _ {T : Type 0} (key : List ℕ) (or_equal : Bool) where
  abbrev is_first : List ℕ × (ℕ × T) → Bool
  is_first f = before key or_equal f.0

  abbrev is_later : List ℕ × (ℕ × T) → Bool
  is_later f = not (before key or_equal f.0)

  pub no_halves : AreHalves {T = T} key or_equal Tip Tip Tip
  no_halves = record { front_treap = tt; back_treap = tt; front_is = refl; back_is = refl }

  module _ (s : Shape T) (e : List ℕ × (ℕ × T)) (front back : Shape T) (halves : AreHalves key or_equal s front back) where
    pub grows_left : (r : Shape T) → IsTreap (Fork s e r) → before key or_equal e.0 ≡ false → AreHalves key or_equal (Fork s e r) front (Fork back e r)
    grows_left r treap is =
        let none : AllByRecursion (λ f. is_first f ≡ false) (entries r) = all_weaker (λ f later. before-later key or_equal e.0 f.0 later.0 is) (entries r) treap.1.1 in
        let all : AllByRecursion (λ f. is_later f ≡ true) (entries r) = all_weaker (λ f (off : is_first f ≡ false). ap not off) (entries r) none in
        record {
          front_treap = halves.front_treap;
          back_treap = ((halves.back_treap, treap.0.1), (subst (AllByRecursion (IsBefore e)) (sym halves.back_is) (all_kept (IsBefore e) is_later (entries s) treap.1.0), treap.1.1));
          front_is = halves.front_is
              ∙ sym (kept_append is_first (entries s) (e ∷ entries r)
              ∙ ap (λ (t : Bool). filter is_first (entries s) ++ cond t (e ∷ filter is_first (entries r)) (filter is_first (entries r))) is
              ∙ ap (λ (xs : List (List ℕ × (ℕ × T))). filter is_first (entries s) ++ xs) (kept_none is_first (entries r) none)
              ∙ append_none (filter is_first (entries s)));
          back_is = ap (λ (xs : List (List ℕ × (ℕ × T))). xs ++ e ∷ entries r) halves.back_is
              ∙ sym (kept_append is_later (entries s) (e ∷ entries r)
              ∙ ap (λ (t : Bool). filter is_later (entries s) ++ cond (not t) (e ∷ filter is_later (entries r)) (filter is_later (entries r))) is
              ∙ ap (λ (xs : List (List ℕ × (ℕ × T))). filter is_later (entries s) ++ e ∷ xs) (kept_all is_later (entries r) all));
        }

    pub grows_right : (l : Shape T) → IsTreap (Fork l e s) → before key or_equal e.0 ≡ true → AreHalves key or_equal (Fork l e s) (Fork l e front) back
    grows_right l treap is =
        let all : AllByRecursion (λ f. is_first f ≡ true) (entries l) = all_weaker (λ f earlier. before-earlier key or_equal f.0 e.0 earlier.0 is) (entries l) treap.1.0 in
        let none : AllByRecursion (λ f. is_later f ≡ false) (entries l) = all_weaker (λ f (on : is_first f ≡ true). ap not on) (entries l) all in
        record {
          front_treap = ((treap.0.0, halves.front_treap), (treap.1.0, subst (AllByRecursion (IsBehind e)) (sym halves.front_is) (all_kept (IsBehind e) is_first (entries s) treap.1.1)));
          back_treap = halves.back_treap;
          front_is = ap (λ (xs : List (List ℕ × (ℕ × T))). entries l ++ e ∷ xs) halves.front_is
              ∙ sym (kept_append is_first (entries l) (e ∷ entries s)
              ∙ ap (λ (t : Bool). filter is_first (entries l) ++ cond t (e ∷ filter is_first (entries s)) (filter is_first (entries s))) is
              ∙ ap (λ (xs : List (List ℕ × (ℕ × T))). xs ++ e ∷ filter is_first (entries s)) (kept_all is_first (entries l) all));
          back_is = halves.back_is
              ∙ sym (kept_append is_later (entries l) (e ∷ entries s)
              ∙ ap (λ (t : Bool). filter is_later (entries l) ++ cond (not t) (e ∷ filter is_later (entries s)) (filter is_later (entries s))) is
              ∙ ap (λ (xs : List (List ℕ × (ℕ × T))). xs ++ filter is_later (entries s)) (kept_none is_later (entries l) none));
        }

module _ {T : Type 0} (key end : List ℕ) (or_equal : Bool) where
  abbrev is_low : List ℕ × (ℕ × T) → Bool
  is_low f = less f.0 key

  abbrev is_high : List ℕ × (ℕ × T) → Bool
  is_high f = not (before end or_equal f.0)

  abbrev stays : List ℕ × (ℕ × T) → Bool
  stays f = less f.0 key || not (before end or_equal f.0)

  abbrev is_rest : List ℕ × (ℕ × T) → Bool
  is_rest f = not (before key false f.0)

  -- behind an entry that isn't before the first place there is none that is
  none_low : (x : List ℕ × (ℕ × T)) (xs : List (List ℕ × (ℕ × T))) → less x.0 key ≡ false → AllByRecursion (λ f. less x.0 f.0 ≡ true) xs → filter is_low xs ≡ []
  none_low x xs ge rest = kept_none is_low xs (all_weaker (λ f behind. before_falls key x.0 f.0 behind ge) xs rest)

  by_side : (t : Bool) (x : List ℕ × (ℕ × T)) (xs : List (List ℕ × (ℕ × T))) → less x.0 key ≡ t → AllByRecursion (λ f. less x.0 f.0 ≡ true) xs
      → filter is_low xs ++ filter is_high (filter is_rest xs) ≡ filter stays xs
      → filter is_low (x ∷ xs) ++ filter is_high (filter is_rest (x ∷ xs)) ≡ filter stays (x ∷ xs)
  by_side true x xs lt rest deeper = rw lt (ap (λ (l : List (List ℕ × (ℕ × T))). x ∷ l) deeper)
  by_side false x xs ge rest deeper =
      let without : filter is_high (filter is_rest xs) ≡ filter stays xs = sym (ap (λ (l : List (List ℕ × (ℕ × T))). l ++ filter is_high (filter is_rest xs)) (none_low x xs ge rest)) ∙ deeper in
      rw (ge, none_low x xs ge rest, without) refl

  -- what is before one place and what is behind another, of entries whose keys rise
  pub outside : (es : List (List ℕ × (ℕ × T))) → maps.is_sorted key_cmp es ≡ true
      → filter is_low es ++ filter is_high (filter is_rest es) ≡ filter stays es
  outside [] ordered = refl
  outside (x ∷ xs) ordered =
      let parts = both_true (maps.below_all key_cmp x.0 xs) (maps.is_sorted key_cmp xs) ordered in
      by_side (less x.0 key) x xs refl (all_below_is x.0 xs parts.0) (outside xs parts.1)

-- each entry before the first place is below each that isn't
module _ {T : Type 0} (key : List ℕ) where
  low_below : (f g : List ℕ × (ℕ × T)) → less f.0 key ≡ true → not (less g.0 key) ≡ true → less f.0 g.0 ≡ true
  low_below f g lt ge = by_test (less f.0 g.0) refl
    where
      by_test : (t : Bool) → less f.0 g.0 ≡ t → less f.0 g.0 ≡ true
      by_test true e = e
      by_test false e = absurd (false≢true (sym (not_less_trans key g.0 f.0 (not_true (less g.0 key) ge) e) ∙ lt))

  pub sides_apart : (before behind : List (List ℕ × (ℕ × T))) → AllByRecursion (λ f. less f.0 key ≡ true) before → AllByRecursion (λ g. not (less g.0 key) ≡ true) behind
      → AllByRecursion (λ f. AllByRecursion (λ g. less f.0 g.0 ≡ true) behind) before
  sides_apart before behind lows highs = all_weaker (λ f lt. all_weaker (λ g ge. low_below f g lt ge) behind highs) before lows

module _ {T : Type 0} (begin end : List ℕ) (or_equal : Bool) {old front back first second : Shape T}
    (one : AreHalves begin false old front back) (other : AreHalves end or_equal back first second) where
  pub halves_apart : Apart front second
  halves_apart =
      let lows = subst (AllByRecursion (λ f. less f.0 begin ≡ true)) (sym one.front_is) (all_pass (λ f. less f.0 begin) (entries old)) in
      let highs = subst (AllByRecursion (λ g. not (less g.0 begin) ≡ true)) (sym one.back_is) (all_pass (λ g. not (less g.0 begin)) (entries old)) in
      sides_apart begin (entries front) (entries second) lows
      (subst (AllByRecursion (λ g. not (less g.0 begin) ≡ true)) (sym other.back_is) (all_kept (λ g. not (less g.0 begin) ≡ true) (λ g. not (before end or_equal g.0)) (entries back) highs))

  pub halves_outside : maps.is_sorted key_cmp (entries old) ≡ true
      → entries front ++ entries second ≡ filter (λ f. less f.0 begin || not (before end or_equal f.0)) (entries old)
  halves_outside ordered =
      ap (λ (l : List (List ℕ × (ℕ × T))). l ++ entries second) one.front_is
      ∙ ap (λ (l : List (List ℕ × (ℕ × T))). filter (λ f. less f.0 begin) (entries old) ++ l) (other.back_is ∙ ap (filter (λ f. not (before end or_equal f.0))) one.back_is)
      ∙ outside begin end or_equal (entries old) ordered

-- one of a node's sides by its halves, in the words of the step up
module _ {T : Type 0} (key : List ℕ) (or_equal : Bool) (n : Node T) (old : Shape T) where
  pub grows_left_of : {side : Side} {front back out_front out_back : Shape T} → side ≡ Left → out_front ≡ front → out_back ≡ Fork back (entry_of n) (shape (right_of n))
      → before key or_equal (entry_of n).0 ≡ is_right side → IsTreap (over_node n side old) → AreHalves key or_equal old front back
      → AreHalves key or_equal (over_node n side old) out_front out_back
  grows_left_of {side} {front} {back} {out_front} {out_back} side_is front_is back_is passed treap halves =
      rw (side_is, front_is, back_is) (grows_left key or_equal old (entry_of n) front back halves (shape (right_of n))
      (subst (λ (d : Side). IsTreap (over_node n d old)) side_is treap) (passed ∙ ap is_right side_is))

  pub grows_right_of : {side : Side} {front back out_front out_back : Shape T} → side ≡ Right → out_front ≡ Fork (shape (left_of n)) (entry_of n) front → out_back ≡ back
      → before key or_equal (entry_of n).0 ≡ is_right side → IsTreap (over_node n side old) → AreHalves key or_equal old front back
      → AreHalves key or_equal (over_node n side old) out_front out_back
  grows_right_of {side} {front} {back} {out_front} {out_back} side_is front_is back_is passed treap halves =
      rw (side_is, front_is, back_is) (grows_right key or_equal old (entry_of n) front back halves (shape (left_of n))
      (subst (λ (d : Side). IsTreap (over_node n d old)) side_is treap) (passed ∙ ap is_right side_is))

module _ {T : Type 0} (key : List ℕ) (or_equal : Bool) where
  pub still_passed : (path : List (Step T)) (step : Step T) (n : Node T) → step.node.now ≡ n → AllByRecursion (IsPassed key or_equal) path → before key or_equal (entry_of n).0 ≡ is_right step.side
      → AllByRecursion (IsPassed key or_equal) (path ++ step ∷ [])
  still_passed path step n at passed here =
      all_join (IsPassed key or_equal) path (step ∷ []) passed (subst (λ (m : Node T). before key or_equal (entry_of m).0 ≡ is_right step.side) (sym at) here, tt)

-- the tests of what an erase and a removal leave
module _ {T : Type 0} where
  pub outside-range : (begin end : List ℕ) (es : List (List ℕ × (ℕ × T)))
      → filter (λ f. less f.0 begin || not (before end false f.0)) es ≡ without_range es begin end
  outside-range begin end es = kept_same _ _ es (each es)
    where
      by_tests : (low high : Bool) → (low || not high) ≡ not (not low && high)
      by_tests true high = refl
      by_tests false high = refl

      each : (l : List (List ℕ × (ℕ × T))) → AllByRecursion (λ f. (less f.0 begin || not (before end false f.0)) ≡ not (within begin end f.0)) l
      each [] = tt
      each (x ∷ xs) = (by_tests (less x.0 begin) (less x.0 end), each xs)

  pub outside-key : (key : List ℕ) (es : List (List ℕ × (ℕ × T)))
      → filter (λ f. less f.0 key || not (before key true f.0)) es ≡ without_key es key
  outside-key key es = kept_same _ _ es (each es)
    where
      by_order : (k : List ℕ) (o : Ordering) → key_cmp key k ≡ o → (less k key || not (not (less key k))) ≡ not (same key k)
      by_order k Less o = rw (below_is key k o, less_asym key k (below_is key k o), apart_below key k (below_is key k o)) refl
      by_order k Equal o = rw ((equal_is key k o).0, (equal_is key k o).1, ap is_eq o) refl
      by_order k Greater o = rw (above_is key k o, apart_above key k (above_is key k o)) refl

      each : (l : List (List ℕ × (ℕ × T))) → AllByRecursion (λ f. (less f.0 key || not (before key true f.0)) ≡ not (same key f.0)) l
      each [] = tt
      each (x ∷ xs) = (by_order x.0 (key_cmp key x.0) refl, each xs)
