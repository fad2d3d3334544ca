-- The depth of a place in a list whose entries are parted by one that ranks highest.
use Rattle.std.proofs.Common.{◌≡◌, ◌∙◌, ℕ, suc, Bool, true, false, not, ◌&&◌, ◌||◌, cond, List, ◌∷◌, ◌++◌, length, refl, ap, arith}
use Rattle.std.specs.List.{filter, list_all, AllByRecursion}
use Rattle.std.proofs.lemmas.List.Folds.{list_all-append}
use Rattle.st_ptree.specs.Entries.{less}
use Rattle.st_ptree.specs.Depth.{outranks, stands_from, is_peak, depth}
use Rattle.st_ptree.specs.Treap.{IsBefore, IsBehind}
use Rattle.st_ptree.proofs.Lists.{all_true, all_weaker, kept_append, kept_none, kept_same, length_one_more}
use Rattle.st_ptree.proofs.Orders.{less_asym, less_itself, less_trans}

and_false : (t : Bool) → (t && false) ≡ false
and_false true = refl
and_false false = refl

module _ {T : Type 0} where
  pub outranks_itself : (e : List ℕ × (ℕ × T)) → outranks e e ≡ true
  outranks_itself e = rw (less_itself e.0) (grind arith)

  -- of two keys only one ranks higher
  pub outranked_behind : (e f : List ℕ × (ℕ × T)) → outranks e f ≡ true → less e.0 f.0 ≡ true → outranks f e ≡ false
  outranked_behind e f is lt = let back = less_asym e.0 f.0 lt in grind (arith, is, lt, back)

  pub outranked_before : (e f : List ℕ × (ℕ × T)) → outranks e f ≡ true → less f.0 e.0 ≡ true → outranks f e ≡ false
  outranked_before e f is lt = let back = less_asym f.0 e.0 lt in grind (arith, is, lt, back)

  -- A place parts keys: of two, the lower is up to it where the higher is, and the higher from it on where the lower is.
  module _ (up_to from_on : List ℕ → Bool)
      (falls : (a b : List ℕ) → less a b ≡ true → up_to a ≡ false → up_to b ≡ false)
      (rises : (a b : List ℕ) → less a b ≡ true → from_on b ≡ false → from_on a ≡ false)
      (l : List (List ℕ × (ℕ × T))) (e : List ℕ × (ℕ × T)) (r : List (List ℕ × (ℕ × T)))
      (before : AllByRecursion (IsBefore e) l) (behind : AllByRecursion (IsBehind e) r) where
    abbrev passes : List ℕ × (ℕ × T) → List ℕ × (ℕ × T) → Bool
    passes f g = not (stands_from up_to from_on f g) || outranks f g

    outranking : (f g : List ℕ × (ℕ × T)) → outranks f g ≡ true → passes f g ≡ true
    outranking f g is = by_test (not (stands_from up_to from_on f g))
      where
        by_test : (t : Bool) → (t || outranks f g) ≡ true
        by_test true = refl
        by_test false = is

    top : is_peak up_to from_on (l ++ e ∷ r) e ≡ true
    top = rw (list_all-append (passes e) l (e ∷ r), all_true (passes e) l (all_weaker (λ f is. outranking e f is.1) l before), outranking e e (outranks_itself e), all_true (passes e) r (all_weaker (λ f is. outranking e f is.1) r behind)) refl

    no_peak : (f : List ℕ × (ℕ × T)) → passes f e ≡ false → is_peak up_to from_on (l ++ e ∷ r) f ≡ false
    no_peak f is = list_all-append (passes f) l (e ∷ r) ∙ by_test (list_all (passes f) l)
      where
        by_test : (t : Bool) → (t && (passes f e && list_all (passes f) r)) ≡ false
        by_test true = rw is refl
        by_test false = refl

    peak_before : (f : List ℕ × (ℕ × T)) → passes f e ≡ true → AllByRecursion (λ g. passes f g ≡ true) r → is_peak up_to from_on (l ++ e ∷ r) f ≡ is_peak up_to from_on l f
    peak_before f is rest = list_all-append (passes f) l (e ∷ r) ∙ by_test (list_all (passes f) l)
      where
        by_test : (t : Bool) → (t && (passes f e && list_all (passes f) r)) ≡ t
        by_test true = rw (is, all_true (passes f) r rest) refl
        by_test false = refl

    peak_behind : (f : List ℕ × (ℕ × T)) → AllByRecursion (λ g. passes f g ≡ true) l → passes f e ≡ true → is_peak up_to from_on (l ++ e ∷ r) f ≡ is_peak up_to from_on r f
    peak_behind f rest is = rw (list_all-append (passes f) l (e ∷ r), all_true (passes f) l rest, is) refl

    parted : filter (is_peak up_to from_on (l ++ e ∷ r)) (l ++ e ∷ r) ≡ filter (is_peak up_to from_on (l ++ e ∷ r)) l ++ e ∷ filter (is_peak up_to from_on (l ++ e ∷ r)) r
    parted = kept_append (is_peak up_to from_on (l ++ e ∷ r)) l (e ∷ r)
        ∙ ap (λ (t : Bool). filter (is_peak up_to from_on (l ++ e ∷ r)) l ++ cond t (e ∷ filter (is_peak up_to from_on (l ++ e ∷ r)) r) (filter (is_peak up_to from_on (l ++ e ∷ r)) r)) top

    -- what stands apart from the place doesn't rank highest up to it
    hidden_behind : from_on e.0 ≡ true → (f : List ℕ × (ℕ × T)) → IsBehind e f → passes f e ≡ false
    hidden_behind on f is =
        rw (outranked_behind e f is.1 is.0, on, less_asym e.0 f.0 is.0) (by_test (up_to e.0 && not (less e.0 f.0)))
      where
        by_test : (t : Bool) → (not (t || true) || false) ≡ false
        by_test true = refl
        by_test false = refl

    hidden_before : up_to e.0 ≡ true → (f : List ℕ × (ℕ × T)) → IsBefore e f → passes f e ≡ false
    hidden_before on f is =
        rw (outranked_before e f is.1 is.0, on, less_asym f.0 e.0 is.0) refl

    apart : (f g : List ℕ × (ℕ × T)) → (up_to g.0 && not (less g.0 f.0)) ≡ false → (from_on g.0 && not (less f.0 g.0)) ≡ false → passes f g ≡ true
    apart f g p q = rw (p, q) refl

    -- neither the top nor what is behind it hides what is before it
    open_before : up_to e.0 ≡ false → (f : List ℕ × (ℕ × T)) → less f.0 e.0 ≡ true → passes f e ≡ true
    open_before off f lt = apart f e (rw off refl) (rw lt (and_false (from_on e.0)))

    open_before_all : up_to e.0 ≡ false → (f : List ℕ × (ℕ × T)) → less f.0 e.0 ≡ true → (g : List ℕ × (ℕ × T)) → IsBehind e g → passes f g ≡ true
    open_before_all off f lt g is =
        apart f g (rw (falls e.0 g.0 is.0 off) refl) (rw (less_trans f.0 e.0 g.0 lt is.0) (and_false (from_on g.0)))

    open_behind : from_on e.0 ≡ false → (f : List ℕ × (ℕ × T)) → less e.0 f.0 ≡ true → passes f e ≡ true
    open_behind off f lt = apart f e (rw lt (and_false (up_to e.0))) (rw off refl)

    open_behind_all : from_on e.0 ≡ false → (f : List ℕ × (ℕ × T)) → less e.0 f.0 ≡ true → (g : List ℕ × (ℕ × T)) → IsBefore e g → passes f g ≡ true
    open_behind_all off f lt g is =
        apart f g (rw (less_trans g.0 e.0 f.0 is.0 lt) (and_false (up_to g.0))) (rw (rises g.0 e.0 is.0 off) refl)

    -- A place before the top is one deeper than in what stands before the top.
    pub depth_left : up_to e.0 ≡ false → from_on e.0 ≡ true → depth up_to from_on (l ++ e ∷ r) ≡ suc (depth up_to from_on l)
    depth_left off on =
        let p = is_peak up_to from_on (l ++ e ∷ r) in
        let right = kept_none p r (all_weaker (λ f is. no_peak f (hidden_behind on f is)) r behind) in
        let left = kept_same p (is_peak up_to from_on l) l (all_weaker (λ f is. peak_before f (open_before off f is.0) (all_weaker (open_before_all off f is.0) r behind)) l before) in
        ap length (parted ∙ rw (left, right) refl) ∙ length_one_more (filter (is_peak up_to from_on l) l) e

    -- And a place behind it, than in what stands behind the top.
    pub depth_right : up_to e.0 ≡ true → from_on e.0 ≡ false → depth up_to from_on (l ++ e ∷ r) ≡ suc (depth up_to from_on r)
    depth_right on off =
        let p = is_peak up_to from_on (l ++ e ∷ r) in
        let left = kept_none p l (all_weaker (λ f is. no_peak f (hidden_before on f is)) l before) in
        let right = kept_same p (is_peak up_to from_on r) r (all_weaker (λ f is. peak_behind f (all_weaker (open_behind_all off f is.0) l before) (open_behind off f is.0)) r behind) in
        ap length parted ∙ rw (left, right) refl

    -- The top's own key has the depth 1.
    pub depth_here : up_to e.0 ≡ true → from_on e.0 ≡ true → depth up_to from_on (l ++ e ∷ r) ≡ 1
    depth_here on on_too =
        let p = is_peak up_to from_on (l ++ e ∷ r) in
        let left = kept_none p l (all_weaker (λ f is. no_peak f (hidden_before on f is)) l before) in
        let right = kept_none p r (all_weaker (λ f is. no_peak f (hidden_behind on_too f is)) r behind) in
        ap length parted ∙ rw (left, right) refl
