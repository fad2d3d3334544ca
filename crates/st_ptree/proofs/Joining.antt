-- One step of a join: the top that ranks higher stays on top.
use Rattle.std.proofs.Common.{◌≡◌, ◌∙◌, ℕ, true, List, ◌∷◌, ◌++◌, sym, ap, subst, append_assoc, ◌<◌, ◌≤◌}
use Rattle.std.specs.List.{AllByRecursion}
use Rattle.st_ptree.specs.Entries.{less}
use Rattle.st_node.specs.Shapes.{Shape, Fork, entries}
use Rattle.st_ptree.specs.Depth.{outranks}
use Rattle.st_ptree.specs.Join.{Apart, IsJoin}
use Rattle.st_ptree.specs.Treap.{IsBefore, IsBehind, IsTreap}
use Rattle.st_ptree.proofs.Depths.{outranks_itself}
use Rattle.st_ptree.proofs.Lists.{all_both, all_join, all_split, all_weaker}
use Rattle.st_ptree.proofs.Raised.{outranks_above, outranks_level}
use Rattle.st_ptree.proofs.Raising.{outranks_trans}

module _ {T : Type 0} where
  tops : (l : Shape T) (e : List ℕ × (ℕ × T)) (r : Shape T) → IsTreap (Fork l e r) → AllByRecursion (λ g. outranks e g ≡ true) (entries (Fork l e r))
  tops l e r treap =
      all_join (λ g. outranks e g ≡ true) (entries l) (e ∷ entries r) (all_weaker (λ g is. is.1) (entries l) treap.1.0)
      (outranks_itself e, all_weaker (λ g is. is.1) (entries r) treap.1.1)

  pub join_right : (l : Shape T) (e : List ℕ × (ℕ × T)) (s bl : Shape T) (y : List ℕ × (ℕ × T)) (br : Shape T)
      → IsTreap (Fork l e s) → IsTreap (Fork bl y br) → Apart (Fork l e s) (Fork bl y br) → y.1.0 ≤ e.1.0
      → Apart s (Fork bl y br) × ((t : Shape T) → IsJoin s (Fork bl y br) t → IsJoin (Fork l e s) (Fork bl y br) (Fork l e t))
  join_right l e s bl y br a_treap b_treap apart level =
      let P : List ℕ × (ℕ × T) → Type 0 = λ f. AllByRecursion (λ g. less f.0 g.0 ≡ true) (entries (Fork bl y br)) in
      let here = all_split P (entries l) (e ∷ entries s) apart in
      let e_y = (all_split (λ g. less e.0 g.0 ≡ true) (entries bl) (y ∷ entries br) here.1.0).1.0 in
      let rank = outranks_level e y level e_y in
      let behind = all_weaker (λ g is. (is.0, outranks_trans e y g rank is.1)) (entries (Fork bl y br))
      (all_both (λ g. less e.0 g.0 ≡ true) (λ g. outranks y g ≡ true) (entries (Fork bl y br)) here.1.0 (tops bl y br b_treap)) in (
        here.1.1,
        λ t j. record {
          treap = ((a_treap.0.0, j.treap), (a_treap.1.0, subst (AllByRecursion (IsBehind e)) (sym j.list) (all_join (IsBehind e) (entries s) (entries (Fork bl y br)) a_treap.1.1 behind)));
          list = ap (λ (x : List (List ℕ × (ℕ × T))). entries l ++ e ∷ x) j.list ∙ sym (append_assoc (entries l) (e ∷ entries s) (entries (Fork bl y br)));
        },
      )

  pub join_left : (al : Shape T) (x : List ℕ × (ℕ × T)) (ar s : Shape T) (e : List ℕ × (ℕ × T)) (r : Shape T)
      → IsTreap (Fork al x ar) → IsTreap (Fork s e r) → Apart (Fork al x ar) (Fork s e r) → x.1.0 < e.1.0
      → Apart (Fork al x ar) s × ((t : Shape T) → IsJoin (Fork al x ar) s t → IsJoin (Fork al x ar) (Fork s e r) (Fork t e r))
  join_left al x ar s e r a_treap b_treap apart lower =
      let rank = outranks_above e x lower in
      let parts = all_weaker (λ f is. all_split (λ g. less f.0 g.0 ≡ true) (entries s) (e ∷ entries r) is) (entries (Fork al x ar)) apart in
      let before = all_weaker (λ f is. (is.0, outranks_trans e x f rank is.1)) (entries (Fork al x ar))
      (all_both (λ f. less f.0 e.0 ≡ true) (λ f. outranks x f ≡ true) (entries (Fork al x ar)) (all_weaker (λ f is. is.1.0) (entries (Fork al x ar)) parts) (tops al x ar a_treap)) in (
        all_weaker (λ f is. is.0) (entries (Fork al x ar)) parts,
        λ t j. record {
          treap = ((j.treap, b_treap.0.1), (subst (AllByRecursion (IsBefore e)) (sym j.list) (all_join (IsBefore e) (entries (Fork al x ar)) (entries s) before b_treap.1.0), b_treap.1.1));
          list = ap (λ (l : List (List ℕ × (ℕ × T))). l ++ e ∷ entries r) j.list ∙ append_assoc (entries (Fork al x ar)) (entries s) (e ∷ entries r);
        },
      )

  pub sew_right : {a b l : Shape T} {e : List ℕ × (ℕ × T)} {s bl : Shape T} {y : List ℕ × (ℕ × T)} {br : Shape T}
      → a ≡ Fork l e s → b ≡ Fork bl y br → IsTreap a → IsTreap b → Apart a b → y.1.0 ≤ e.1.0
      → Apart s b × ((t : Shape T) → IsJoin s b t → IsJoin a b (Fork l e t))
  sew_right {a} {b} {l} {e} {s} {bl} {y} {br} a_is b_is a_treap b_treap apart level =
      rw (a_is, b_is) (join_right l e s bl y br (subst IsTreap a_is a_treap) (subst IsTreap b_is b_treap) (subst (Apart (Fork l e s)) b_is (subst (λ (x : Shape T). Apart x b) a_is apart)) level)

  pub sew_left : {a b al : Shape T} {x : List ℕ × (ℕ × T)} {ar s : Shape T} {e : List ℕ × (ℕ × T)} {r : Shape T}
      → a ≡ Fork al x ar → b ≡ Fork s e r → IsTreap a → IsTreap b → Apart a b → x.1.0 < e.1.0
      → Apart a s × ((t : Shape T) → IsJoin a s t → IsJoin a b (Fork t e r))
  sew_left {a} {b} {al} {x} {ar} {s} {e} {r} a_is b_is a_treap b_treap apart lower =
      rw (a_is, b_is) (join_left al x ar s e r (subst IsTreap a_is a_treap) (subst IsTreap b_is b_treap) (subst (Apart (Fork al x ar)) b_is (subst (λ (z : Shape T). Apart z b) a_is apart)) lower)
