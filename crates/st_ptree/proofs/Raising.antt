-- What an insert makes of a tree from what it makes of one of its sides.
use Rattle.std.proofs.Common.{◌≡◌, ◌∙◌, ℕ, Bool, true, false, not, ◌&&◌, ◌||◌, nat_lt, List, [], ◌∷◌, ◌++◌, refl, sym, ap, subst, arith, append_assoc}
use Rattle.std.specs.Prelude.{◌==◌}
use Rattle.std.specs.List.{AllByRecursion}
use Rattle.std.specs.Ordering.{is_eq}
use Rattle.std.specs.FinMap.Entries as entries
use Rattle.std.specs.declared.cmp.Ordering.{Ordering}
use Rattle.std.specs.declared.cmp.Ordering.TheVariants.{Less, Equal, Greater}
use Rattle.std.proofs.lemmas.Bool.{false≢true}
use Rattle.std.proofs.lemmas.Map.Lookups.{exact_bytes}
use Rattle.st_ptree.specs.Entries.{key_cmp, less, same, prio_at, with_entry}
use Rattle.st_node.specs.Shapes.{Shape, Fork, entries as listed}
use Rattle.st_ptree.specs.Depth.{outranks}
use Rattle.st_ptree.specs.Insert.{IsWhole, AreParts}
use Rattle.st_ptree.specs.Treap.{IsBefore, IsBehind, IsTreap}
use Rattle.st_ptree.proofs.Lists.{all_join, all_split, all_weaker}
use Rattle.st_ptree.proofs.Orders.{apart_above, apart_below, greater, is_Less, less_trans, not_less_trans}
use Rattle.st_ptree.proofs.Places.{found_before, found_behind, found_nowhere}

rank_trans : (p q r : ℕ) (fe gf ge : Bool) → (fe ≡ false → gf ≡ false → ge ≡ false)
    → (nat_lt q p || (p == q && not fe)) ≡ true → (nat_lt r q || (q == r && not gf)) ≡ true → (nat_lt r p || (p == r && not ge)) ≡ true
rank_trans p q r true true ge keys h k = grind (arith, h, k)
rank_trans p q r true false ge keys h k = grind (arith, h, k)
rank_trans p q r false true ge keys h k = grind (arith, h, k)
rank_trans p q r false false true keys h k = absurd (false≢true (sym (keys refl refl)))
rank_trans p q r false false false keys h k = grind (arith, h, k)

module _ {T : Type 0} where
  pub outranks_trans : (e f g : List ℕ × (ℕ × T)) → outranks e f ≡ true → outranks f g ≡ true → outranks e g ≡ true
  outranks_trans e f g p q = rank_trans e.1.0 f.1.0 g.1.0 (less f.0 e.0) (less g.0 f.0) (less g.0 e.0) (not_less_trans e.0 f.0 g.0) p q

  put_left : (key : List ℕ) (v : ℕ × T) (xs : List (List ℕ × (ℕ × T))) (e : List ℕ × (ℕ × T)) (ys : List (List ℕ × (ℕ × T)))
      → key_cmp key e.0 ≡ Less → entries.put key_cmp key v (xs ++ e ∷ ys) ≡ entries.put key_cmp key v xs ++ e ∷ ys
  put_left key v [] e ys o = rw o refl
  put_left key v (x ∷ xs) e ys o = by_order (key_cmp key x.0) (put_left key v xs e ys o)
    where
      by_order : (t : Ordering) → entries.put key_cmp key v (xs ++ e ∷ ys) ≡ entries.put key_cmp key v xs ++ e ∷ ys
          → entries.by_order t ((key, v) ∷ x ∷ (xs ++ e ∷ ys)) ((x.0, v) ∷ (xs ++ e ∷ ys)) (x ∷ entries.put key_cmp key v (xs ++ e ∷ ys))
          ≡ entries.by_order t ((key, v) ∷ x ∷ xs) ((x.0, v) ∷ xs) (x ∷ entries.put key_cmp key v xs) ++ e ∷ ys
      by_order Less later = refl
      by_order Equal later = refl
      by_order Greater later = ap (λ (l : List (List ℕ × (ℕ × T))). x ∷ l) later

  put_right : (key : List ℕ) (v : ℕ × T) (xs ys : List (List ℕ × (ℕ × T))) → AllByRecursion (λ f. less f.0 key ≡ true) xs
      → entries.put key_cmp key v (xs ++ ys) ≡ xs ++ entries.put key_cmp key v ys
  put_right key v [] ys below = refl
  put_right key v (x ∷ xs) ys below = rw (greater key x.0 below.0) (ap (λ (l : List (List ℕ × (ℕ × T))). x ∷ l) (put_right key v xs ys below.1))

  put_first : (key : List ℕ) (v : ℕ × T) (ys : List (List ℕ × (ℕ × T))) → AllByRecursion (λ f. less key f.0 ≡ true) ys
      → entries.put key_cmp key v ys ≡ (key, v) ∷ ys
  put_first key v [] above = refl
  put_first key v (y ∷ ys) above = rw (is_Less _ above.0) refl

  module _ (key : List ℕ) (prio : ℕ) (item : T) where
    with_left : (xs : List (List ℕ × (ℕ × T))) (e : List ℕ × (ℕ × T)) (ys : List (List ℕ × (ℕ × T)))
        → less key e.0 ≡ true → AllByRecursion (IsBehind e) ys → with_entry (xs ++ e ∷ ys) key prio item ≡ with_entry xs key prio item ++ e ∷ ys
    with_left xs e ys lt behind =
        let none : AllByRecursion (λ f. same key f.0 ≡ false) (e ∷ ys) = (apart_below key e.0 lt, all_weaker (λ f is. apart_below key f.0 (less_trans key e.0 f.0 lt is.0)) ys behind) in
        rw (found_before key xs (e ∷ ys) none) (put_left key (prio_at xs key prio, item) xs e ys (is_Less _ lt))

    with_right : (xs : List (List ℕ × (ℕ × T))) (e : List ℕ × (ℕ × T)) (ys : List (List ℕ × (ℕ × T)))
        → less e.0 key ≡ true → AllByRecursion (IsBefore e) xs → with_entry (xs ++ e ∷ ys) key prio item ≡ xs ++ e ∷ with_entry ys key prio item
    with_right xs e ys lt before =
        let below = all_weaker (λ f is. less_trans f.0 e.0 key is.0 lt) xs before in
        let none = all_weaker (λ f is. apart_above key f.0 is) xs below in
        rw (found_behind key xs (e ∷ ys) none, apart_above key e.0 lt)
        (put_right key (prio_at ys key prio, item) xs (e ∷ ys) below ∙ ap (λ (l : List (List ℕ × (ℕ × T))). xs ++ l) (rw (greater key e.0 lt) refl))

    pub with_between : (xs ys : List (List ℕ × (ℕ × T))) → AllByRecursion (λ f. less f.0 key ≡ true) xs → AllByRecursion (λ f. less key f.0 ≡ true) ys
        → with_entry (xs ++ ys) key prio item ≡ xs ++ (key, (prio, item)) ∷ ys
    with_between xs ys below above =
        let none = all_weaker (λ f is. apart_above key f.0 is) xs below in
        let none_either = all_weaker (λ f is. apart_below key f.0 is) ys above in
        rw (found_behind key xs ys none, found_nowhere key ys none_either)
        (put_right key (prio, item) xs ys below ∙ ap (λ (l : List (List ℕ × (ℕ × T))). xs ++ l) (put_first key (prio, item) ys above))

    pub with_here : (xs : List (List ℕ × (ℕ × T))) (e : List ℕ × (ℕ × T)) (ys : List (List ℕ × (ℕ × T)))
        → key_cmp key e.0 ≡ Equal → AllByRecursion (IsBefore e) xs → with_entry (xs ++ e ∷ ys) key prio item ≡ xs ++ (key, (e.1.0, item)) ∷ ys
    with_here xs e ys o before =
        let is : key ≡ e.0 = exact_bytes key e.0 o in
        let below : AllByRecursion (λ f. less f.0 key ≡ true) xs = all_weaker (λ f is_before. rw is is_before.0) xs before in
        let none = all_weaker (λ f is. apart_above key f.0 is) xs below in
        rw (found_behind key xs (e ∷ ys) none, ap is_eq o)
        (put_right key (e.1.0, item) xs (e ∷ ys) below ∙ ap (λ (l : List (List ℕ × (ℕ × T))). xs ++ l) (rw (o, is) refl))

module _ {T : Type 0} (new : List ℕ × (ℕ × T)) (s : Shape T) (e : List ℕ × (ℕ × T)) where
  module _ (r : Shape T) (treap : IsTreap (Fork s e r)) (lt : less new.0 e.0 ≡ true) where
    pub whole_left : (t : Shape T) → IsWhole new s t → IsWhole new (Fork s e r) (Fork t e r)
    whole_left t w = record {
      treap = ((w.treap, treap.0.1), (w.before e lt treap.1.0, treap.1.1));
      list = ap (λ (l : List (List ℕ × (ℕ × T))). l ++ e ∷ listed r) w.list ∙ sym (with_left new.0 new.1.0 new.1.1 (listed s) e (listed r) lt treap.1.1);
      before = λ f less_f all.
          let parts = all_split (IsBefore f) (listed s) (e ∷ listed r) all in
          all_join (IsBefore f) (listed t) (e ∷ listed r) (w.before f less_f parts.0) parts.1;
      behind = λ f less_f all.
          let parts = all_split (IsBehind f) (listed s) (e ∷ listed r) all in
          all_join (IsBehind f) (listed t) (e ∷ listed r) (w.behind f less_f parts.0) parts.1;
    }

    module _ (a b : Shape T) (p : AreParts new s a b) where
      sides : (P : List ℕ × (ℕ × T) → Type 0) → AllByRecursion P (listed s) → AllByRecursion P (listed a) × AllByRecursion P (listed b)
      sides P all = all_split P (listed a) (listed b) (subst (AllByRecursion P) p.list all)

      -- the new entry ranks above the node
      pub parts_left : outranks new e ≡ true → AreParts new (Fork s e r) a (Fork b e r)
      parts_left rank = record {
        treaps = (p.treaps.0, ((p.treaps.1, treap.0.1), ((sides (IsBefore e) treap.1.0).1, treap.1.1)));
        list = ap (λ (l : List (List ℕ × (ℕ × T))). l ++ e ∷ listed r) p.list ∙ append_assoc (listed a) (listed b) (e ∷ listed r);
        before = p.before;
        behind = all_join (IsBehind new) (listed b) (e ∷ listed r) p.behind
            ((lt, rank), all_weaker (λ g is. (less_trans new.0 e.0 g.0 lt is.0, outranks_trans new e g rank is.1)) (listed r) treap.1.1);
      }

      -- the node ranks above the new entry
      pub made_left : outranks e new ≡ true → IsWhole new (Fork s e r) (Fork (Fork a new b) e r)
      made_left rank = record {
        treap = (((p.treaps, (p.before, p.behind)), treap.0.1), (join_new (IsBefore e) (lt, rank) treap.1.0, treap.1.1));
        list = ap (λ (l : List (List ℕ × (ℕ × T))). l ++ e ∷ listed r) made ∙ sym (with_left new.0 new.1.0 new.1.1 (listed s) e (listed r) lt treap.1.1);
        before = λ f less_f all.
            let parts = all_split (IsBefore f) (listed s) (e ∷ listed r) all in
            all_join (IsBefore f) (listed a ++ new ∷ listed b) (e ∷ listed r) (join_new (IsBefore f) (less_f, outranks_trans f e new parts.1.0.1 rank) parts.0) parts.1;
        behind = λ f less_f all.
            let parts = all_split (IsBehind f) (listed s) (e ∷ listed r) all in
            all_join (IsBehind f) (listed a ++ new ∷ listed b) (e ∷ listed r) (join_new (IsBehind f) (less_f, outranks_trans f e new parts.1.0.1 rank) parts.0) parts.1;
      }
        where
          join_new : (P : List ℕ × (ℕ × T) → Type 0) → P new → AllByRecursion P (listed s) → AllByRecursion P (listed a ++ new ∷ listed b)
          join_new P is all = let both = sides P all in all_join P (listed a) (new ∷ listed b) both.0 (is, both.1)

          made : listed a ++ new ∷ listed b ≡ with_entry (listed s) new.0 new.1.0 new.1.1
          made = sym (ap (λ (l : List (List ℕ × (ℕ × T))). with_entry l new.0 new.1.0 new.1.1) p.list
              ∙ with_between new.0 new.1.0 new.1.1 (listed a) (listed b) (all_weaker (λ f is. is.0) (listed a) p.before) (all_weaker (λ f is. is.0) (listed b) p.behind))

  module _ (l : Shape T) (treap : IsTreap (Fork l e s)) (lt : less e.0 new.0 ≡ true) where
    pub whole_right : (t : Shape T) → IsWhole new s t → IsWhole new (Fork l e s) (Fork l e t)
    whole_right t w = record {
      treap = ((treap.0.0, w.treap), (treap.1.0, w.behind e lt treap.1.1));
      list = ap (λ (x : List (List ℕ × (ℕ × T))). listed l ++ e ∷ x) w.list ∙ sym (with_right new.0 new.1.0 new.1.1 (listed l) e (listed s) lt treap.1.0);
      before = λ f less_f all.
          let parts = all_split (IsBefore f) (listed l) (e ∷ listed s) all in
          all_join (IsBefore f) (listed l) (e ∷ listed t) parts.0 (parts.1.0, w.before f less_f parts.1.1);
      behind = λ f less_f all.
          let parts = all_split (IsBehind f) (listed l) (e ∷ listed s) all in
          all_join (IsBehind f) (listed l) (e ∷ listed t) parts.0 (parts.1.0, w.behind f less_f parts.1.1);
    }

    module _ (a b : Shape T) (p : AreParts new s a b) where
      halves : (P : List ℕ × (ℕ × T) → Type 0) → AllByRecursion P (listed s) → AllByRecursion P (listed a) × AllByRecursion P (listed b)
      halves P all = all_split P (listed a) (listed b) (subst (AllByRecursion P) p.list all)

      pub parts_right : outranks new e ≡ true → AreParts new (Fork l e s) (Fork l e a) b
      parts_right rank = record {
        treaps = (((treap.0.0, p.treaps.0), (treap.1.0, (halves (IsBehind e) treap.1.1).0)), p.treaps.1);
        list = ap (λ (x : List (List ℕ × (ℕ × T))). listed l ++ e ∷ x) p.list ∙ sym (append_assoc (listed l) (e ∷ listed a) (listed b));
        before = all_join (IsBefore new) (listed l) (e ∷ listed a)
            (all_weaker (λ g is. (less_trans g.0 e.0 new.0 is.0 lt, outranks_trans new e g rank is.1)) (listed l) treap.1.0) ((lt, rank), p.before);
        behind = p.behind;
      }

      pub made_right : outranks e new ≡ true → IsWhole new (Fork l e s) (Fork l e (Fork a new b))
      made_right rank = record {
        treap = ((treap.0.0, (p.treaps, (p.before, p.behind))), (treap.1.0, join_new (IsBehind e) (lt, rank) treap.1.1));
        list = ap (λ (x : List (List ℕ × (ℕ × T))). listed l ++ e ∷ x) made ∙ sym (with_right new.0 new.1.0 new.1.1 (listed l) e (listed s) lt treap.1.0);
        before = λ f less_f all.
            let parts = all_split (IsBefore f) (listed l) (e ∷ listed s) all in
            all_join (IsBefore f) (listed l) (e ∷ listed a ++ new ∷ listed b) parts.0 (parts.1.0, join_new (IsBefore f) (less_f, outranks_trans f e new parts.1.0.1 rank) parts.1.1);
        behind = λ f less_f all.
            let parts = all_split (IsBehind f) (listed l) (e ∷ listed s) all in
            all_join (IsBehind f) (listed l) (e ∷ listed a ++ new ∷ listed b) parts.0 (parts.1.0, join_new (IsBehind f) (less_f, outranks_trans f e new parts.1.0.1 rank) parts.1.1);
      }
        where
          join_new : (P : List ℕ × (ℕ × T) → Type 0) → P new → AllByRecursion P (listed s) → AllByRecursion P (listed a ++ new ∷ listed b)
          join_new P is all = let both = halves P all in all_join P (listed a) (new ∷ listed b) both.0 (is, both.1)

          made : listed a ++ new ∷ listed b ≡ with_entry (listed s) new.0 new.1.0 new.1.1
          made = sym (ap (λ (x : List (List ℕ × (ℕ × T))). with_entry x new.0 new.1.0 new.1.1) p.list
              ∙ with_between new.0 new.1.0 new.1.1 (listed a) (listed b) (all_weaker (λ f is. is.0) (listed a) p.before) (all_weaker (λ f is. is.0) (listed b) p.behind))
