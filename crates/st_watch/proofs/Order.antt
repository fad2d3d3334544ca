-- Entries in the order of their keys.
use Rattle.std.proofs.Common.{◌≡◌, ◌∙◌, ◌<◌, ℕ, zero, suc, Bool, true, false, cond, not, List, [], ◌∷◌, ◌++◌, map, filter, length, take, drop, get_or, ap, subst, inl, inr, arith}
use Rattle.std.proofs.lemmas.Bool.{both_ways, cases_lt, false_from_ne_true, not-true, not_from_false}
use Rattle.std.specs.List.{AllByRecursion, remove}
use Rattle.std.specs.List.Sorted.{IsPartitionedBy}
use Rattle.st_key.specs.KeyOrder.{le_less_trans, less_le_trans}
use Rattle.st_key.specs.Spans.{key_less}
use Rattle.st_watch.specs.declared.entry.Entry.{Entry}
use Rattle.st_watch.specs.declared.entry.Standing.{Standing}
use Rattle.st_watch.specs.Layout.{IsRising, with_change}
use Rattle.st_watch.proofs.Lists.{all-at, all-back, all-drop, all-filtered, all-front, all-join, all-mapped, all-take, all-weaker}

-- no key is below that of an entry before it, at any two places
pub rising-at : (xs : List Entry) (i j : ℕ) (d : Entry) → IsRising xs → i < j → j < length xs
    → key_less (get_or xs j d).standing.key (get_or xs i d).standing.key ≡ false
rising-at [] i j d rising less inside = absurd (omega arith)
rising-at (x ∷ xs) i zero d rising less inside = absurd (omega arith)
rising-at (x ∷ xs) zero (suc j) d rising less inside =
    all-at (λ e. key_less e.standing.key x.standing.key ≡ false) xs j d rising.0 (omega arith)
rising-at (x ∷ xs) (suc i) (suc j) d rising less inside = rising-at xs i j d rising.1 (omega arith) (omega arith)

-- so those with a key below this one come first, and those with this key or one below it
pub parted-below : (key : List ℕ) (xs : List Entry) → IsRising xs → IsPartitionedBy (λ entry. key_less entry.standing.key key) xs
parted-below key xs rising i j d le inside passes =
    elim (cases_lt i j) [
      | inl less ↦ le_less_trans (get_or xs i d).standing.key (get_or xs j d).standing.key key (rising-at xs i j d rising less inside) passes
      | inr more ↦ let same : j ≡ i = omega arith in subst (λ n. key_less (get_or xs n d).standing.key key ≡ true) same passes
    ]

pub parted-to : (key : List ℕ) (xs : List Entry) → IsRising xs → IsPartitionedBy (λ entry. not (key_less key entry.standing.key)) xs
parted-to key xs rising i j d le inside passes =
    elim (cases_lt i j) [
      | inl less ↦ not_from_false (key_less key (get_or xs i d).standing.key)
          (false_from_ne_true (key_less key (get_or xs i d).standing.key) (λ above.
          both_ways (key_less key (get_or xs j d).standing.key) (not-true _ passes)
          (less_le_trans key (get_or xs i d).standing.key (get_or xs j d).standing.key above (rising-at xs i j d rising less inside))))
      | inr more ↦ let same : j ≡ i = omega arith in subst (λ n. not (key_less key (get_or xs n d).standing.key) ≡ true) same passes
    ]

-- parts of entries in order are in order
pub rising-front : (xs ys : List Entry) → IsRising (xs ++ ys) → IsRising xs
rising-front [] ys rising = tt
rising-front (x ∷ xs) ys rising = (all-front _ xs ys rising.0, rising-front xs ys rising.1)

pub rising-back : (xs ys : List Entry) → IsRising (xs ++ ys) → IsRising ys
rising-back [] ys rising = rising
rising-back (x ∷ xs) ys rising = rising-back xs ys rising.1

pub rising-filtered : (p : Entry → Bool) (xs : List Entry) → IsRising xs → IsRising (filter p xs)
rising-filtered p [] rising = tt
rising-filtered p (x ∷ xs) rising = by_test (p x) (rising-filtered p xs rising.1)
  where
    by_test : (t : Bool) → IsRising (filter p xs) → IsRising (cond t (x ∷ filter p xs) (filter p xs))
    by_test true rest = (all-filtered (λ e. key_less e.standing.key x.standing.key ≡ false) p xs rising.0, rest)
    by_test false rest = rest

-- an entry goes between those with keys up to its own and those with greater keys
pub rising-with : (xs : List Entry) (x : Entry) (ys : List Entry) → IsRising (xs ++ ys)
    → AllByRecursion (λ e. key_less x.standing.key e.standing.key ≡ false) xs
    → AllByRecursion (λ e. key_less e.standing.key x.standing.key ≡ false) ys → IsRising (xs ++ x ∷ ys)
rising-with [] x ys rising below above = (above, rising)
rising-with (z ∷ xs) x ys rising below above =
    let here = λ (e : Entry). key_less e.standing.key z.standing.key ≡ false in
    (all-join here xs (x ∷ ys) (all-front here xs ys rising.0) (below.0, all-back here xs ys rising.0), rising-with xs x ys rising.1 below.1 above)

-- changes leave the keys
pub rising-changed : (change : Standing → Standing) → ((s : Standing) → (change s).key ≡ s.key) → (xs : List Entry) → IsRising xs → IsRising (map (with_change change) xs)
rising-changed change keeps [] rising = tt
rising-changed change keeps (x ∷ xs) rising = (
  all-mapped (λ e. key_less e.standing.key (change x.standing).key ≡ false) (with_change change) xs
      (all-weaker (λ e. key_less e.standing.key x.standing.key ≡ false) (λ e. key_less (change e.standing).key (change x.standing).key ≡ false)
      (λ e is. ap (λ k. key_less k (change x.standing).key) (keeps e.standing) ∙ ap (key_less e.standing.key) (keeps x.standing) ∙ is) xs rising.0),
  rising-changed change keeps xs rising.1,
)

pub rising-remove : (i : ℕ) (xs : List Entry) → IsRising xs → IsRising (remove xs i)
rising-remove zero [] rising = tt
rising-remove (suc i) [] rising = tt
rising-remove zero (x ∷ xs) rising = rising.1
rising-remove (suc i) (x ∷ xs) rising =
    let here = λ (e : Entry). key_less e.standing.key x.standing.key ≡ false in
    (all-join here (take i xs) (drop (suc i) xs) (all-take here i xs rising.0) (all-drop here (suc i) xs rising.0), rising-remove i xs rising.1)
