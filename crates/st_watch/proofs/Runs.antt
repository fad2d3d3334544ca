-- Runs of entries.
use Rattle.std.proofs.Common.{◌≡◌, ◌∙◌, ◌≤◌, ◌+◌, ◌-◌, ℕ, zero, suc, Bool, true, false, not, List, [], ◌∷◌, take, drop, length, sym, ap, subst, length-drop, arith}
use Rattle.std.proofs.Math.Seq.{take-length}
use Rattle.std.proofs.lemmas.Bool.{and_from, and_left, and_right, both_ways, false_from_ne_true, not_from_false}
use Rattle.std.proofs.lemmas.List.{drop-drop, take-append-drop}
use Rattle.std.proofs.lemmas.Slice.Eq.{bytes_eq-Decides}
use Rattle.std.specs.List.{AllByRecursion}
use Rattle.std.specs.Prelude.{bytes_eq}
use Rattle.st_key.specs.KeyOrder.{less_connected, less_irrefl}
use Rattle.st_key.specs.Spans.{Span, key_less, within}
use Rattle.st_watch.specs.declared.entry.Entry.{Entry}
use Rattle.st_watch.specs.Layout.{IsRising, IsRun}
use Rattle.st_watch.proofs.Lists.{all-weaker}
use Rattle.st_watch.proofs.Order.{rising-back, rising-front}

pub rising-take : (i : ℕ) (xs : List Entry) → IsRising xs → IsRising (take i xs)
rising-take i xs rising = rising-front (take i xs) (drop i xs) (subst IsRising (sym (take-append-drop i xs)) rising)

pub rising-drop : (i : ℕ) (xs : List Entry) → IsRising xs → IsRising (drop i xs)
rising-drop i xs rising = rising-back (take i xs) (drop i xs) (subst IsRising (sym (take-append-drop i xs)) rising)

all-both : {X : Type 0} (P Q R : X → Type 0) → ((x : X) → P x → Q x → R x) → (n : ℕ) (xs : List X) → AllByRecursion P xs → AllByRecursion Q (take n xs) → AllByRecursion R (take n xs)
all-both P Q R leads zero xs all some = tt
all-both P Q R leads (suc n) [] all some = tt
all-both P Q R leads (suc n) (x ∷ xs) all some = (leads x all.0 some.0, all-both P Q R leads n xs all.1 some.1)

all-of : {X : Type 0} (n : ℕ) (xs : List X) → n ≡ length xs → take n xs ≡ xs
all-of n xs is = ap (λ k. take k xs) is ∙ take-length xs

-- the entries before a place, and from there on those before another
run-is : (test : Entry → Bool) (P N M Q : Entry → Type 0) → ((e : Entry) → P e → test e ≡ false) → ((e : Entry) → N e → M e → test e ≡ true) → ((e : Entry) → Q e → test e ≡ false)
    → (xs : List Entry) (from n : ℕ) → from ≤ length xs → n ≤ length (take (length xs - from) (drop from xs)) → AllByRecursion P (take from xs) → AllByRecursion N (drop from xs)
    → AllByRecursion M (take n (take (length xs - from) (drop from xs))) → AllByRecursion Q (drop n (take (length xs - from) (drop from xs)))
    → IsRun test xs from (from + n)
run-is test P N M Q before inside behind xs from n bound fits first others next last =
    let whole : take (length xs - from) (drop from xs) ≡ drop from xs = all-of (length xs - from) (drop from xs) (sym (length-drop from xs)) in
    let count : from + n - from ≡ n = omega arith in
    let fits' : n ≤ length (drop from xs) = subst (λ l. n ≤ length l) whole fits in record {
      order = omega arith;
      bound = omega (arith, length-drop from xs);
      before = all-weaker P (λ e. test e ≡ false) before (take from xs) first;
      inside = subst (λ k. AllByRecursion (λ e. test e ≡ true) (take k (drop from xs))) (sym count)
          (all-both N M (λ e. test e ≡ true) inside n (drop from xs) others (subst (λ l. AllByRecursion M (take n l)) whole next));
      behind = all-weaker Q (λ e. test e ≡ false) behind (drop (from + n) xs)
          (subst (λ l. AllByRecursion Q l) (drop-drop n from xs) (subst (λ l. AllByRecursion Q (drop n l)) whole last));
    }

not_key : (a key : List ℕ) → key_less a key ≡ true → bytes_eq a key ≡ false
not_key a key less = false_from_ne_true (bytes_eq a key) (λ is.
    both_ways (key_less a key) (subst (λ k. key_less a k ≡ false) ((bytes_eq-Decides a key).0 is) (less_irrefl a)) less)

not_key_above : (a key : List ℕ) → key_less key a ≡ true → bytes_eq a key ≡ false
not_key_above a key less = false_from_ne_true (bytes_eq a key) (λ is.
    both_ways (key_less key a) (subst (λ k. key_less k a ≡ false) ((bytes_eq-Decides a key).0 is) (less_irrefl a)) less)

pub run-of-key : (key : List ℕ) (xs : List Entry) (from n : ℕ) → from ≤ length xs → n ≤ length (take (length xs - from) (drop from xs))
    → AllByRecursion (λ e. key_less e.standing.key key ≡ true) (take from xs) → AllByRecursion (λ e. key_less e.standing.key key ≡ false) (drop from xs)
    → AllByRecursion (λ e. key_less key e.standing.key ≡ false) (take n (take (length xs - from) (drop from xs)))
    → AllByRecursion (λ e. key_less key e.standing.key ≡ true) (drop n (take (length xs - from) (drop from xs)))
    → IsRun (λ e. bytes_eq e.standing.key key) xs from (from + n)
run-of-key key xs from n bound fits first others next last =
    run-is (λ e. bytes_eq e.standing.key key)
    (λ e. key_less e.standing.key key ≡ true) (λ e. key_less e.standing.key key ≡ false) (λ e. key_less key e.standing.key ≡ false) (λ e. key_less key e.standing.key ≡ true)
    (λ e less. not_key e.standing.key key less)
    (λ e low high. (bytes_eq-Decides e.standing.key key).1 (less_connected e.standing.key key low high))
    (λ e less. not_key_above e.standing.key key less)
    xs from n bound fits first others next last

pub run-of-range : (span : Span) (xs : List Entry) (from n : ℕ) → from ≤ length xs → n ≤ length (take (length xs - from) (drop from xs))
    → AllByRecursion (λ e. key_less e.standing.key span.begin ≡ true) (take from xs) → AllByRecursion (λ e. key_less e.standing.key span.begin ≡ false) (drop from xs)
    → AllByRecursion (λ e. key_less e.standing.key span.end ≡ true) (take n (take (length xs - from) (drop from xs)))
    → AllByRecursion (λ e. key_less e.standing.key span.end ≡ false) (drop n (take (length xs - from) (drop from xs)))
    → IsRun (λ e. within span e.standing.key) xs from (from + n)
run-of-range span xs from n bound fits first others next last =
    run-is (λ e. within span e.standing.key)
    (λ e. key_less e.standing.key span.begin ≡ true) (λ e. key_less e.standing.key span.begin ≡ false) (λ e. key_less e.standing.key span.end ≡ true) (λ e. key_less e.standing.key span.end ≡ false)
    (λ e less. and_left _ (key_less e.standing.key span.end) (ap not less))
    (λ e low high. and_from _ _ (not_from_false (key_less e.standing.key span.begin) low) high)
    (λ e above. and_right (not (key_less e.standing.key span.begin)) _ above)
    xs from n bound fits first others next last
