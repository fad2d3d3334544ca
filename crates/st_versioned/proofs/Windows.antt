-- What a window keeps of itself.
use Rattle.std.proofs.Common.{◌≡◌, ◌∙◌, ◌≤◌, ◌<◌, ◌&&◌, ◌||◌, ◌++◌, ◌-◌, ◌+◌, ℕ, zero, suc, max, Bool, true, false, cond, get_or, take, nat_le, nat_lt, leb-true, le-leb, List, [], ◌∷◌, filter, length, Option, Some, None, refl, sym, ap, subst, arith}
use Rattle.std.proofs.lemmas.Bool.{and_from, and_parts, false_from_ne_true, false≢true, lt-leb}
use Rattle.std.proofs.lemmas.List.{append-nil, take_more}
use Rattle.std.specs.List.{AllByRecursion, list_all, list_any, slice_get}
use Rattle.std.specs.Option.{ForSome, option_map, option_map_or, option_or}
use Rattle.st_mutation.specs.declared.batch.Mutation.{Mutation}
use Rattle.st_ptree.specs.Entries.{last_of}
use Rattle.st_versioned.specs.Apart.{AreApart, HasKey}
use Rattle.st_versioned.specs.Window.{Stands, Versions, abandoned, begun, changed, forgot, is_rising, Kept, kept_from, last_to, latest, newest_root, with_change, with_mutation}
use Rattle.st_versioned.specs.declared.change.Change.{Change}
use Rattle.st_versioned.specs.Writing.{made_above}
use Rattle.st_versioned.proofs.Changes.{is-changed}
use Rattle.st_versioned.proofs.Reaching.{apart-filter}

-- each of some roots, at a place
all-at : {X : Type 0} (P : X → Type 0) (xs : List X) (i : ℕ) (x : X) → AllByRecursion P xs → slice_get xs i ≡ Some x → P x
all-at P [] i x all is = absurd (cc (is))
all-at P (y ∷ xs) zero x all is = let one : y ≡ x = cc (is) in subst P one all.0
all-at P (y ∷ xs) (suc i) x all is = all-at P xs i x all.1 is

newest-apart : (window : Versions) → Stands window → AreApart (newest_root window)
newest-apart window stands = by_last (slice_get window.roots (length window.roots - 1)) refl
  where
    by_last : (o : Option Kept) → slice_get window.roots (length window.roots - 1) ≡ o → AreApart (option_map_or (λ kept. kept.root) o [])
    by_last None is = tt
    by_last (Some kept) is = all-at (λ k. AreApart k.root) window.roots (length window.roots - 1) kept stands.apart is

module _ {X : Type 0} (P : X → Type 0) where
  pub all-one-more : (xs : List X) (x : X) → AllByRecursion P xs → P x → AllByRecursion P (xs ++ x ∷ [])
  all-one-more [] x all one = (one, tt)
  all-one-more (y ∷ xs) x all one = (all.0, all-one-more xs x all.1 one)

  pub all-filtered : (p : X → Bool) (xs : List X) → AllByRecursion P xs → AllByRecursion P (filter p xs)
  all-filtered p [] all = tt
  all-filtered p (x ∷ xs) all = by_test (p x) (all-filtered p xs all.1) all.0
    where
      by_test : (t : Bool) → AllByRecursion P (filter p xs) → P x → AllByRecursion P (cond t (x ∷ filter p xs) (filter p xs))
      by_test true rest here = (here, rest)
      by_test false rest here = rest

all-weaker : {X : Type 0} (P Q : X → Type 0) → ((x : X) → P x → Q x) → (xs : List X) → AllByRecursion P xs → AllByRecursion Q xs
all-weaker P Q from [] all = tt
all-weaker P Q from (x ∷ xs) all = (from x all.0, all-weaker P Q from xs all.1)

-- those that pass a test
all-passing : {X : Type 0} (P : X → Type 0) (p : X → Bool) → ((x : X) → p x ≡ true → P x) → (xs : List X) → AllByRecursion P (filter p xs)
all-passing P p from [] = tt
all-passing P p from (x ∷ xs) = by_test (p x) refl (all-passing P p from xs)
  where
    by_test : (t : Bool) → p x ≡ t → AllByRecursion P (filter p xs) → AllByRecursion P (cond t (x ∷ filter p xs) (filter p xs))
    by_test true is rest = (from x is, rest)
    by_test false is rest = rest

module _ {X : Type 0} (p : X → Bool) where
  any-one-more : (xs : List X) (x : X) → list_any p xs ≡ true → list_any p (xs ++ x ∷ []) ≡ true
  any-one-more [] x any = absurd (false≢true any)
  any-one-more (y ∷ xs) x any = by_test (p y) (any-one-more xs x) any
    where
      by_test : (t : Bool) → (list_any p xs ≡ true → list_any p (xs ++ x ∷ []) ≡ true) → (t || list_any p xs) ≡ true → (t || list_any p (xs ++ x ∷ [])) ≡ true
      by_test true rest is = refl
      by_test false rest is = rest is

  -- where one passes, a last one does
  last-passing : (A : Type 0) (xs : List X) → list_any p xs ≡ true → last_of (filter p xs) ≡ None → A
  last-passing A [] any none = absurd (false≢true any)
  last-passing A (x ∷ xs) any none = by_test (p x) (last-passing A xs) any none
    where
      some : (o : Option X) → option_or o (Some x) ≡ None → A
      some (Some y) none = absurd (cc (none))
      some None none = absurd (cc (none))

      by_test : (t : Bool) → (list_any p xs ≡ true → last_of (filter p xs) ≡ None → A) → (t || list_any p xs) ≡ true → last_of (cond t (x ∷ filter p xs) (filter p xs)) ≡ None → A
      by_test true rest any none = some (last_of (filter p xs)) none
      by_test false rest any none = rest any none

  -- the last one that passes stays where another test passes it
  last-stays : (q : X → Bool) (xs : List X) (x : X) → last_of (filter p xs) ≡ Some x → q x ≡ true → list_any p (filter q xs) ≡ true
  last-stays q [] x is stays = absurd (cc (is))
  last-stays q (y ∷ xs) x is stays = by_test (p y) refl (λ last. last-stays q xs x last stays) is
    where
      more : (t : Bool) → list_any p (filter q xs) ≡ true → list_any p (cond t (y ∷ filter q xs) (filter q xs)) ≡ true
      more false rest = rest
      more true rest = or_true (p y)
        where
          or_true : (t : Bool) → (t || list_any p (filter q xs)) ≡ true
          or_true true = refl
          or_true false = rest

      here : (t : Bool) → p y ≡ true → t ≡ true → list_any p (cond t (y ∷ filter q xs) (filter q xs)) ≡ true
      here false passes kept = absurd (false≢true kept)
      here true passes kept = ap (λ t. t || list_any p (filter q xs)) passes

      by_last : (o : Option X) → last_of (filter p xs) ≡ o → p y ≡ true → (last_of (filter p xs) ≡ Some x → list_any p (filter q xs) ≡ true) → option_or o (Some y) ≡ Some x → list_any p (cond (q y) (y ∷ filter q xs) (filter q xs)) ≡ true
      by_last (Some z) last passes rest is = let one : z ≡ x = cc (is) in more (q y) (rest (last ∙ ap Some one))
      by_last None last passes rest is = let one : y ≡ x = cc (is) in here (q y) passes (ap q one ∙ stays)

      by_test : (t : Bool) → p y ≡ t → (last_of (filter p xs) ≡ Some x → list_any p (filter q xs) ≡ true) → last_of (cond t (y ∷ filter p xs) (filter p xs)) ≡ Some x → list_any p (cond (q y) (y ∷ filter q xs) (filter q xs)) ≡ true
      by_test true passes rest is = by_last (last_of (filter p xs)) refl passes rest is
      by_test false passes rest is = more (q y) (rest is)

  -- a filter that all pass
  filter-whole : (xs : List X) → AllByRecursion (λ x. p x ≡ true) xs → filter p xs ≡ xs
  filter-whole [] all = refl
  filter-whole (x ∷ xs) all = ap (λ t. cond t (x ∷ filter p xs) (filter p xs)) all.0 ∙ ap (λ r. x ∷ r) (filter-whole xs all.1)

any-later : (low high : ℕ) → low ≤ high → (roots : List Kept) → list_any (λ kept. nat_le kept.version low) roots ≡ true → list_any (λ kept. nat_le kept.version high) roots ≡ true
any-later low high le [] any = absurd (false≢true any)
any-later low high le (kept ∷ later) any = by_test (nat_le kept.version low) refl (any-later low high le later) any
  where
    rest : (t : Bool) → list_any (λ k. nat_le k.version high) later ≡ true → (t || list_any (λ k. nat_le k.version high) later) ≡ true
    rest true is = refl
    rest false is = is

    by_test : (t : Bool) → nat_le kept.version low ≡ t → (list_any (λ k. nat_le k.version low) later ≡ true → list_any (λ k. nat_le k.version high) later ≡ true)
        → (t || list_any (λ k. nat_le k.version low) later) ≡ true → (nat_le kept.version high || list_any (λ k. nat_le k.version high) later) ≡ true
    by_test true is more any = let small : kept.version ≤ low = leb-true _ _ is in ap (λ t. t || list_any (λ k. nat_le k.version high) later) (le-leb kept.version high (omega arith))
    by_test false is more any = rest (nat_le kept.version high) (more any)

rising-push : (newest : ℕ) (roots : List Kept) (kept : Kept) → newest < kept.version → AllByRecursion (λ k. k.version ≤ newest) roots → is_rising roots ≡ true → is_rising (roots ++ kept ∷ []) ≡ true
rising-push newest [] kept above within rising = refl
rising-push newest (first ∷ later) kept above within rising =
    let parts = and_parts (list_all (λ other. nat_lt first.version other.version) later) (is_rising later) rising in
    and_from (list_all (λ other. nat_lt first.version other.version) (later ++ kept ∷ [])) (is_rising (later ++ kept ∷ []))
    (below later parts.0)
    (rising-push newest later kept above within.1 parts.1)
  where
    less : nat_lt first.version kept.version ≡ true
    less = let small : first.version ≤ newest = within.0 in le-leb (suc first.version) kept.version (omega (arith, small, above))

    below : (rest : List Kept) → list_all (λ other. nat_lt first.version other.version) rest ≡ true → list_all (λ other. nat_lt first.version other.version) (rest ++ kept ∷ []) ≡ true
    below [] all = and_from (nat_lt first.version kept.version) true less refl
    below (k ∷ rest) all =
        let parts = and_parts (nat_lt first.version k.version) (list_all (λ other. nat_lt first.version other.version) rest) all in
        and_from (nat_lt first.version k.version) (list_all (λ other. nat_lt first.version other.version) (rest ++ kept ∷ [])) parts.0 (below rest parts.1)

rising-filter : (p : Kept → Bool) (roots : List Kept) → is_rising roots ≡ true → is_rising (filter p roots) ≡ true
rising-filter p [] rising = refl
rising-filter p (kept ∷ later) rising =
    let parts = and_parts (list_all (λ other. nat_lt kept.version other.version) later) (is_rising later) rising in
    by_test (p kept) (rising-filter p later parts.1) (list_all-filter (λ other. nat_lt kept.version other.version) p later parts.0)
  where
    list_all-filter : (q p : Kept → Bool) (rest : List Kept) → list_all q rest ≡ true → list_all q (filter p rest) ≡ true
    list_all-filter q p [] all = refl
    list_all-filter q p (k ∷ rest) all =
        let parts = and_parts (q k) (list_all q rest) all in
        by_kept (p k) (list_all-filter q p rest parts.1) parts.0
      where
        by_kept : (t : Bool) → list_all q (filter p rest) ≡ true → q k ≡ true → list_all q (cond t (k ∷ filter p rest) (filter p rest)) ≡ true
        by_kept true more here = and_from (q k) (list_all q (filter p rest)) here more
        by_kept false more here = more

    by_test : (t : Bool) → is_rising (filter p later) ≡ true → list_all (λ other. nat_lt kept.version other.version) (filter p later) ≡ true → is_rising (cond t (kept ∷ filter p later) (filter p later)) ≡ true
    by_test true rest all = and_from (list_all (λ other. nat_lt kept.version other.version) (filter p later)) (is_rising (filter p later)) all rest
    by_test false rest all = rest

pub stands-begun : (window : Versions) (version : ℕ) → Stands window → window.making ≡ None → window.newest < version → Stands (begun version window)
stands-begun window version stands none above = record {
  order = stands.order;
  newer = λ kept is. let one : record { version = version; root = made_above window.forgotten (newest_root window) } ≡ kept = cc (is) in subst (λ (k : Kept). window.newest < k.version) one above;
  first = stands.first;
  rising = stands.rising;
  within = stands.within;
  apart = stands.apart;
  making_apart = λ kept is.
      let one : record { version = version; root = made_above window.forgotten (newest_root window) } ≡ kept = cc (is) in
      subst (λ (k : Kept). AreApart k.root) one (apart-filter (λ row. nat_lt window.forgotten row.1.version) (newest_root window) (newest-apart window stands));
  made = all-weaker (λ made. made.0 ≤ latest window) (λ made. made.0 ≤ version) (λ made le.
      let one : made.0 ≤ window.newest = subst (λ (o : Option Kept). made.0 ≤ option_map_or (λ kept. kept.version) o window.newest) none le in
      omega (arith, one, above)) window.mutations stands.made;
}

pub stands-changed : (window : Versions) (change : Change) → HasKey change → Stands window → Stands (with_change change window)
stands-changed window change has_key stands = by_making window.making stands.newer stands.making_apart stands.made
  where
    by_making : (o : Option Kept) → ForSome o (λ kept. window.newest < kept.version) → ForSome o (λ kept. AreApart kept.root)
        → AllByRecursion (λ made. made.0 ≤ option_map_or (λ kept. kept.version) o window.newest) window.mutations
        → Stands (record window { making = option_map (changed change) o })
    by_making None newer apart made = record {
      order = stands.order;
      newer = λ kept is. absurd (cc (is));
      first = stands.first;
      rising = stands.rising;
      within = stands.within;
      apart = stands.apart;
      making_apart = λ kept is. absurd (cc (is));
      made = made;
    }
    by_making (Some kept) newer apart made = record {
      order = stands.order;
      newer = λ k is. let one : changed change kept ≡ k = cc (is) in subst (λ (x : Kept). window.newest < x.version) one (newer kept refl);
      first = stands.first;
      rising = stands.rising;
      within = stands.within;
      apart = stands.apart;
      making_apart = λ k is. let one : changed change kept ≡ k = cc (is) in subst (λ (x : Kept). AreApart x.root) one ((is-changed kept.version change kept.root (apart kept refl) has_key).apart);
      made = made;
    }

pub stands-begin : (window : Versions) (version : ℕ) (roots : List Kept) (kept : Kept) → Stands window → window.making ≡ None → window.newest < version → roots ≡ window.roots
    → kept ≡ record { version = version; root = made_above window.forgotten (newest_root window) }
    → Stands (record { forgotten = window.forgotten; newest = window.newest; roots = roots; making = Some kept; mutations = window.mutations })
stands-begin window version roots kept stands none above same_roots is =
    subst (λ (w : Versions). Stands w)
    (λ i. record { forgotten = window.forgotten; newest = window.newest; roots = sym same_roots i; making = Some (sym is i); mutations = window.mutations })
    (stands-begun window version stands none above)

-- a change that was made
pub stands-remade : (window : Versions) (kept new : Kept) (change : Change) → window.making ≡ Some kept → Stands window → HasKey change → new ≡ changed change kept
    → Stands (record { forgotten = window.forgotten; newest = window.newest; roots = window.roots; making = Some new; mutations = window.mutations })
stands-remade window kept new change making stands has_key is =
    subst (λ (w : Versions). Stands w)
    ((λ i. with_change change (record window { making = making i }))
    ∙ (λ i. record { forgotten = window.forgotten; newest = window.newest; roots = window.roots; making = Some (sym is i); mutations = window.mutations }))
    (stands-changed window change has_key stands)

-- and the window is the one with the change
pub remade-is : (window : Versions) (kept new : Kept) (change : Change) → window.making ≡ Some kept → new ≡ changed change kept
    → record { forgotten = window.forgotten; newest = window.newest; roots = window.roots; making = Some new; mutations = window.mutations } ≡ with_change change window
remade-is window kept new change making is =
    (λ i. record { forgotten = window.forgotten; newest = window.newest; roots = window.roots; making = Some (is i); mutations = window.mutations })
    ∙ (λ i. with_change change (record window { making = sym making i }))

-- a window with other mutations that are made up to the same version
pub stands-made : (window : Versions) (mutations : List (ℕ × Mutation)) → Stands window → AllByRecursion (λ made. made.0 ≤ latest window) mutations → Stands (record window { mutations = mutations })
stands-made window mutations stands made = record {
  order = stands.order;
  newer = stands.newer;
  first = stands.first;
  rising = stands.rising;
  within = stands.within;
  apart = stands.apart;
  making_apart = stands.making_apart;
  made = made;
}

pub stands-mutated : (window : Versions) (kept : Kept) (mutation : Mutation) → window.making ≡ Some kept → Stands window → Stands (record window { mutations = window.mutations ++ (kept.version, mutation) ∷ [] })
stands-mutated window kept mutation making stands =
    let here : latest window ≡ kept.version = ap (λ (o : Option Kept). option_map_or (λ k. k.version) o window.newest) making in
    stands-made window (window.mutations ++ (kept.version, mutation) ∷ []) stands
    (all-one-more (λ made. made.0 ≤ latest window) window.mutations (kept.version, mutation) stands.made (omega (arith, here)))

pub stands-sealed : (window : Versions) (kept : Kept) → window.making ≡ Some kept → Stands window
    → Stands (record { forgotten = window.forgotten; newest = kept.version; roots = window.roots ++ kept ∷ []; making = None; mutations = window.mutations })
stands-sealed window kept making stands =
    let above : window.newest < kept.version = stands.newer kept making in
    record {
      order = omega (arith, above, stands.order);
      newer = λ k is. absurd (cc (is));
      first = any-one-more (λ k. nat_le k.version window.forgotten) window.roots kept stands.first;
      rising = rising-push window.newest window.roots kept above stands.within stands.rising;
      within = all-one-more (λ k. k.version ≤ kept.version) window.roots kept
          (all-weaker (λ k. k.version ≤ window.newest) (λ k. k.version ≤ kept.version) (λ k le. omega (arith, above, le)) window.roots stands.within) (omega arith);
      apart = all-one-more (λ k. AreApart k.root) window.roots kept stands.apart (stands.making_apart kept making);
      making_apart = λ k is. absurd (cc (is));
      made = all-weaker (λ made. made.0 ≤ latest window) (λ made. made.0 ≤ kept.version) (λ made le.
          subst (λ (o : Option Kept). made.0 ≤ option_map_or (λ k. k.version) o window.newest) making le) window.mutations stands.made;
    }

pub stands-abandoned : (window : Versions) → Stands window → Stands (abandoned window)
stands-abandoned window stands = record {
  order = stands.order;
  newer = λ k is. absurd (cc (is));
  first = stands.first;
  rising = stands.rising;
  within = stands.within;
  apart = stands.apart;
  making_apart = λ k is. absurd (cc (is));
  made = all-passing (λ made. made.0 ≤ window.newest) (λ made. nat_le made.0 window.newest) (λ made is. leb-true _ _ is) window.mutations;
}

-- a root at or below the version stays, the last of them
kept-first : (version : ℕ) (roots : List Kept) → list_any (λ kept. nat_le kept.version version) roots ≡ true
    → list_any (λ kept. nat_le kept.version version) (filter (λ kept. nat_le (kept_from version roots) kept.version) roots) ≡ true
kept-first version roots any = by_last (last_to version roots) refl
  where
    by_last : (o : Option Kept) → last_to version roots ≡ o
        → list_any (λ kept. nat_le kept.version version) (filter (λ kept. nat_le (option_map_or (λ k. k.version) o 0) kept.version) roots) ≡ true
    by_last None is = last-passing (λ kept. nat_le kept.version version) _ roots any is
    by_last (Some last) is = last-stays (λ kept. nat_le kept.version version) (λ kept. nat_le last.version kept.version) roots last is (le-leb _ _ (omega arith))

pub stands-forgot : (version : ℕ) (window : Versions) → version ≤ window.newest → Stands window → Stands (forgot version window)
stands-forgot version window le stands = record {
  order = omega (arith, le, stands.order);
  newer = stands.newer;
  first = kept-first (max window.forgotten version) window.roots (any-later window.forgotten (max window.forgotten version) (omega arith) window.roots stands.first);
  rising = rising-filter _ window.roots stands.rising;
  within = all-filtered (λ kept. kept.version ≤ window.newest) _ window.roots stands.within;
  apart = all-filtered (λ kept. AreApart kept.root) _ window.roots stands.apart;
  making_apart = stands.making_apart;
  made = all-filtered (λ made. made.0 ≤ latest window) _ window.mutations stands.made;
}

-- from the forgotten version on there is a root
pub no-root : (version : ℕ) (window : Versions) → Stands window → window.forgotten ≤ version → last_to version window.roots ≡ None → (A : Type 0) → A
no-root version window stands le none A =
    last-passing (λ kept. nat_le kept.version version) A window.roots (any-later window.forgotten version le window.roots stands.first) none

-- mutations of a version that is given up go, and others stay
pub abandoned-begun : (window : Versions) (version : ℕ) → Stands window → window.making ≡ None → abandoned (begun version window) ≡ window
abandoned-begun window version stands none = λ i. record {
  forgotten = window.forgotten;
  newest = window.newest;
  roots = window.roots;
  making = sym none i;
  mutations = filter-whole (λ made. nat_le made.0 window.newest) window.mutations (all-weaker (λ made. made.0 ≤ latest window) (λ made. nat_le made.0 window.newest ≡ true)
      (λ made le. le-leb _ _ (subst (λ (o : Option Kept). made.0 ≤ option_map_or (λ kept. kept.version) o window.newest) none le)) window.mutations stands.made) i;
}

-- the last of one more
last-more : {X : Type 0} (xs : List X) (x : X) → last_of (xs ++ x ∷ []) ≡ Some x
last-more [] x = refl
last-more (y ∷ xs) x = ap (λ o. option_or o (Some y)) (last-more xs x)

filter-more : {X : Type 0} (p : X → Bool) (xs : List X) (x : X) → filter p (xs ++ x ∷ []) ≡ filter p xs ++ filter p (x ∷ [])
filter-more p [] x = refl
filter-more p (y ∷ xs) x = by_test (p y) (filter-more p xs x)
  where
    by_test : (t : Bool) → filter p (xs ++ x ∷ []) ≡ filter p xs ++ filter p (x ∷ []) → cond t (y ∷ filter p (xs ++ x ∷ [])) (filter p (xs ++ x ∷ [])) ≡ cond t (y ∷ filter p xs) (filter p xs) ++ filter p (x ∷ [])
    by_test true rest = ap (λ r. y ∷ r) rest
    by_test false rest = rest

last_to-more : (version : ℕ) (roots : List Kept) (kept : Kept) → last_to version (roots ++ kept ∷ []) ≡ (cond (nat_le kept.version version) (Some kept) (last_to version roots))
last_to-more version roots kept = ap last_of (filter-more (λ k. nat_le k.version version) roots kept) ∙ by_test (nat_le kept.version version)
  where
    by_test : (t : Bool) → last_of (filter (λ k. nat_le k.version version) roots ++ cond t (kept ∷ []) []) ≡ cond t (Some kept) (last_to version roots)
    by_test true = last-more (filter (λ k. nat_le k.version version) roots) kept
    by_test false = ap last_of (append-nil (filter (λ k. nat_le k.version version) roots))

module _ (version : ℕ) (roots : List Kept) (i : ℕ) (kept : Kept) (inside : i < length roots) (is : kept ≡ get_or roots i kept) where
  last_to-next : last_to version (take (i + 1) roots) ≡ (cond (nat_le kept.version version) (Some kept) (last_to version (take i roots)))
  last_to-next = ap (last_to version) (take_more roots i kept inside ∙ ap (λ k. take i roots ++ k ∷ []) (sym is)) ∙ last_to-more version (take i roots) kept

  pub last_to-here : kept.version ≤ version → last_to version (take (i + 1) roots) ≡ Some kept
  last_to-here le = last_to-next ∙ ap (λ t. cond t (Some kept) (last_to version (take i roots))) (le-leb _ _ le)

  pub last_to-past : version < kept.version → last_to version (take (i + 1) roots) ≡ last_to version (take i roots)
  last_to-past lt =
      last_to-next ∙ ap (λ t. cond t (Some kept) (last_to version (take i roots))) (false_from_ne_true (nat_le kept.version version) (λ is. let le : kept.version ≤ version = leb-true _ _ is in omega (arith, le, lt)))

-- the window that forgot, by its parts
pub forgot-is : (version : ℕ) (window : Versions) (forgotten from : ℕ) (roots : List Kept) (mutations : List (ℕ × Mutation)) → forgotten ≡ max window.forgotten version → from ≡ kept_from forgotten window.roots
    → roots ≡ filter (λ kept. nat_le from kept.version) window.roots → mutations ≡ filter (λ made. nat_lt forgotten made.0) window.mutations
    → record { forgotten = forgotten; newest = window.newest; roots = roots; making = window.making; mutations = mutations } ≡ forgot version window
forgot-is version window forgotten from roots mutations forgotten_is from_is roots_is mutations_is =
    let at : from ≡ kept_from (max window.forgotten version) window.roots = from_is ∙ ap (λ v. kept_from v window.roots) forgotten_is in
    let left : roots ≡ (forgot version window).roots = roots_is ∙ ap (λ v. filter (λ kept. nat_le v kept.version) window.roots) at in
    let made : mutations ≡ (forgot version window).mutations = mutations_is ∙ ap (λ v. filter (λ made. nat_lt v made.0) window.mutations) forgotten_is in
    λ i. record { forgotten = forgotten_is i; newest = window.newest; roots = left i; making = window.making; mutations = made i }

-- the version of the last root to one
pub kept_from-is : {R : Type 0} (view : R → Kept) (r : Option R) (last : Option Kept) → option_map view r ≡ last → option_map_or (λ (x : R). (view x).version) r 0 ≡ option_map_or (λ (k : Kept). k.version) last 0
kept_from-is view None last is = ap (λ (o : Option Kept). option_map_or (λ k. k.version) o 0) is
kept_from-is view (Some x) last is = ap (λ (o : Option Kept). option_map_or (λ k. k.version) o 0) is

pub abandoned-mutated : (window : Versions) (mutation : Mutation) → Stands window → abandoned (with_mutation mutation window) ≡ abandoned window
abandoned-mutated window mutation stands = ap (λ (made : List (ℕ × Mutation)). record { forgotten = window.forgotten; newest = window.newest; roots = window.roots; making = None; mutations = made })
    (by_making window.making stands.newer)
  where
    by_making : (o : Option Kept) → ForSome o (λ kept. window.newest < kept.version)
        → filter (λ made. nat_le made.0 window.newest) (window.mutations ++ option_map_or (λ (kept : Kept). (kept.version, mutation) ∷ []) o []) ≡ filter (λ made. nat_le made.0 window.newest) window.mutations
    by_making None newer = ap (filter (λ made. nat_le made.0 window.newest)) (append-nil window.mutations)
    by_making (Some kept) newer =
        filter-more (λ made. nat_le made.0 window.newest) window.mutations (kept.version, mutation)
        ∙ ap (λ t. filter (λ made. nat_le made.0 window.newest) window.mutations ++ cond t ((kept.version, mutation) ∷ []) []) (lt-leb kept.version window.newest (newer kept refl))
        ∙ append-nil (filter (λ made. nat_le made.0 window.newest) window.mutations)

-- a change leaves the version in the making
pub version_stays : (change : Change) (making : Option Kept) → option_map (λ (kept : Kept). kept.version) (option_map (changed change) making) ≡ option_map (λ (kept : Kept). kept.version) making
version_stays change None = refl
version_stays change (Some kept) = refl
