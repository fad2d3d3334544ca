-- A batch more in the versions that are kept.
use Rattle.std.proofs.Common.{◌≡◌, ◌∙◌, ◌≤◌, ◌<◌, ◌++◌, ◌||◌, ℕ, suc, Bool, true, false, cond, nat_le, nat_lt, leb-true, leb-false, le-leb, List, [], ◌∷◌, filter, Option, Some, None, IfSome, refl, sym, ap, subst, arith, append_assoc}
use Rattle.std.specs.List.{AllByRecursion, list_any}
use Rattle.std.specs.Option.{option_map, option_map_or}
use Rattle.std.proofs.lemmas.Bool.{lt-leb}
use Rattle.std.proofs.lemmas.List.{append-nil}
use Rattle.std.proofs.lemmas.List.Elements.{filter-append}
use Rattle.st_mutation.specs.Clip.{clipped, value_by_part}
use Rattle.st_mutation.specs.Effect.{value_by}
use Rattle.st_mutation.specs.declared.batch.Batch.{Batch}
use Rattle.st_mutation.specs.declared.batch.Mutation.{Mutation}
use Rattle.st_mutation.specs.declared.batch.Mutation.TheVariants.{Set, Clear, Atomic}
use Rattle.st_key.specs.Spans.{Span, all_keys, within}
use Rattle.std.proofs.lemmas.Bool.{false≢true}
use Rattle.std.proofs.lemmas.Option.{same_Some}
use Rattle.st_ptree.specs.Entries.{last_of}
use Rattle.st_versioned.specs.Apart.{AreApart}
use Rattle.st_versioned.specs.Root.{Pairs, Row, decided, decision_above, over}
use Rattle.st_versioned.specs.Writing.{made_above}
use Rattle.st_versioned.specs.Window.{Kept, Stands, Versions, begun, last_to, mutations_to, newest_root, root_of, sealed}
use Rattle.st_board.specs.Kept.{IsUsers, KeepsVersions, NeverFall, led_to}
use Rattle.st_board.specs.Storing.{all_stored, making_root, stored_in, stored_parts, with_stored}
use Rattle.st_board.specs.Stands.{all_served}
use Rattle.st_board.specs.Tells.{TellsTo}
use Rattle.st_course.specs.Sent.{stored_as, value_of}
use Rattle.st_board.proofs.Deciding.{WritesDecide, apart-above}
use Rattle.st_board.proofs.Lists.{all-append, all-last, all-weaker, filter-all, filter-none, last-is, last-more, last-none}
use Rattle.st_board.proofs.Logs.{IsNext, value-between, value-next}
use Rattle.st_board.proofs.Stores.{Making, SameButMaking, kept_at, making-all, noted, root_with, with-making, with-noted, with-same}
use Rattle.st_board.proofs.Telling.{makes-first, makes-last, tells-above, tells-later}

-- ---- roots

-- every root that is kept is of a version up to the newest, so the last of them is the newest
newest-last : (window : Versions) (version : ℕ) → window.newest ≤ version → AllByRecursion (λ kept. kept.version ≤ window.newest) window.roots → last_to version window.roots ≡ last_of window.roots
newest-last window version le within =
    ap last_of (filter-all (λ kept. nat_le kept.version version) window.roots (all-weaker (λ kept. kept.version ≤ window.newest) (λ kept. nat_le kept.version version ≡ true) (λ kept is. le-leb kept.version version (omega arith)) window.roots within))

newest-is : (window : Versions) → newest_root window ≡ option_map_or (λ kept. kept.root) (last_of window.roots) []
newest-is window = ap (λ (o : Option Kept). option_map_or (λ kept. kept.root) o []) (last-is window.roots)

-- inside the versions that can be read
pub inside : (window : Versions) (version : ℕ) → window.forgotten ≤ version → version ≤ window.newest → root_of window version ≡ option_map (λ kept. kept.root) (last_to version window.roots)
inside window version low high =
    ap (λ (t : Bool). cond (t || nat_lt window.newest version) None (option_map (λ kept. kept.root) (last_to version window.roots))) (lt-leb (suc version) window.forgotten (omega arith))
    ∙ ap (λ (t : Bool). cond t None (option_map (λ kept. kept.root) (last_to version window.roots))) (lt-leb (suc window.newest) version (omega arith))

-- ---- what a batch adds

-- what stored mutations add: they are of this version, and nothing else but the making changes
pub record Adds (version : ℕ) (before after : Versions) : Type 0 where
  pub same : SameButMaking before after
  pub root : List Row
  pub is : after.making ≡ Some (kept_at version root)
  pub added : List (ℕ × Mutation)
  pub made : after.mutations ≡ before.mutations ++ added
  pub at : AllByRecursion (λ made. made.0 ≡ version) added

noted-at : (version : ℕ) (s : Option Mutation) → AllByRecursion (λ made. made.0 ≡ version) (noted version s)
noted-at version None = tt
noted-at version (Some (Set key value)) = (refl, tt)
noted-at version (Some (Clear span)) = (refl, tt)
noted-at version (Some (Atomic op key operand)) = tt

adds-stored : (base : Pairs) (version : ℕ) (before after : Versions) (mutation : Mutation) → Adds version before after → Adds version before (stored_in base after mutation)
adds-stored base version before after mutation adds = record {
  same = record {
    forgotten = still.forgotten ∙ adds.same.forgotten;
    newest = still.newest ∙ adds.same.newest;
    roots = still.roots ∙ adds.same.roots;
  };
  root = root_with version s adds.root;
  is = with-making version adds.root s after adds.is;
  added = adds.added ++ noted version s;
  made =
      with-noted version adds.root s after adds.is
      ∙ ap (λ ms. ms ++ noted version s) adds.made
      ∙ append_assoc before.mutations adds.added (noted version s);
  at = all-append (λ made. made.0 ≡ version) adds.added (noted version s) adds.at (noted-at version s);
}
  where
    s : Option Mutation
    s = stored_as mutation (over (making_root after) base)

    still : SameButMaking after (with_stored s after)
    still = with-same s after

pub adds-all : (base : Pairs) (version : ℕ) (before after : Versions) (mutations : List Mutation) → Adds version before after → Adds version before (all_stored base all_served after mutations)
adds-all base version before after [] adds = adds
adds-all base version before after (mutation ∷ mutations) adds = adds-all base version before (stored_parts base all_served after mutation) mutations (by_part (clipped mutation all_keys))
  where
    by_part : (part : Option Mutation) → Adds version before (option_map_or (stored_in base after) part after)
    by_part None = adds
    by_part (Some part) = adds-stored base version before after part adds

pub adds-none : (window : Versions) (version : ℕ) → Adds version window (begun version window)
adds-none window version = record {
  same = record { forgotten = refl; newest = refl; roots = refl };
  root = made_above window.forgotten (newest_root window);
  is = refl;
  added = [];
  made = sym (append-nil window.mutations);
  at = tt;
}

-- ---- the window with the version sealed

abbrev pub sealed_window : Versions → (version : ℕ) → List Row → List (ℕ × Mutation) → Versions
sealed_window window version root added = record {
  forgotten = window.forgotten;
  newest = version;
  roots = window.roots ++ kept_at version root ∷ [];
  making = None;
  mutations = window.mutations ++ added;
}

pub sealed-is : (version : ℕ) (before after : Versions) (adds : Adds version before after) → sealed after ≡ sealed_window before version adds.root adds.added
sealed-is version before after adds =
    ap (λ (m : Option Kept). option_map_or (λ kept. record after { newest = kept.version; roots = after.roots ++ kept ∷ []; making = None }) m after) adds.is
    ∙ (λ i. record {
      forgotten = adds.same.forgotten i;
      newest = version;
      roots = adds.same.roots i ++ kept_at version adds.root ∷ [];
      making = None;
      mutations = adds.made i;
    })

-- sealing leaves the mutations
pub sealed-mutations : (window : Versions) → (sealed window).mutations ≡ window.mutations
sealed-mutations window = by_making window.making
  where
    by_making : (o : Option Kept) → (option_map_or (λ kept. record window { newest = kept.version; roots = window.roots ++ kept ∷ []; making = None }) o window).mutations ≡ window.mutations
    by_making None = refl
    by_making (Some kept) = refl

last_to-more : (version : ℕ) (roots : List Kept) (kept : Kept) → last_to version (roots ++ kept ∷ []) ≡ last_of (filter (λ k. nat_le k.version version) roots ++ cond (nat_le kept.version version) (kept ∷ []) [])
last_to-more version roots kept = ap last_of (filter-append (λ k. nat_le k.version version) roots (kept ∷ []))

last_to-below : (version : ℕ) (roots : List Kept) (kept : Kept) → version < kept.version → last_to version (roots ++ kept ∷ []) ≡ last_to version roots
last_to-below version roots kept lt =
    last_to-more version roots kept
    ∙ ap (λ (t : Bool). last_of (filter (λ k. nat_le k.version version) roots ++ cond t (kept ∷ []) [])) (lt-leb kept.version version lt)
    ∙ ap last_of (append-nil (filter (λ k. nat_le k.version version) roots))

last_to-at : (roots : List Kept) (kept : Kept) → last_to kept.version (roots ++ kept ∷ []) ≡ Some kept
last_to-at roots kept =
    last_to-more kept.version roots kept
    ∙ ap (λ (t : Bool). last_of (filter (λ k. nat_le k.version kept.version) roots ++ cond t (kept ∷ []) [])) (le-leb kept.version kept.version (omega arith))
    ∙ last-more (filter (λ k. nat_le k.version kept.version) roots) kept

never-fall-more : (version : ℕ) (ms added : List (ℕ × Mutation)) → NeverFall ms → AllByRecursion (λ made. made.0 ≤ version) ms → AllByRecursion (λ made. made.0 ≡ version) added → NeverFall (ms ++ added)
never-fall-more version [] added order low at = all_at added at
  where
    all_at : (l : List (ℕ × Mutation)) → AllByRecursion (λ made. made.0 ≡ version) l → NeverFall l
    all_at [] at = tt
    all_at (m ∷ l) at = (all-weaker (λ made. made.0 ≡ version) (λ other. m.0 ≤ other.0) (λ other is. let first = at.0 in omega arith) l at.1, all_at l at.1)
never-fall-more version (m ∷ ms) added order low at = (
  all-append (λ other. m.0 ≤ other.0) ms added order.0 (all-weaker (λ made. made.0 ≡ version) (λ other. m.0 ≤ other.0) (λ other is. let first = low.0 in omega arith) added at),
  never-fall-more version ms added order.1 low.1 at,
)

module _ (log : List Batch) (durable newest : ℕ) (window : Versions) (base : Pairs) (keeps : KeepsVersions log durable newest window base) (batch : Batch) (next : IsNext log newest batch) (root : List Row) (added : List (ℕ × Mutation)) (at : AllByRecursion (λ made. made.0 ≡ batch.version) added) where
  order : durable ≤ newest
  order = let a = keeps.stands.order in let b = keeps.forgotten_is in let c = keeps.newest_is in omega arith

  low : AllByRecursion (λ made. made.0 ≤ newest) window.mutations
  low = subst (λ n. AllByRecursion (λ made. made.0 ≤ n) window.mutations) (ap (λ (m : Option Kept). option_map_or (λ kept. kept.version) m window.newest) keeps.sealed ∙ keeps.newest_is) keeps.stands.made

  roots_low : AllByRecursion (λ kept. kept.version ≤ newest) window.roots
  roots_low = subst (λ n. AllByRecursion (λ kept. kept.version ≤ n) window.roots) keeps.newest_is keeps.stands.within

  abbrev Then : Versions
  Then = sealed_window window batch.version root added

  is_inside : (version : ℕ) → durable ≤ version → version ≤ batch.version → root_of Then version ≡ option_map (λ kept. kept.root) (last_to version (window.roots ++ kept_at batch.version root ∷ []))
  is_inside version first last = inside Then version (let e = keeps.forgotten_is in omega arith) last

  was_inside : (version : ℕ) → durable ≤ version → version ≤ newest → root_of window version ≡ option_map (λ kept. kept.root) (last_to version window.roots)
  was_inside version first last = inside window version (let e = keeps.forgotten_is in omega arith) (let e = keeps.newest_is in omega arith)

  as_before : (version : ℕ) → durable ≤ version → version ≤ newest → root_of Then version ≡ root_of window version
  as_before version first last =
      is_inside version first (let above = next.above in omega arith)
      ∙ ap (option_map (λ kept. kept.root)) (last_to-below version window.roots (kept_at batch.version root) (let above = next.above in omega arith))
      ∙ sym (was_inside version first last)

  as_newest : (version : ℕ) → newest ≤ version → version < batch.version → root_of Then version ≡ root_of window newest
  as_newest version first last =
      is_inside version (omega (arith, order)) (omega arith)
      ∙ ap (option_map (λ kept. kept.root)) (last_to-below version window.roots (kept_at batch.version root) last ∙ newest-last window version (let e = keeps.newest_is in omega arith) keeps.stands.within ∙ sym (newest-last window newest (let e = keeps.newest_is in omega arith) keeps.stands.within))
      ∙ sym (was_inside newest order (omega arith))

  as_next : root_of Then batch.version ≡ Some root
  as_next =
      is_inside batch.version (let above = next.above in omega (arith, order)) (omega arith)
      ∙ ap (option_map (λ kept. kept.root)) (last_to-at window.roots (kept_at batch.version root))

  mutations-before : (version : ℕ) → version < batch.version → mutations_to version Then ≡ mutations_to version window
  mutations-before version lt =
      filter-append (λ made. nat_le made.0 version) window.mutations added
      ∙ ap (λ l. mutations_to version window ++ l) (filter-none (λ made. nat_le made.0 version) added (all-weaker (λ made. made.0 ≡ batch.version) (λ made. nat_le made.0 version ≡ false) (λ made is. lt-leb made.0 version (omega arith)) added at))
      ∙ append-nil (mutations_to version window)

  all-of : (version : ℕ) → newest ≤ version → mutations_to version window ≡ window.mutations
  all-of version le = filter-all (λ made. nat_le made.0 version) window.mutations (all-weaker (λ made. made.0 ≤ newest) (λ made. nat_le made.0 version ≡ true) (λ made is. le-leb made.0 version (omega arith)) window.mutations low)

  mutations-next : mutations_to batch.version Then ≡ window.mutations ++ added
  mutations-next =
      filter-append (λ made. nat_le made.0 batch.version) window.mutations added
      ∙ (λ i. all-of batch.version (let above = next.above in omega arith) i ++ filter-all (λ made. nat_le made.0 batch.version) added (all-weaker (λ made. made.0 ≡ batch.version) (λ made. nat_le made.0 batch.version ≡ true) (λ made is. le-leb made.0 batch.version (omega arith)) added at) i)

  pub kept-sealed : Stands Then → ((key : List ℕ) → IsUsers key → TellsTo log durable batch.version key (decided root key))
      → ((key : List ℕ) → IsUsers key → led_to key (value_of log durable key) (window.mutations ++ added) ≡ value_of log batch.version key)
      → KeepsVersions log durable batch.version Then base
  kept-sealed stands tells leads = record {
    sealed = refl;
    forgotten_is = keeps.forgotten_is;
    newest_is = refl;
    stands = stands;
    tells = λ version key first last users. tells-at version key first last users (nat_le version newest) (nat_lt version batch.version) refl refl;
    base_is = keeps.base_is;
    leads = λ version key first last users. leads-at version key first last users (nat_le version newest) (nat_lt version batch.version) refl refl;
    above = all-append (λ made. durable < made.0) window.mutations added keeps.above (all-weaker (λ made. made.0 ≡ batch.version) (λ made. durable < made.0) (λ made is. let above = next.above in omega (arith, order)) added at);
    in_order = never-fall-more batch.version window.mutations added keeps.in_order (all-weaker (λ made. made.0 ≤ newest) (λ made. made.0 ≤ batch.version) (λ made is. let above = next.above in omega arith) window.mutations low) at;
  }
    where
      now : (version : ℕ) → version ≤ batch.version → nat_lt version batch.version ≡ false → batch.version ≡ version
      now version le is = let ge = leb-false (suc version) batch.version is in omega arith

      tells-at : (version : ℕ) (key : List ℕ) → durable ≤ version → version ≤ batch.version → IsUsers key → (early between : Bool) → nat_le version newest ≡ early → nat_lt version batch.version ≡ between
          → IfSome (root_of Then version) (λ r. TellsTo log durable version key (decided r key))
      tells-at version key first last users true between is is' =
          subst (λ o. IfSome o (λ r. TellsTo log durable version key (decided r key))) (sym (as_before version first (leb-true _ _ is))) (keeps.tells version key first (leb-true _ _ is) users)
      tells-at version key first last users false true is is' =
          let past : newest < version = leb-false version newest is in
          subst (λ o. IfSome o (λ r. TellsTo log durable version key (decided r key))) (sym (as_newest version (omega arith) (leb-true (suc version) batch.version is')))
          (later (root_of window newest) (keeps.tells newest key order (omega arith) users))
        where
          past_it : newest < version
          past_it = leb-false version newest is

          later : (o : Option (List Row)) → IfSome o (λ r. TellsTo log durable newest key (decided r key)) → IfSome o (λ r. TellsTo log durable version key (decided r key))
          later None told = tt
          later (Some r) told =
              tells-later log key durable newest version (decided r key) order (omega (arith, past_it))
              (λ u from upto. value-between log newest batch key next u from (let lt = leb-true (suc version) batch.version is' in omega arith)) told
      tells-at version key first last users false false is is' =
          subst (λ v. IfSome (root_of Then v) (λ r. TellsTo log durable v key (decided r key))) (now version last is')
          (subst (λ o. IfSome o (λ r. TellsTo log durable batch.version key (decided r key))) (sym as_next) (tells key users))

      leads-at : (version : ℕ) (key : List ℕ) → durable ≤ version → version ≤ batch.version → IsUsers key → (early between : Bool) → nat_le version newest ≡ early → nat_lt version batch.version ≡ between
          → led_to key (value_of log durable key) (mutations_to version Then) ≡ value_of log version key
      leads-at version key first last users true between is is' =
          ap (led_to key (value_of log durable key)) (mutations-before version (let le = leb-true version newest is in let above = next.above in omega arith))
          ∙ keeps.leads version key first (leb-true _ _ is) users
      leads-at version key first last users false true is is' =
          let past : newest < version = leb-false version newest is in
          ap (led_to key (value_of log durable key)) (mutations-before version (leb-true (suc version) batch.version is') ∙ all-of version (omega arith) ∙ sym (all-of newest (omega arith)))
          ∙ keeps.leads newest key order (omega arith) users
          ∙ sym (value-between log newest batch key next version (omega arith) (leb-true (suc version) batch.version is'))
      leads-at version key first last users false false is is' =
          subst (λ v. led_to key (value_of log durable key) (mutations_to v Then) ≡ value_of log v key) (now version last is')
          (ap (led_to key (value_of log durable key)) mutations-next ∙ leads key users)

-- ---- the version that a batch begins

-- Where the versions that are kept are those of a log, and its next batch is stored in the version that it begins, the window
-- that seals it keeps the next version too.
module _ (log : List Batch) (durable newest : ℕ) (window : Versions) (base : Pairs) (keeps : KeepsVersions log durable newest window base) (batch : Batch) (next : IsNext log newest batch) (writing : WritesDecide) (clip_inside : (mutation : Mutation) (to : Span) (key : List ℕ) (before : Option (List ℕ)) → within to key ≡ true → value_by_part key before (clipped mutation to) ≡ value_by key before mutation) where
  then_order : durable ≤ newest
  then_order = let a = keeps.stands.order in let b = keeps.forgotten_is in let c = keeps.newest_is in omega arith

  has-newest : (o : Option Kept) → last_of window.roots ≡ o → o ≡ None → ⊥
  has-newest None is none =
      let no_roots = last-none window.roots is in
      false≢true (sym (ap (list_any (λ kept. nat_le kept.version window.forgotten)) no_roots) ∙ keeps.stands.first)
  has-newest (Some kept) is none = cc (none)

  -- what the newest version tells of a key above the durable one
  newest-tells : (key : List ℕ) → IsUsers key → TellsTo log durable newest key (decided (made_above window.forgotten (newest_root window)) key)
  newest-tells key users =
      subst (λ r. TellsTo log durable newest key (decided (made_above window.forgotten r) key)) (sym (newest-is window))
      (by_last (last_of window.roots) refl (subst (λ o. IfSome o (λ r. TellsTo log durable newest key (decided r key))) is_last (keeps.tells newest key then_order (omega arith) users)))
    where
      is_last : root_of window newest ≡ option_map (λ kept. kept.root) (last_of window.roots)
      is_last =
          inside window newest (let e = keeps.forgotten_is in omega (arith, then_order, e)) (let e = keeps.newest_is in omega (arith, e))
          ∙ ap (option_map (λ kept. kept.root)) (newest-last window newest (let e = keeps.newest_is in omega (arith, e)) keeps.stands.within)

      by_last : (o : Option Kept) → last_of window.roots ≡ o → IfSome (option_map (λ kept. kept.root) o) (λ r. TellsTo log durable newest key (decided r key))
          → TellsTo log durable newest key (decided (made_above window.forgotten (option_map_or (λ kept. kept.root) o [])) key)
      by_last None is told = absurd (has-newest None is refl)
      by_last (Some kept) is told =
          subst (TellsTo log durable newest key)
          (ap (λ d. decision_above d (decided kept.root key)) (sym keeps.forgotten_is)
          ∙ sym (writing.above window.forgotten kept.root key (all-last (λ k. AreApart k.root) window.roots kept keeps.stands.apart is)))
          (tells-above log key durable newest (decided kept.root key) told then_order)

  newest-apart : AreApart (newest_root window)
  newest-apart = subst AreApart (sym (newest-is window)) (by_last (last_of window.roots) refl)
    where
      by_last : (o : Option Kept) → last_of window.roots ≡ o → AreApart (option_map_or (λ kept. kept.root) o [])
      by_last None is = tt
      by_last (Some kept) is = all-last (λ k. AreApart k.root) window.roots kept keeps.stands.apart is

  pub making-first : (key : List ℕ) → IsUsers key → Making log base durable newest batch.version (begun batch.version window) key (value_of log newest key)
  making-first key users = record {
    root = made_above window.forgotten (newest_root window);
    is = refl;
    apart = apart-above window.forgotten (newest_root window) newest-apart;
    makes = makes-first log key durable newest batch.version (decided (made_above window.forgotten (newest_root window)) key) then_order next.above (newest-tells key users);
    leads = ap (led_to key (value_of log durable key)) (sym (all-of log durable newest window base keeps batch next [] [] tt newest (omega arith))) ∙ keeps.leads newest key then_order (omega arith) users;
  }

  abbrev After : Versions
  After = all_stored base all_served (begun batch.version window) batch.mutations

  pub adds : Adds batch.version window After
  adds = adds-all base batch.version window (begun batch.version window) batch.mutations (adds-none window batch.version)

  making : (key : List ℕ) → IsUsers key → Making log base durable newest batch.version After key (value_of log batch.version key)
  making key users =
      subst (Making log base durable newest batch.version After key) (sym (value-next log newest batch key next))
      (making-all log base durable newest batch.version key next.above (keeps.base_is key users) writing (λ mutation now. clip_inside mutation all_keys key now users)
      (begun batch.version window) (value_of log newest key) batch.mutations (making-first key users))

  pub kept-applied : Stands (sealed After) → KeepsVersions log durable batch.version (sealed After) base
  kept-applied stands =
      subst (λ w. KeepsVersions log durable batch.version w base) (sym (sealed-is batch.version window After adds))
      (kept-sealed log durable newest window base keeps batch next adds.root adds.added adds.at (subst Stands (sealed-is batch.version window After adds) stands)
      (λ key users.
      let m = making key users in
      let one : m.root ≡ adds.root = ap (λ (k : Kept). k.root) (same_Some (kept_at batch.version m.root) (kept_at batch.version adds.root) (sym m.is ∙ adds.is)) in
      subst (λ r. TellsTo log durable batch.version key (decided r key)) one
      (makes-last log key durable newest batch.version (decided m.root key) (value_of log batch.version key) then_order next.above (value-between log newest batch key next) refl m.makes))
      (λ key users. ap (led_to key (value_of log durable key)) (sym adds.made) ∙ (making key users).leads))
