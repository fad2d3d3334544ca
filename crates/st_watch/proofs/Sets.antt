-- Sets of watches, as their callers see them.
use Rattle.std.proofs.Common.{◌≡◌, ◌∙◌, ◌<◌, ◌≤◌, ◌+◌, ◌-◌, ◌++◌, ℕ, zero, suc, true, false, List, [], ◌∷◌, Option, Some, None, map, length, take, drop, get_or, refl, sym, ap, subst, inl, inr, length-drop, length-take, arith}
use Rattle.std.specs.List.{AllByRecursion, find, position, remove}
use Rattle.std.specs.List.Sorted.{IsPermutation}
use Rattle.std.specs.Option.{IsSomeAnd, option_map}
use Rattle.std.proofs.lemmas.Bool.{both_ways, cases_lt, eq-eqb}
use Rattle.std.proofs.lemmas.List.{get_or-drop, get_or_default, length-take-le, take_at}
use Rattle.st_key.specs.KeyOrder.{less_irrefl}
use Rattle.st_key.specs.Spans.{key_less}
use Rattle.st_watch.specs.declared.entry.Entry.{Entry}
use Rattle.st_watch.specs.declared.entry.Standing.{Standing}
use Rattle.st_watch.specs.Layout.{IsDistinct, IsParted, waits, with_change}
use Rattle.st_watch.specs.Watches.{AreChanged, IsNextKey, IsRegistered, IsReleased, IsWatched, NoNextKey, Watches, is_waiting, watch_of}
use Rattle.st_watch.proofs.Lists.{all-at}
use Rattle.st_watch.proofs.Numbers.{by, changed-count, changed-each, found-member, less-count, less-gone, less-others, member-found, more-count, more-others, more-there}
use Rattle.st_watch.proofs.Order.{rising-at}

abbrev pub set_of : ℕ → List Entry → Watches
set_of limit entries = record { limit = limit; entries = entries }

-- what is written back into a list of the same length
pub filled : (new old : List Entry) (n : ℕ) → length new ≡ n → take n (new ++ drop (length new) old) ≡ new
filled new old n is = take_at new (drop (length new) old) n is

pub set-changed : (change : Standing → Standing) (limit : ℕ) (old new out : List Entry) (before : Watches) → set_of limit old ≡ before → IsDistinct old
    → IsPermutation (map (with_change change) old) new → out ≡ new → AreChanged change before (set_of limit out)
set-changed change limit old new out before seen distinct moved is =
    let here : AreChanged change (set_of limit old) (set_of limit new) = record {
      each = changed-each change old new distinct moved;
      count = changed-count change old new distinct moved;
      limit = refl;
    } in
    subst (λ b. AreChanged change b (set_of limit out)) seen (subst (λ l. AreChanged change (set_of limit old) (set_of limit l)) (sym is) here)

pub set-registered : (limit : ℕ) (entry : Entry) (old new : List Entry) (before : Watches) → set_of limit old ≡ before → IsDistinct old
    → watch_of before entry.id ≡ None → IsPermutation (entry ∷ old) new → IsRegistered entry.id entry.standing before (set_of limit new)
set-registered limit entry old new before seen distinct unknown moved =
    let none : watch_of (set_of limit old) entry.id ≡ None = subst (λ b. watch_of b entry.id ≡ None) (sym seen) unknown in
    let here : IsRegistered entry.id entry.standing (set_of limit old) (set_of limit new) = record {
      there = more-there entry old new distinct none moved;
      others = more-others entry old new distinct none moved;
      count = more-count entry old new distinct none moved;
      limit = refl;
    } in
    subst (λ b. IsRegistered entry.id entry.standing b (set_of limit new)) seen here

pub set-released : (limit : ℕ) (old new : List Entry) (id at : ℕ) (any : Entry) (before : Watches) → set_of limit old ≡ before → IsDistinct old
    → position (by id) old ≡ Some at → new ≡ remove old at → IsReleased id before (set_of limit new)
set-released limit old new id at any before seen distinct placed is =
    let here : IsReleased id (set_of limit old) (set_of limit new) = record {
      gone = less-gone old new id at any distinct placed is;
      others = less-others old new id at any distinct placed is;
      count = less-count old new id at any distinct placed is;
      limit = refl;
    } in
    subst (λ b. IsReleased id b (set_of limit new)) seen here

-- The watches that wait for a key stand among the first.
module _ (limit : ℕ) (entries : List Entry) (waiting : ℕ) (parted : IsParted entries waiting) where
  -- the place of a watch that waits for a key
  pub record IsPlaced (key : List ℕ) (at : ℕ) (entry : Entry) : Type 0 where
    pub first : at < waiting
    pub is : get_or (take waiting entries) at entry ≡ entry
    pub key_is : entry.standing.key ≡ key

  take-get : (n k : ℕ) (xs : List Entry) (d : Entry) → k < n → get_or (take n xs) k d ≡ get_or xs k d
  take-get n k [] d less = get_nil n k d
    where
      get_nil : (n k : ℕ) (d : Entry) → get_or (take n []) k d ≡ get_or [] k d
      get_nil zero k d = refl
      get_nil (suc n) k d = refl
  take-get zero k (x ∷ xs) d less = absurd (omega arith)
  take-get (suc n) zero (x ∷ xs) d less = refl
  take-get (suc n) (suc k) (x ∷ xs) d less = take-get n k xs d (omega arith)

  pub placed-of : (key : List ℕ) → IsWatched (set_of limit entries) key → (at : ℕ) × (entry : Entry) × IsPlaced key at entry
  placed-of key watched = by_found (find (by watched.0) entries) refl watched.1
    where
      by_found : (o : Option Entry) → find (by watched.0) entries ≡ o
          → IsSomeAnd (option_map (λ (e : Entry). e.standing) o) (λ standing. (is_waiting standing.state ≡ true) × (standing.key ≡ key)) → (at : ℕ) × (entry : Entry) × IsPlaced key at entry
      by_found None is facts = absurd facts
      by_found (Some entry) is facts =
          let member = found-member (by watched.0) entries entry is in
          elim (cases_lt member.0.0 waiting) [
            | inl less ↦ (member.0.0, entry, record { first = less; is = take-get waiting member.0.0 entries entry less ∙ member.0.2; key_is = facts.1 })
            | inr more ↦
                let there : waiting + (member.0.0 - waiting) ≡ member.0.0 = omega arith in
                let no_more : waits (get_or (drop waiting entries) (member.0.0 - waiting) entry) ≡ false =
                all-at (λ e. waits e ≡ false) (drop waiting entries) (member.0.0 - waiting) entry parted.others (omega (arith, length-drop waiting entries, member.0.1)) in
                let same : get_or (drop waiting entries) (member.0.0 - waiting) entry ≡ entry =
                get_or-drop waiting entries (member.0.0 - waiting) entry ∙ ap (λ n. get_or entries n entry) there ∙ member.0.2 in
                absurd (both_ways (waits entry) (ap waits (sym same) ∙ no_more) facts.0)
          ]

  long : length (take waiting entries) ≡ waiting
  long = length-take-le waiting entries parted.bound

  module _ (distinct : IsDistinct entries) (key : List ℕ) (at : ℕ) (below : AllByRecursion (λ e. key_less e.standing.key key ≡ true) (take at (take waiting entries))) where
    placed-below : (other : List ℕ) (k : ℕ) (e : Entry) → IsPlaced other k e → k < at → key_less other key ≡ true
    placed-below other k e placed less =
        let there : key_less (get_or (take at (take waiting entries)) k e).standing.key key ≡ true =
        all-at (λ e. key_less e.standing.key key ≡ true) (take at (take waiting entries)) k e below (omega (arith, length-take at (take waiting entries), long, placed.first)) in
        let same : get_or (take at (take waiting entries)) k e ≡ e = take-get at k (take waiting entries) e less ∙ placed.is in
        subst (λ o. key_less o key ≡ true) (ap (λ (x : Entry). x.standing.key) same ∙ placed.key_is) there

    -- the first of those that aren't below a key
    pub next-found : (found : Entry) → at < waiting → get_or entries at found ≡ found → AllByRecursion (λ e. key_less e.standing.key key ≡ false) (drop at (take waiting entries)) → IsNextKey (set_of limit entries) key found.standing.key
    next-found found inside is above =
        let here : get_or (take waiting entries) at found ≡ found = take-get waiting at entries found inside ∙ is in
        let wait : waits found ≡ true =
        ap waits (sym here) ∙ all-at (λ e. waits e ≡ true) (take waiting entries) at found parted.first (omega (arith, long, inside)) in
        let known : find (by found.id) entries ≡ Some found =
        member-found (by found.id) entries at found (distinct found.id) (omega (arith, parted.bound, inside)) is (eq-eqb found.id found.id refl) in
        let zero_more : at + 0 ≡ at = omega arith in
        let first : get_or (drop at (take waiting entries)) 0 found ≡ found =
        get_or-drop at (take waiting entries) 0 found ∙ ap (λ n. get_or (take waiting entries) n found) zero_more ∙ here in record {
          watched = (found.id, subst (λ (o : Option Entry). IsSomeAnd (option_map (λ (e : Entry). e.standing) o) (λ standing. (is_waiting standing.state ≡ true) × (standing.key ≡ found.standing.key))) (sym known) (wait, refl));
          not_below = ap (λ (e : Entry). key_less e.standing.key key) (sym first)
              ∙ all-at (λ e. key_less e.standing.key key ≡ false) (drop at (take waiting entries)) 0 found above (omega (arith, length-drop at (take waiting entries), long, inside));
          least = λ other watched not_less. least found inside here other (placed-of other watched) not_less;
        }
      where
        least : (found : Entry) → at < waiting → get_or (take waiting entries) at found ≡ found → (other : List ℕ) → (k : ℕ) × (e : Entry) × IsPlaced other k e → key_less other key ≡ false → key_less other found.standing.key ≡ false
        least found inside here other placed not_less =
            elim (cases_lt placed.0 at) [
              | inl less ↦ absurd (both_ways (key_less other key) not_less (placed-below other placed.0 placed.1 placed.2 less))
              | inr more ↦ elim (cases_lt at placed.0) [
                | inl later ↦
                    let up = rising-at (take waiting entries) at placed.0 found parted.rising later (omega (arith, long, placed.2.first)) in
                    let e_is : get_or (take waiting entries) placed.0 found ≡ placed.1 =
                    get_or_default (take waiting entries) placed.0 found placed.1 (omega (arith, long, placed.2.first)) ∙ placed.2.is in
                    subst (λ o. key_less o found.standing.key ≡ false) (ap (λ (x : Entry). x.standing.key) e_is ∙ placed.2.key_is)
                    (ap (λ (x : Entry). key_less (get_or (take waiting entries) placed.0 found).standing.key x.standing.key) (sym here) ∙ up)
                | inr same ↦
                    let place : placed.0 ≡ at = omega arith in
                    let one : placed.1 ≡ found =
                    sym placed.2.is ∙ ap (λ n. get_or (take waiting entries) n placed.1) place
                    ∙ get_or_default (take waiting entries) at placed.1 found (omega (arith, long, inside)) ∙ here in
                    subst (λ o. key_less o found.standing.key ≡ false) (ap (λ (x : Entry). x.standing.key) (sym one) ∙ placed.2.key_is) (less_irrefl found.standing.key)
              ]
            ]

    pub next-none : waiting ≤ at → NoNextKey (set_of limit entries) key
    next-none all other watched =
        let placed = placed-of other watched in
        placed-below other placed.0 placed.1 placed.2 (omega (arith, placed.2.first, all))
