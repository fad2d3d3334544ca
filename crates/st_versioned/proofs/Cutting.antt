-- A clear that is parted.
use Rattle.std.proofs.Common.{◌≡◌, ◌∙◌, ◌≤◌, ◌⊎◌, inl, inr, ℕ, Bool, true, false, cond, not, ◌&&◌, List, [], ◌∷◌, filter, Option, Some, None, refl, sym, ap, subst}
use Rattle.std.proofs.lemmas.Bool.{and_from, and_left, and_parts, false_from_ne_true, false≢true, not-true, not_from_true}
use Rattle.std.specs.FinMap.Entries as entries
use Rattle.std.specs.List.{AllByRecursion}
use Rattle.std.specs.Option.{option_map_or}
use Rattle.st_key.specs.KeyOrder.{le_less_trans, less_asym, less_irrefl, less_trans}
use Rattle.st_key.specs.Spans.{key_less}
use Rattle.st_ptree.specs.Entries.{key_cmp, last_of}
use Rattle.st_versioned.specs.Apart.{AreApart, AreFrom, EndsBy, IsBelow}
use Rattle.st_versioned.specs.Root.{Row, decided}
use Rattle.st_versioned.specs.Writing.{cut_at, last_below, parted, reach_by, reach_of}
use Rattle.st_versioned.specs.declared.cut.Reach.{Reach}
use Rattle.st_versioned.specs.declared.entry.Dated.{Dated}
use Rattle.st_versioned.specs.declared.entry.Entry.{Entry}
use Rattle.st_versioned.specs.declared.entry.Entry.TheVariants.{Value, ClearTo}
use Rattle.st_versioned.proofs.Puts.{AreCut, all-put, apart-put, beside, decided-put-in, decided-put-out, not-same, stays-put}
use Rattle.st_versioned.proofs.Reaching.{In, covers, decided-covered, every, in-all, last-highest, last-in, none-passes, weaker}

-- the rows are cut at the key and decide the same
pub record IsCut (key : List ℕ) (old new : List Row) : Type 0 where
  pub apart : AreApart new
  pub same : (other : List ℕ) → decided new other ≡ decided old other
  pub here : AreCut key new
  -- they stay cut below it
  pub below : (other : List ℕ) → key_less key other ≡ false → AreCut other old → AreCut other new
  pub from : (version : ℕ) → AreFrom version old → AreFrom version new

-- what ends by a key ends by each one above it
pub ends-later : (a b : List ℕ) (entry : Entry) → key_less a b ≡ true → EndsBy a entry → EndsBy b entry
ends-later a b (Value value) less ends = tt
ends-later a b (ClearTo end) less ends = false_from_ne_true (key_less b end) (λ is. false≢true (sym ends ∙ less_trans a b end less is))

module _ (rows : List Row) (apart : AreApart rows) (key begin end : List ℕ) (version : ℕ) (below : key_less begin key ≡ true) (over : key_less key end ≡ true)
    (there : In (begin, record { version = version; entry = ClearTo end }) rows) where
  abbrev to : List ℕ → Dated
  to last = record { version = version; entry = ClearTo last }

  abbrev clear : Row
  clear = (begin, to end)

  abbrev ended : List Row
  ended = entries.put key_cmp begin (to key) rows

  abbrev both : List Row
  both = entries.put key_cmp key (to end) ended

  none-below : (row : Row) → IsBelow row clear → key_less begin row.0 ≡ true → ⊥
  none-below row is less = false≢true (sym (less_asym row.0 begin is.0) ∙ less)

  cut-begin : AreCut begin rows
  cut-begin = every (λ row. key_less row.0 begin ≡ true → EndsBy begin row.1.entry) rows (λ row is less. by_place row less (beside rows apart row clear is there))
    where
      by_place : (row : Row) → key_less row.0 begin ≡ true → (row ≡ clear) ⊎ (IsBelow row clear ⊎ IsBelow clear row) → EndsBy begin row.1.entry
      by_place row less (inl one) = absurd (not-same row.0 begin less (ap (λ (r : Row). r.0) one))
      by_place row less (inr (inl is)) = is.1
      by_place row less (inr (inr is)) = absurd (false≢true (sym (less_asym row.0 begin less) ∙ is.0))

  -- each row behind the clear begins behind its end
  behind : AllByRecursion (λ row. key_less begin row.0 ≡ true → key_less row.0 end ≡ false) rows
  behind = every (λ row. key_less begin row.0 ≡ true → key_less row.0 end ≡ false) rows (λ row is less. by_place row less (beside rows apart row clear is there))
    where
      by_place : (row : Row) → key_less begin row.0 ≡ true → (row ≡ clear) ⊎ (IsBelow row clear ⊎ IsBelow clear row) → key_less row.0 end ≡ false
      by_place row less (inl one) = absurd (not-same begin row.0 less (sym (ap (λ (r : Row). r.0) one)))
      by_place row less (inr (inl is)) = absurd (none-below row is less)
      by_place row less (inr (inr is)) = is.1

  apart-ended : AreApart ended
  apart-ended = apart-put begin (to key) rows apart cut-begin
      (weaker (λ row. key_less begin row.0 ≡ true → key_less row.0 end ≡ false) (λ row. key_less begin row.0 ≡ true → key_less row.0 key ≡ false)
      (λ row from less. false_from_ne_true (key_less row.0 key) (λ is. false≢true (sym (from less) ∙ less_trans row.0 key end is over))) rows behind)

  behind-ended : AllByRecursion (λ row. key_less begin row.0 ≡ true → key_less row.0 end ≡ false) ended
  behind-ended = stays-put begin (to key) (λ row. key_less begin row.0 ≡ true → key_less row.0 end ≡ false) rows apart behind (λ less. absurd (not-same begin begin less refl))

  cut-ended : AreCut key ended
  cut-ended = all-put begin (to key) (λ row. key_less row.0 key ≡ true → EndsBy key row.1.entry) rows apart
      (every (λ row. (row.0 ≡ begin → ⊥) → key_less row.0 key ≡ true → EndsBy key row.1.entry) rows (λ row is other less. by_place row other less (beside rows apart row clear is there)))
      (λ less. less_irrefl key)
    where
      by_place : (row : Row) → (row.0 ≡ begin → ⊥) → key_less row.0 key ≡ true → (row ≡ clear) ⊎ (IsBelow row clear ⊎ IsBelow clear row) → EndsBy key row.1.entry
      by_place row other less (inl one) = absurd (other (ap (λ (r : Row). r.0) one))
      by_place row other less (inr (inl is)) = ends-later begin key row.1.entry below is.1
      by_place row other less (inr (inr is)) = absurd (false≢true (sym is.1 ∙ less_trans row.0 key end less over))

  pub apart-parted : AreApart both
  apart-parted = apart-put key (to end) ended apart-ended cut-ended
      (weaker (λ row. key_less begin row.0 ≡ true → key_less row.0 end ≡ false) (λ row. key_less key row.0 ≡ true → key_less row.0 end ≡ false)
      (λ row from less. from (less_trans begin key row.0 below less)) ended behind-ended)

  -- no row of the key was there
  none-at : (other : List ℕ) → AllByRecursion (λ row. row.0 ≡ key → covers other row ≡ false) ended
  none-at other = weaker (λ row. key_less begin row.0 ≡ true → key_less row.0 end ≡ false) (λ row. row.0 ≡ key → covers other row ≡ false)
      (λ row from one. absurd (false≢true (sym (from (ap (key_less begin) one ∙ below)) ∙ ap (λ (k : List ℕ). key_less k end) one ∙ over))) ended behind-ended

  module _ (other : List ℕ) where
    abbrev first : Row
    first = (begin, to key)

    abbrev second : Row
    second = (key, to end)

    not-second : key_less other key ≡ true → covers other second ≡ false
    not-second less = and_left (not (key_less other key)) (key_less other end) (not_from_true (key_less other key) less)

    second-stays : covers other second ≡ false → decided both other ≡ decided ended other
    second-stays off = decided-put-out key (to end) ended other apart-ended apart-parted off (none-at other)

    first-stays : covers other first ≡ false → covers other clear ≡ false → decided ended other ≡ decided rows other
    first-stays off off_clear = decided-put-out begin (to key) rows other apart apart-ended off
        (every (λ row. row.0 ≡ begin → covers other row ≡ false) rows (λ row is one. by_place row one (beside rows apart row clear is there)))
      where
        by_place : (row : Row) → row.0 ≡ begin → (row ≡ clear) ⊎ (IsBelow row clear ⊎ IsBelow clear row) → covers other row ≡ false
        by_place row one (inl is) = ap (covers other) is ∙ off_clear
        by_place row one (inr (inl is)) = absurd (not-same row.0 begin is.0 one)
        by_place row one (inr (inr is)) = absurd (not-same begin row.0 is.0 (sym one))

    covered : covers other clear ≡ true → (t : Bool) → key_less other key ≡ t → decided both other ≡ Some (version, None)
    covered is true less =
        let parts = and_parts (not (key_less other begin)) (key_less other end) is in
        second-stays (not-second less)
        ∙ decided-put-in begin (to key) rows other apart-ended (and_from (not (key_less other begin)) (key_less other key) parts.0 less)
    covered is false from =
        let parts = and_parts (not (key_less other begin)) (key_less other end) is in
        decided-put-in key (to end) ended other apart-parted (and_from (not (key_less other key)) (key_less other end) (ap not from) parts.1)

    uncovered : covers other clear ≡ false → decided both other ≡ decided rows other
    uncovered off = second-stays (false_from_ne_true (covers other second) second-off) ∙ first-stays (false_from_ne_true (covers other first) first-off) off
      where
        first-off : covers other first ≡ true → ⊥
        first-off is =
            let parts = and_parts (not (key_less other begin)) (key_less other key) is in
            false≢true (sym off ∙ and_from (not (key_less other begin)) (key_less other end) parts.0 (less_trans other key end parts.1 over))

        second-off : covers other second ≡ true → ⊥
        second-off is =
            let parts = and_parts (not (key_less other key)) (key_less other end) is in
            false≢true (sym off ∙ and_from (not (key_less other begin)) (key_less other end)
            (ap not (false_from_ne_true (key_less other begin) (λ less. false≢true (sym (not-true (key_less other key) parts.0) ∙ less_trans other begin key less below)))) parts.1)

    pub same-parted : decided both other ≡ decided rows other
    same-parted = by_test (covers other clear) refl
      where
        by_test : (t : Bool) → covers other clear ≡ t → decided both other ≡ decided rows other
        by_test true is = covered is (key_less other key) refl ∙ sym (decided-covered other rows clear apart there is)
        by_test false off = uncovered off

  -- what is true of the old rows and of the two is true of the new ones
  stays-parted : (P : Row → Type 0) → AllByRecursion P rows → P (begin, to key) → P (key, to end) → AllByRecursion P both
  stays-parted P all one two = stays-put key (to end) P ended apart-ended (stays-put begin (to key) P rows apart all one) two

  below-parted : (other : List ℕ) → key_less key other ≡ false → AreCut other rows → AreCut other both
  below-parted other from cut =
      stays-parted (λ row. key_less row.0 other ≡ true → EndsBy other row.1.entry) cut
      (λ less. absurd (false≢true (sym (in-all (λ row. key_less row.0 other ≡ true → EndsBy other row.1.entry) clear rows cut there less) ∙ le_less_trans other key end from over)))
      (λ less. absurd (false≢true (sym from ∙ less)))

  from-parted : (first : ℕ) → AreFrom first rows → AreFrom first both
  from-parted first from =
      let here : first ≤ version = in-all (λ row. first ≤ row.1.version) clear rows from there in
      stays-parted (λ row. first ≤ row.1.version) from here here

  pub is-parted : IsCut key rows both
  is-parted = record {
    apart = apart-parted;
    same = same-parted;
    here = stays-put key (to end) (λ row. key_less row.0 key ≡ true → EndsBy key row.1.entry) ended apart-ended cut-ended (λ less. absurd (not-same key key less refl));
    below = below-parted;
    from = from-parted;
  }

-- rows that are cut at a key already
pub is-cut : (key : List ℕ) (rows : List Row) → AreApart rows → AreCut key rows → IsCut key rows rows
is-cut key rows apart cut = record { apart = apart; same = λ other. refl; here = cut; below = λ other from is. is; from = λ version is. is }

-- where the last row below the key ends by it, all do
cut-whole : (key : List ℕ) (rows : List Row) (row : Row) → AreApart rows → last_below key rows ≡ Some row → EndsBy key row.1.entry → AreCut key rows
cut-whole key rows row apart last ends =
    weaker (λ other. key_less other.0 key ≡ true → (other ≡ row) ⊎ IsBelow other row) (λ other. key_less other.0 key ≡ true → EndsBy key other.1.entry)
    (λ other place less. by_place other (place less)) rows (last-highest (λ (r : Row). key_less r.0 key) rows row apart last)
  where
    by_place : (other : Row) → (other ≡ row) ⊎ IsBelow other row → EndsBy key other.1.entry
    by_place other (inl one) = subst (λ (r : Row). EndsBy key r.1.entry) (sym one) ends
    by_place other (inr is) = ends-later row.0 key other.1.entry (last-in (λ (r : Row). key_less r.0 key) rows row last).1 is.1

pub is-cut_at : (key : List ℕ) (rows : List Row) → AreApart rows → IsCut key rows (cut_at key rows)
is-cut_at key rows apart = by_last (last_below key rows) refl
  where
    by_entry : (at : List ℕ) (version : ℕ) (entry : Entry) → last_below key rows ≡ Some (at, record { version = version; entry = entry }) → IsCut key rows (option_map_or (parted key rows) (reach_by key at version entry) rows)
    by_entry at version (Value value) last = is-cut key rows apart (cut-whole key rows (at, record { version = version; entry = Value value }) apart last tt)
    by_entry at version (ClearTo end) last = by_test (key_less key end) refl
      where
        by_test : (t : Bool) → key_less key end ≡ t → IsCut key rows (option_map_or (parted key rows) (cond t (Some (record { begin = at; version = version; end = end })) None) rows)
        by_test true over =
            let found = last-in (λ (r : Row). key_less r.0 key) rows (at, record { version = version; entry = ClearTo end }) last in
            is-parted rows apart key at end version found.1 over found.0
        by_test false ends = is-cut key rows apart (cut-whole key rows (at, record { version = version; entry = ClearTo end }) apart last ends)

    by_last : (o : Option Row) → last_below key rows ≡ o → IsCut key rows (option_map_or (parted key rows) (reach_of key o) rows)
    by_last None none =
        is-cut key rows apart
        (weaker (λ row. key_less row.0 key ≡ false) (λ row. key_less row.0 key ≡ true → EndsBy key row.1.entry) (λ row off on. absurd (false≢true (sym off ∙ on))) rows
        (none-passes (λ row. key_less row.0 key) rows none))
    by_last (Some row) last = by_entry row.0 row.1.version row.1.entry last
