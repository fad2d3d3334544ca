-- Which row decides a key.
use Rattle.std.proofs.Common.{◌≡◌, ◌∙◌, ◌⊎◌, inl, inr, ℕ, Bool, true, false, cond, not, ◌&&◌, List, [], ◌∷◌, filter, Option, Some, None, refl, sym, ap, subst}
use Rattle.std.proofs.lemmas.Bool.{and_from, and_left, and_parts, and_right, false_from_ne_true, false≢true, not-true}
use Rattle.std.proofs.lemmas.Cmp.{nat_list_cmp_total, tied_itself}
use Rattle.std.specs.List.{AllByRecursion}
use Rattle.std.specs.Option.{option_or}
use Rattle.st_key.specs.KeyOrder.{le_less_trans, less_asym, less_irrefl, less_trans}
use Rattle.st_key.specs.Spans.{key_less}
use Rattle.st_ptree.specs.Entries.{last_of}
use Rattle.st_versioned.specs.Apart.{AreApart, EndsBy, IsBelow}
use Rattle.st_versioned.specs.Root.{Decision, Row, decided, decided_by, reaches, same, value_in}
use Rattle.st_versioned.specs.declared.entry.Entry.{Entry}
use Rattle.st_versioned.specs.declared.entry.Entry.TheVariants.{Value, ClearTo}
use Rattle.st_versioned.proofs.Bases.{same_equal}

-- one of some rows
abbrev pub In : Row → List Row → Type 0
In row [] = ⊥
In row (other ∷ rows) = (other ≡ row) ⊎ In row rows

pub in-all : (P : Row → Type 0) (row : Row) (rows : List Row) → AllByRecursion P rows → In row rows → P row
in-all P row [] all there = absurd there
in-all P row (other ∷ rows) all (inl is) = subst P is all.0
in-all P row (other ∷ rows) all (inr there) = in-all P row rows all.1 there

pub every : (P : Row → Type 0) (rows : List Row) → ((row : Row) → In row rows → P row) → AllByRecursion P rows
every P [] each = tt
every P (row ∷ rows) each = (each row (inl refl), every P rows (λ other there. each other (inr there)))

pub weaker : (P Q : Row → Type 0) → ((row : Row) → P row → Q row) → (rows : List Row) → AllByRecursion P rows → AllByRecursion Q rows
weaker P Q from [] all = tt
weaker P Q from (row ∷ rows) all = (from row all.0, weaker P Q from rows all.1)

-- the rows at a key or below it
abbrev pub upto : List ℕ → List Row → List Row
upto key rows = filter (λ row. not (key_less key row.0)) rows

-- the row is at the key or below it, and reaches it
abbrev pub covers : List ℕ → Row → Bool
covers key row = not (key_less key row.0) && reaches key row.0 row.1.entry

-- what a row decides of the keys that it covers
abbrev pub decision_of : Row → Decision
decision_of row = Some (row.1.version, value_in row.1.entry)

-- what ends by a key doesn't reach it
pub unreached : (key at by : List ℕ) (entry : Entry) → key_less at by ≡ true → EndsBy by entry → key_less key by ≡ false → reaches key at entry ≡ false
unreached key at by (Value value) below ends from =
    false_from_ne_true (same key at) (λ is. false≢true (sym from ∙ ap (λ (k : List ℕ). key_less k by) (same_equal key at is) ∙ below))
unreached key at by (ClearTo end) below ends from =
    false_from_ne_true (key_less key end) (λ is. false≢true (sym ends ∙ le_less_trans by key end from is))

pub past : (key : List ℕ) (row other : Row) → IsBelow row other → key_less key other.0 ≡ false → covers key row ≡ false
past key row other below from = and_right (not (key_less key row.0)) _ (unreached key row.0 other.0 row.1.entry below.0 below.1 from)

-- the last that passes a test is one of them
pub last-in : (p : Row → Bool) (rows : List Row) (row : Row) → last_of (filter p rows) ≡ Some row → In row rows × (p row ≡ true)
last-in p [] row is = absurd (cc (is))
last-in p (first ∷ rows) row is = by_test (p first) refl (last-in p rows) is
  where
    by_last : (o : Option Row) → last_of (filter p rows) ≡ o → p first ≡ true → (last_of (filter p rows) ≡ Some row → In row rows × (p row ≡ true)) → option_or o (Some first) ≡ Some row → In row (first ∷ rows) × (p row ≡ true)
    by_last None last passes rest is = let one : first ≡ row = cc (is) in (inl one, ap p (sym one) ∙ passes)
    by_last (Some other) last passes rest is = let found = rest (last ∙ is) in (inr found.0, found.1)

    by_test : (t : Bool) → p first ≡ t → ((r : Row) → last_of (filter p rows) ≡ Some r → In r rows × (p r ≡ true)) → last_of (cond t (first ∷ filter p rows) (filter p rows)) ≡ Some row → In row (first ∷ rows) × (p row ≡ true)
    by_test true passes rest is = by_last (last_of (filter p rows)) refl passes (rest row) is
    by_test false passes rest is = let found = rest row is in (inr found.0, found.1)

-- the row that covers a key is the last one at it or below it
pub last-covering : (key : List ℕ) (rows : List Row) (row : Row) → AreApart rows → In row rows → covers key row ≡ true → last_of (upto key rows) ≡ Some row
last-covering key [] row apart there is = absurd there
last-covering key (first ∷ rows) row apart (inl one) is = by_last (last_of (upto key rows)) refl
  where
    covering : covers key first ≡ true
    covering = ap (covers key) one ∙ is

    from : not (key_less key first.0) ≡ true
    from = (and_parts (not (key_less key first.0)) (reaches key first.0 first.1.entry) covering).0

    by_last : (o : Option Row) → last_of (upto key rows) ≡ o → last_of (upto key (first ∷ rows)) ≡ Some row
    by_last None last =
        ap (λ (t : Bool). last_of (cond t (first ∷ upto key rows) (upto key rows))) from
        ∙ ap (λ (o : Option Row). option_or o (Some first)) last
        ∙ ap (λ (r : Row). Some r) one
    by_last (Some other) last =
        let found = last-in (λ (r : Row). not (key_less key r.0)) rows other last in
        absurd (false≢true (sym (past key first other (in-all (IsBelow first) other rows apart.0 found.0) (not-true (key_less key other.0) found.1)) ∙ covering))
last-covering key (first ∷ rows) row apart (inr there) is = by_test (last-covering key rows row apart.1 there is) (not (key_less key first.0))
  where
    by_test : last_of (upto key rows) ≡ Some row → (t : Bool) → last_of (cond t (first ∷ upto key rows) (upto key rows)) ≡ Some row
    by_test rest true = ap (λ (o : Option Row). option_or o (Some first)) rest
    by_test rest false = rest

-- what a key's decision says of the rows
abbrev pub Says : List ℕ → List Row → Decision → Type 0
Says key rows None = AllByRecursion (λ row. covers key row ≡ false) rows
Says key rows (Some found) = (row : Row) × In row rows × (covers key row ≡ true) × (decision_of row ≡ Some found)

-- a row that covers a key decides it
pub decided-covered : (key : List ℕ) (rows : List Row) (row : Row) → AreApart rows → In row rows → covers key row ≡ true → decided rows key ≡ decision_of row
decided-covered key rows row apart there is =
    ap (λ (o : Option Row). decided_by key o) (last-covering key rows row apart there is)
    ∙ ap (λ (t : Bool). cond t (decision_of row) None) (and_parts (not (key_less key row.0)) (reaches key row.0 row.1.entry) is).1

pub said : (key : List ℕ) (rows : List Row) → AreApart rows → (d : Decision) → Says key rows d → decided rows key ≡ d
said key rows apart (Some found) says = decided-covered key rows says.0 apart says.1 says.2 ∙ says.3
said key rows apart None says = by_last (last_of (upto key rows)) refl
  where
    by_last : (o : Option Row) → last_of (upto key rows) ≡ o → decided_by key o ≡ None
    by_last None last = refl
    by_last (Some row) last =
        let found = last-in (λ (r : Row). not (key_less key r.0)) rows row last in
        let off = in-all (λ r. covers key r ≡ false) row rows says found.0 in
        ap (λ (t : Bool). cond t (decision_of row) None)
        (false_from_ne_true (reaches key row.0 row.1.entry) (λ on. false≢true (sym off ∙ and_from (not (key_less key row.0)) (reaches key row.0 row.1.entry) found.1 on)))

pub says : (key : List ℕ) (rows : List Row) → AreApart rows → Says key rows (decided rows key)
says key rows apart = by_decision (decided rows key) refl
  where
    by_last : (found : _) (o : Option Row) → last_of (upto key rows) ≡ o → decided_by key o ≡ Some found → Says key rows (Some found)
    by_last found None last is = absurd (cc (is))
    by_last found (Some row) last is =
        by_reach (reaches key row.0 row.1.entry) refl is
      where
        by_reach : (t : Bool) → reaches key row.0 row.1.entry ≡ t → cond t (decision_of row) None ≡ Some found → Says key rows (Some found)
        by_reach true on is =
            let there = last-in (λ (r : Row). not (key_less key r.0)) rows row last in
            (row, there.0, and_from (not (key_less key row.0)) (reaches key row.0 row.1.entry) there.1 on, is)
        by_reach false off is = absurd (cc (is))

    by_decision : (d : Decision) → decided rows key ≡ d → Says key rows d
    by_decision None none =
        every (λ row. covers key row ≡ false) rows
        (λ row there. false_from_ne_true (covers key row) (λ is. not_none row (sym (decided-covered key rows row apart there is) ∙ none)))
      where
        not_none : (row : Row) → decision_of row ≡ None → ⊥
        not_none row is = cc (is)
    by_decision (Some found) is = by_last found (last_of (upto key rows)) refl is

-- where none is the last that passes, none passes
pub none-passes : (p : Row → Bool) (rows : List Row) → last_of (filter p rows) ≡ None → AllByRecursion (λ row. p row ≡ false) rows
none-passes p [] is = tt
none-passes p (row ∷ rows) is = by_test (p row) refl (none-passes p rows) is
  where
    not_none : (o : Option Row) → option_or o (Some row) ≡ None → ⊥
    not_none None is = cc (is)
    not_none (Some other) is = cc (is)

    by_test : (t : Bool) → p row ≡ t → (last_of (filter p rows) ≡ None → AllByRecursion (λ row. p row ≡ false) rows) → last_of (cond t (row ∷ filter p rows) (filter p rows)) ≡ None → AllByRecursion (λ row. p row ≡ false) (row ∷ rows)
    by_test true passes rest is = absurd (not_none (last_of (filter p rows)) is)
    by_test false fails rest is = (fails, rest is)

-- each that passes is the last one, or is below it
pub last-highest : (p : Row → Bool) (rows : List Row) (last : Row) → AreApart rows → last_of (filter p rows) ≡ Some last → AllByRecursion (λ row. p row ≡ true → (row ≡ last) ⊎ IsBelow row last) rows
last-highest p [] last apart is = tt
last-highest p (row ∷ rows) last apart is = by_last (last_of (filter p rows)) refl (last-highest p rows last apart.1) (p row) refl is
  where
    by_last : (o : Option Row) → last_of (filter p rows) ≡ o → (last_of (filter p rows) ≡ Some last → AllByRecursion (λ r. p r ≡ true → (r ≡ last) ⊎ IsBelow r last) rows) → (t : Bool) → p row ≡ t → last_of (cond t (row ∷ filter p rows) (filter p rows)) ≡ Some last
        → AllByRecursion (λ r. p r ≡ true → (r ≡ last) ⊎ IsBelow r last) (row ∷ rows)
    by_last (Some other) found rest true passes is =
        let here : last_of (filter p rows) ≡ Some last = found ∙ sym (ap (λ (o : Option Row). option_or o (Some row)) found) ∙ is in
        ((λ _. inr (in-all (IsBelow row) last rows apart.0 (last-in p rows last here).0)), rest here)
    by_last (Some other) found rest false fails is = ((λ passes. absurd (false≢true (sym fails ∙ passes))), rest is)
    by_last None none rest true passes is =
        let one : row ≡ last = cc (sym (ap (λ (o : Option Row). option_or o (Some row)) none) ∙ is) in
        ((λ _. inl one), weaker (λ r. p r ≡ false) (λ r. p r ≡ true → (r ≡ last) ⊎ IsBelow r last) (λ r fails passes. absurd (false≢true (sym fails ∙ passes))) rows (none-passes p rows none))
    by_last None none rest false fails is = absurd (cc (sym none ∙ is))

module _ (p : Row → Bool) where
  pub in-filter : (rows : List Row) (row : Row) → In row rows → p row ≡ true → In row (filter p rows)
  in-filter [] row there passes = absurd there
  in-filter (other ∷ rows) row (inl is) passes = ap-in (p other) (ap p is ∙ passes)
    where
      ap-in : (t : Bool) → t ≡ true → In row (cond t (other ∷ filter p rows) (filter p rows))
      ap-in true on = inl is
      ap-in false on = absurd (false≢true on)
  in-filter (other ∷ rows) row (inr there) passes = more (p other) (in-filter rows row there passes)
    where
      more : (t : Bool) → In row (filter p rows) → In row (cond t (other ∷ filter p rows) (filter p rows))
      more true rest = inr rest
      more false rest = rest

  pub filter-in : (rows : List Row) (row : Row) → In row (filter p rows) → In row rows × (p row ≡ true)
  filter-in [] row there = absurd there
  filter-in (other ∷ rows) row there = by_test (p other) refl (filter-in rows row) there
    where
      by_test : (t : Bool) → p other ≡ t → (In row (filter p rows) → In row rows × (p row ≡ true)) → In row (cond t (other ∷ filter p rows) (filter p rows)) → In row (other ∷ rows) × (p row ≡ true)
      by_test true passes rest (inl is) = (inl is, ap p (sym is) ∙ passes)
      by_test true passes rest (inr there) = let found = rest there in (inr found.0, found.1)
      by_test false fails rest there = let found = rest there in (inr found.0, found.1)

  pub all-filter : (P : Row → Type 0) (rows : List Row) → AllByRecursion P rows → AllByRecursion P (filter p rows)
  all-filter P [] all = tt
  all-filter P (row ∷ rows) all = by_test (p row) (all-filter P rows all.1)
    where
      by_test : (t : Bool) → AllByRecursion P (filter p rows) → AllByRecursion P (cond t (row ∷ filter p rows) (filter p rows))
      by_test true rest = (all.0, rest)
      by_test false rest = rest

  pub apart-filter : (rows : List Row) → AreApart rows → AreApart (filter p rows)
  apart-filter [] apart = tt
  apart-filter (row ∷ rows) apart = by_test (p row) (apart-filter rows apart.1)
    where
      by_test : (t : Bool) → AreApart (filter p rows) → AreApart (cond t (row ∷ filter p rows) (filter p rows))
      by_test true rest = (all-filter (IsBelow row) rows apart.0, rest)
      by_test false rest = rest
