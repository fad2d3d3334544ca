-- What a root wrote above a version, over a base that has the rest.
use Rattle.std.proofs.Common.{◌≡◌, ◌∙◌, ◌≤◌, ◌<◌, ℕ, suc, Bool, true, false, cond, nat_le, nat_lt, leb-false, le-leb, List, Some, None, refl, sym, ap, arith}
use Rattle.std.specs.Option.{unwrap_or}
use Rattle.st_versioned.specs.Apart.{AreApart}
use Rattle.st_versioned.specs.Root.{Decision, Pairs, Row, decided, decision_above, over, told, value_at}
use Rattle.st_versioned.specs.Writing.{made_above, made_to}
use Rattle.st_versioned.proofs.Forgetting.{decided-above}
use Rattle.st_versioned.proofs.Reaching.{Says, apart-filter, in-filter, said, says}

pub above-same : (version : ℕ) (rows : List Row) (base : Pairs) (key : List ℕ) → AreApart rows → over (made_to version rows) base key ≡ value_at base key → over (made_above version rows) base key ≡ over rows base key
above-same version rows base key apart same =
    ap (λ (d : Decision). unwrap_or (told d) (value_at base key)) (decided-above version rows apart key)
    ∙ by_decision (decided rows key) (says key rows apart)
  where
    by_decision : (d : Decision) → Says key rows d → unwrap_or (told (decision_above version d)) (value_at base key) ≡ unwrap_or (told d) (value_at base key)
    by_decision None none = refl
    by_decision (Some found) (row, there, covered, is) = by_test (nat_lt version found.0) refl
      where
        by_test : (t : Bool) → nat_lt version found.0 ≡ t → unwrap_or (told (cond t (Some found) None)) (value_at base key) ≡ found.1
        by_test true above = refl
        by_test false off =
            let one : row.1.version ≡ found.0 = cc (is) in
            let lt : found.0 < suc version = leb-false (suc version) found.0 off in
            let up_to : nat_le row.1.version version ≡ true = le-leb row.1.version version (omega arith) in
            let below : decided (made_to version rows) key ≡ Some found =
            said key (made_to version rows) (apart-filter (λ (r : Row). nat_le r.1.version version) rows apart) (Some found) (row, in-filter (λ (r : Row). nat_le r.1.version version) rows row there up_to, covered, is) in
            sym same ∙ ap (λ (d : Decision). unwrap_or (told d) (value_at base key)) below
