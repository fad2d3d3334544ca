-- The order of keys, one way or the other.
use Rattle.std.proofs.Common.{◌≡◌, ◌∙◌, ℕ, Bool, true, false, not, List, refl, sym, ap}
use Rattle.std.proofs.lemmas.Bool.{false≢true}
use Rattle.st_key.specs.KeyOrder.{less_asym, less_connected, less_irrefl, less_trans}
use Rattle.st_session.specs.Walking.{comes_first, is_ahead}

pub first-irrefl : (reverse : Bool) (a : List ℕ) → comes_first reverse a a ≡ false
first-irrefl false a = less_irrefl a
first-irrefl true a = less_irrefl a

pub first-trans : (reverse : Bool) (a b c : List ℕ) → comes_first reverse a b ≡ true → comes_first reverse b c ≡ true → comes_first reverse a c ≡ true
first-trans false a b c ab bc = less_trans a b c ab bc
first-trans true a b c ab bc = less_trans c b a bc ab

pub first-asym : (reverse : Bool) (a b : List ℕ) → comes_first reverse a b ≡ true → comes_first reverse b a ≡ false
first-asym false a b ab = less_asym a b ab
first-asym true a b ab = less_asym b a ab

pub first-connected : (reverse : Bool) (a b : List ℕ) → comes_first reverse a b ≡ false → comes_first reverse b a ≡ false → a ≡ b
first-connected false a b ab ba = less_connected a b ab ba
first-connected true a b ab ba = less_connected a b ba ab

-- what comes behind a key that is ahead is ahead
pub ahead-on : (reverse : Bool) (key : List ℕ) (or_equal : Bool) (a b : List ℕ) → is_ahead reverse key or_equal a ≡ true → comes_first reverse a b ≡ true
    → is_ahead reverse key or_equal b ≡ true
ahead-on reverse key false a b here ab = first-trans reverse key a b here ab
ahead-on reverse key true a b here ab = by_test (comes_first reverse b key) refl
  where
    by_test : (t : Bool) → comes_first reverse b key ≡ t → not (comes_first reverse b key) ≡ true
    by_test true bk = absurd (false≢true (sym (ap not (first-trans reverse a b key ab bk)) ∙ here))
    by_test false bk = ap not bk
