-- The first of keys beyond a bound.
use Rattle.std.proofs.Common.{◌≡◌, ◌∙◌, ℕ, Bool, true, false, cond, List, [], ◌∷◌, ◌++◌, Option, Some, None, refl, sym, ap, arith}
use Rattle.std.proofs.lemmas.Bool.{false≢true}
use Rattle.std.proofs.lemmas.List.Elements.{Contains-append_left, Contains-append_right}
use Rattle.std.specs.List.{AllByRecursion}
use Rattle.st_key.specs.KeyOrder.{less_connected, less_irrefl, less_trans}
use Rattle.st_versioned.specs.Neighbours.{IsFirstKey, IsFirstOf, first_by, first_of_two, is_beyond}
use Rattle.st_versioned.specs.declared.bound.Bound.{Bound}
use Rattle.st_versioned.specs.declared.bound.Bound.TheVariants.{From, Above, Below}

-- the way from a bound is an order
pub first_irrefl : (bound : Bound) (a : List ℕ) → first_by bound a a ≡ false
first_irrefl (From key) a = less_irrefl a
first_irrefl (Above key) a = less_irrefl a
first_irrefl (Below key) a = less_irrefl a

first_trans : (bound : Bound) (a b c : List ℕ) → first_by bound a b ≡ true → first_by bound b c ≡ true → first_by bound a c ≡ true
first_trans (From key) a b c ab bc = less_trans a b c ab bc
first_trans (Above key) a b c ab bc = less_trans a b c ab bc
first_trans (Below key) a b c ab bc = less_trans c b a bc ab

all-append : {X : Type 0} (P : X → Type 0) (xs ys : List X) → AllByRecursion P xs → AllByRecursion P ys → AllByRecursion P (xs ++ ys)
all-append P [] ys left right = right
all-append P (x ∷ xs) ys left right = (left.0, all-append P xs ys left.1 right)

all-mapped : {X : Type 0} (P Q : X → Type 0) → ((x : X) → P x → Q x) → (xs : List X) → AllByRecursion P xs → AllByRecursion Q xs
all-mapped P Q leads [] all = tt
all-mapped P Q leads (x ∷ xs) all = (leads x all.0, all-mapped P Q leads xs all.1)

pub first_connected : (bound : Bound) (a b : List ℕ) → first_by bound a b ≡ false → first_by bound b a ≡ false → a ≡ b
first_connected (From key) a b ab ba = less_connected a b ab ba
first_connected (Above key) a b ab ba = less_connected a b ab ba
first_connected (Below key) a b ab ba = less_connected a b ba ab

module _ (bound : Bound) (xs ys : List (List ℕ)) where
  none-first : (found : List ℕ) (key : List ℕ) → is_beyond bound key ≡ false → is_beyond bound key ≡ true → first_by bound key found ≡ false
  none-first found key off on = absurd (false≢true (sym off ∙ on))

  -- the first of two lists is the first of both firsts
  pub first-both : (a b : Option (List ℕ)) → IsFirstKey (first_by bound) (is_beyond bound) xs a → IsFirstKey (first_by bound) (is_beyond bound) ys b → IsFirstKey (first_by bound) (is_beyond bound) (xs ++ ys) (first_of_two bound a b)
  first-both None None left right = all-append (λ key. is_beyond bound key ≡ false) xs ys left right
  first-both None (Some b) left right = record {
    among = Contains-append_right xs ys b right.among;
    passing = right.passing;
    before = all-append (λ key. is_beyond bound key ≡ true → first_by bound key b ≡ false) xs ys (all-mapped (λ key. is_beyond bound key ≡ false) (λ key. is_beyond bound key ≡ true → first_by bound key b ≡ false) (none-first b) xs left) right.before;
  }
  first-both (Some a) None left right = record {
    among = Contains-append_left xs ys a left.among;
    passing = left.passing;
    before = all-append (λ key. is_beyond bound key ≡ true → first_by bound key a ≡ false) xs ys left.before (all-mapped (λ key. is_beyond bound key ≡ false) (λ key. is_beyond bound key ≡ true → first_by bound key a ≡ false) (none-first a) ys right);
  }
  first-both (Some a) (Some b) left right = by_test (first_by bound b a) refl
    where
      -- what doesn't come before one of them doesn't come before one that does
      behind : (x y key : List ℕ) → first_by bound x y ≡ true → first_by bound key y ≡ false → first_by bound key x ≡ false
      behind x y key xy ky = by_key (first_by bound key x) refl
        where
          by_key : (t : Bool) → first_by bound key x ≡ t → t ≡ false
          by_key true kx = absurd (false≢true (sym ky ∙ first_trans bound key x y kx xy))
          by_key false kx = refl

      by_test : (t : Bool) → first_by bound b a ≡ t → IsFirstOf (first_by bound) (is_beyond bound) (xs ++ ys) (cond t b a)
      by_test true ba = record {
        among = Contains-append_right xs ys b right.among;
        passing = right.passing;
        before = all-append (λ key. is_beyond bound key ≡ true → first_by bound key b ≡ false) xs ys
            (all-mapped (λ key. is_beyond bound key ≡ true → first_by bound key a ≡ false) (λ key. is_beyond bound key ≡ true → first_by bound key b ≡ false) (λ key no on. behind b a key ba (no on)) xs left.before)
            right.before;
      }
      by_test false ba = record {
        among = Contains-append_left xs ys a left.among;
        passing = left.passing;
        before = all-append (λ key. is_beyond bound key ≡ true → first_by bound key a ≡ false) xs ys left.before
            (all-mapped (λ key. is_beyond bound key ≡ true → first_by bound key b ≡ false) (λ key. is_beyond bound key ≡ true → first_by bound key a ≡ false) (λ key no on. not_behind key (no on)) ys right.before);
      }
        where
          not_behind : (key : List ℕ) → first_by bound key b ≡ false → first_by bound key a ≡ false
          not_behind key kb = by_tests (first_by bound key a) (first_by bound a b) refl refl
            where
              by_tests : (t u : Bool) → first_by bound key a ≡ t → first_by bound a b ≡ u → t ≡ false
              by_tests true true ka ab = absurd (false≢true (sym kb ∙ first_trans bound key a b ka ab))
              by_tests true false ka ab = absurd (false≢true (sym kb ∙ ap (first_by bound key) (sym (first_connected bound a b ab ba)) ∙ ka))
              by_tests false u ka ab = refl

-- a key that is beyond is the first of itself
pub first-alone : (bound : Bound) (key : List ℕ) → is_beyond bound key ≡ true → IsFirstOf (first_by bound) (is_beyond bound) (key ∷ []) key
first-alone bound key beyond = record {
  among = (0, omega arith, refl);
  passing = beyond;
  before = (λ _. first_irrefl bound key, tt);
}
