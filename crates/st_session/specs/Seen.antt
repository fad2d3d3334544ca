-- What is seen in a view.
use Rattle.std.specs.Prelude.{◌≡◌, ◌≤◌, ℕ, true, IsTrue, List, length, Option, Some}
use Rattle.std.specs.Cmp.Lexicographic.{slice_cmp}
use Rattle.std.specs.FinMap.Entries.{is_sorted}
use Rattle.std.specs.Ordering.{nat_cmp}
use Rattle.st_board.specs.declared.view.View.{View}
use Rattle.st_fold.specs.declared.request.Answer.{Answer}
use Rattle.st_fold.specs.declared.request.Ask.{Ask}
use Rattle.st_fold.specs.Map.{Map, value_at}
use Rattle.st_fold.specs.Reading.{plain, span_of}
use Rattle.st_key.specs.Spans.{Span, within}
use Rattle.st_ptree.specs.Entries.{pairs_of}
use Rattle.st_versioned.specs.Root.{over}

-- the value that a key has in a view
abbrev pub value_in : View → List ℕ → Option (List ℕ)
value_in view key = over (pairs_of view.root.entries) (pairs_of view.base) key

-- a map in the order of its keys, in which the keys of a span have these values
pub record IsMapOf (value : List ℕ → Option (List ℕ)) (span : Span) (pairs : Map) : Type 0 where
  pub sorted : IsTrue (is_sorted (slice_cmp nat_cmp) pairs)
  pub values : (key : List ℕ) → within span key ≡ true → value key ≡ value_at pairs key

-- each pair of the span has at most 10,001 bytes of key, as the end of a range, and 100,000 of value
abbrev pub AreShortIn : Span → (List ℕ → Option (List ℕ)) → Type 0
AreShortIn span value = (key found : List ℕ) → within span key ≡ true → value key ≡ Some found
    → (length key ≤ 10001) × (length found ≤ 100000)

-- the answer is what the request finds in a map that has the values of the view, whichever that is
abbrev pub IsFoundIn : View → Ask → Answer → Type 0
IsFoundIn view ask answer = (pairs : Map) → IsMapOf (value_in view) (span_of ask) pairs → answer ≡ plain pairs ask
