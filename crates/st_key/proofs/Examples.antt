-- Worked examples of sets of keys, by computation.
use Rattle.std.specs.Prelude.{codes}
use Rattle.std.proofs.Common.{◌≡◌, ℕ, true, false, List, [], ◌∷◌, refl}
use Rattle.st_key.specs.Parts.{with_span, without_span}
use Rattle.st_key.specs.Spans.{Span, key_less, within, is_canonical}

abbrev from_to : List ℕ → List ℕ → Span
from_to begin end = record { begin = begin; end = end }

-- a key comes before each longer one that begins with it
prefix_first : key_less (codes "a") (codes "ab") ≡ true
prefix_first = refl

-- a range has its begin, and not its end
begin_is_in : within (from_to (codes "b") (codes "d")) (codes "b") ≡ true
begin_is_in = refl

end_is_out : within (from_to (codes "b") (codes "d")) (codes "d") ≡ false
end_is_out = refl

-- ranges that touch make one
touching : with_span (from_to (codes "a") (codes "b") ∷ from_to (codes "c") (codes "e") ∷ []) (from_to (codes "b") (codes "c"))
    ≡ from_to (codes "a") (codes "e") ∷ []
touching = refl

-- and are no canonical form as two
touching_apart : is_canonical (from_to (codes "a") (codes "b") ∷ from_to (codes "b") (codes "c") ∷ []) ≡ false
touching_apart = refl

-- ranges that don't touch stay apart, in order
apart : with_span (from_to (codes "m") (codes "p") ∷ []) (from_to (codes "b") (codes "d"))
    ≡ from_to (codes "b") (codes "d") ∷ from_to (codes "m") (codes "p") ∷ []
apart = refl

-- a range taken out of the middle leaves two
cut_in_two : without_span (from_to (codes "a") (codes "f") ∷ []) (from_to (codes "b") (codes "d"))
    ≡ from_to (codes "a") (codes "b") ∷ from_to (codes "d") (codes "f") ∷ []
cut_in_two = refl
