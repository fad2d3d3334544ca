-- Operations put together.
use Rattle.std.proofs.Common.{◌≡◌, ◌++◌, true, List, [], ◌∷◌, IsTrue, refl}
use Rattle.std.specs.List.{list_all}
use Rattle.std.proofs.lemmas.Bool.{and_from, and_parts}
use Rattle.st_ops.specs.Grammar.{Fits, is_change}
use Rattle.st_ops.specs.declared.op.Op.{Op}
use Rattle.st_board.specs.Base.{AreChanges}
use Rattle.st_board.proofs.Lists.{all-append}

all-changes : (first second : List Op) → list_all is_change first ≡ true → list_all is_change second ≡ true → list_all is_change (first ++ second) ≡ true
all-changes [] second one other = other
all-changes (op ∷ first) second one other =
    let parts = and_parts (is_change op) (list_all is_change first) one in
    and_from (is_change op) (list_all is_change (first ++ second)) parts.0 (all-changes first second parts.1 other)

pub changes-append : (first second : List Op) → AreChanges first → AreChanges second → AreChanges (first ++ second)
changes-append first second one other = record {
  changes = all-changes first second one.changes other.changes;
  fits = all-append Fits first second one.fits other.fits;
}

pub changes-more : (ops : List Op) (op : Op) → AreChanges ops → IsTrue (is_change op) → Fits op → AreChanges (ops ++ op ∷ [])
changes-more ops op are is fits = changes-append ops (op ∷ []) are (record { changes = and_from (is_change op) true is refl; fits = (fits, tt) })
