-- Two trees joined, the second behind the first.
use Rattle.std.specs.Prelude.{◌≡◌, true, ◌++◌}
use Rattle.std.specs.List.{AllByRecursion}
use Rattle.st_ptree.specs.Entries.{less}
use Rattle.st_node.specs.Shapes.{Shape, entries}
use Rattle.st_ptree.specs.Treap.{IsTreap}

module _ {T : Type 0} where
  -- each key of the first is below each of the second
  abbrev pub Apart : Shape T → Shape T → Type 0
  Apart a b = AllByRecursion (λ f. AllByRecursion (λ g. less f.0 g.0 ≡ true) (entries b)) (entries a)

  pub record IsJoin (a b t : Shape T) : Type 0 where
    pub treap : IsTreap t
    pub list : entries t ≡ entries a ++ entries b
