-- What an insert makes of a tree, from the bottom up.
use Rattle.std.specs.Prelude.{◌≡◌, ℕ, true, List, ◌++◌, length, ◌≤◌, Option, Some, None}
use Rattle.std.specs.Borrow.{Bor}
use Rattle.std.specs.Option.{option_map}
use Rattle.std.specs.declared.cmp.Ordering.TheVariants.{Equal}
use Rattle.std.specs.List.{AllByRecursion}
use Rattle.st_ptree.specs.Entries.{key_cmp, less, found, with_entry}
use Rattle.st_node.specs.declared.node.Node.{Node}
use Rattle.st_node.specs.Shapes.{Shape, Tip, shape, entry_of, node_shape, entries}
use Rattle.st_ptree.specs.Depth.{depth_at}
use Rattle.st_ptree.specs.Ways.{IsOn, along, over}
use Rattle.st_ptree.specs.Treap.{IsBefore, IsBehind, IsTreap}
use Rattle.st_ptree.specs.declared.way.Step.{Step}
use Rattle.st_ptree.specs.declared.insert.Way.{Way}
use Rattle.st_ptree.specs.declared.insert.Below.{Below}
use Rattle.st_ptree.specs.declared.insert.Below.TheVariants.{Whole, Parts}

module _ {T : Type 0} where
  -- the tree has the new entry, and no entry outside has to mind
  pub record IsWhole (new : List ℕ × (ℕ × T)) (old tree : Shape T) : Type 0 where
    pub treap : IsTreap tree
    pub list : entries tree ≡ with_entry (entries old) new.0 new.1.0 new.1.1
    pub before : (f : List ℕ × (ℕ × T)) → less new.0 f.0 ≡ true → AllByRecursion (IsBefore f) (entries old) → AllByRecursion (IsBefore f) (entries tree)
    pub behind : (f : List ℕ × (ℕ × T)) → less f.0 new.0 ≡ true → AllByRecursion (IsBehind f) (entries old) → AllByRecursion (IsBehind f) (entries tree)

  -- the new entry fits on top of the two
  pub record AreParts (new : List ℕ × (ℕ × T)) (old left right : Shape T) : Type 0 where
    pub treaps : IsTreap left × IsTreap right
    pub list : entries old ≡ entries left ++ entries right
    pub before : AllByRecursion (IsBefore new) (entries left)
    pub behind : AllByRecursion (IsBehind new) (entries right)

  abbrev pub StandsFor : List ℕ × (ℕ × T) → Shape T → Below T → Type 0
  StandsFor new old (Whole tree) = IsWhole new old (shape tree)
  StandsFor new old (Parts l r) = AreParts new old (shape l) (shape r)

  abbrev pub Raises : Step T → List ℕ × (ℕ × T) → Below T → Below T → Type 0
  Raises step new below out = (old : Shape T) → IsOn new.0 step → IsTreap (over step old) → StandsFor new old below → StandsFor new (over step old) out

  -- one more node is made where the new entry has no place yet
  abbrev pub still_open : Below T → ℕ
  still_open (Whole tree) = 0
  still_open (Parts l r) = 1

  abbrev pub Climbs : List (Step T) → List ℕ × (ℕ × T) → Below T → Below T → Type 0
  Climbs path new below out = (old : Shape T) → AllByRecursion (IsOn new.0) path → IsTreap (along path old) → StandsFor new old below → StandsFor new (along path old) out

  -- the tree at the end of the way
  abbrev pub ending : Option (Bor (Node T)) → Shape T
  ending None = Tip
  ending (Some n) = node_shape n.now

  -- where a node is at the end, it has the key
  abbrev pub IsAt : Option (Bor (Node T)) → List ℕ → Type 0
  IsAt None key = Unit {0}
  IsAt (Some n) key = key_cmp key (entry_of n.now).0 ≡ Equal

  -- and the priority
  abbrev pub Ranks : Option (Bor (Node T)) → ℕ → Type 0
  Ranks None prio = Unit {0}
  Ranks (Some n) prio = (entry_of n.now).1.0 ≡ prio

  abbrev pub Starts : Option (Bor (Node T)) → List ℕ × (ℕ × T) → Below T → Type 0
  Starts end new out = IsTreap (ending end) → IsAt end new.0 → Ranks end new.1.0 → StandsFor new (ending end) out

  abbrev pub Finishes : List ℕ × (ℕ × T) → Below T → Shape T → Type 0
  Finishes new below tree = (old : Shape T) → StandsFor new old below → IsTreap tree × (entries tree ≡ with_entry (entries old) new.0 new.1.0 new.1.1)

  -- the way goes down the tree to the key, and no further than the key is deep
  pub record Leads (key : List ℕ) (tree : Shape T) (way : Way T) : Type 0 where
    pub whole : along way.path.items (ending way.node) ≡ tree
    pub sides : AllByRecursion (IsOn key) way.path.items
    pub found_is : option_map (λ n. (entry_of n.now).1) way.node ≡ found key (entries tree)
    pub treap : IsTreap (ending way.node)
    pub here : IsAt way.node key
    pub short : length way.path.items ≤ depth_at key (entries tree)
