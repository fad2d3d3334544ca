use Rattle.std.proofs.Common.{◌≡◌, ◌∙◌, ◌∷◌, [], refl, sym, ap, None}
use Rattle.st_fold.specs.Map.{Map}
use Rattle.st_ptree.specs.Entries.{pairs_of}
use Rattle.st_engine.specs.Snapshot.{still_of}
use Rattle.st_engine.proofs.snapshot.still.Goals as goal

-- before its first item a snapshot has all pairs to write
all-still : (pairs : Map) → still_of None pairs ≡ pairs
all-still [] = refl
all-still (pair ∷ pairs) = ap (λ (l : Map). pair ∷ l) (all-still pairs)

pub returns-in-None-clause-still : goal.returns-in-None-clause-still
returns-in-None-clause-still g c =
    let pairs = pairs_of c.args.pairs.now in
    c.iter.ensures.value ∙ sym (all-still pairs) ∙ ap (λ cursor. still_of cursor pairs) (sym c.in-None.is)
