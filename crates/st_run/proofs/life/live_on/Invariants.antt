use Rattle.std.proofs.Common.{[], ◌∷◌}
use Rattle.st_key.specs.Spans.{all_keys}
use Rattle.st_ptree.specs.Entries.{pairs_of}
use Rattle.st_run.proofs.life.live_on.Given as goal

-- the life of the plan on the store that was found open
abbrev pub ghosts-live : goal.ghosts-live
ghosts-live g a = record {
  given = record { log = a.log; upto = a.plan.now.upto; own = all_keys ∷ []; settings = a.settings.now };
  opening = record { version = a.opened.opening.version; available = a.opened.opening.available };
  store = record { fresh = a.opened.engine.store.fresh; pairs = pairs_of a.opened.opening.base };
}
