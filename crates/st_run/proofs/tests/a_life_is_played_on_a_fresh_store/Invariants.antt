use Rattle.std.proofs.Common.{[], ◌∷◌}
use Rattle.st_key.specs.Spans.{all_keys}
use Rattle.st_ptree.specs.Entries.{pairs_of}
use Rattle.st_run.specs.declared.tests.TheConstants.{SETTINGS}
use Rattle.st_run.proofs.tests.a_life_is_played_on_a_fresh_store.Given as goal

-- the life of a fresh store over an empty log
abbrev pub ghosts-live : goal.ghosts-live
ghosts-live g a = record {
  given = record { log = []; upto = 1; own = all_keys ∷ []; settings = SETTINGS };
  opening = record { version = a.opened.opening.version; available = a.opened.opening.available };
  store = record { fresh = a.opened.engine.store.fresh; pairs = pairs_of a.opened.opening.base };
}
