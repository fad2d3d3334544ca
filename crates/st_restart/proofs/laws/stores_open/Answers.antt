use Rattle.st_restart.proofs.Stores.{agrees-fresh, opens-untouched, opens-written}
use Rattle.st_restart.proofs.laws.stores_open.Goals as goal

pub returns : goal.returns
returns c = record {
  fresh = agrees-fresh;
  untouched = opens-untouched;
  written = λ given opening pairs files mounts some store.
      opens-written given opening pairs files c.stored_is_read.ensures (c.mounted_maps_are_in_order.ensures pairs files mounts)
      (c.folds_are_in_order.ensures given.log opening.version) mounts some store;
}
