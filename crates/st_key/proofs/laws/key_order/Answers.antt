use Rattle.st_key.specs.KeyOrder.{less_irrefl, less_trans, less_connected}
use Rattle.st_key.proofs.laws.key_order.Goals as goal

pub returns : goal.returns
returns c = record { irreflexive = less_irrefl; transitive = less_trans; connected = less_connected }
