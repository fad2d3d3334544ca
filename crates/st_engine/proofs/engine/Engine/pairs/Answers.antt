use Rattle.std.proofs.Common.{subst}
use Rattle.st_engine.specs.Engine.{Keeps}
use Rattle.st_engine.proofs.engine.Engine.pairs.Goals as goal

pub returns-clause-agrees : goal.returns-clause-agrees
returns-clause-agrees g c = (subst (Keeps g.D.Disk.history) c.self.view_is c.self.invariant).agrees
