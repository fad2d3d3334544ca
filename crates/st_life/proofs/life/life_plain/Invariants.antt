use Rattle.st_disk.specs.Fuse.{fused_history}
use Rattle.st_life.specs.Ended.{start_by}
use Rattle.st_life.proofs.life.life_plain.Given as goal

abbrev pub ghosts-live : goal.ghosts-live
ghosts-live g a = record {
  start = start_by g.N.Story.given a.plan.now g.N.Story.opening g.N.Story.store.fresh a.server (fused_history g.D.Disk.history a.server.engine.disk);
  told = fused_history g.D.Disk.history a.server.engine.disk;
}
