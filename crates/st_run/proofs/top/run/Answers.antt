use Rattle.std.proofs.Common.{◌≤◌, ◌∙◌, IfSome, refl, sym, subst}
use Rattle.st_run.specs.Replayed.{IsOfRun, Runs}
use Rattle.st_run.specs.declared.counted.Counted.{Counted}
use Rattle.st_run.proofs.Demanding.{run-told}
use Rattle.st_run.proofs.Playing.{servable}
use Rattle.st_run.proofs.Replaying.{of-run}
use Rattle.st_run.proofs.top.run.Goals as goal

pub run_lives-lives-requires : goal.run_lives-lives-requires
run_lives-lives-requires g c = servable c.args.script c.requires.playable

pub returns-clause-runs : goal.returns-clause-runs
returns-clause-runs g c =
    let told = g.D.Disk.history in
    let count = g.D.Disk.fault_count in
    let script = c.args.script in
    let ran = c.run_lives-lives.result in
    subst (λ (disk : g.row.D.Denot). IfSome (told c.args.disk) (λ h. Runs told script h (record { lives = ran.lives; fault = ran.fault; disk = disk }))) (sym c.into_inner.ensures)
    (run-told {E = Counted g.row.C.Denot g.row.D.Denot g.C.HandedIn g.D.Disk} told (λ e. told e.disk) (λ e. count e.disk) (λ e. e.disk) (λ e. refl)
    c.lives_are_demanded.ensures.played c.lives_are_demanded.ensures.broken c.lives_are_demanded.ensures.state_played c.lives_are_demanded.ensures.state_broken c.no_life_is_demanded.ensures
    (λ e. g.met.D.Disk.reads_as_image e.disk) script (servable script c.requires.playable) c.requires.playable.some_life.0 c.requires.playable.some_life.1 c.requires.playable.some_life.2
    c.args.disk c.new.result c.new.ensures (λ e. e.tells ∙ c.requires.told) ran c.run_lives-lives.ensures)

pub returns-clause-fault : goal.returns-clause-fault
returns-clause-fault g c =
    let told = g.D.Disk.history in
    let count = g.D.Disk.fault_count in
    let script = c.args.script in
    let ran = c.run_lives-lives.result in
    subst (λ (disk : g.row.D.Denot). IsOfRun (count c.args.disk) (count disk) ran.fault) (sym c.into_inner.ensures)
    (of-run {D = Counted g.row.C.Denot g.row.D.Denot g.C.HandedIn g.D.Disk} (λ e. told e.disk) (λ e. count e.disk) script (count c.args.disk)
    (λ e. subst (λ n. n ≤ count e.disk) c.requires.least e.counts) script.lives c.new.result ran c.run_lives-lives.ensures)
