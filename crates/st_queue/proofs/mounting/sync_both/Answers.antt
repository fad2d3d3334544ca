use Rattle.std.proofs.Common.{◌≡◌, ◌∙◌, ◌∷◌, [], rules}
use Rattle.std.specs.Option.{option_map}
use Rattle.st_disk.specs.History.{after_sync, counted}
use Rattle.st_queue.proofs.Syncs.{leaves-one, leaves-both}
use Rattle.st_disk.specs.Calls.{told_stopped-at, told_stopped-none}
use Rattle.st_disk.specs.Recorded.{sync}
use Rattle.st_queue.proofs.mounting.sync_both.Goals as goal

pub returns-then-is_err-2-clause-any_moment : goal.returns-then-is_err-2-clause-any_moment
returns-then-is_err-2-clause-any_moment g c =
    let first : g.D.Disk.history c.sync.new.self ≡ option_map (λ h. counted (after_sync 0 h)) (g.D.Disk.history c.args.disk.now) = search rules in
    let same : g.D.Disk.history c.sync-2.new.self ≡ g.D.Disk.history c.sync.new.self = search rules in
    leaves-one _ _ (same ∙ first) (g.met.D.Disk.reads_as_image c.args.disk.now)

pub returns-clause-any_moment : goal.returns-clause-any_moment
returns-clause-any_moment g c =
    let first : g.D.Disk.history c.sync.new.self ≡ option_map (λ h. counted (after_sync 0 h)) (g.D.Disk.history c.args.disk.now) = search rules in
    let second : g.D.Disk.history c.sync-2.new.self ≡ option_map (λ h. counted (after_sync 1 h)) (g.D.Disk.history c.sync.new.self) = search rules in
    (leaves-both _ _ _ first second (g.met.D.Disk.reads_as_image c.args.disk.now) (g.met.D.Disk.reads_as_image c.sync.new.self)).1

pub returns-then-is_err-clause-stopped : goal.returns-then-is_err-clause-stopped
returns-then-is_err-clause-stopped g c =
    let same : g.D.Disk.history c.sync.new.self ≡ g.D.Disk.history c.args.disk.now = search rules in
    told_stopped-none (sync 0) (sync 1 ∷ []) _ _ same

pub returns-then-is_err-2-clause-stopped : goal.returns-then-is_err-2-clause-stopped
returns-then-is_err-2-clause-stopped g c =
    let first : g.D.Disk.history c.sync.new.self ≡ option_map (λ h. counted (after_sync 0 h)) (g.D.Disk.history c.args.disk.now) = search rules in
    let same : g.D.Disk.history c.sync-2.new.self ≡ g.D.Disk.history c.sync.new.self = search rules in
    told_stopped-at (sync 0 ∷ []) (sync 1) [] _ _ (same ∙ first)
