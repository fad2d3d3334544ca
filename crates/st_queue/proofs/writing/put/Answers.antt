use Rattle.std.proofs.Common.{◌≡◌, ◌∷◌, [], rules}
use Rattle.std.specs.Option.{option_map}
use Rattle.st_disk.specs.History.{after_write, after_sync, counted, IsPartlyWritten}
use Rattle.st_queue.proofs.Puts.{put-none, put-failed, put-written, put-both}
use Rattle.st_disk.specs.Calls.{told_stopped-write}
use Rattle.st_disk.specs.Recorded.{sync}
use Rattle.st_queue.proofs.Stops.{put_stops-none, put_stops-sync}
use Rattle.st_queue.proofs.writing.put.Goals as goal

pub returns-in-Err-NoMemory-clause-any_moment : goal.returns-in-Err-NoMemory-clause-any_moment
returns-in-Err-NoMemory-clause-any_moment g c =
    let same : g.D.Disk.history c.write_at.new.self ≡ g.D.Disk.history c.args.disk.now = search rules in
    put-none c.args.file c.args.at c.args.bytes.now _ _ same c.requires.synced c.requires.begins

pub returns-in-Err-Failed-clause-any_moment : goal.returns-in-Err-Failed-clause-any_moment
returns-in-Err-Failed-clause-any_moment g c =
    let partly : IsPartlyWritten c.args.file c.args.at c.args.bytes.now (g.D.Disk.history c.args.disk.now) (g.D.Disk.history c.write_at.new.self) = search rules in
    put-failed c.args.file c.args.at c.args.bytes.now _ _ partly c.requires.synced c.requires.begins

pub returns-then-is_err-clause-any_moment : goal.returns-then-is_err-clause-any_moment
returns-then-is_err-clause-any_moment g c =
    let wrote : g.D.Disk.history c.write_at.new.self ≡ option_map (λ h. counted (after_write c.args.file c.args.at c.args.bytes.now h)) (g.D.Disk.history c.args.disk.now) = search rules in
    let same : g.D.Disk.history c.sync.new.self ≡ option_map (λ h. counted (after_write c.args.file c.args.at c.args.bytes.now h)) (g.D.Disk.history c.args.disk.now) = search rules in
    put-written c.args.file c.args.at c.args.bytes.now _ _ same c.requires.synced c.requires.begins

pub returns-clause-any_moment : goal.returns-clause-any_moment
returns-clause-any_moment g c =
    let wrote : g.D.Disk.history c.write_at.new.self ≡ option_map (λ h. counted (after_write c.args.file c.args.at c.args.bytes.now h)) (g.D.Disk.history c.args.disk.now) = search rules in
    let synced : g.D.Disk.history c.sync.new.self ≡ option_map (λ h. counted (after_sync c.args.file h)) (g.D.Disk.history c.write_at.new.self) = search rules in
    (put-both c.args.file c.args.at c.args.bytes.now _ _ _ wrote synced c.requires.synced c.requires.begins).1

pub returns-clause-ok : goal.returns-clause-ok
returns-clause-ok g c =
    let wrote : g.D.Disk.history c.write_at.new.self ≡ option_map (λ h. counted (after_write c.args.file c.args.at c.args.bytes.now h)) (g.D.Disk.history c.args.disk.now) = search rules in
    let synced : g.D.Disk.history c.sync.new.self ≡ option_map (λ h. counted (after_sync c.args.file h)) (g.D.Disk.history c.write_at.new.self) = search rules in
    (put-both c.args.file c.args.at c.args.bytes.now _ _ _ wrote synced c.requires.synced c.requires.begins).0

pub returns-in-Err-NoMemory-clause-stopped : goal.returns-in-Err-NoMemory-clause-stopped
returns-in-Err-NoMemory-clause-stopped g c =
    let same : g.D.Disk.history c.write_at.new.self ≡ g.D.Disk.history c.args.disk.now = search rules in
    put_stops-none c.args.file c.args.at c.args.bytes.now _ _ same

pub returns-in-Err-Failed-clause-stopped : goal.returns-in-Err-Failed-clause-stopped
returns-in-Err-Failed-clause-stopped g c =
    let partly : IsPartlyWritten c.args.file c.args.at c.args.bytes.now (g.D.Disk.history c.args.disk.now) (g.D.Disk.history c.write_at.new.self) = search rules in
    told_stopped-write c.args.file c.args.at c.args.bytes.now (sync c.args.file ∷ []) _ _ partly

pub returns-then-is_err-clause-stopped : goal.returns-then-is_err-clause-stopped
returns-then-is_err-clause-stopped g c =
    let same : g.D.Disk.history c.sync.new.self ≡ option_map (λ h. counted (after_write c.args.file c.args.at c.args.bytes.now h)) (g.D.Disk.history c.args.disk.now) = search rules in
    put_stops-sync c.args.file c.args.at c.args.bytes.now _ _ same
