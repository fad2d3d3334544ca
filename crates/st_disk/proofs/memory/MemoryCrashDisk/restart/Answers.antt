use Rattle.std.proofs.Common.{◌≡◌, true, false, Some, List, ℕ, sym, ap, ◌∙◌}
use Rattle.st_disk.specs.History.{Files, History, fresh}
use Rattle.st_disk.specs.Left.{left}
use Rattle.st_disk.specs.Recorded.{Recorded, history_of}
use Rattle.st_disk.specs.Entries.{after_entries, started}
use Rattle.st_disk.specs.declared.memory.Entry.{Entry}
use Rattle.st_disk.proofs.Told.{now-zero, now-one}
use Rattle.st_disk.proofs.memory.MemoryCrashDisk.restart.Goals as goal

pub returns-clause-ok : goal.returns-clause-ok
returns-clause-ok c =
    let m = c.self.inside in
    let choice = c.args.choice in
    let of : List Entry → List ℕ → List ℕ → Files = λ entries zero one. left choice (after_entries false entries (started false entries zero), after_entries true entries (started true entries one)) in
    let made : (let files : Files = (c.in_ok-zero.zero.items, c.in_ok-zero.one.items) in files) ≡ of m.entries.items m.zero.items m.one.items =
    c.in_ok-zero.ensures ∙ (λ i. of (c.deref.ensures.value i) (c.deref-2.ensures.value i) (c.deref-3.ensures.value i)) in
    let now : of m.entries.items m.zero.items m.one.items ≡ left choice (history_of c.args.self.now).now =
    (λ i. left choice (sym (now-zero m.entries.items m.zero.items m.one.items m.made) i, sym (now-one m.entries.items m.zero.items m.one.items m.made) i))
    ∙ ap (λ (r : Recorded). left choice (history_of r).now) c.self.view_is in
    ap (λ (h : History). Some h) (ap history_of (c.drop.view_is ∙ c.with.ensures) ∙ ap fresh (made ∙ now))
