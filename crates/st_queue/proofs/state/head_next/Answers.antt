use Rattle.std.proofs.Common.{◌∙◌, Err, ◌≡◌, Some, ap, rules}
use Rattle.std.specs.Option.{option_map}
use Rattle.st_queue.specs.Place.{next_file, next_generation, next_number, next_place}
use Rattle.st_queue.specs.Prepared.{ToldPrepared}
use Rattle.st_queue.specs.Writing.{ToldSettled, after_put, header_bytes}
use Rattle.st_queue.specs.declared.frame.QueueRefusal.{QueueRefusal}
use Rattle.st_queue.specs.declared.place.Place.{Place}
use Rattle.st_queue.proofs.Held.{holds-headed, holds-refused}
use Rattle.st_queue.proofs.state.head_next.Goals as goal

pub returns-clause-holds : goal.returns-clause-holds
returns-clause-holds g c =
    let current = c.args.state.now.current in
    let told = g.D.Disk.history c.args.disk.now in
    let new = g.D.Disk.history c.write_header.new.disk in
    let calls : new ≡ option_map (after_put (next_file current) 1 (header_bytes (next_generation current) (next_number current))) told = search rules in
    let done : ToldSettled new current × ToldPrepared new (next_place current) = search rules in
    holds-headed told new c.args.state.now c.requires.holds c.requires.unbroken c.requires.shut c.requires.unspent calls done.0 done.1 _ (ap (λ (p : Place). Some p) c.next_place.ensures)

pub write_header-requires-clause-settled : goal.write_header-requires-clause-settled
write_header-requires-clause-settled g c = c.requires.holds.settled c.requires.unbroken

pub returns-in-Err-clause-holds : goal.returns-in-Err-clause-holds
returns-in-Err-clause-holds g c =
    holds-refused _ _ c.args.state.now c.in-Err.refusal c.requires.holds c.requires.unbroken c.in-Err.ensures.err (λ e. c.write_header.ensures.heads.same (c.in-Err.is ∙ ap (λ (r : QueueRefusal). Err r) e)) _ c.broken_by-state.ensures
