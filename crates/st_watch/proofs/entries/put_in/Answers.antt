use Rattle.std.proofs.Common.{◌≡◌, ◌∙◌, ◌+◌, ◌≤◌, ◌∷◌, true, false, sym, subst, arith, length, take, drop}
use Rattle.std.proofs.lemmas.List.Sorted.{IsPermutation-insert, IsPermutation-sym, IsPermutation-to_front}
use Rattle.std.specs.List.{AllByRecursion}
use Rattle.std.specs.List.Sorted.{IsPermutation}
use Rattle.st_key.specs.Spans.{key_less}
use Rattle.st_watch.specs.declared.entry.Entry.{Entry}
use Rattle.st_watch.proofs.Changes.{parted-with}
use Rattle.st_watch.proofs.entries.put_in.Goals as goal

pub returns-in_ok-insert-clause-parted : goal.returns-in_ok-insert-clause-parted
returns-in_ok-insert-clause-parted c =
    let key = c.bytes.ensures.value in
    let seen = c.deref.ensures.value in
    let waiting = c.args.waiting in
    let at = c.count_to-at.result in
    parted-with c.args.entries.now.items c.insert.new.self.items waiting (waiting + 1) at c.args.entry c.requires (sym c.is_waiting.ensures ∙ c.if-is_waiting.true)
    c.in_ok-insert.ensures.items (omega arith)
    (subst (λ l. at ≤ length (take waiting l)) seen c.count_to-at.ensures.bound)
    (subst (λ l. AllByRecursion (λ (e : Entry). key_less c.args.entry.standing.key e.standing.key ≡ false) (take at (take waiting l))) seen
    (subst (λ k. AllByRecursion (λ (e : Entry). key_less k e.standing.key ≡ false) (take at (take waiting c.deref.result.now))) key c.count_to-at.ensures.first))
    (subst (λ l. AllByRecursion (λ (e : Entry). key_less c.args.entry.standing.key e.standing.key ≡ true) (drop at (take waiting l))) seen
    (subst (λ k. AllByRecursion (λ (e : Entry). key_less k e.standing.key ≡ true) (drop at (take waiting c.deref.result.now))) key c.count_to-at.ensures.others))

pub returns-in_ok-insert-clause-moved : goal.returns-in_ok-insert-clause-moved
returns-in_ok-insert-clause-moved c =
    subst (λ l. IsPermutation (c.args.entry ∷ c.args.entries.now.items) l) (sym c.in_ok-insert.ensures.items)
    (IsPermutation-insert c.args.entries.now.items c.count_to-at.result c.args.entry)

pub returns-in_ok-push-clause-moved : goal.returns-in_ok-push-clause-moved
returns-in_ok-push-clause-moved c =
    subst (λ l. IsPermutation (c.args.entry ∷ c.args.entries.now.items) l) (sym c.in_ok-push.ensures.items)
    (IsPermutation-sym _ _ (IsPermutation-to_front c.args.entries.now.items c.args.entry))
