use Rattle.std.proofs.Common.{◌≡◌, ◌∙◌, ℕ, List, not, false, filter, ap, rules}
use Rattle.st_course.specs.Jobs.{clears_of}
use Rattle.st_key.specs.Spans.{Span, holds, within}
use Rattle.st_ptree.specs.Entries.{pairs_of}
use Rattle.st_restart.specs.Opened.{stored_keys}
use Rattle.st_restart.proofs.Available.{available-left}
use Rattle.st_restart.proofs.reopening.opening_with.Goals as goal

pub returns-clause-opened : goal.returns-clause-opened
returns-clause-opened c =
    let meta = c.args.meta in
    let pairs = pairs_of c.args.pairs in
    let others : c.pieces.result.now ≡ clears_of false meta.available = search rules in
    let taken : pairs_of c.take_out.new.pairs ≡ filter (λ pair. not (within stored_keys pair.0)) (filter (λ pair. not (holds c.pieces.result.now pair.0)) pairs) = search rules in
    let base : pairs_of c.take_out.new.pairs ≡ filter (λ pair. holds meta.available pair.0) pairs =
    taken
    ∙ ap (λ (spans : List Span). filter (λ (pair : List ℕ × List ℕ). not (within stored_keys pair.0)) (filter (λ pair. not (holds spans pair.0)) pairs)) others
    ∙ available-left c.spans_are_put_in_and_taken_out.ensures.taken_out meta.available c.requires.available.spells.ranges pairs c.requires.alone in (
    λ i. record { fresh = false; version = meta.version; assigned = meta.assigned; available = meta.available; base = base i })
