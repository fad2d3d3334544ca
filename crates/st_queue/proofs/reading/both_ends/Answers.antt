use Rattle.std.proofs.Common.{◌<◌, ◌≤◌, sym, ap, ◌∙◌, arith}
use Rattle.st_queue.specs.Due.{are_discarded}
use Rattle.st_queue.specs.Frames.{generation}
use Rattle.st_queue.proofs.Numbers.{end-generation, released-end}
use Rattle.st_queue.proofs.Pair.{first-older, second-older}
use Rattle.st_queue.proofs.reading.both_ends.Goals as goal

pub returns-then-zero_end-one_end-clause-older : goal.returns-then-zero_end-one_end-clause-older
returns-then-zero_end-one_end-clause-older c = λ discarded.
    let z = c.args.zero.now in
    let o = c.args.one.now in
    let lt : generation z < generation o =
    omega (arith, end-generation 0 z c.args.first.now c.end_of-zero_end.result c.requires.first c.end_of-zero_end.ensures.end, end-generation 1 o c.args.second.now c.end_of-one_end.result c.requires.second c.end_of-one_end.ensures.end, c.if-zero_end-one_end.true) in
    released-end 0 z c.args.first.now c.end_of-zero_end.result c.requires.first c.end_of-zero_end.ensures.end discarded
    ∙ sym (ap (are_discarded discarded) (first-older z o c.args.first.now c.requires.zero c.requires.one lt c.requires.first))

pub returns-clause-older : goal.returns-clause-older
returns-clause-older c = λ discarded.
    let z = c.args.zero.now in
    let o = c.args.one.now in
    let le : generation o ≤ generation z =
    omega (arith, end-generation 0 z c.args.first.now c.end_of-zero_end.result c.requires.first c.end_of-zero_end.ensures.end, end-generation 1 o c.args.second.now c.end_of-one_end.result c.requires.second c.end_of-one_end.ensures.end, c.if-zero_end-one_end.false) in
    released-end 1 o c.args.second.now c.end_of-one_end.result c.requires.second c.end_of-one_end.ensures.end discarded
    ∙ sym (ap (are_discarded discarded) (second-older z o c.args.second.now c.requires.zero c.requires.one le c.requires.second))
