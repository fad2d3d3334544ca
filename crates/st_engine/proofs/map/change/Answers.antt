use Rattle.std.proofs.Common.{◌∙◌, ap, sym, not, filter}
use Rattle.st_ptree.specs.Entries.{pairs_of, within}
use Rattle.st_engine.specs.Replay.{op_on}
use Rattle.st_engine.proofs.Cases.{on_ok}
use Rattle.st_engine.proofs.map.change.Goals as goal

pub returns-in-Clear : goal.returns-in-Clear
returns-in-Clear g c =
    let old = pairs_of c.args.pairs.now in
    on_ok c.erase.result (λ is.
    ap pairs_of is
    ∙ c.pairs_are_a_map.ensures.kept _ (λ key. not (within c.as_slice.result.now c.as_slice-in-Clear.result.now key))
    ∙ (λ i. filter (λ pair. not (within (c.as_slice.ensures i) (c.as_slice-in-Clear.ensures i) pair.0)) old)
    ∙ ap (op_on old) (sym c.in-Clear.is)) c.erase.ensures.ok
