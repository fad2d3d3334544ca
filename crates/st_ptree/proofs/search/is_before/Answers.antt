use Rattle.std.proofs.Common.{rules, ◌≡◌, sym}
use Rattle.std.specs.declared.cmp.Ordering.TheVariants.{Less, Equal, Greater}
use Rattle.st_node.specs.Shapes.{entry_of}
use Rattle.st_ptree.specs.Entries.{key_cmp}
use Rattle.st_ptree.proofs.Orders.{before-itself, is-before, not-before}
use Rattle.st_ptree.proofs.search.is_before.Goals as goal

pub returns-in-Less-clause-value : goal.returns-in-Less-clause-value
returns-in-Less-clause-value g c =
    let o : key_cmp c.args.key.now (entry_of c.args.node.now).0 ≡ Less = search rules in
    sym (not-before c.args.key.now (entry_of c.args.node.now).0 c.args.or_equal o)

pub returns-in-Equal-clause-value : goal.returns-in-Equal-clause-value
returns-in-Equal-clause-value g c =
    let o : key_cmp c.args.key.now (entry_of c.args.node.now).0 ≡ Equal = search rules in
    sym (before-itself c.args.key.now (entry_of c.args.node.now).0 c.args.or_equal o)

pub returns-in-Greater-clause-value : goal.returns-in-Greater-clause-value
returns-in-Greater-clause-value g c =
    let o : key_cmp c.args.key.now (entry_of c.args.node.now).0 ≡ Greater = search rules in
    sym (is-before c.args.key.now (entry_of c.args.node.now).0 c.args.or_equal o)
