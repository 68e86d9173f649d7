use Rattle.std.proofs.Common.{drop}
use Rattle.bd_tseitin.specs.inner.Step.{known}
use Rattle.bd_tseitin.proofs.Trees.{puts_whole}
use Rattle.bd_tseitin.proofs.definition.define_tree.Goals as goal

pub returns : goal.returns
returns c =
    let items = c.args.items.now in
    puts_whole (known c.args.literals.now) c.args.gate items (drop c.in_ok-branch.field-0 items) c.args.clauses.now.items c.branch-alloc.new.clauses.items c.in_ok-branch.ensures.branch
