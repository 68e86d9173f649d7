use Rattle.std.proofs.Common.{Some, ap, sym, ◌∙◌, eqb-true}
use Rattle.bd_equality.proofs.Leaves.{leaf_at}
use Rattle.bd_equality.proofs.rows.is_variable.Goals as goal

pub returns-in-App-clause-leaf : goal.returns-in-App-clause-leaf
returns-in-App-clause-leaf c = λ e.
    leaf_at c.args.flat.now.graph c.node.ensures.graph c.args.flat.now.root c.args.flat.now.syms c.args.flat.now.flat c.args.id c.in-App.symbol c.in-App.field-1 c.args.variable (c.node.ensures.node ∙ ap Some c.in-App.is)
    (sym c.symbol_variable.ensures ∙ eqb-true c.symbol_variable.result c.args.variable e)
