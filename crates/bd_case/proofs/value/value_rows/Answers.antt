use Rattle.std.proofs.lemmas.Result.{err_from_is_err_and}
use Rattle.bd_text.specs.View.{nodes_of_all}
use Rattle.bd_syntax.specs.Reading.{each_form}
use Rattle.bd_syntax.proofs.EachForm.{goes_on, ends, is_done}
use Rattle.bd_case.specs.Reading.{value_form}
use Rattle.bd_case.proofs.value.value_rows.Goals as goal

pub returns-in_err-value_row : goal.returns-in_err-value_row
returns-in_err-value_row c =
    let form = (value_form c.args.sort) in
    let p = err_from_is_err_and c.from_residual-in_err-value_row.result c.from_residual-in_err-value_row.ensures.1 in
    rw (p.1, p.2) (ends form c.args.trees.now c.loop-tree.values.items c.loop-tree.tree-index c.tree-item.result (each_form form (nodes_of_all c.args.trees.now)) c.in_err-value_row.field-0.0 c.loop-tree-test.true c.tree-item.is c.in_err-value_row.ensures c.loop-tree.invariant)

pub loop-tree-preserved : goal.loop-tree-preserved
loop-tree-preserved c =
    let form = (value_form c.args.sort) in
    rw c.in_ok-push.ensures.items (goes_on form c.args.trees.now c.loop-tree.values.items c.loop-tree.tree-index c.tree-item.result (each_form form (nodes_of_all c.args.trees.now)) c.in_ok-value_row.field-0 c.loop-tree-test.true c.tree-item.is c.in_ok-value_row.ensures c.loop-tree.invariant)

pub returns : goal.returns
returns c =
    let form = (value_form c.args.sort) in
    rw c.from_vec.ensures (is_done form c.args.trees.now c.loop-tree.values.items c.loop-tree.tree-index (each_form form (nodes_of_all c.args.trees.now)) c.loop-tree-test.false c.loop-tree.invariant)
