use Rattle.std.proofs.lemmas.Result.{err_from_is_err_and}
use Rattle.bd_text.specs.View.{nodes_of_all}
use Rattle.bd_syntax.specs.Reading.{each_form}
use Rattle.bd_syntax.proofs.EachForm.{goes_on, ends, is_done}
use Rattle.bd_case.specs.Reading.{word_form}
use Rattle.bd_case.proofs.value.words.Goals as goal

pub returns-in_err-word : goal.returns-in_err-word
returns-in_err-word c =
    let form = word_form in
    let p = err_from_is_err_and c.from_residual-in_err-word.result c.from_residual-in_err-word.ensures.1 in
    rw (p.1, p.2) (ends form c.args.trees.now c.loop-tree.words.items c.loop-tree.tree-index c.tree-item.result (each_form form (nodes_of_all c.args.trees.now)) c.in_err-word.field-0.0 c.loop-tree-test.true c.tree-item.is c.in_err-word.ensures c.loop-tree.invariant)

pub loop-tree-preserved : goal.loop-tree-preserved
loop-tree-preserved c =
    let form = word_form in
    rw c.in_ok-push.ensures.items (goes_on form c.args.trees.now c.loop-tree.words.items c.loop-tree.tree-index c.tree-item.result (each_form form (nodes_of_all c.args.trees.now)) c.in_ok-word.field-0 c.loop-tree-test.true c.tree-item.is c.in_ok-word.ensures c.loop-tree.invariant)

pub returns : goal.returns
returns c =
    let form = word_form in
    rw c.from_vec.ensures (is_done form c.args.trees.now c.loop-tree.words.items c.loop-tree.tree-index (each_form form (nodes_of_all c.args.trees.now)) c.loop-tree-test.false c.loop-tree.invariant)
