use Rattle.std.proofs.Common.{◌≡◌, ◌∷◌, [], ◌++◌, map}
use Rattle.std.proofs.lemmas.List.{map_push}
use Rattle.std.proofs.lemmas.Result.{err_from_is_err_and}
use Rattle.bd_text.specs.View.{nodes_of_all}
use Rattle.bd_syntax.specs.Forms.{item_view}
use Rattle.bd_syntax.specs.Reading.{each_form, item_form}
use Rattle.bd_syntax.proofs.EachForm.{goes_on, ends, is_done}
use Rattle.bd_syntax.proofs.read_item.items.Goals as goal

pub returns-in_err-item : goal.returns-in_err-item
returns-in_err-item c =
    let form = item_form c.args.place in
    let trees = c.args.trees.now in
    let p = err_from_is_err_and c.from_residual.result c.from_residual.ensures.1 in
    rw (p.1, p.2) (ends form trees (map item_view c.loop-tree.items.items) c.loop-tree.tree-index c.tree-item.result (each_form form (nodes_of_all trees)) c.in_err-item.field-0.0 c.loop-tree-test.true c.tree-item.is c.in_err-item.ensures c.loop-tree.invariant)

pub loop-tree-preserved : goal.loop-tree-preserved
loop-tree-preserved c =
    let form = item_form c.args.place in
    let trees = c.args.trees.now in
    let e : map item_view c.push.new.self.items ≡ map item_view c.loop-tree.items.items ++ item_view c.in_ok-item.field-0 ∷ [] = rw c.in_ok-push.ensures.items (map_push _ c.loop-tree.items.items c.in_ok-item.field-0) in
    rw e (goes_on form trees (map item_view c.loop-tree.items.items) c.loop-tree.tree-index c.tree-item.result (each_form form (nodes_of_all trees)) (item_view c.in_ok-item.field-0) c.loop-tree-test.true c.tree-item.is c.in_ok-item.ensures c.loop-tree.invariant)

pub returns : goal.returns
returns c =
    let form = item_form c.args.place in
    let trees = c.args.trees.now in
    rw c.from_vec.ensures (is_done form trees (map item_view c.loop-tree.items.items) c.loop-tree.tree-index (each_form form (nodes_of_all trees)) c.loop-tree-test.false c.loop-tree.invariant)
