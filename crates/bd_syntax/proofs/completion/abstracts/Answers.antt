use Rattle.std.proofs.Common.{◌≡◌, ◌∷◌, [], ◌++◌, map}
use Rattle.std.proofs.lemmas.List.{map_push}
use Rattle.std.proofs.lemmas.Result.{err_from_is_err_and}
use Rattle.bd_text.specs.View.{nodes_of_all}
use Rattle.bd_syntax.specs.Completion.{abstract_form, abstract_view}
use Rattle.bd_syntax.specs.Reading.{each_form}
use Rattle.bd_syntax.proofs.EachForm.{goes_on, ends, is_done}
use Rattle.bd_syntax.proofs.completion.abstracts.Goals as goal

pub returns-in_err-abstract_part : goal.returns-in_err-abstract_part
returns-in_err-abstract_part c =
    let trees = c.args.trees.now in
    let p = err_from_is_err_and c.from_residual.result c.from_residual.ensures.1 in
    rw (p.1, p.2) (ends abstract_form trees (map abstract_view c.loop-tree.parts.items) c.loop-tree.tree-index c.tree-item.result (each_form abstract_form (nodes_of_all trees)) c.in_err-abstract_part.field-0.0 c.loop-tree-test.true c.tree-item.is c.in_err-abstract_part.ensures c.loop-tree.invariant)

pub loop-tree-preserved : goal.loop-tree-preserved
loop-tree-preserved c =
    let trees = c.args.trees.now in
    let e : map abstract_view c.push.new.self.items ≡ map abstract_view c.loop-tree.parts.items ++ abstract_view c.in_ok-abstract_part.field-0 ∷ [] = rw c.in_ok-push.ensures.items (map_push _ c.loop-tree.parts.items c.in_ok-abstract_part.field-0) in
    rw e (goes_on abstract_form trees (map abstract_view c.loop-tree.parts.items) c.loop-tree.tree-index c.tree-item.result (each_form abstract_form (nodes_of_all trees)) (abstract_view c.in_ok-abstract_part.field-0) c.loop-tree-test.true c.tree-item.is c.in_ok-abstract_part.ensures c.loop-tree.invariant)

pub returns : goal.returns
returns c =
    let trees = c.args.trees.now in
    rw c.from_vec.ensures (is_done abstract_form trees (map abstract_view c.loop-tree.parts.items) c.loop-tree.tree-index (each_form abstract_form (nodes_of_all trees)) c.loop-tree-test.false c.loop-tree.invariant)
