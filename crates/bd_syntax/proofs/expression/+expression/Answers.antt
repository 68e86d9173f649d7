use Rattle.std.proofs.Common.{◌≡◌, ◌∷◌, [], ◌++◌, ◌+◌, ◌≤◌, map, ap, ◌∙◌, arith}
use Rattle.std.proofs.lemmas.List.{map_push}
use Rattle.std.proofs.lemmas.Result.{err_from_is_err_and}
use Rattle.bd_text.specs.Nodes.{list}
use Rattle.bd_text.specs.Written.{nesting, nesting_inside}
use Rattle.bd_text.specs.View.{node_of, nodes_of, nodes_of_all}
use Rattle.bd_text.proofs.Views.{node_of-List}
use Rattle.bd_syntax.specs.Forms.{expression_of}
use Rattle.bd_syntax.specs.Reading.{each_form, expression_form, spot}
use Rattle.bd_syntax.proofs.Views.{expression_of-List}
use Rattle.bd_syntax.proofs.Expressions.{arguments_fail, arguments_done, nesting-argument}
use Rattle.bd_syntax.proofs.EachForm.{goes_on, ends, is_done}
use Rattle.bd_syntax.proofs.expression.+expression.Goals as goal

pub expression-requires : goal.expression-requires
expression-requires t c =
    let tree-is : nesting (node_of c.args.tree.now) ≡ 1 + nesting_inside (nodes_of c.in-List.parts) = ap (λ tree. nesting (node_of tree)) c.in-List.is ∙ ap nesting (node_of-List c.in-List.offset c.in-List.parts) in
    let less : nesting (node_of c.part-item.result) ≤ nesting_inside (nodes_of c.in-List.parts) = nesting-argument (nodes_of c.in-List.parts) c.in_ok-list-in-List.list.parts.now c.loop-part.part-index c.part-item.result c.in_ok-list-in-List.ensures.parts c.loop-part-test.true c.part-item.is in
    (omega (arith, c.decreases), tt)

pub returns-in_err-expression-in-List : goal.returns-in_err-expression-in-List
returns-in_err-expression-in-List t c =
    let p = err_from_is_err_and c.from_residual-in_err-expression-in-List.result c.from_residual-in_err-expression-in-List.ensures.1 in
    let parts = c.in_ok-list-in-List.list.parts.now in
    let front = map expression_of c.loop-part.parts.items in
    let tree-is : node_of c.args.tree.now ≡ list c.in-List.offset (nodes_of c.in-List.parts) = ap node_of c.in-List.is ∙ node_of-List c.in-List.offset c.in-List.parts in
    let failed = ends expression_form parts front c.loop-part.part-index c.part-item.result (each_form expression_form (nodes_of_all parts)) c.in_err-expression-in-List.field-0.0 c.loop-part-test.true c.part-item.is c.in_err-expression-in-List.ensures c.loop-part.invariant in
    rw (p.1, p.2, tree-is) (arguments_fail c.in-List.offset (nodes_of c.in-List.parts) (spot c.in_ok-list-in-List.list.at c.in_ok-list-in-List.list.first.now) _ c.in_ok-list-in-List.ensures.first c.in_ok-list-in-List.ensures.count (nodes_of_all parts) c.in_err-expression-in-List.field-0.0 c.in_ok-list-in-List.ensures.parts c.in_ok-test_head-in-List.ensures failed)

pub loop-part-preserved : goal.loop-part-preserved
loop-part-preserved t c =
    let parts = c.in_ok-list-in-List.list.parts.now in
    let front = map expression_of c.loop-part.parts.items in
    let read = c.in_ok-expression-in-List.field-0 in
    let e : map expression_of c.push.new.self.items ≡ front ++ expression_of read ∷ [] = rw c.in_ok-push-in-List.ensures.items (map_push _ c.loop-part.parts.items read) in
    rw e (goes_on expression_form parts front c.loop-part.part-index c.part-item.result (each_form expression_form (nodes_of_all parts)) (expression_of read) c.loop-part-test.true c.part-item.is c.in_ok-expression-in-List.ensures c.loop-part.invariant)

pub returns-after-loop-part : goal.returns-after-loop-part
returns-after-loop-part t c =
    let parts = c.in_ok-list-in-List.list.parts.now in
    let front = map expression_of c.loop-part.parts.items in
    let tree-is : node_of c.args.tree.now ≡ list c.in-List.offset (nodes_of c.in-List.parts) = ap node_of c.in-List.is ∙ node_of-List c.in-List.offset c.in-List.parts in
    let read = is_done expression_form parts front c.loop-part.part-index (each_form expression_form (nodes_of_all parts)) c.loop-part-test.false c.loop-part.invariant in
    let done = arguments_done c.in-List.offset (nodes_of c.in-List.parts) (spot c.in_ok-list-in-List.list.at c.in_ok-list-in-List.list.first.now) _ c.in_ok-list-in-List.ensures.first c.in_ok-list-in-List.ensures.count (nodes_of_all parts) front c.in_ok-list-in-List.ensures.parts c.in_ok-test_head-in-List.ensures read in
    let made = expression_of-List c.in-List.offset c.in_ok-head-in-List.head c.from_vec.result in
    let head-is = c.in_ok-head-in-List.ensures in
    rw (tree-is, made, c.from_vec.ensures, done) (cc)
