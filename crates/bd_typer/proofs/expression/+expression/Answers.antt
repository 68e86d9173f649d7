use Rattle.std.proofs.Common.{◌≡◌, ◌≤◌, ◌+◌, ◌∷◌, [], ◌++◌, get_or, map, drop, ap, ◌∙◌, arith}
use Rattle.std.proofs.lemmas.List.{map_push}
use Rattle.std.proofs.lemmas.Result.{err_from_is_err_and}
use Rattle.std.specs.Prelude.{vec_len}
use Rattle.bd_model.specs.ExprView.{expr_view}
use Rattle.bd_syntax.specs.Forms.{application, expression_of, expressions_of, expressions_of_all}
use Rattle.bd_syntax.specs.WellFormed.{expression_nesting, nesting_of_all}
use Rattle.bd_syntax.proofs.Views.{expression_of-List}
use Rattle.bd_typer.specs.Typing.{typed_parts}
use Rattle.bd_typer.specs.inner.Held.{lookup_names}
use Rattle.bd_typer.proofs.Loops.{goes_on, ends, is_done}
use Rattle.bd_typer.proofs.Parts.{nesting-part, parts_fail, parts_done, part_fails, part_done, no_more_parts}
use Rattle.bd_typer.proofs.expression.+expression.Goals as goal

pub expression-requires : goal.expression-requires
expression-requires t c =
    let form-is : expression_of c.args.form.now ≡ application c.in-List.offset c.in-List.head (expressions_of c.in-List.parts) = ap expression_of c.in-List.is ∙ expression_of-List c.in-List.offset c.in-List.head c.in-List.parts in
    let nests : expression_nesting (expression_of c.args.form.now) ≡ 1 + nesting_of_all (expressions_of c.in-List.parts) = ap expression_nesting form-is in
    let inside : nesting_of_all (expressions_of_all c.as_slice-part-items.result.now) ≡ nesting_of_all (expressions_of c.in-List.parts) = ap nesting_of_all c.as_slice-part-items.ensures in
    let less : expression_nesting (expression_of (get_or c.as_slice-part-items.result.now c.loop-part.part-index c.part-item.result)) ≤ nesting_of_all (expressions_of_all c.as_slice-part-items.result.now) = nesting-part c.as_slice-part-items.result.now c.loop-part.part-index c.part-item.result c.loop-part-test.true in
    let item-is : expression_nesting (expression_of c.part-item.result) ≡ expression_nesting (expression_of (get_or c.as_slice-part-items.result.now c.loop-part.part-index c.part-item.result)) = ap (λ f. expression_nesting (expression_of f)) c.part-item.is in
    (omega (arith, c.decreases), tt)

pub returns-in_err-expression-in-List : goal.returns-in_err-expression-in-List
returns-in_err-expression-in-List t c =
    let p = err_from_is_err_and c.from_residual-in_err-expression-in-List.result c.from_residual-in_err-expression-in-List.ensures.1 in
    let names = lookup_names c.args.names in
    let how = c.in_ok-how-in-List.how in
    let forms = c.as_slice-part-items.result.now in
    let place = vec_len c.loop-part.exprs in
    let form-is : expression_of c.args.form.now ≡ application c.in-List.offset c.in-List.head (expressions_of c.in-List.parts) = ap expression_of c.in-List.is ∙ expression_of-List c.in-List.offset c.in-List.head c.in-List.parts in
    let how-is = rw c.len.ensures at c.in_ok-how-in-List.ensures in
    let one = rw (c.part_sort-sort.ensures, c.len-in-loop-part.ensures) at c.in_err-expression-in-List.ensures in
    let here = part_fails names c.args.inputs how c.args.want place forms c.loop-part.part-index c.part-item.result c.loop-part-test.true c.part-item.is c.in_err-expression-in-List.field-0.0 one in
    let all = ends (map expr_view c.loop-part.exprs.items) (typed_parts names c.args.inputs how c.args.want place (expressions_of_all (drop c.loop-part.part-index forms))) (typed_parts names c.args.inputs how c.args.want 0 (expressions_of_all forms)) c.loop-part.invariant c.in_err-expression-in-List.field-0.0 here in
    let parts = rw c.as_slice-part-items.ensures at all in
    rw (p.1, p.2, form-is) (parts_fail names c.args.inputs c.args.want c.in-List.offset c.in-List.head (expressions_of c.in-List.parts) how c.in_err-expression-in-List.field-0.0 how-is parts)

pub loop-part-preserved : goal.loop-part-preserved
loop-part-preserved t c =
    let names = lookup_names c.args.names in
    let how = c.in_ok-how-in-List.how in
    let forms = c.as_slice-part-items.result.now in
    let place = vec_len c.loop-part.exprs in
    let x = c.in_ok-expression-in-List.field-0 in
    let one = rw (c.part_sort-sort.ensures, c.len-in-loop-part.ensures) at c.in_ok-expression-in-List.ensures in
    let here = part_done names c.args.inputs how c.args.want place forms c.loop-part.part-index c.part-item.result c.loop-part-test.true c.part-item.is (expr_view x) one in
    let made : map expr_view c.push.new.self.items ≡ map expr_view c.loop-part.exprs.items ++ expr_view x ∷ [] = rw c.in_ok-push-in-List.ensures.items (map_push expr_view c.loop-part.exprs.items x) in
    let count : vec_len c.push.new.self ≡ place + 1 = c.in_ok-push-in-List.ensures.len in
    rw (made, count) (goes_on (map expr_view c.loop-part.exprs.items) (typed_parts names c.args.inputs how c.args.want place (expressions_of_all (drop c.loop-part.part-index forms))) (typed_parts names c.args.inputs how c.args.want 0 (expressions_of_all forms)) c.loop-part.invariant (expr_view x) (typed_parts names c.args.inputs how c.args.want (place + 1) (expressions_of_all (drop (c.loop-part.part-index + 1) forms))) here)

pub returns-in_ok-build-in-List : goal.returns-in_ok-build-in-List
returns-in_ok-build-in-List t c =
    let names = lookup_names c.args.names in
    let how = c.in_ok-how-in-List.how in
    let forms = c.as_slice-part-items.result.now in
    let place = vec_len c.loop-part.exprs in
    let form-is : expression_of c.args.form.now ≡ application c.in-List.offset c.in-List.head (expressions_of c.in-List.parts) = ap expression_of c.in-List.is ∙ expression_of-List c.in-List.offset c.in-List.head c.in-List.parts in
    let how-is = rw c.len.ensures at c.in_ok-how-in-List.ensures in
    let none = no_more_parts names c.args.inputs how c.args.want place forms c.loop-part.part-index c.loop-part-test.false in
    let all = is_done (map expr_view c.loop-part.exprs.items) (typed_parts names c.args.inputs how c.args.want place (expressions_of_all (drop c.loop-part.part-index forms))) (typed_parts names c.args.inputs how c.args.want 0 (expressions_of_all forms)) c.loop-part.invariant none in
    let parts = rw c.as_slice-part-items.ensures at all in
    rw (form-is, c.in_ok-build-in-List.ensures) (parts_done names c.args.inputs c.args.want c.in-List.offset c.in-List.head (expressions_of c.in-List.parts) how (map expr_view c.loop-part.exprs.items) how-is parts)
