use Rattle.std.proofs.Common.{◌∙◌, ap, take}
use Rattle.bd_model.specs.ExprView.{expr_view}
use Rattle.bd_slice.specs.inner.Found.{scalar_in, word_in}
use Rattle.bd_slice.proofs.Accounting.{accounts_item}
use Rattle.bd_slice.proofs.reason.Run.item_in.Goals as goal

pub returns-in-Some : goal.returns-in-Some
returns-in-Some c = rw c.in-Some.is (λ d is. accounts_item d _ c.args.count (word_in (expr_view c.args.expr.now) c.in-Some.address) _ is (c.front-lets.ensures ∙ ap (take c.args.count) c.as_slice-values.ensures) c.in_ok-word-in-Some.ensures)

pub returns : goal.returns
returns c = rw c.in-None.is (λ d is. accounts_item d _ c.args.count (scalar_in (expr_view c.args.expr.now)) _ is (c.front-lets.ensures ∙ ap (take c.args.count) c.as_slice-values.ensures) c.in_ok-scalar-in-None.ensures)
