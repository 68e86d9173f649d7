use Rattle.std.proofs.Common.{Option, Some, arith}
use Rattle.bd_typer.specs.declared.names.Outer.{Outer}
use Rattle.std.proofs.lemmas.Result.{err_from_is_err_and}
use Rattle.bd_model.specs.ExprView.{expr_view}
use Rattle.bd_syntax.specs.Forms.{invariant_view}
use Rattle.bd_typer.specs.NameMap.{shared_names}
use Rattle.bd_typer.specs.inner.Held.{meanings, typed_view}
use Rattle.bd_typer.proofs.GivenOnce.{item_count}
use Rattle.bd_typer.proofs.JoinSteps.{lets_fail, value_fails, inv_done}
use Rattle.bd_typer.proofs.joining.given_inv.Goals as goal

pub items-requires : goal.items-requires
items-requires c = grind (arith, item_count)

pub returns-in_err-items : goal.returns-in_err-items
returns-in_err-items c =
    let p = err_from_is_err_and c.from_residual-in_err-items.result c.from_residual-in_err-items.ensures.1 in
    let outer : Option Outer = Some (record { pipe = c.args.pipe; spec = c.args.spec }) in
    let first = rw c.new.ensures at (c.in_ok-typed.ensures.view outer) in
    rw (p.1, p.2) (lets_fail (shared_names (meanings c.args.pipe.now) (meanings c.args.spec.now)) (invariant_view c.args.inv.now) (typed_view outer c.in_ok-typed.typed) first c.in_err-items.field-0.0 (rw c.as_slice.ensures at c.in_err-items.ensures))

pub returns-in_err-value : goal.returns-in_err-value
returns-in_err-value c =
    let p = err_from_is_err_and c.from_residual-in_err-value.result c.from_residual-in_err-value.ensures.1 in
    let outer : Option Outer = Some (record { pipe = c.args.pipe; spec = c.args.spec }) in
    let first = rw c.new.ensures at (c.in_ok-typed.ensures.view outer) in
    rw (p.1, p.2) (value_fails (shared_names (meanings c.args.pipe.now) (meanings c.args.spec.now)) (invariant_view c.args.inv.now) (typed_view outer c.in_ok-typed.typed) first (typed_view outer c.items.new.self) (rw c.as_slice.ensures at c.in_ok-items.ensures) c.in_err-value.field-0.0 (rw (c.lookup.ensures.own, c.lookup.ensures.outer) at c.in_err-value.ensures))

pub returns : goal.returns
returns c =
    let outer : Option Outer = Some (record { pipe = c.args.pipe; spec = c.args.spec }) in
    let first = rw c.new.ensures at (c.in_ok-typed.ensures.view outer) in
    inv_done (shared_names (meanings c.args.pipe.now) (meanings c.args.spec.now)) (invariant_view c.args.inv.now) (typed_view outer c.in_ok-typed.typed) first (typed_view outer c.items.new.self) (rw c.as_slice.ensures at c.in_ok-items.ensures) (expr_view c.in_ok-value.value) (rw (c.lookup.ensures.own, c.lookup.ensures.outer) at c.in_ok-value.ensures)
