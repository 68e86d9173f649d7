use Rattle.std.proofs.Common.{Option, Some, map, arith}
use Rattle.bd_typer.specs.declared.names.Outer.{Outer}
use Rattle.std.proofs.lemmas.Result.{err_from_is_err_and}
use Rattle.bd_model.specs.ExprView.{expr_view}
use Rattle.bd_syntax.specs.Completion.{completion_view}
use Rattle.bd_typer.specs.NameMap.{shared_names}
use Rattle.bd_typer.specs.inner.Held.{meanings, typed_view}
use Rattle.bd_typer.proofs.GivenOnce.{item_count}
use Rattle.bd_typer.proofs.Operations.{nexts-view}
use Rattle.bd_typer.proofs.JoinSteps.{completion_lets_fail, parts_fail, completion_done}
use Rattle.bd_typer.proofs.completions.given_completion.Goals as goal

pub items-requires : goal.items-requires
items-requires c = grind (arith, item_count)

pub returns-in_err-items : goal.returns-in_err-items
returns-in_err-items c =
    let p = err_from_is_err_and c.from_residual-in_err-items.result c.from_residual-in_err-items.ensures.1 in
    let pipe = c.args.pipe in
    let spec = c.args.spec in
    let outer : Option Outer = Some (record { pipe = pipe; spec = spec }) in
    let first = rw c.new.ensures at (c.in_ok-typed.ensures.view outer) in
    rw (p.1, p.2) (completion_lets_fail (shared_names (meanings pipe.now) (meanings spec.now)) (meanings spec.now) c.args.entries (completion_view c.args.comp.now) (typed_view outer c.in_ok-typed.typed) first c.in_err-items.field-0.0 (rw c.as_slice.ensures at c.in_err-items.ensures))

pub returns-in_err-values : goal.returns-in_err-values
returns-in_err-values c =
    let p = err_from_is_err_and c.from_residual-in_err-values.result c.from_residual-in_err-values.ensures.1 in
    let pipe = c.args.pipe in
    let spec = c.args.spec in
    let outer : Option Outer = Some (record { pipe = pipe; spec = spec }) in
    let first = rw c.new.ensures at (c.in_ok-typed.ensures.view outer) in
    let lets = rw c.as_slice.ensures at c.in_ok-items.ensures in
    rw (p.1, p.2) (parts_fail (shared_names (meanings pipe.now) (meanings spec.now)) (meanings spec.now) c.args.entries (completion_view c.args.comp.now) (typed_view outer c.in_ok-typed.typed) first (typed_view outer c.items.new.self) lets c.in_err-values.field-0.0 (rw (c.lookup-names.ensures.own, c.lookup-names.ensures.outer, c.as_slice-2.ensures) at c.in_err-values.ensures))

pub returns : goal.returns
returns c =
    let pipe = c.args.pipe in
    let spec = c.args.spec in
    let outer : Option Outer = Some (record { pipe = pipe; spec = spec }) in
    let first = rw c.new.ensures at (c.in_ok-typed.ensures.view outer) in
    let lets = rw c.as_slice.ensures at c.in_ok-items.ensures in
    rw (nexts-view c.in_ok-values.values) (completion_done (shared_names (meanings pipe.now) (meanings spec.now)) (meanings spec.now) c.args.entries (completion_view c.args.comp.now) (typed_view outer c.in_ok-typed.typed) first (typed_view outer c.items.new.self) lets (map expr_view c.in_ok-values.values.items) (rw (c.lookup-names.ensures.own, c.lookup-names.ensures.outer, c.as_slice-2.ensures) at c.in_ok-values.ensures))
