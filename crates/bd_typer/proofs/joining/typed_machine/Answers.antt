use Rattle.std.proofs.Common.{map, None}
use Rattle.std.proofs.lemmas.Result.{err_from_is_err_and}
use Rattle.bd_syntax.specs.Forms.{item_view}
use Rattle.bd_typer.specs.inner.Held.{meanings, scope_view, typed_view}
use Rattle.bd_typer.proofs.JoinSteps.{machine_fails, machine_done}
use Rattle.bd_typer.proofs.joining.typed_machine.Goals as goal

pub returns-in_err-items-clause-exact : goal.returns-in_err-items-clause-exact
returns-in_err-items-clause-exact c =
    let p = err_from_is_err_and c.from_residual-in_err-items.result c.from_residual-in_err-items.ensures.1 in
    let scope = scope_view c.in_ok-scope.scope c.scope_of.new.symbols in
    let first = rw c.len.ensures at (c.in_ok-typed.ensures.view None) in
    rw (p.1, p.2) (machine_fails (meanings c.args.others.now) c.args.symbols.now (map item_view c.args.items.now) scope (typed_view None c.in_ok-typed.typed) c.in_ok-scope.ensures.view first c.in_err-items.field-0.0 c.in_err-items.ensures)

pub returns-clause-exact : goal.returns-clause-exact
returns-clause-exact c =
    let scope = scope_view c.in_ok-scope.scope c.scope_of.new.symbols in
    let first = rw c.len.ensures at (c.in_ok-typed.ensures.view None) in
    machine_done (meanings c.args.others.now) c.args.symbols.now (map item_view c.args.items.now) scope (typed_view None c.in_ok-typed.typed) c.in_ok-scope.ensures.view first (typed_view None c.items.new.self) c.in_ok-items.ensures
