use Rattle.std.proofs.Common.{◌≡◌, false, map}
use Rattle.std.specs.Prelude.{replicate}
use Rattle.bd_model.specs.ExprView.{Truth, expr_view}
use Rattle.bd_typer.proofs.walk.unset.Given as goal

abbrev pub invariant-loop : goal.invariant-loop
invariant-loop l = map expr_view l.values.items ≡ replicate l.counter (Truth false)
