use Rattle.std.proofs.Common.{◌≡◌, false, map, drop}
use Rattle.std.specs.Prelude.{replicate}
use Rattle.bd_model.specs.ExprView.{Truth, expr_view}
use Rattle.bd_syntax.specs.Completion.{abstract_view}
use Rattle.bd_typer.specs.Completions.{typed_abstracts}
use Rattle.bd_typer.specs.inner.Held.{lookup_names, meanings}
use Rattle.bd_typer.proofs.completions.typed_abstracts.Given as goal

abbrev pub invariant-loop-part : goal.invariant-loop-part
invariant-loop-part l =
    typed_abstracts (lookup_names l.names) (meanings l.spec) (map expr_view l.values.items) (map abstract_view (drop l.part-index l.parts))
    ≡ typed_abstracts (lookup_names l.names) (meanings l.spec) (replicate l.entries (Truth false)) (map abstract_view l.parts)
