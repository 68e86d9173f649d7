use Rattle.std.proofs.lemmas.Result.{err_from_is_err_and}
use Rattle.bd_typer.specs.Joined.{joined_items}
use Rattle.bd_typer.proofs.Files.{fails_then}
use Rattle.bd_typer.proofs.joining.joined_items.Goals as goal

pub returns-in_err-pipe : goal.returns-in_err-pipe
unfolding joined_items
returns-in_err-pipe c =
    let p = err_from_is_err_and c.from_residual.result c.from_residual.ensures.1 in
    rw (p.1, p.2) (fails_then c.in_err-pipe.field-0.0 _ _ (rw c.new-symbols.ensures at c.in_err-pipe.ensures.exact))

pub returns : goal.returns
unfolding joined_items
returns c = rw (rw c.new-symbols.ensures at c.in_ok-pipe.ensures.exact) c.joined_onto.ensures
