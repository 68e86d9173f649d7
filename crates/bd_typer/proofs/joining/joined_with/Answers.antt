use Rattle.bd_typer.specs.Joined.{joined_with}
use Rattle.bd_typer.proofs.joining.joined_with.Goals as goal

pub returns : goal.returns
unfolding joined_with
returns c = rw c.in_ok-test_declared.ensures (rw (c.as_slice-pipe.ensures, c.as_slice-spec.ensures) at c.joined_items.ensures)
