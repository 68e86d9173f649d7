use Rattle.bd_typer.specs.declared.fault.Text.TheVariants.{Pipe}
use Rattle.bd_typer.specs.inner.Held.{machine_view}
use Rattle.bd_typer.proofs.Files.{located_gives}
use Rattle.bd_typer.proofs.joining.typed_pipe.Goals as goal

pub returns-clause-exact : goal.returns-clause-exact
returns-clause-exact c =
    rw c.located.ensures (located_gives (λ m. machine_view m c.typed_machine.new.symbols) Pipe c.typed_machine.result _ (rw c.new-none.ensures at c.typed_machine.ensures.exact))
