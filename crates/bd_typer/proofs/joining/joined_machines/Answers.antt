use Rattle.std.proofs.Common.{Ok, ap, sym}
use Rattle.bd_model.specs.Abstraction.{abstraction_view}
use Rattle.bd_typer.specs.Joined.{joined_machines}
use Rattle.bd_typer.proofs.joining.joined_machines.Goals as goal

pub returns : goal.returns
unfolding joined_machines
returns c = λ before.
    rw c.in_ok-abs.ensures (ap (λ d. Ok (record { design = d; abs = abstraction_view c.in_ok-abs.field-0.abs })) (sym (c.in_ok-design.ensures before)))
