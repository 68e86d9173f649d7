use Rattle.std.proofs.Math.Path.{fun_ext}
use Rattle.bd_typer.proofs.names.NameMap.declare.Goals as goal

pub returns : goal.returns
returns c = fun_ext (λ text. c.in_ok-insert.ensures.updates.0 (record { ref_ptr = (0, 0); now = text }))
