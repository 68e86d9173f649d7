use Rattle.bd_web.proofs.program.run_program.Goals as goal

pub returns : goal.returns
returns g c = record { ended = c.run.result; status_is = c.status.ensures; run = c.run.ensures.run }
