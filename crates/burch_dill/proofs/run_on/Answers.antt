use Rattle.burch_dill.proofs.run_on.Goals as goal

pub returns : goal.returns
returns g c = record { ended = c.run.result; status_is = c.exit_code.ensures; run = c.run.ensures.run }
