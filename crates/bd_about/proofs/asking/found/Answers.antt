use Rattle.bd_about.proofs.asking.found.Goals as goal

pub returns : goal.returns
returns c = record { verdict = c.in_ok-verdict.verdict; is = c.finding_of.ensures; says = c.in_ok-verdict.ensures.says; work = c.in_ok-verdict.ensures.work }
