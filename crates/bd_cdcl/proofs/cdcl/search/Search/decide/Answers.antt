use Rattle.std.proofs.Common.{subst}
use Rattle.bd_watch.specs.declared.watch.Watch.{Watch}
use Rattle.bd_watch.specs.Watch.{DecidesIn}
use Rattle.bd_cdcl.specs.declared.cdcl.search.Search.{Search}
use Rattle.bd_cdcl.proofs.DescentSteps.{decision_advances}
use Rattle.bd_cdcl.proofs.cdcl.search.Search.decide.Goals as goal

pub returns-in-Some-clause-advanced : goal.returns-in-Some-clause-advanced
returns-in-Some-clause-advanced c =
    let chosen = c.choice.new.self in
    let new : Search = record { watch = c.decide.new.self; analysis = chosen.analysis; guide = chosen.guide; deletion = chosen.deletion; learned = chosen.learned; restarts = chosen.restarts } in
    decision_advances c.args.self.now new c.in-Some.lit c.choice.ensures.restarts (subst (λ (w : Watch). DecidesIn w c.decide.new.self c.in-Some.lit) c.choice.ensures.watch c.decide.ensures)
