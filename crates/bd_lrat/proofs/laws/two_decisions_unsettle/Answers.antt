use Rattle.bd_lrat.proofs.Examples.{forced_unsettled}
use Rattle.bd_lrat.proofs.laws.two_decisions_unsettle.Goals as goal

pub returns : goal.returns
returns c = forced_unsettled
