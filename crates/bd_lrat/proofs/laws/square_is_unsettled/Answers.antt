use Rattle.bd_lrat.proofs.Examples.{square_unsettled}
use Rattle.bd_lrat.proofs.laws.square_is_unsettled.Goals as goal

pub returns : goal.returns
returns c = square_unsettled
