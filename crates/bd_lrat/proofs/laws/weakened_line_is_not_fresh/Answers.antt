use Rattle.bd_lrat.proofs.Examples.{weakened_not_fresh}
use Rattle.bd_lrat.proofs.laws.weakened_line_is_not_fresh.Goals as goal

pub returns : goal.returns
returns c = weakened_not_fresh
