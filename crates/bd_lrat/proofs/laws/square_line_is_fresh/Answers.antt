use Rattle.bd_lrat.proofs.Examples.{square_fresh}
use Rattle.bd_lrat.proofs.laws.square_line_is_fresh.Goals as goal

pub returns : goal.returns
returns c = square_fresh
