use Rattle.bd_lrat.proofs.Examples.{wider_covered}
use Rattle.bd_lrat.proofs.laws.true_clause_is_covered.Goals as goal

pub returns : goal.returns
returns c = wider_covered
