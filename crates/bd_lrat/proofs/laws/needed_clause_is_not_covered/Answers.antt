use Rattle.bd_lrat.proofs.Examples.{needed_unit_uncovered}
use Rattle.bd_lrat.proofs.laws.needed_clause_is_not_covered.Goals as goal

pub returns : goal.returns
returns c = needed_unit_uncovered
