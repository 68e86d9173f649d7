use Rattle.bd_lrat.proofs.Examples.{needed_deletion_refused}
use Rattle.bd_lrat.proofs.laws.needed_clause_is_not_deleted.Goals as goal

pub returns : goal.returns
returns c = needed_deletion_refused
