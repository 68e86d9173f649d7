use Rattle.bd_lrat.proofs.Examples.{needed_deletion_refused}
use Rattle.std.proofs.Common.{None}
use Rattle.bd_cdcl.proofs.laws.needed_clauses_stay.Goals as goal

pub returns : goal.returns
returns c budget found id lines law = needed_deletion_refused None id lines law.covered
