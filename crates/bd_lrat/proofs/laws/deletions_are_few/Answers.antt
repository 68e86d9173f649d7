use Rattle.bd_lrat.proofs.FewDeletions.{few_deletions}
use Rattle.bd_lrat.proofs.laws.deletions_are_few.Goals as goal

pub returns : goal.returns
returns c = few_deletions
