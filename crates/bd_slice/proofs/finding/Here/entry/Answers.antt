use Rattle.bd_slice.proofs.Explaining.{explains_entry}
use Rattle.bd_slice.proofs.finding.Here.entry.Goals as goal

pub returns : goal.returns
returns c = explains_entry _ _ _ c.args.number _ _ c.begins_at.ensures c.in_ok-found.ensures.value (rw c.as_slice.ensures at c.scalar_at-value.ensures) c.in_ok-found.ensures.facts
