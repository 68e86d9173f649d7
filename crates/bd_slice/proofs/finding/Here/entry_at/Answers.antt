use Rattle.bd_slice.proofs.Explaining.{explains_entry_at}
use Rattle.bd_slice.proofs.finding.Here.entry_at.Goals as goal

pub returns : goal.returns
returns c = explains_entry_at _ _ _ c.args.number c.args.address _ _ c.begins_at.ensures c.in_ok-found.ensures.value (rw c.as_slice.ensures at c.word_of-value.ensures) c.in_ok-found.ensures.facts
