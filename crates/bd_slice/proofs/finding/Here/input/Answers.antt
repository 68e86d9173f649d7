use Rattle.bd_slice.proofs.Explaining.{explains_input}
use Rattle.bd_slice.proofs.finding.Here.input.Goals as goal

pub returns : goal.returns
returns c = explains_input _ _ _ c.args.number _ c.in_ok-found.ensures.value (rw c.as_slice.ensures at c.input_at-value.ensures) c.in_ok-found.ensures.facts
