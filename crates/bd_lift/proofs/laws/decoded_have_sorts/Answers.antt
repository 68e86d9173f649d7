use Rattle.bd_lift.proofs.Deciding.{decoded-sorts}
use Rattle.bd_lift.proofs.laws.decoded_have_sorts.Goals as goal

pub returns : goal.returns
returns c = decoded-sorts
