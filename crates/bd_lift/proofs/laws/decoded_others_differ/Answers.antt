use Rattle.bd_lift.proofs.Deciding.{decoded-others}
use Rattle.bd_lift.proofs.laws.decoded_others_differ.Goals as goal

pub returns : goal.returns
returns c = decoded-others
