use Rattle.bd_shrink.proofs.Parts.{part_left}
use Rattle.bd_shrink.proofs.laws.remnant_is_part.Goals as goal

pub returns : goal.returns
returns c = part_left
