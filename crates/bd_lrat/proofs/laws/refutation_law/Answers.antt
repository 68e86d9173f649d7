use Rattle.bd_lrat.proofs.Soundness.{refutation_sound}
use Rattle.bd_lrat.proofs.laws.refutation_law.Goals as goal

pub returns : goal.returns
returns c = refutation_sound
