use Rattle.bd_case.specs.Reading.{trail_form}
use Rattle.bd_case.proofs.OneReading.{one_reading}
use Rattle.bd_case.proofs.laws.one_trail.Goals as goal

pub returns : goal.returns
returns c = λ d source. one_reading (trail_form d) source
