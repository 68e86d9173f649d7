use Rattle.bd_case.specs.Reading.{case_form}
use Rattle.bd_case.proofs.OneReading.{one_reading}
use Rattle.bd_case.proofs.laws.one_case.Goals as goal

pub returns : goal.returns
returns c = λ d source. one_reading (case_form d) source
