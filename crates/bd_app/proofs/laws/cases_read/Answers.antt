use Rattle.bd_case.specs.Reading.{case_form}
use Rattle.bd_app.proofs.SomeReading.{some_reading}
use Rattle.bd_app.proofs.laws.cases_read.Goals as goal

pub returns : goal.returns
returns c = λ d source. some_reading (case_form d) source
