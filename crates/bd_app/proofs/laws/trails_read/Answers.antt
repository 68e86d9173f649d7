use Rattle.bd_case.specs.Reading.{trail_form}
use Rattle.bd_app.proofs.SomeReading.{some_reading}
use Rattle.bd_app.proofs.laws.trails_read.Goals as goal

pub returns : goal.returns
returns c = λ d source. some_reading (trail_form d) source
