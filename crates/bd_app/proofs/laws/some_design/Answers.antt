use Rattle.bd_app.proofs.SomeDesign as some
use Rattle.bd_app.proofs.laws.some_design.Goals as goal

pub returns : goal.returns
returns c = some.some_design
