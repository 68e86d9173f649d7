use Rattle.bd_app.proofs.SomeAnswer.{some_answer}
use Rattle.bd_app.proofs.laws.runs_answer.Goals as goal

pub returns : goal.returns
returns c = λ words e files files' out out' err err' is q asks held tells fine loaded put. some_answer words files files' out out' err err' q asks held tells fine loaded put e is
