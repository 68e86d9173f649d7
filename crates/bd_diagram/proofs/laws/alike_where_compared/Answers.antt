use Rattle.bd_diagram.proofs.AlikeDiagrams.{alike}
use Rattle.bd_diagram.proofs.laws.alike_where_compared.Goals as goal

pub returns : goal.returns
returns c = alike
