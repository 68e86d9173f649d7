use Rattle.std.proofs.lemmas.Result.{IfOk-weaker}
use Rattle.bd_text.specs.View.{nodes_of}
use Rattle.bd_syntax.specs.Forms.{ast_view}
use Rattle.bd_syntax.specs.Reading.{machine_form}
use Rattle.bd_syntax.specs.WellFormed.{IsAst, AreLimited}
use Rattle.bd_syntax.proofs.Results.{given_holds}
use Rattle.bd_syntax.proofs.WellFormed.{machine_holds}
use Rattle.bd_syntax.proofs.read.read_machine.Goals as goal

pub returns-clause-well_formed : goal.returns-clause-well_formed
returns-clause-well_formed c =
    let trees = nodes_of c.args.trees.now in
    given_holds ast_view IsAst c.machine.result (machine_form c.args.kind trees) c.machine.ensures (IfOk-weaker (machine_form c.args.kind trees) _ IsAst (λ ast all. all.0) (machine_holds c.args.kind trees))

pub returns-clause-limited : goal.returns-clause-limited
returns-clause-limited c = λ limits.
    let trees = nodes_of c.args.trees.now in
    given_holds ast_view (λ ast. AreLimited ast.items) c.machine.result (machine_form c.args.kind trees) c.machine.ensures (IfOk-weaker (machine_form c.args.kind trees) _ (λ ast. AreLimited ast.items) (λ ast all. all.1 limits) (machine_holds c.args.kind trees))
