use Rattle.std.proofs.lemmas.Result.{IfOk-weaker}
use Rattle.bd_text.specs.View.{nodes_of}
use Rattle.bd_syntax.specs.Completion.{IsCompAst, IsLimitedCompAst, completion_form, completion_view}
use Rattle.bd_syntax.proofs.Completions.{completion_holds}
use Rattle.bd_syntax.proofs.Results.{given_holds}
use Rattle.bd_syntax.proofs.completion.read_completion.Goals as goal

pub returns-clause-well_formed : goal.returns-clause-well_formed
returns-clause-well_formed c =
    let trees = nodes_of c.args.trees.now in
    given_holds completion_view IsCompAst c.completion.result (completion_form trees) c.completion.ensures (IfOk-weaker (completion_form trees) _ IsCompAst (λ ast all. all.0) (completion_holds trees))

pub returns-clause-limited : goal.returns-clause-limited
returns-clause-limited c = λ limits.
    let trees = nodes_of c.args.trees.now in
    given_holds completion_view IsLimitedCompAst c.completion.result (completion_form trees) c.completion.ensures (IfOk-weaker (completion_form trees) _ IsLimitedCompAst (λ ast all. all.1 limits) (completion_holds trees))
