use Rattle.std.proofs.lemmas.Result.{IfOk-weaker}
use Rattle.std.specs.Prelude.{codes}
use Rattle.bd_text.specs.View.{nodes_of}
use Rattle.bd_syntax.specs.Forms.{invariant_view}
use Rattle.bd_syntax.specs.Reading.{invariant_form}
use Rattle.bd_syntax.specs.WellFormed.{IsInvAst, IsLimitedInvAst}
use Rattle.bd_syntax.proofs.Results.{given_holds}
use Rattle.bd_syntax.proofs.WellFormed.{invariant_holds}
use Rattle.bd_syntax.proofs.read.read_invariant.Goals as goal

pub returns-clause-well_formed : goal.returns-clause-well_formed
returns-clause-well_formed c =
    let trees = nodes_of c.args.trees.now in
    given_holds invariant_view IsInvAst c.invariant.result (invariant_form (codes "invariant") trees) c.invariant.ensures (IfOk-weaker (invariant_form (codes "invariant") trees) _ IsInvAst (λ ast all. all.0) (invariant_holds (codes "invariant") trees))

pub returns-clause-limited : goal.returns-clause-limited
returns-clause-limited c = λ limits.
    let trees = nodes_of c.args.trees.now in
    given_holds invariant_view IsLimitedInvAst c.invariant.result (invariant_form (codes "invariant") trees) c.invariant.ensures (IfOk-weaker (invariant_form (codes "invariant") trees) _ IsLimitedInvAst (λ ast all. all.1 limits) (invariant_holds (codes "invariant") trees))
