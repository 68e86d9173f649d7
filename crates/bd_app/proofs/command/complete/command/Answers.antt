use Rattle.std.proofs.Common.{ap₂, ◌∙◌}
use Rattle.std.proofs.lemmas.Result.{IfOk-weaker}
use Rattle.bd_app.specs.inner.Asked.{and_rule}
use Rattle.bd_app.proofs.command.complete.command.Goals as goal

pub returns-clause-shape : goal.returns-clause-shape
returns-clause-shape c =
    let agree = c.in_ok-command-2.ensures.shape ∙ ap₂ and_rule c.in_ok-command.ensures.shape c.flag.ensures.rule in
    IfOk-weaker c.with-2.result _ _ (λ r shape. shape ∙ ap₂ and_rule agree c.budget.ensures.rule) c.with-2.ensures.shape
