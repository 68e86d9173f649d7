use Rattle.std.proofs.Common.{ap₂, ◌∙◌}
use Rattle.std.proofs.lemmas.Result.{IfOk-weaker}
use Rattle.bd_app.specs.inner.Asked.{and_rule}
use Rattle.bd_app.proofs.command.bounded.command.Goals as goal

pub returns-clause-shape : goal.returns-clause-shape
returns-clause-shape c =
    let start = c.in_ok-command-2.ensures.shape ∙ ap₂ and_rule c.in_ok-command.ensures.shape c.required.ensures.rule in
    let cycles = c.in_ok-command-3.ensures.shape ∙ ap₂ and_rule start c.cycles.ensures.rule in
    IfOk-weaker c.with-3.result _ _ (λ r shape. shape ∙ ap₂ and_rule cycles c.budget.ensures.rule) c.with-3.ensures.shape
