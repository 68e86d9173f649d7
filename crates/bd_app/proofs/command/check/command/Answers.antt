use Rattle.std.proofs.Common.{ap₂, ◌∙◌}
use Rattle.std.proofs.lemmas.Result.{IfOk-weaker}
use Rattle.bd_app.specs.inner.Asked.{and_rule}
use Rattle.bd_app.proofs.command.check.command.Goals as goal

pub returns-clause-shape : goal.returns-clause-shape
returns-clause-shape c =
    let inv = c.in_ok-command-2.ensures.shape ∙ ap₂ and_rule c.in_ok-command.ensures.shape c.new.ensures.rule in
    let budget = c.in_ok-command-3.ensures.shape ∙ ap₂ and_rule inv c.budget.ensures.rule in
    let cnf = c.in_ok-command-4.ensures.shape ∙ ap₂ and_rule budget c.option.ensures.rule in
    let lrat = c.in_ok-command-5.ensures.shape ∙ ap₂ and_rule cnf c.option-2.ensures.rule in
    IfOk-weaker c.with-5.result _ _ (λ r shape. shape ∙ ap₂ and_rule lrat c.flag.ensures.rule) c.with-5.ensures.shape
