use Rattle.std.proofs.Common.{◌≡◌, sym, subst}
use Rattle.bd_model.specs.DesignView.{design_view}
use Rattle.bd_model.specs.Conditions.{IsJudged}
use Rattle.bd_model.specs.declared.case.Case.{Case}
use Rattle.bd_show.proofs.Refusals.{match_ok}
use Rattle.bd_show.proofs.show.left.Goals as goal

pub returns-in_default-clause-judged : goal.returns-in_default-clause-judged
returns-in_default-clause-judged c =
    match_ok c.clone.result _ _ _ (λ (s : Case) (same : s ≡ c.args.case.now). subst (λ (x : Case). IsJudged (design_view c.args.design.now) x c.args.judged) (sym same) c.requires.judged) c.clone.ensures.cases
