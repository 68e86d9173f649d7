use Rattle.std.specs.Prelude.{IfSome}
use Rattle.bd_model.specs.Conditions.{IsJudged}
use Rattle.bd_model.specs.DesignView.{design_view}
use Rattle.bd_model.specs.Fits.{Fits}
use Rattle.bd_model.specs.declared.case.Condition.TheVariants.{Commute}
use Rattle.bd_model.specs.declared.case.Judged.TheVariants.{Broken}
use Rattle.bd_simplest.proofs.search.one_by_one.Given as goal

abbrev pub invariant-loop-place : goal.invariant-loop-place
invariant-loop-place l =
    IfSome l.emptied.best (Fits (design_view l.design))
    × IfSome l.emptied.best (λ c. IsJudged (design_view l.design) c (Broken Commute))
