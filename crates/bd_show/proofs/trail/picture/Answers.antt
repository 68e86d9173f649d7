use Rattle.std.proofs.Common.{◌≡◌, ◌-◌, ◌∙◌, ap, arith, subst, sym}
use Rattle.bd_model.specs.Conditions.{IsJudged}
use Rattle.bd_model.specs.DesignView.{design_view}
use Rattle.bd_model.specs.declared.case.Case.{Case}
use Rattle.bd_model.specs.declared.case.Condition.TheVariants.{Commute}
use Rattle.bd_model.specs.declared.case.Judged.TheVariants.{Broken}
use Rattle.bd_show.specs.Trails.{cycle_case}
use Rattle.bd_show.proofs.trail.picture.Goals as goal

pub drawn-requires-clause-judged : goal.drawn-requires-clause-judged
drawn-requires-clause-judged c =
    let d = design_view c.args.design.now in
    let breaking = c.requires.breaking in
    let before : breaking.place ≡ c.args.cycle - 1 = omega (arith, breaking.is_place) in
    subst (λ (k : Case). IsJudged d k (Broken Commute)) (ap (cycle_case d c.args.trail.now) before ∙ sym c.in_ok-case.ensures) breaking.case_judged
