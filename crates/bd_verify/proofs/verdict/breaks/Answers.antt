use Rattle.std.proofs.Common.{subst}
use Rattle.bd_model.specs.Cycle.{flushed}
use Rattle.bd_model.specs.DesignView.{design_view}
use Rattle.bd_verify.specs.declared.verdict.Question.TheVariants as question
use Rattle.bd_verify.specs.inner.Answered.{IsAnswered}
use Rattle.bd_verify.proofs.Judgements.{broken-judged}
use Rattle.bd_verify.proofs.verdict.breaks.Goals as goal

pub broken-condition-requires : goal.broken-condition-requires
broken-condition-requires g c =
    let d = design_view c.args.design.now in
    let found = subst (IsAnswered d question.Breaks c.args.mode c.args.budget) c.in-ThisCase.is c.in_ok-work.ensures.answered in
    broken-judged d (flushed d) c.in-ThisCase.case c.in_ok-judge-in-ThisCase.field-0 c.in_ok-judge-in-ThisCase.ensures found.1
