use Rattle.std.proofs.Common.{subst}
use Rattle.bd_model.specs.Abstraction.{abstraction_view}
use Rattle.bd_model.specs.DesignView.{design_view}
use Rattle.bd_model.specs.Conditions.{JudgedBy}
use Rattle.bd_cdcl.specs.declared.solver.Found.TheVariants.{Model, Refuted, Spent}
use Rattle.bd_terms.specs.Graph.{IsGraph}
use Rattle.bd_verify.specs.Asked.{IsDecisionSaid}
use Rattle.bd_verify.specs.Decided.{IsDecided}
use Rattle.bd_verify.specs.declared.verdict.Mode.TheVariants.{Plain}
use Rattle.bd_verify.proofs.Judgements.{broken-judged}
use Rattle.bd_completion.specs.Kept.{abstraction_by}
use Rattle.bd_completion.proofs.Answering.{false-breaks, false-differs, valid-agrees, valid-right, work-by}
use Rattle.bd_completion.proofs.Roots.{same-meaning}
use Rattle.bd_completion.proofs.completing.complete.Goals as goal

pub returns-then-agree-clause-says : goal.returns-then-agree-clause-says
returns-then-agree-clause-says g c =
    let d = design_view c.args.design.now in
    let h = subst (IsDecided d 1 c.root_by.new.graph c.in_ok-root.root Plain c.args.budget) c.in-Valid.is c.in_ok-work.ensures.decided in (
      c.if-agree.true,
      valid-agrees d c.requires.lawful (abstraction_view c.args.abs.now) c.args.agree c.root_by.new.graph c.in_ok-root.root c.in_ok-root.ensures c.if-agree.true
          (subst IsGraph c.graph.view_is c.graph.invariant.graph) h.0,
    )

pub returns-then-agree-clause-work : goal.returns-then-agree-clause-work
returns-then-agree-clause-work g c =
    let d = design_view c.args.design.now in
    let h = subst (IsDecided d 1 c.root_by.new.graph c.in_ok-root.root Plain c.args.budget) c.in-Valid.is c.in_ok-work.ensures.decided in
    work-by d c.requires.lawful (abstraction_view c.args.abs.now) c.args.agree c.root_by.new.graph c.in_ok-root.root c.in_ok-root.ensures c.args.budget Refuted c.in-Valid.work h.1

pub returns-in-Valid-clause-says : goal.returns-in-Valid-clause-says
returns-in-Valid-clause-says g c =
    let d = design_view c.args.design.now in
    let h = subst (IsDecided d 1 c.root_by.new.graph c.in_ok-root.root Plain c.args.budget) c.in-Valid.is c.in_ok-work.ensures.decided in (
      c.if-agree.false,
      valid-right d c.requires.lawful (abstraction_view c.args.abs.now) c.args.agree c.root_by.new.graph c.in_ok-root.root c.in_ok-root.ensures c.if-agree.false
          (subst IsGraph c.graph.view_is c.graph.invariant.graph) h.0,
    )

pub returns-in-Valid-clause-work : goal.returns-in-Valid-clause-work
returns-in-Valid-clause-work g c =
    let d = design_view c.args.design.now in
    let h = subst (IsDecided d 1 c.root_by.new.graph c.in_ok-root.root Plain c.args.budget) c.in-Valid.is c.in_ok-work.ensures.decided in
    work-by d c.requires.lawful (abstraction_view c.args.abs.now) c.args.agree c.root_by.new.graph c.in_ok-root.root c.in_ok-root.ensures c.args.budget Refuted c.in-Valid.work h.1

pub returns-then-agree-2-clause-says : goal.returns-then-agree-2-clause-says
returns-then-agree-2-clause-says g c =
    let d = design_view c.args.design.now in
    let h = subst (IsDecided d 1 c.root_by.new.graph c.in_ok-root.root Plain c.args.budget) c.in-False.is c.in_ok-work.ensures.decided in
    let differs = false-differs d c.requires.lawful (abstraction_view c.args.abs.now) c.args.agree c.root_by.new.graph c.in_ok-root.root c.in_ok-root.ensures c.if-agree-2.true
    (subst IsGraph c.graph.view_is c.graph.invariant.graph) c.in-False.trail h.0 c.one_cycle-case.result c.one_cycle-case.ensures in
    (c.if-agree-2.true, differs.0, differs.1)

pub returns-then-agree-2-clause-work : goal.returns-then-agree-2-clause-work
returns-then-agree-2-clause-work g c =
    let d = design_view c.args.design.now in
    let h = subst (IsDecided d 1 c.root_by.new.graph c.in_ok-root.root Plain c.args.budget) c.in-False.is c.in_ok-work.ensures.decided in
    (h.1.0, work-by d c.requires.lawful (abstraction_view c.args.abs.now) c.args.agree c.root_by.new.graph c.in_ok-root.root c.in_ok-root.ensures c.args.budget (Model h.1.0) c.in-False.work h.1.1)

pub broken-condition-requires : goal.broken-condition-requires
broken-condition-requires g c =
    let d = design_view c.args.design.now in
    let h = subst (IsDecided d 1 c.root_by.new.graph c.in_ok-root.root Plain c.args.budget) c.in-False.is c.in_ok-work.ensures.decided in
    let by = abstraction_by d (abstraction_view c.args.abs.now) in
    broken-judged d by c.one_cycle-case.result c.in_ok-judge_by-in-False.field-0
    (subst (λ m. JudgedBy d m c.one_cycle-case.result c.in_ok-judge_by-in-False.field-0) (same-meaning d c.args.abs.now) c.in_ok-judge_by-in-False.ensures)
    (false-breaks d c.requires.lawful (abstraction_view c.args.abs.now) c.args.agree c.root_by.new.graph c.in_ok-root.root c.in_ok-root.ensures c.if-agree-2.false
    (subst IsGraph c.graph.view_is c.graph.invariant.graph) c.in-False.trail h.0 c.one_cycle-case.result c.one_cycle-case.ensures).1

pub returns-in-False-clause-says : goal.returns-in-False-clause-says
returns-in-False-clause-says g c =
    let d = design_view c.args.design.now in
    let h = subst (IsDecided d 1 c.root_by.new.graph c.in_ok-root.root Plain c.args.budget) c.in-False.is c.in_ok-work.ensures.decided in (
      c.if-agree-2.false,
      (false-breaks d c.requires.lawful (abstraction_view c.args.abs.now) c.args.agree c.root_by.new.graph c.in_ok-root.root c.in_ok-root.ensures c.if-agree-2.false
          (subst IsGraph c.graph.view_is c.graph.invariant.graph) c.in-False.trail h.0 c.one_cycle-case.result c.one_cycle-case.ensures).0,
      subst (JudgedBy d (abstraction_by d (abstraction_view c.args.abs.now)) c.one_cycle-case.result) c.broken-condition.ensures
          (subst (λ m. JudgedBy d m c.one_cycle-case.result c.in_ok-judge_by-in-False.field-0) (same-meaning d c.args.abs.now) c.in_ok-judge_by-in-False.ensures),
    )

pub returns-in-False-clause-work : goal.returns-in-False-clause-work
returns-in-False-clause-work g c =
    let d = design_view c.args.design.now in
    let h = subst (IsDecided d 1 c.root_by.new.graph c.in_ok-root.root Plain c.args.budget) c.in-False.is c.in_ok-work.ensures.decided in
    (h.1.0, work-by d c.requires.lawful (abstraction_view c.args.abs.now) c.args.agree c.root_by.new.graph c.in_ok-root.root c.in_ok-root.ensures c.args.budget (Model h.1.0) c.in-False.work h.1.1)

pub returns-clause-work : goal.returns-clause-work
returns-clause-work g c =
    let d = design_view c.args.design.now in
    let h = subst (IsDecided d 1 c.root_by.new.graph c.in_ok-root.root Plain c.args.budget) c.in-Spent.is c.in_ok-work.ensures.decided in
    work-by d c.requires.lawful (abstraction_view c.args.abs.now) c.args.agree c.root_by.new.graph c.in_ok-root.root c.in_ok-root.ensures c.args.budget Spent c.in-Spent.work h

pub returns-then-agree-clause-asked : goal.returns-then-agree-clause-asked
returns-then-agree-clause-asked g c = subst (IsDecisionSaid (g.S.Solver.says c.args.solver.now c.decide.new.solver) c.args.budget) c.in-Valid.is c.in_ok-work.ensures.asked

pub returns-in-Valid-clause-asked : goal.returns-in-Valid-clause-asked
returns-in-Valid-clause-asked g c = subst (IsDecisionSaid (g.S.Solver.says c.args.solver.now c.decide.new.solver) c.args.budget) c.in-Valid.is c.in_ok-work.ensures.asked

pub returns-then-agree-2-clause-asked : goal.returns-then-agree-2-clause-asked
returns-then-agree-2-clause-asked g c = subst (IsDecisionSaid (g.S.Solver.says c.args.solver.now c.decide.new.solver) c.args.budget) c.in-False.is c.in_ok-work.ensures.asked

pub returns-in-False-clause-asked : goal.returns-in-False-clause-asked
returns-in-False-clause-asked g c = subst (IsDecisionSaid (g.S.Solver.says c.args.solver.now c.decide.new.solver) c.args.budget) c.in-False.is c.in_ok-work.ensures.asked

pub returns-clause-asked : goal.returns-clause-asked
returns-clause-asked g c = subst (IsDecisionSaid (g.S.Solver.says c.args.solver.now c.decide.new.solver) c.args.budget) c.in-Spent.is c.in_ok-work.ensures.asked
