use Rattle.std.proofs.Common.{List, ◌∙◌, ap, subst}
use Rattle.bd_model.specs.DesignView.{design_view}
use Rattle.bd_model.specs.Cycle.{flushed}
use Rattle.bd_model.specs.declared.table.Value.{Value}
use Rattle.bd_diagram.specs.Diagrams.{AreComparisonsOf, stands_at}
use Rattle.bd_diagram.specs.Flushes.{IsFlushing}
use Rattle.bd_diagram.proofs.Flushed.{enough_states, end_visible}
use Rattle.bd_diagram.proofs.diagram.diagram_of.Goals as goal

pub visible_end-requires : goal.visible_end-requires
visible_end-requires c = enough_states (design_view c.args.design.now) _ _ _ c.in_ok-before.ensures

pub visible_end-requires-2 : goal.visible_end-requires-2
visible_end-requires-2 c = enough_states (design_view c.args.design.now) _ _ _ c.in_ok-after.ensures

pub returns : goal.returns
returns c =
    let d = design_view c.args.design.now in
    let case = c.args.case.now in
    let first = end_visible d _ _ _ _ c.in_ok-before.ensures c.in_ok-first.ensures in
    let stands = end_visible d _ _ _ _ c.in_ok-after.ensures c.in_ok-visible.ensures ∙ ap (flushed d case.interp) c.in_ok-next.ensures in
    record {
      before = c.in_ok-before.ensures;
      after = subst (λ (s : List Value). IsFlushing d case.interp s c.in_ok-after.after) c.in_ok-next.ensures c.in_ok-after.ensures;
      lets = c.in_ok-lets.ensures;
      visible = stands;
      counts = c.in_ok-comparisons.ensures.counts;
      comparisons =
          subst (λ (s : List Value). AreComparisonsOf d case (flushed d case.interp case.state) s c.in_ok-comparisons.comparisons) stands
          (subst (λ (s : List Value). AreComparisonsOf d case s c.in_ok-visible.visible c.in_ok-comparisons.comparisons) first c.in_ok-comparisons.ensures.each);
    }
