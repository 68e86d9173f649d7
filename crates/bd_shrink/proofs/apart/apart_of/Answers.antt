use Rattle.bd_model.specs.DesignView.{design_view}
use Rattle.bd_shrink.proofs.Differing.{values_all}
use Rattle.bd_shrink.proofs.apart.apart_of.Goals as goal

pub returns : goal.returns
returns c = record {
  diagram = c.in_ok-diagram.ensures;
  values =
      values_all (design_view c.args.design.now) c.args.case.now c.in_ok-diagram.diagram c.as_slice-comparison-items.result.now c.loop-comparison.comparison-index c.loop-comparison.values.items _ c.in_ok-diagram.ensures
      c.as_slice-comparison-items.ensures c.loop-comparison-test.false c.loop-comparison.auto.comparison-index-end c.loop-comparison.invariant c.from_vec.ensures;
}
