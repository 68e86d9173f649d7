use Rattle.std.proofs.Common.{◌≡◌, length}
use Rattle.bd_model.specs.Cycle.{spec_steps}
use Rattle.bd_model.specs.DesignView.{design_view}
use Rattle.bd_diagram.specs.Diagrams.{AreComparisonsOf}
use Rattle.bd_diagram.proofs.comparison.comparisons_of.Given as goal

abbrev pub invariant-loop-count : goal.invariant-loop-count
invariant-loop-count l = record {
  reached : l.reached ≡ spec_steps l.count (design_view l.design) l.case.interp l.first;
  counted : length l.comparisons.items ≡ l.count;
  each : AreComparisonsOf (design_view l.design) l.case l.first l.stands l.comparisons.items;
}
