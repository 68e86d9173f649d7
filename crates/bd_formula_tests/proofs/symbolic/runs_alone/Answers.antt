use Rattle.bd_model.specs.DesignView.{design_view}
use Rattle.bd_symbolic.proofs.Growing.{KeepsDesign-none}
use Rattle.bd_formula_tests.proofs.symbolic.runs_alone.Goals as goal

pub runs-requires-clause-keeps : goal.runs-requires-clause-keeps
runs-requires-clause-keeps g c = rw c.new-graph.ensures (KeepsDesign-none (design_view c.args.design.now))
