use Rattle.bd_model.specs.DesignView.{design_view}
use Rattle.bd_symbolic.proofs.Cycles.{spec_denotes}
use Rattle.bd_symbolic.proofs.cycle.sym_spec_step.Goals as goal

pub returns-clause-denotes : goal.returns-clause-denotes
returns-clause-denotes c = spec_denotes (design_view c.args.design.now) _ _ c.args.visible.now _ c.requires.inputs c.in_ok-entries.ensures.denotes
