use Rattle.std.proofs.Common.{sym, subst}
use Rattle.bd_model.specs.DesignView.{design_view}
use Rattle.bd_symbolic.specs.Symbolic.{HaveSorts}
use Rattle.bd_symbolic.specs.States.{port_sorts}
use Rattle.bd_symbolic.proofs.States.{HaveSorts-Extends}
use Rattle.bd_symbolic.proofs.cycle.sym_step.Goals as goal

pub returns-clause-sorted : goal.returns-clause-sorted
returns-clause-sorted c = record {
  entries = c.in_ok-entries.ensures.sorted;
  inputs = subst (λ ids. HaveSorts c.next_entries.new.graph ids (port_sorts (design_view c.args.design.now).pipe)) (sym c.in_ok-inputs.ensures)
      (HaveSorts-Extends _ _ c.next_entries.ensures.grows.extends c.args.state.now.inputs (port_sorts (design_view c.args.design.now).pipe) c.requires.sorted.inputs);
}
