use Rattle.bd_model.specs.DesignView.{design_view}
use Rattle.bd_app.proofs.Sources.{next_state}
use Rattle.bd_app.proofs.command.run.states_text.Goals as goal

pub loop-cycle-preserved : goal.loop-cycle-preserved
loop-cycle-preserved c =
    next_state (design_view c.args.design.now) c.loop-cycle.cycle c.args.states.now _ c.index-states-cycle.result c.loop-cycle.text.items c.push_state.new.text.items _ c.loop-cycle-test.true
    c.index-states-cycle.is c.in_ok-push_state.ensures c.loop-cycle.invariant
