use Rattle.std.proofs.Common.{arith}
use Rattle.bd_model.specs.DesignView.{machine_view}
use Rattle.bd_diagram.proofs.Flushed.{states_more, inputs_more, joined}
use Rattle.bd_diagram.proofs.flushing.flushing_from.Goals as goal

pub loop-cycle-preserved : goal.loop-cycle-preserved
loop-cycle-preserved c =
    let states = states_more c.args.design.now.flush c.loop-cycle._cycle (machine_view c.args.design.now.pipe) c.args.interp.now c.loop-cycle.reached (omega arith) in
    let inputs = inputs_more c.args.design.now.flush c.loop-cycle._cycle (machine_view c.args.design.now.pipe) c.args.interp.now c.loop-cycle.reached (omega arith) in
    let next_states = rw (← c.in_ok-idle.ensures, ← c.in_ok-next.ensures) at states in
    let next_inputs = rw (← c.in_ok-idle.ensures, ← c.in_ok-next.ensures) at inputs in
    record {
      states = joined _ _ _ _ _ _ c.in_ok-push.ensures.items next_states c.loop-cycle.invariant.states;
      inputs = joined _ _ _ _ _ _ c.in_ok-push-2.ensures.items next_inputs c.loop-cycle.invariant.inputs;
    }
