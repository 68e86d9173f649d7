use Rattle.std.proofs.Common.{◌≡◌, refl, arith, below_more}
use Rattle.std.proofs.lemmas.Bool.{both_ways}
use Rattle.bd_model.specs.DesignView.{design_view}
use Rattle.bd_sim.specs.StepsJoin.{StepsJoinAt}
use Rattle.bd_sim.proofs.Steps.{stands_iff, next_steps, last_stands}
use Rattle.bd_sim.proofs.judgement.steps_join.Goals as goal

pub returns-then-stands : goal.returns-then-stands
returns-then-stands c =
    let stands = stands_iff (design_view c.args.design.now) c.args.interp.now c.args.state.now c.args.inputs.now c.args.before c.args.after.now _ _ _ c.loop-count.count _
    c.in_ok-counts.ensures.allow c.as_slice.ensures.value c.loop-count.invariant.reached c.stands.ensures in
    (λ t. (c.loop-count.count, omega arith, stands.0 c.if-stands.true), λ h. refl)

pub loop-count-preserved : goal.loop-count-preserved
loop-count-preserved c =
    let stands = stands_iff (design_view c.args.design.now) c.args.interp.now c.args.state.now c.args.inputs.now c.args.before c.args.after.now _ _ _ c.loop-count.count _
    c.in_ok-counts.ensures.allow c.as_slice.ensures.value c.loop-count.invariant.reached c.stands.ensures in
    record {
      reached = next_steps (design_view c.args.design.now) c.args.interp.now c.loop-count.reached _ _ c.loop-count.count c.loop-count.invariant.reached c.in_ok-reached.ensures;
      none = below_more _ _ c.loop-count.invariant.none (λ h. both_ways _ c.if-stands.false (stands.1 h));
    }

pub returns : goal.returns
returns c =
    let end : c.loop-count.count ≡ c.args.design.now.steps = omega arith in
    let reached = rw end at c.loop-count.invariant.reached in
    let stands = stands_iff (design_view c.args.design.now) c.args.interp.now c.args.state.now c.args.inputs.now c.args.before c.args.after.now _ _ _ c.args.design.now.steps _
    c.in_ok-counts.ensures.allow c.as_slice-2.ensures.value reached c.stands-2.ensures in
    let last = last_stands (StepsJoinAt (design_view c.args.design.now) c.args.interp.now c.args.state.now c.args.inputs.now c.args.before c.args.after.now) c.loop-count.count c.args.design.now.steps
    (omega arith) (omega arith) c.loop-count.invariant.none in
    (λ t. (c.args.design.now.steps, omega arith, stands.0 t), λ h. stands.1 (last h.0 h.1 h.2))
