use Rattle.std.proofs.Common.{List, [], sym, subst}
use Rattle.bd_model.specs.Cycle.{spec_steps}
use Rattle.bd_model.specs.DesignView.{design_view}
use Rattle.bd_model.specs.declared.table.Value.{Value}
use Rattle.bd_slice.specs.inner.Followed.{FollowsState}
use Rattle.bd_slice.proofs.Cycles.{spec_next}
use Rattle.bd_slice.proofs.Followings.{count_more, each_more}
use Rattle.bd_slice.proofs.cycle.spec_steps.Goals as goal

pub loop-step-preserved : goal.loop-step-preserved
loop-step-preserved c =
    let case = c.args.case.now in
    record {
      grows = λ d o h. c.loop-step.invariant.grows d o (c.in_ok-next.ensures.grows d o h);
      count = count_more _ _ _ _ c.loop-step.invariant.count c.in_ok-push.ensures.ok;
      follows = λ o values h f.
          let state = c.loop-step.invariant.follows o values (c.in_ok-next.ensures.grows case o h) f in
          let next = c.in_ok-next.ensures.follows o _ [] h (rw c.as_slice.ensures.value state) tt in
          subst (λ (s : List Value). FollowsState o c.in_ok-next.next.items s) (sym (spec_next c.loop-step._step (design_view c.args.design.now) o.case.interp values)) next;
      passed = λ o values h f.
          let old = c.in_ok-next.ensures.grows case o h in
          each_more o (λ n. spec_steps n (design_view c.args.design.now) o.case.interp values) _ _ _ _ c.loop-step.invariant.count (c.loop-step.invariant.passed o values old f) (rw c.from_vec.ensures (c.loop-step.invariant.follows o values old f)) c.in_ok-push.ensures.ok;
    }
