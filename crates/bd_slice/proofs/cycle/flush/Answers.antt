use Rattle.std.proofs.Common.{List, sym, subst}
use Rattle.bd_model.specs.Cycle.{flush_cycles}
use Rattle.bd_model.specs.DesignView.{machine_view}
use Rattle.bd_model.specs.declared.table.Value.{Value}
use Rattle.bd_slice.specs.inner.Followed.{FollowsState}
use Rattle.bd_slice.proofs.Cycles.{flush_next}
use Rattle.bd_slice.proofs.Followings.{count_more, each_more}
use Rattle.bd_slice.proofs.cycle.flush.Goals as goal

pub loop-cycle-preserved : goal.loop-cycle-preserved
loop-cycle-preserved c =
    let case = c.args.case.now in
    record {
      grows = λ d o h. c.loop-cycle.invariant.grows d o (c.in_ok-inputs.ensures.grows d o (c.in_ok-next.ensures.grows d o h));
      count = count_more _ _ _ _ c.loop-cycle.invariant.count c.in_ok-push.ensures.ok;
      follows = λ o values h f.
          let after = c.in_ok-next.ensures.grows case o h in
          let state = c.loop-cycle.invariant.follows o values (c.in_ok-inputs.ensures.grows case o after) f in
          let inputs = c.in_ok-inputs.ensures.follows o _ after (rw c.as_slice.ensures.value state) in
          let next = c.in_ok-next.ensures.follows o _ _ h (rw c.as_slice-in-loop-cycle.ensures.value state) (rw c.as_slice-in-loop-cycle-2.ensures.value inputs) in
          subst (λ (s : List Value). FollowsState o c.in_ok-next.next.items s) (sym (flush_next c.loop-cycle._cycle (machine_view c.args.machine.now) o.case.interp values)) next;
      passed = λ o values h f.
          let old = c.in_ok-inputs.ensures.grows case o (c.in_ok-next.ensures.grows case o h) in
          each_more o (λ n. flush_cycles n (machine_view c.args.machine.now) o.case.interp values) _ _ _ _ c.loop-cycle.invariant.count (c.loop-cycle.invariant.passed o values old f) (rw c.from_vec.ensures (c.loop-cycle.invariant.follows o values old f)) c.in_ok-push.ensures.ok;
    }
