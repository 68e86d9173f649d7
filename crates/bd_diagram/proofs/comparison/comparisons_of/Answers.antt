use Rattle.std.proofs.Common.{◌≡◌, ◌∙◌, arith}
use Rattle.bd_model.specs.DesignView.{design_view}
use Rattle.bd_diagram.proofs.Compared.{compared, compared_more, next_reached, counted_more}
use Rattle.bd_diagram.proofs.comparison.comparisons_of.Goals as goal

pub loop-count-preserved : goal.loop-count-preserved
loop-count-preserved c =
    let here = compared (design_view c.args.design.now) c.args.case.now _ _ c.loop-count.count c.args.first.now _ _ _ c.in_ok-counts.ensures.allow c.as_slice.ensures.value c.loop-count.invariant.reached
    c.in_ok-comparison_of.ensures in
    record {
      reached = next_reached (design_view c.args.design.now) c.args.case.now c.args.first.now _ _ c.loop-count.count c.loop-count.invariant.reached c.in_ok-next.ensures;
      counted = counted_more _ _ _ _ c.loop-count.invariant.counted c.in_ok-push.ensures.items;
      each = compared_more (design_view c.args.design.now) c.args.case.now c.args.first.now _ _ _ _ c.loop-count.count c.loop-count.invariant.each c.loop-count.invariant.counted here c.in_ok-push.ensures.items;
    }

pub returns-clause-each : goal.returns-clause-each
returns-clause-each c =
    let end : c.loop-count.count ≡ c.args.design.now.steps = omega arith in
    let reached = rw end at c.loop-count.invariant.reached in
    let here = compared (design_view c.args.design.now) c.args.case.now _ _ c.args.design.now.steps c.args.first.now _ _ _ c.in_ok-counts.ensures.allow c.as_slice-2.ensures.value reached
    c.in_ok-comparison_of-2.ensures in
    compared_more (design_view c.args.design.now) c.args.case.now c.args.first.now _ _ _ _ c.args.design.now.steps c.loop-count.invariant.each (c.loop-count.invariant.counted ∙ end) here
    (c.from_vec.ensures ∙ c.in_ok-push-2.ensures.items)
