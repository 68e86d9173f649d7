use Rattle.std.proofs.Common.{◌<◌, ◌≤◌, ◌≡◌, length, false, ap, arith}
use Rattle.bd_model.specs.Fits.{scalar_sort}
use Rattle.bd_model.specs.DesignView.{PortView}
use Rattle.bd_model.specs.declared.table.Scalar.TheVariants as scalar
use Rattle.bd_slice.specs.inner.Followed.{Follows}
use Rattle.bd_slice.proofs.Cycles.{zip_take, zip_all, same_lengths}
use Rattle.bd_slice.proofs.graph.SupportGraph.inputs_of.Goals as goal

pub loop-i-preserved : goal.loop-i-preserved
loop-i-preserved c =
    let case = c.args.case.now in
    let i = c.loop-i.i in
    let within : c.loop-i.i < length c.as_slice-input-items.result.now = omega arith in
    record {
      grows = λ d o h. c.loop-i.invariant.grows d o (c.in_ok-node.ensures.grows d o h);
      follows = λ d o h fits other.
          let size = same_lengths (λ (p : PortView) x. scalar_sort x ≡ p.sort) d.pipe.ports case.inputs o.case.inputs fits.inputs other.inputs in
          let there : c.loop-i.i < length o.case.inputs = omega (arith, size, within, ap length c.as_slice-input-items.ensures) in
          zip_take (Follows o) _ _ o.case.inputs i (scalar.Bool false) _ there (c.loop-i.invariant.follows d o (c.in_ok-node.ensures.grows case o h) fits other) c.in_ok-push.ensures.items
          (λ has. rw c.as_slice-input-items.ensures (c.in_ok-node.ensures.agrees case o h has));
    }

pub returns-clause-follows : goal.returns-clause-follows
returns-clause-follows c = λ d o h fits other.
    let case = c.args.case.now in
    let size = same_lengths (λ (p : PortView) x. scalar_sort x ≡ p.sort) d.pipe.ports case.inputs o.case.inputs fits.inputs other.inputs in
    let end : length o.case.inputs ≤ c.loop-i.i = omega (arith, size, c.loop-i-test.false, ap length c.as_slice-input-items.ensures) in
    zip_all (Follows o) _ o.case.inputs c.loop-i.i end (c.loop-i.invariant.follows d o h fits other)
