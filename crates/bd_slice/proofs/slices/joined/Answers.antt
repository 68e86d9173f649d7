use Rattle.std.proofs.Common.{◌<◌, ◌≤◌, length, arith}
use Rattle.std.proofs.lemmas.List.{take_all}
use Rattle.bd_model.specs.DesignView.{design_view}
use Rattle.bd_slice.proofs.Followings.{pinned_more}
use Rattle.bd_slice.proofs.slices.joined.Goals as goal

pub loop-want-preserved : goal.loop-want-preserved
loop-want-preserved c =
    let case = c.args.case.now in
    let within : c.loop-want.want-index < length c.args.wants.now = omega arith in
    let wanted = c.in_ok-traced.ensures in
    let joined = c.in_ok-node.ensures in
    record {
      whole = λ o h fits other. c.loop-want.invariant.whole o (wanted.grows case o (joined.grows case o h)) fits other;
      pinned = pinned_more (design_view c.args.design.now) case _ _ _ _ _ _ _ _ _ within wanted.grows joined.grows (λ o h has. joined.first case o h has) (λ o h has. joined.second case o h has) c.loop-want.invariant.pinned wanted.pins;
    }

pub returns : goal.returns
returns c =
    let past : length c.args.wants.now ≤ c.loop-want.want-index = omega arith in
    rw (take_all c.loop-want.want-index c.args.wants.now past) at c.loop-want.invariant.pinned
