use Rattle.std.proofs.Common.{◌<◌, ◌≤◌, length, false, get_or, arith}
use Rattle.std.specs.Prelude.{slice_index_or}
use Rattle.std.proofs.lemmas.List.{take_all}
use Rattle.bd_model.specs.Value.{truth}
use Rattle.bd_slice.specs.inner.Followed.{FollowsKept}
use Rattle.bd_slice.proofs.Following.{follows_at}
use Rattle.bd_slice.proofs.Cycles.{zip_more}
use Rattle.bd_slice.proofs.cycle.look.Goals as goal

pub loop-place-preserved : goal.loop-place-preserved
loop-place-preserved c = λ o values f.
    let items = c.as_slice-place-items.result.now in
    let within : c.loop-place.place-index < length items = omega arith in
    let here : FollowsKept o c.in_ok-kept_at.field-0 (slice_index_or values (get_or items c.loop-place.place-index 0) (truth false)) = rw c.in_ok-kept_at.ensures (follows_at o _ _ _ f) in
    zip_more (FollowsKept o) _ _ (λ i. slice_index_or values i (truth false)) items c.loop-place.place-index 0 _ within (c.loop-place.invariant o values f) c.in_ok-push.ensures.items here

pub returns : goal.returns
returns c = λ o values f.
    let items = c.as_slice-place-items.result.now in
    let past : length items ≤ c.loop-place.place-index = omega arith in
    let all = take_all c.loop-place.place-index items past in
    rw (← c.as_slice-place-items.ensures) (rw all at (c.loop-place.invariant o values f))
