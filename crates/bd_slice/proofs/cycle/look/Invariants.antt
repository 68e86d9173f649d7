use Rattle.std.proofs.Common.{List, false, map, take}
use Rattle.std.specs.Prelude.{slice_index_or}
use Rattle.bd_model.specs.Value.{truth}
use Rattle.bd_model.specs.declared.table.Value.{Value}
use Rattle.bd_slice.specs.inner.Followed.{Other, FollowsState}
use Rattle.bd_slice.proofs.cycle.look.Given as goal

abbrev pub invariant-loop-place : goal.invariant-loop-place
invariant-loop-place l =
    (o : Other) (values : List Value) → FollowsState o l.state values → FollowsState o l.seen.items (map (λ i. slice_index_or values i (truth false)) (take l.place-index l.place-items))
