use Rattle.std.proofs.Common.{subst, below_more, arith}
use Rattle.std.proofs.lemmas.Option.{slice_get_within}
use Rattle.bd_slice.specs.declared.graph.SupportNode.{SupportNode}
use Rattle.bd_slice.specs.inner.Runs.{HasPlaceAt}
use Rattle.bd_slice.proofs.Marked.{item_is}
use Rattle.bd_slice.proofs.slice.places_of.Goals as goal

pub loop-i-preserved : goal.loop-i-preserved
loop-i-preserved c = λ d other agrees.
    let both = c.in_ok-note_place.ensures d other agrees in
    below_more _ _ (c.loop-i.invariant d other both.0) (λ n at. subst (λ (x : SupportNode). HasPlaceAt d other c.args.marks.now c.loop-i.i x) (item_is c.args.nodes.now c.loop-i.i _ n c.index-nodes-i.is at) both.1)

pub returns : goal.returns
returns c = λ d other agrees k n at.
    let seen = rw c.from_vec.ensures at agrees in
    c.loop-i.invariant d other seen k (omega (arith, slice_get_within c.args.nodes.now k n at, c.loop-i-test.false)) n at
