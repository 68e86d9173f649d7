use Rattle.std.proofs.Common.{IsTrue, subst, below_more, arith, rules}
use Rattle.std.proofs.lemmas.Option.{slice_get_within}
use Rattle.bd_slice.specs.declared.graph.SupportNode.{SupportNode}
use Rattle.bd_slice.specs.inner.Runs.{StandsAt}
use Rattle.bd_slice.proofs.Marked.{item_is}
use Rattle.bd_slice.proofs.slice.stands.Goals as goal

pub loop-i-preserved : goal.loop-i-preserved
loop-i-preserved c =
    let yes : IsTrue c.node_stands.result = search rules in
    below_more _ _ c.loop-i.invariant (λ n at. subst (λ (x : SupportNode). StandsAt c.args.marks.now c.loop-i.i x) (item_is c.args.nodes.now c.loop-i.i _ n c.index-nodes-i.is at) (c.node_stands.ensures yes))

pub returns : goal.returns
returns c = λ yes k n at. c.loop-i.invariant k (omega (arith, slice_get_within c.args.nodes.now k n at, c.loop-i-test.false)) n at
