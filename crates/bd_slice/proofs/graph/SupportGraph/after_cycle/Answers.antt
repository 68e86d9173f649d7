use Rattle.bd_model.specs.DesignView.{design_view}
use Rattle.bd_slice.proofs.graph.SupportGraph.after_cycle.Goals as goal

pub returns-clause-run : goal.returns-clause-run
returns-clause-run c = λ o h fits other.
    let case = c.args.case.now in
    let view = design_view c.args.design.now in
    let before = c.in_ok-next.ensures.grows case o h in
    let first = c.in_ok-first.ensures.follows view o (c.in_ok-inputs.ensures.grows case o before) fits other in
    let inputs = c.in_ok-inputs.ensures.follows view o before fits other in
    c.in_ok-next.ensures.follows o _ _ h (rw c.as_slice.ensures.value first) (rw c.as_slice-2.ensures.value inputs)

pub returns-clause-grows : goal.returns-clause-grows
returns-clause-grows c = λ d o h. c.in_ok-first.ensures.grows d o (c.in_ok-inputs.ensures.grows d o (c.in_ok-next.ensures.grows d o h))
