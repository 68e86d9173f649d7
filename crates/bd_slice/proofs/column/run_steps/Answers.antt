use Rattle.bd_model.specs.DesignView.{design_view}
use Rattle.bd_slice.proofs.column.run_steps.Goals as goal

pub returns-clause-run : goal.returns-clause-run
returns-clause-run c = λ o h fits other.
    let case = c.args.case.now in
    let after = c.in_ok-line.ensures.grows case o h in
    let first = c.in_ok-first.ensures.follows (design_view c.args.design.now) o (c.in_ok-flushed.ensures.grows case o after) fits other in
    let end = (c.in_ok-flushed.ensures.follows o _ after first).end in
    let visible = c.in_ok-visible.ensures o _ (rw c.as_slice.ensures.value end) in
    (c.in_ok-line.ensures.follows o _ h visible).end

pub returns-clause-grows : goal.returns-clause-grows
returns-clause-grows c = λ d o h. c.in_ok-first.ensures.grows d o (c.in_ok-flushed.ensures.grows d o (c.in_ok-line.ensures.grows d o h))
