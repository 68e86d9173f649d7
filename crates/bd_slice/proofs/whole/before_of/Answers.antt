use Rattle.bd_model.specs.DesignView.{design_view}
use Rattle.bd_slice.proofs.whole.before_of.Goals as goal

pub returns-clause-grows : goal.returns-clause-grows
returns-clause-grows c = λ d o h. c.in_ok-first.ensures.grows d o (c.in_ok-line.ensures.grows d o h)

pub returns-clause-line : goal.returns-clause-line
returns-clause-line c = λ o h fits other.
    let before = c.in_ok-line.ensures.grows c.args.case.now o h in
    let first = c.in_ok-first.ensures.follows (design_view c.args.design.now) o before fits other in
    c.in_ok-line.ensures.follows o _ h first
