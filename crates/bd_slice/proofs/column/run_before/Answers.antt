use Rattle.bd_model.specs.DesignView.{design_view}
use Rattle.bd_slice.proofs.column.run_before.Goals as goal

pub returns-clause-run : goal.returns-clause-run
returns-clause-run c = λ o h fits other.
    let line = c.in_ok-line.ensures in
    let before = line.grows c.args.case.now o h in
    (line.follows o _ h (c.in_ok-first.ensures.follows (design_view c.args.design.now) o before fits other)).end

pub returns-clause-grows : goal.returns-clause-grows
returns-clause-grows c = λ d o h. c.in_ok-first.ensures.grows d o (c.in_ok-line.ensures.grows d o h)
