use Rattle.bd_slice.proofs.column.run_after.Goals as goal

pub returns-clause-run : goal.returns-clause-run
returns-clause-run c = λ o h fits other.
    let line = c.in_ok-line.ensures in
    let before = line.grows c.args.case.now o h in
    (line.follows o _ h (c.in_ok-next.ensures.run o before fits other)).end

pub returns-clause-grows : goal.returns-clause-grows
returns-clause-grows c = λ d o h. c.in_ok-next.ensures.grows d o (c.in_ok-line.ensures.grows d o h)
