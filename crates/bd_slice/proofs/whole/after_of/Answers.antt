use Rattle.bd_slice.proofs.whole.after_of.Goals as goal

pub returns-clause-grows : goal.returns-clause-grows
returns-clause-grows c = λ d o h. c.in_ok-next.ensures.grows d o (c.in_ok-line.ensures.grows d o h)

pub returns-clause-line : goal.returns-clause-line
returns-clause-line c = λ o h fits other.
    let next = c.in_ok-next.ensures.run o (c.in_ok-line.ensures.grows c.args.case.now o h) fits other in
    c.in_ok-line.ensures.follows o _ h next
