use Rattle.bd_slice.proofs.cycle.cycle.Goals as goal

pub returns-clause-grows : goal.returns-clause-grows
returns-clause-grows c = λ d o h. c.in_ok-names.ensures.grows d o (c.in_ok-next.ensures.grows d o h)

pub returns-clause-follows : goal.returns-clause-follows
returns-clause-follows c = λ o values given h f g.
    let before = c.in_ok-next.ensures.grows c.args.case.now o h in
    let names = c.in_ok-names.ensures.follows o values given before f g in
    rw c.as_slice.ensures at (c.in_ok-next.ensures.follows o _ (rw c.in_ok-names.ensures.case h) names)
