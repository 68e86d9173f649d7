use Rattle.bd_slice.proofs.whole.Whole.wanted.Goals as goal

pub returns-in_ok-spot_of-in-Some-clause-pins : goal.returns-in_ok-spot_of-in-Some-clause-pins
returns-in_ok-spot_of-in-Some-clause-pins c = λ o h fits other.
    let case = c.args.case.now in
    let before = c.in_ok-spot_of-in-Some.ensures.grows case o h in
    let whole = c.requires o before fits other in
    let state = rw c.in-Some.is at c.state.ensures in
    c.in_ok-spot_of-in-Some.ensures.follows o _ h (state o whole)

pub returns-in_ok-spot_of-in-None-clause-grows : goal.returns-in_ok-spot_of-in-None-clause-grows
returns-in_ok-spot_of-in-None-clause-grows c = λ d o h. c.in_ok-state-in-None.ensures.grows d o (c.in_ok-spot_of-in-None.ensures.grows d o h)

pub returns-in_ok-spot_of-in-None-clause-pins : goal.returns-in_ok-spot_of-in-None-clause-pins
returns-in_ok-spot_of-in-None-clause-pins c = λ o h fits other.
    let case = c.args.case.now in
    let before = c.in_ok-spot_of-in-None.ensures.grows case o h in
    let state = c.in_ok-state-in-None.ensures.run o before fits other in
    c.in_ok-spot_of-in-None.ensures.follows o _ h (rw c.as_slice.ensures.value state)
