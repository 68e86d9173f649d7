use Rattle.bd_slice.proofs.whole.steps_of.Goals as goal

pub returns-clause-line : goal.returns-clause-line
returns-clause-line c = λ o h fits other.
    let before = c.requires o (c.in_ok-line.ensures.grows c.args.case.now o h) fits other in
    let visible = c.in_ok-visible.ensures o _ (rw c.as_slice.ensures.value before.end) in
    c.in_ok-line.ensures.follows o _ h visible
