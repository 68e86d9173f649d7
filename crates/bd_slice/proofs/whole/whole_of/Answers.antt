use Rattle.bd_slice.proofs.whole.whole_of.Goals as goal

pub returns-clause-whole : goal.returns-clause-whole
returns-clause-whole c = λ o h fits other.
    let case = c.args.case.now in
    let h-steps = c.in_ok-after.ensures.grows case o h in
    let h-before = c.in_ok-steps.ensures.grows case o h-steps in
    record {
      before = c.in_ok-before.ensures.line o h-before fits other;
      after = c.in_ok-after.ensures.line o h fits other;
      steps = c.in_ok-steps.ensures.line o h-steps fits other;
    }

pub returns-clause-grows : goal.returns-clause-grows
returns-clause-grows c = λ d o h. c.in_ok-before.ensures.grows d o (c.in_ok-steps.ensures.grows d o (c.in_ok-after.ensures.grows d o h))
