use Rattle.bd_slice.proofs.graph.SupportGraph.applied.Goals as goal

pub returns-clause-grows : goal.returns-clause-grows
returns-clause-grows c = λ d o h. c.in_ok-row.ensures.grows d o (c.in_ok-both.ensures.grows d o h)

pub returns-clause-follows : goal.returns-clause-follows
returns-clause-follows c = λ o ns h same has.
    let case = c.args.case.now in
    let both = c.in_ok-both.ensures in
    let args = same (both.first case o h has) in
    let row = c.in_ok-row.ensures.agrees case o (both.grows case o h) (both.second case o h has) in
    rw (args, row, c.table_at-value.ensures, c.as_slice.ensures, c.as_slice-2.ensures)
