use Rattle.bd_slice.proofs.graph.SupportGraph.same_word.Goals as goal

pub returns-clause-follows : goal.returns-clause-follows
returns-clause-follows c = λ d o x y h p q has.
    let e = p (c.in_ok-both.ensures.first d o h has) in
    let f = q (c.in_ok-both.ensures.second d o h has) in
    rw (e, f, c.word.ensures, c.word-2.ensures)
