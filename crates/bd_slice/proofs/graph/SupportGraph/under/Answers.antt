use Rattle.bd_slice.proofs.graph.SupportGraph.under.Goals as goal

pub returns-in_ok-both-in-Scalar-clause-follows : goal.returns-in_ok-both-in-Scalar-clause-follows
returns-in_ok-both-in-Scalar-clause-follows c = λ d o v h follows has.
    let both = c.in_ok-both-in-Scalar.ensures in
    let kept = follows (both.first d o h has) in
    (rw c.in-Scalar.is at kept) (both.second d o h has)

pub returns-in_ok-both-in-Memory-clause-follows : goal.returns-in_ok-both-in-Memory-clause-follows
returns-in_ok-both-in-Memory-clause-follows c = λ d o v h follows.
    let both = c.in_ok-both-in-Memory.ensures in
    let follow = rw c.in-Memory.is at follows in
    (rw c.in_ok-in_front-in-Memory.ensures (λ has. (follow has).0), λ has. (follow (both.first d o h has)).1 (both.second d o h has))
