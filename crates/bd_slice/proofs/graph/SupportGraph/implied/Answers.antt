use Rattle.std.proofs.Common.{◌≡◌, true, false, rules}
use Rattle.bd_model.specs.Value.{scalar_truth}
use Rattle.bd_slice.proofs.Following.{implied_false}
use Rattle.bd_slice.proofs.graph.SupportGraph.implied.Goals as goal

pub returns-clause-follows : goal.returns-clause-follows
returns-clause-follows c = λ d o x y h p q has.
    let s : scalar_truth c.args.p.value ≡ true = search rules in
    let t : scalar_truth c.args.q.value ≡ false = search rules in
    implied_false x c.args.p.value y c.args.q.value (p (c.in_ok-both.ensures.first d o h has)) (q (c.in_ok-both.ensures.second d o h has)) s t
