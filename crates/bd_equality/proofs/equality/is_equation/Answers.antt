use Rattle.std.proofs.Common.{Some, ap, sym, ◌∙◌}
use Rattle.bd_equality.proofs.Equalities.{equation_is}
use Rattle.bd_equality.proofs.equality.is_equation.Goals as goal

pub returns-then-eq : goal.returns-then-eq
returns-then-eq c = λ is v.
    equation_is c.args.graph.now c.node.ensures.graph c.args.id c.args.a c.args.b c.in-Eq.left c.in-Eq.right (c.node.ensures.node ∙ ap Some c.in-Eq.is)
    (sym c.eq.ensures ∙ c.if-eq.true) (sym c.eq-then-eq.ensures ∙ is) v
