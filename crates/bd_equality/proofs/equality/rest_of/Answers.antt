use Rattle.std.proofs.Common.{◌∷◌, [], Some, ap, ◌∙◌, arith}
use Rattle.bd_list.proofs.Membership.{first, second}
use Rattle.bd_terms.specs.declared.node.Node.TheVariants.{And}
use Rattle.bd_terms.proofs.Reaching.{children-below}
use Rattle.bd_equality.proofs.Equalities.{rest_last, rest_more}
use Rattle.bd_equality.proofs.equality.rest_of.Goals as goal

pub is_equation-requires : goal.is_equation-requires
is_equation-requires c =
    let there = c.node.ensures.node ∙ ap Some c.in-And.is in
    let lt = children-below c.args.graph.now c.node.ensures.graph c.args.id (And c.in-And.first c.in-And.rest) there c.in-And.first (first c.in-And.first (c.in-And.rest ∷ [])) in
    omega (arith, lt, c.requires)

pub returns-then-is_equation-clause-inside : goal.returns-then-is_equation-clause-inside
returns-then-is_equation-clause-inside c =
    let there = c.node.ensures.node ∙ ap Some c.in-And.is in
    let lt = children-below c.args.graph.now c.node.ensures.graph c.args.id (And c.in-And.first c.in-And.rest) there c.in-And.rest (second c.in-And.first c.in-And.rest []) in
    omega (arith, lt, c.requires)

pub returns-then-is_equation-clause-follows : goal.returns-then-is_equation-clause-follows
returns-then-is_equation-clause-follows c =
    rest_more c.args.graph.now c.node.ensures.graph c.args.id c.in-And.first c.in-And.rest c.args.a c.args.b (c.node.ensures.node ∙ ap Some c.in-And.is) (c.is_equation.ensures c.if-is_equation.true)

pub returns-then-is_equation-2 : goal.returns-then-is_equation-2
returns-then-is_equation-2 c = record {
  inside = tt;
  follows = rest_last c.args.graph.now c.args.id c.args.a c.args.b (c.is_equation-in_default.ensures c.if-is_equation-2.true);
}
