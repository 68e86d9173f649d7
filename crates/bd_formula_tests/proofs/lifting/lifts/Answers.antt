-- No edge stands in a triangle, or at a variable.
use Rattle.std.proofs.Common.{◌≡◌, ℕ, List, [], inl, inr, subst}
use Rattle.bd_transitive.specs.declared.graph.Edge.{Edge}
use Rattle.bd_transitive.specs.Edges.{JoinsAt}
use Rattle.bd_formula_tests.proofs.lifting.lifts.Goals as goal

none-joins : (edges : List Edge) → edges ≡ [] → (e a b : ℕ) → JoinsAt edges e a b → ⊥
none-joins edges empty e a b h = subst (λ l. JoinsAt l e a b) empty h

pub lift-requires-clause-triangles : goal.lift-requires-clause-triangles
lift-requires-clause-triangles c = λ d e f is. absurd (none-joins c.args.order.now.edges c.requires.edges d is.vertex is.left is.to_left)

pub lift-requires-clause-constants : goal.lift-requires-clause-constants
lift-requires-clause-constants c = record {
  apart = λ group listed f g has_f has_g differ s t in_s in_t is_f is_g q r first_q first_r. inr (inl (λ end. none-joins c.args.order.now.edges c.requires.edges end.1.0 q.var end.0 end.1.1));
}
