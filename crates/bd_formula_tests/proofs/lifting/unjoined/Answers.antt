-- Two different vertices, and no edge.
use Rattle.std.proofs.Common.{◌≡◌, ◌≢◌, ℕ, List, [], ◌∷◌, sym, ◌∙◌, subst, arith}
use Rattle.std.specs.Prelude.{AllPairs}
use Rattle.std.proofs.lemmas.List.Elements.{All-cons, All-nil}
use Rattle.std.proofs.lemmas.List.Kept.{AllPairs-cons}
use Rattle.bd_transitive.specs.declared.graph.Edge.{Edge}
use Rattle.bd_transitive.specs.declared.graph.Order.{Order}
use Rattle.bd_transitive.specs.Edges.{AreEdges, JoinsAt}
use Rattle.bd_transitive.specs.Orders.{IsOrder}
use Rattle.bd_formula_tests.proofs.lifting.unjoined.Goals as goal

different : AllPairs (λ (v a : ℕ). v ≢ a) (8 ∷ 9 ∷ [])
different = AllPairs-cons (λ (v a : ℕ). v ≢ a) 8 (9 ∷ []) (All-cons (λ (a : ℕ). 8 ≢ a) 9 [] (λ e. absurd (omega (arith, e))) (All-nil (λ (a : ℕ). 8 ≢ a))) (λ i j d below within. absurd (omega (arith, below, within)))

no-edges : AreEdges []
no-edges = record {
  different = All-nil (λ (edge : Edge). edge.from ≢ edge.to);
  once = λ i j d below within. absurd (omega (arith, within));
}

none-joins : (edges : List Edge) → edges ≡ [] → (e a b : ℕ) → JoinsAt edges e a b → ⊥
none-joins edges empty e a b h = subst (λ l. JoinsAt l e a b) empty h

is-order : (order : Order) → order.vertices ≡ 8 ∷ 9 ∷ [] → order.edges ≡ [] → IsOrder order
is-order order two none = record {
  vertices = subst (AllPairs (λ (v a : ℕ). v ≢ a)) (sym two) different;
  edges = subst AreEdges (sym none) no-edges;
  ends = λ v end. absurd (none-joins order.edges none end.1.0 v end.0 end.1.1);
  joined = λ v a b first second differ. absurd (none-joins order.edges none first.0.0 v a first.0.1);
}

pub returns-clause-order : goal.returns-clause-order
returns-clause-order c = is-order (record { vertices = c.from_vec-vertices.result; edges = c.new-edges.result }) (c.from_vec-vertices.ensures ∙ c.in_ok-numbers.ensures.items) c.new-edges.ensures
