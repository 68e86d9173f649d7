-- What decoded values say of edges and of variables in no edge.
use Rattle.std.proofs.Common.{◌≡◌, ◌≢◌, ◌↔◌, ℕ, ◌<◌, IsTrue, Bool, List, length, All, ap, sym, ◌∙◌, arith}
use Rattle.bd_model.specs.declared.table.Scalar.TheVariants as scalar
use Rattle.bd_model.specs.Value.{scalar_word}
use Rattle.bd_prop.specs.declared.atom.Atom.{Atom}
use Rattle.bd_transitive.specs.declared.graph.Order.{Order}
use Rattle.bd_transitive.specs.Edges.{IsEnd, JoinsAt}
use Rattle.bd_transitive.specs.Orders.{IsOrder}
use Rattle.bd_transitive.specs.Triangle.{class_of, value_at}
use Rattle.bd_lift.specs.Decoded.{AreClasses, DecodedEdgesTell, DecodedHaveSorts, DecodedOthersDiffer, decoded_word, edge_truths}
use Rattle.bd_lift.proofs.Decoding.{AreDecodedBy-sorts}
use Rattle.bd_transitive.proofs.OrderSpans.{joins_at_comm}
use Rattle.bd_lift.proofs.Ends.{Ends, Alone, placed}

-- the class of an end is its word
word-end : (order : Order) (classes : List ℕ) (x : ℕ) → IsOrder order → All (λ c. c < length order.vertices) classes → IsEnd order.edges x → decoded_word order classes x ≡ class_of order.vertices classes x
word-end order classes x o below end = elim (placed order classes x o below) [ Ends e is lt ↦ is | Alone n is ↦ absurd (n end) ]

-- two ends of an edge have the same word exactly where it is true
pub words-edge : (order : Order) (atoms : List (Atom × Bool)) (classes : List ℕ) → IsOrder order → AreClasses order atoms classes → (e x y : ℕ) → JoinsAt order.edges e x y
    → IsTrue (value_at (edge_truths atoms order.edges) e) ↔ (decoded_word order classes x ≡ decoded_word order classes y)
words-edge order atoms classes o c e x y j =
    let wx = word-end order classes x o c.below (y, (e, j)) in
    let wy = word-end order classes y o c.below (x, (e, joins_at_comm order.edges e x y j)) in
    let a = c.agrees e x y j in
    (λ t. wx ∙ a.0 t ∙ sym wy, λ q. a.1 (sym wx ∙ q ∙ wy))

-- a variable in no edge has a word of its own
pub words-alone : (order : Order) (classes : List ℕ) → IsOrder order → All (λ c. c < length order.vertices) classes → (x y : ℕ) → (IsEnd order.edges x → ⊥) → x ≢ y
    → decoded_word order classes x ≢ decoded_word order classes y
words-alone order classes o below x y none ne e = elim (placed order classes x o below) [
  | Ends end is lt ↦ none end
  | Alone n is ↦ elim (placed order classes y o below) [
    | Ends end is2 lt ↦ omega (arith, is, e, lt)
    | Alone m is2 ↦ ne (omega (arith, is, is2, e))
  ]
]

pub decoded-edges : DecodedEdgesTell
decoded-edges nodes order atoms v o d = record {
  equal = λ e x y j p q.
      let w = words-edge order atoms d.classes o d.are e x y j in
      let vx = d.by.words x p in let vy = d.by.words y q in
      (λ t. vx ∙ ap scalar.Word (w.0 t) ∙ sym vy, λ same. w.1 (ap scalar_word (sym vx ∙ same ∙ vy)));
}

pub decoded-others : DecodedOthersDiffer
decoded-others nodes order atoms v o d = record {
  differ = λ x y none ne p q same.
      words-alone order d.classes o d.are.below x y none ne (ap scalar_word (sym (d.by.words x p) ∙ same ∙ d.by.words y q));
}

pub decoded-sorts : DecodedHaveSorts
decoded-sorts nodes order atoms v d = AreDecodedBy-sorts nodes order atoms d.classes v d.by
