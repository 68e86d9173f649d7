-- What holds of an encoded formula.
use Rattle.std.proofs.Common.{◌≡◌, ◌≢◌, ℕ, ◌<◌, ◌⊎◌, inl, inr, Bool, List, Option, AllPairs, Contains, length, slice_index_or, ◌∙◌, arith}
use Rattle.std.proofs.lemmas.List.Elements.{Contains-get_or}
use Rattle.bd_model.specs.declared.table.Scalar.{Scalar}
use Rattle.bd_terms.specs.declared.node.Node.{Node}
use Rattle.bd_function.specs.declared.flat.FlatSym.{FlatSym}
use Rattle.bd_prop.specs.declared.atom.Atom.{Atom}
use Rattle.bd_prop.specs.declared.atom.Atom.TheVariants.{Edge as EdgeOf, Truth as TruthOf}
use Rattle.bd_prop.specs.declared.node.PropNode.{PropNode}
use Rattle.bd_prop.specs.declared.node.PropNode.TheVariants.{Atom as AtomOf}
use Rattle.bd_prop.specs.Graph.{IsGraph, Reaches, StandsAt}
use Rattle.bd_prop.proofs.Reaching.{truth_agrees}
use Rattle.bd_transitive.specs.declared.graph.Edge.{Edge}
use Rattle.bd_transitive.specs.Edges.{AreEdges, Joins}
use Rattle.bd_equality.specs.Encoding.{AgreesWith, Encodes, EncodesByEdges, atom_value}
use Rattle.bd_equality.specs.Edges.{IsApart, IsEdge, ReachesEdge}
use Rattle.bd_equality.specs.inner.Means.{HasAtoms, edge}

module _ (nodes : List Node) (root : ℕ) (marked : Option (List ℕ)) (edges : List Edge) (prop : List PropNode) (top : ℕ) (atoms : HasAtoms nodes marked prop)
    (among : (e : Edge) → ReachesEdge prop top e → Contains edges e) where
  agree : (value : Atom → Bool) (v : ℕ → Scalar) → AgreesWith nodes edges value v → (id : ℕ) (a : Atom) → Reaches prop top id → StandsAt prop id (AtomOf a) → value a ≡ atom_value v a
  agree value v h id (EdgeOf x y) r at = h.edges (edge x y) (among (edge x y) (record { id = id; reached = r; stands = at }))
  agree value v h id (TruthOf x) r at = h.truths x (atoms.truths id x at)

  -- only the values of the edges and of the truth variables count
  pub by_edges_of : IsGraph prop → top < length prop → Encodes nodes root marked prop top → EncodesByEdges nodes root marked edges prop top
  by_edges_of g inside m = record {
    denotes = λ value v k h. truth_agrees value (atom_value v) prop top g (agree value v h) inside ∙ m.denotes v k;
  }

-- the edges of atoms, and those between constants, are edges of the formula
pub edge_of_either : (nodes : List Node) (syms : List FlatSym) (distinct : List (List ℕ)) (marked : Option (List ℕ)) (prop : List PropNode) (top : ℕ) (e : Edge) → HasAtoms nodes marked prop
    → ReachesEdge prop top e ⊎ IsApart nodes syms distinct marked e → IsEdge nodes marked e
edge_of_either nodes syms distinct marked prop top e atoms (inl r) = atoms.edges r.id e.from e.to r.stands
edge_of_either nodes syms distinct marked prop top e atoms (inr a) = record { from = a.from.vertex; to = a.to.vertex; below = a.below }

-- edges with the lesser vertex first and without repeats are those of a simple graph
pub simple_of : (nodes : List Node) (marked : Option (List ℕ)) (edges : List Edge) → ((e : Edge) → Contains edges e → IsEdge nodes marked e) → AllPairs (λ e f. e ≢ f) edges → AreEdges edges
simple_of nodes marked edges are once = record {
  different = λ k d lt same. let below = (are (slice_index_or edges k d) (Contains-get_or edges k d lt)).below in absurd (omega arith);
  once = λ i j d lt inside joins.
      apart (slice_index_or edges i d) (slice_index_or edges j d) (are (slice_index_or edges i d) (Contains-get_or edges i d (omega arith))).below
      (are (slice_index_or edges j d) (Contains-get_or edges j d inside)).below (once i j d lt inside) joins;
}
  where
    apart : (e f : Edge) → e.from < e.to → f.from < f.to → e ≢ f → Joins e f.from f.to → ⊥
    apart e f p q other (inl j) = other (λ i. edge (j.0 i) (j.1 i))
    apart e f p q other (inr j) = let a : e.from ≡ f.to = j.0 in let b : e.to ≡ f.from = j.1 in absurd (omega arith)
