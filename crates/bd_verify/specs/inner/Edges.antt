-- What a formula with its edges' clauses means (Bryant and Velev 2000: triangles of the completed comparison graph).
use Rattle.std.specs.Prelude.{◌≡◌, ◌↔◌, ℕ, Bool, false, List, Contains, map}
use Rattle.bd_cnf.specs.Clause.{Satisfies}
use Rattle.bd_cnf.specs.Problem.{Problem}
use Rattle.bd_prop.specs.declared.atom.Atom.{Atom}
use Rattle.bd_prop.specs.declared.atom.Atom.TheVariants as atom
use Rattle.bd_transitive.specs.declared.graph.Edge.{Edge}
use Rattle.bd_transitive.specs.declared.graph.Order.{Order}
use Rattle.bd_transitive.specs.Triangle.{MeetsTriangles, value_at}
use Rattle.bd_tseitin.specs.declared.row.AtomVar.{AtomVar}
use Rattle.bd_tseitin.specs.Rows.{Agree}

-- the value of an edge's atom
abbrev pub edge_value : (Atom → Bool) → Edge → Bool
edge_value v edge = v (atom.Edge edge.from edge.to)

abbrev pub edge_values : (Atom → Bool) → List Edge → List Bool
edge_values v edges = map (edge_value v) edges

-- each of these edges is false
abbrev pub AreFalse : (Atom → Bool) → List Edge → Type 0
AreFalse v edges = (edge : Edge) → Contains edges edge → edge_value v edge ≡ false

-- The formula grows by what the edges have to meet. Where assignments and values of the atoms agree, it is satisfied
-- exactly where the old one is, in no triangle exactly two edges are true, and the edges that are kept apart are false;
-- and where the old one is satisfied, values of the further variables make them agree.
pub record MeansEdges (order : Order) (apart : List Edge) (old : Problem) (rows : List AtomVar) (new : Problem) (rows' : List AtomVar) : Type 0 where
  pub keeps : (a : ℕ → Bool) (v : Atom → Bool) → Agree a v rows' → Agree a v rows
  pub means : (a : ℕ → Bool) (v : Atom → Bool) → Agree a v rows'
      → Satisfies a new.clauses ↔ (Satisfies a old.clauses × MeetsTriangles order (value_at (edge_values v order.edges)) × AreFalse v apart)
  pub extends : (a : ℕ → Bool) (v : Atom → Bool) → Agree a v rows → Satisfies a old.clauses
      → (b : ℕ → Bool) × Agree b v rows' × Satisfies b old.clauses
