-- The edges of an encoded formula: those of its atoms, and those between constants that are kept apart.
use Rattle.std.specs.Prelude.{◌≡◌, ◌<◌, ℕ, false, List, [], Contains, Option, Some, slice_get}
use Rattle.bd_model.specs.declared.design.Sort.TheVariants as sort
use Rattle.bd_terms.specs.declared.node.Sym.TheVariants.{Function}
use Rattle.bd_terms.specs.declared.node.Node.{Node}
use Rattle.bd_function.specs.declared.flat.FlatRow.{FlatRow}
use Rattle.bd_function.specs.declared.flat.FlatSym.{FlatSym}
use Rattle.bd_prop.specs.declared.atom.Atom.TheVariants.{Edge as EdgeOf}
use Rattle.bd_prop.specs.declared.node.PropNode.{PropNode}
use Rattle.bd_prop.specs.declared.node.PropNode.TheVariants.{Atom as AtomOf}
use Rattle.bd_prop.specs.Graph.{Reaches, StandsAt}
use Rattle.bd_transitive.specs.declared.graph.Edge.{Edge}
use Rattle.bd_equality.specs.Encoding.{IsVariable, has_mark}

-- a word that is a variable of the formula, and not marked
pub record IsVertex (nodes : List Node) (marked : Option (List ℕ)) (x : ℕ) : Type 0 where
  pub variable : IsVariable nodes sort.Word x
  pub unmarked : has_mark marked x ≡ false

-- an edge between two vertices, the lesser one first
pub record IsEdge (nodes : List Node) (marked : Option (List ℕ)) (edge : Edge) : Type 0 where
  pub from : IsVertex nodes marked edge.from
  pub to : IsVertex nodes marked edge.to
  pub below : edge.from < edge.to

-- the root reaches the edge's atom
pub record ReachesEdge (prop : List PropNode) (root : ℕ) (edge : Edge) : Type 0 where
  pub id : ℕ
  pub reached : Reaches prop root id
  pub stands : StandsAt prop id (AtomOf (EdgeOf edge.from edge.to))

-- the vertex of a constant: the variable of the first application of a function without arguments
pub record IsConstant (nodes : List Node) (syms : List FlatSym) (marked : Option (List ℕ)) (f x : ℕ) : Type 0 where
  pub holder : FlatSym
  pub row : FlatRow
  pub listed : Contains syms holder
  pub same : holder.sym ≡ Function f
  pub first : slice_get holder.rows 0 ≡ Some row
  pub plain : row.args ≡ []
  pub variable : row.var ≡ x
  pub vertex : IsVertex nodes marked x

-- an edge between the vertices of two constants of one group that is kept apart
pub record IsApart (nodes : List Node) (syms : List FlatSym) (distinct : List (List ℕ)) (marked : Option (List ℕ)) (edge : Edge) : Type 0 where
  pub group : List ℕ
  pub f : ℕ
  pub g : ℕ
  pub listed : Contains distinct group
  pub has_f : Contains group f
  pub has_g : Contains group g
  pub from : IsConstant nodes syms marked f edge.from
  pub to : IsConstant nodes syms marked g edge.to
  pub below : edge.from < edge.to
