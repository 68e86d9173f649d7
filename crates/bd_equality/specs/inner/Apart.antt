-- Constants, and the edges between them.
use Rattle.std.specs.Prelude.{◌≡◌, ◌≢◌, ◌<◌, ◌⊎◌, ℕ, Bool, true, List, [], Contains, Some, slice_get}
use Rattle.bd_terms.specs.declared.node.Sym.TheVariants.{Function}
use Rattle.bd_function.specs.Values.{is_marked}
use Rattle.bd_function.specs.declared.flat.FlatRow.{FlatRow}
use Rattle.bd_function.specs.declared.flat.FlatSym.{FlatSym}
use Rattle.bd_prop.specs.declared.atom.Atom.TheVariants.{Edge as EdgeOf}
use Rattle.bd_prop.specs.declared.node.PropNode.{PropNode}
use Rattle.bd_prop.specs.declared.node.PropNode.TheVariants.{Atom as AtomOf}
use Rattle.bd_transitive.specs.declared.graph.Edge.{Edge}
use Rattle.bd_equality.specs.inner.Sets.{variable_of}

-- the variable of the first application of a function without arguments
pub record IsFirst (holder : FlatSym) (f x : ℕ) : Type 0 where
  pub row : FlatRow
  pub same : holder.sym ≡ Function f
  pub first : slice_get holder.rows 0 ≡ Some row
  pub plain : row.args ≡ []
  pub variable : row.var ≡ x

-- the variable of a constant of the group
pub record HasVariable (variables : List (ℕ × ℕ)) (group : List ℕ) (x : ℕ) : Type 0 where
  pub f : ℕ
  pub has : Contains group f
  pub variable : variable_of variables f ≡ Some x

-- an edge from one of the first to a greater one of the second
pub record JoinsAll (first second : List ℕ) (edge : Edge) : Type 0 where
  pub from : Contains first edge.from
  pub to : Contains second edge.to
  pub below : edge.from < edge.to

-- a symbol of the list has this constant, and its variable is a vertex
pub record IsListed (syms : List FlatSym) (vertices : List ℕ) (f x : ℕ) : Type 0 where
  pub holder : FlatSym
  pub listed : Contains syms holder
  pub first : IsFirst holder f x
  pub vertex : is_marked vertices x ≡ true

-- the symbol's constant has its variable, if that is a vertex, and no other one changes
pub record AddsConstant (vertices : List ℕ) (holder : FlatSym) (old new : List (ℕ × ℕ)) : Type 0 where
  pub added : (f x : ℕ) → IsFirst holder f x → is_marked vertices x ≡ true → variable_of new f ≡ Some x
  pub others : (f : ℕ) → holder.sym ≢ Function f → variable_of new f ≡ variable_of old f
  pub among : (f x : ℕ) → variable_of new f ≡ Some x → (variable_of old f ≡ Some x) ⊎ (IsFirst holder f x × (is_marked vertices x ≡ true))

-- the node is the edge's atom, and reached
pub record IsReached (reached : Bool) (node : PropNode) (edge : Edge) : Type 0 where
  pub marked : reached ≡ true
  pub atom : node ≡ AtomOf (EdgeOf edge.from edge.to)
