-- Equality as propositional logic: whether two variables are equal is an atom of its own, and an equation of ite trees
-- is one of their leaves (Bryant, German and Velev 2001). A marked variable is equal to no other one: of a maximally
-- diverse interpretation no more is asked where an equation is only ever used positively.
use Rattle.std.specs.Prelude.{◌≡◌, ◌≢◌, ℕ, Bool, true, false, ◌==◌, List, Contains, Option, None, Some}
use Rattle.bd_model.specs.declared.design.Sort.{Sort}
use Rattle.bd_model.specs.declared.design.Sort.TheVariants as sort
use Rattle.bd_model.specs.declared.table.Scalar.{Scalar}
use Rattle.bd_model.specs.Value.{scalar_truth, scalar_word}
use Rattle.bd_terms.specs.declared.node.Sym.TheVariants.{Var}
use Rattle.bd_terms.specs.declared.node.Node.{Node}
use Rattle.bd_terms.specs.Graph.{uses}
use Rattle.bd_terms.specs.Denotation.{truth}
use Rattle.bd_function.specs.Flat.{under}
use Rattle.bd_function.specs.Values.{is_marked}
use Rattle.bd_prop.specs.declared.atom.Atom.{Atom}
use Rattle.bd_prop.specs.declared.atom.Atom.TheVariants.{Edge as EdgeOf, Truth as TruthOf}
use Rattle.bd_prop.specs.declared.node.PropNode.{PropNode}
use Rattle.bd_prop.specs.Truth.{truth_at}
use Rattle.bd_transitive.specs.declared.graph.Edge.{Edge}

-- the formula applies the variable, as a term of this sort
abbrev pub IsVariable : List Node → Sort → ℕ → Type 0
IsVariable nodes s x = Contains (uses nodes) (record { symbol = Var x; arity = 0; sort = s })

-- whether the variable is marked
abbrev pub has_mark : Option (List ℕ) → ℕ → Bool
has_mark None x = false
has_mark (Some marked) x = is_marked marked x

-- each marked variable differs from all other words that are variables
pub record KeepsMarkedApart (nodes : List Node) (marked : Option (List ℕ)) (v : ℕ → Scalar) : Type 0 where
  pub apart : (x y : ℕ) → IsVariable nodes sort.Word x → IsVariable nodes sort.Word y → x ≢ y → has_mark marked x ≡ true
      → scalar_word (v x) ≢ scalar_word (v y)

-- the value of an atom under values of the variables
abbrev pub atom_value : (ℕ → Scalar) → Atom → Bool
atom_value v (EdgeOf x y) = scalar_word (v x) == scalar_word (v y)
atom_value v (TruthOf x) = scalar_truth (v x)

-- the truth root denotes what the formula does, under all values of the variables that keep the marked ones apart
pub record Encodes (nodes : List Node) (root : ℕ) (marked : Option (List ℕ)) (prop : List PropNode) (prop_root : ℕ) : Type 0 where
  pub denotes : (v : ℕ → Scalar) → KeepsMarkedApart nodes marked v → truth_at (atom_value v) prop prop_root ≡ truth (under v) nodes root

-- the atoms of these edges, and of the formula's truth variables, have the values that the variables give them
pub record AgreesWith (nodes : List Node) (among : List Edge) (value : Atom → Bool) (v : ℕ → Scalar) : Type 0 where
  pub edges : (edge : Edge) → Contains among edge → value (EdgeOf edge.from edge.to) ≡ atom_value v (EdgeOf edge.from edge.to)
  pub truths : (x : ℕ) → IsVariable nodes sort.Bool x → value (TruthOf x) ≡ atom_value v (TruthOf x)

-- the same under all values of the atoms that agree with such values of the variables at the edges
pub record EncodesByEdges (nodes : List Node) (root : ℕ) (marked : Option (List ℕ)) (edges : List Edge) (prop : List PropNode) (prop_root : ℕ) : Type 0 where
  pub denotes : (value : Atom → Bool) (v : ℕ → Scalar) → KeepsMarkedApart nodes marked v → AgreesWith nodes edges value v
      → truth_at value prop prop_root ≡ truth (under v) nodes root
