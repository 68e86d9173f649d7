-- What nodes of the truth graph mean under values of the variables.
use Rattle.std.specs.Prelude.{◌≡◌, ◌<◌, ◌==◌, ℕ, Bool, List, Option, length, nat_eq}
use lib.Pointwise.{pointwise}
use Rattle.bd_model.specs.declared.design.Sort.TheVariants as sort
use Rattle.bd_model.specs.declared.table.Scalar.{Scalar}
use Rattle.bd_terms.specs.declared.node.Node.{Node}
use Rattle.bd_terms.specs.declared.node.Node.TheVariants.{App}
use Rattle.bd_terms.specs.Denotation.{truth, word, words}
use Rattle.bd_function.specs.declared.flat.FlatSym.{FlatSym}
use Rattle.bd_function.specs.Flat.{under}
use Rattle.bd_prop.specs.declared.atom.Atom.TheVariants.{Edge as EdgeOf, Truth as TruthOf}
use Rattle.bd_prop.specs.declared.node.PropNode.{PropNode}
use Rattle.bd_prop.specs.declared.node.PropNode.TheVariants.{Atom as AtomOf}
use Rattle.bd_prop.specs.Graph.{Extends, StandsAt}
use Rattle.bd_prop.specs.Truth.{truth_at}
use Rattle.bd_transitive.specs.declared.graph.Edge.{Edge}
use Rattle.bd_equality.specs.Encoding.{IsVariable, KeepsMarkedApart, atom_value}
use Rattle.bd_equality.specs.Edges.{IsEdge}
use Rattle.bd_equality.specs.Made.{MadeBy, Pairs, Subject, Term, Ways, Words, symbol_variable}

abbrev pub edge : ℕ → ℕ → Edge
edge x y = record { from = x; to = y }

-- the atoms are edges of the formula, and truth variables of it
pub record HasAtoms (nodes : List Node) (marked : Option (List ℕ)) (prop : List PropNode) : Type 0 where
  pub edges : (id x y : ℕ) → StandsAt prop id (AtomOf (EdgeOf x y)) → IsEdge nodes marked (edge x y)
  pub truths : (id x : ℕ) → StandsAt prop id (AtomOf (TruthOf x)) → IsVariable nodes sort.Bool x

-- whether a truth value is true, two words are equal, or two lists of them are, under values of the variables
abbrev pub value_of : List Node → Subject → (ℕ → Scalar) → Bool
value_of nodes (Term i) v = truth (under v) nodes i
value_of nodes (Words a b) v = word (under v) nodes a == word (under v) nodes b
value_of nodes (Pairs left right) v = pointwise nat_eq (words (under v) nodes left) (words (under v) nodes right)

-- ways of any kind
abbrev pub IsAny : Ways → Type 0
IsAny ways = Unit {0}

-- a node that is made for this in ways of this kind, and has its value under all values of the variables that keep the marked ones apart
pub record Means (nodes : List Node) (syms : List FlatSym) (marked : Option (List ℕ)) (kind : Ways → Type 0) (prop : List PropNode) (id : ℕ) (subject : Subject) : Type 0 where
  pub inside : id < length prop
  pub is : (v : ℕ → Scalar) → KeepsMarkedApart nodes marked v → truth_at (atom_value v) prop id ≡ value_of nodes subject v
  pub made : (ways : Ways) → kind ways → MadeBy nodes syms marked ways prop subject id

-- the graph grew, and has a node that is made for this
pub record Gives (nodes : List Node) (syms : List FlatSym) (marked : Option (List ℕ)) (kind : Ways → Type 0) (prop prop' : List PropNode) (id : ℕ) (subject : Subject) : Type 0 where
  pub extends : Extends prop prop'
  pub atoms : HasAtoms nodes marked prop → HasAtoms nodes marked prop'
  pub means : Means nodes syms marked kind prop' id subject

-- the variable that a word is
abbrev pub node_variable : Node → ℕ
node_variable (App s args) = symbol_variable s
node_variable _ = 0
