-- Tseitin's form of a root of a truth graph (Tseitin 1968).
use Rattle.std.specs.Prelude.{◌≡◌, ◌↔◌, ◌⊎◌, ℕ, ◌+◌, ◌<◌, Bool, true, List, [], ◌∷◌, ◌++◌, length, slice_index, All, Contains}
use Rattle.std.specs.List.{flat_map}
use Rattle.bd_prop.specs.declared.atom.Atom.{Atom}
use Rattle.bd_prop.specs.declared.node.PropNode.{PropNode}
use Rattle.bd_prop.specs.declared.node.PropNode.TheVariants.{Atom as OfAtom, Not}
use Rattle.bd_prop.specs.Graph.{StandsAt, Reaches}
use Rattle.bd_prop.specs.Form.{node_at}
use Rattle.bd_prop.specs.Node.{children}
use Rattle.bd_prop.specs.Truth.{truth_at}
use Rattle.bd_cnf.specs.Literal.{Literal, literal, negate, literal_value}
use Rattle.bd_cnf.specs.Clause.{SameLiterals, Satisfies}
use Rattle.bd_tseitin.specs.declared.row.AtomVar.{AtomVar}
use Rattle.bd_tseitin.specs.Definition.{is_gate, definition, AreClauses}
use Rattle.bd_tseitin.specs.Rows.{Agree}

-- the node stands at the id, is reached, and has a variable
abbrev pub IsGateOf : List PropNode → ℕ → ℕ → Type 0
IsGateOf nodes root id =
    (node : PropNode) × StandsAt nodes id node × (is_gate node ≡ true) × Reaches nodes root id

-- the root reaches the atom
abbrev pub ReachesAtom : List PropNode → ℕ → Atom → Type 0
ReachesAtom nodes root atom = (id : ℕ) × Reaches nodes root id × StandsAt nodes id (OfAtom atom)

-- the clauses that define the node at an id
abbrev pub definition_at : List PropNode → (ℕ → Literal) → ℕ → List (List Literal)
definition_at nodes literal_of id = definition literal_of (literal_of id) (node_at nodes id)

-- the row of an atom, and none of another node
abbrev pub rows_of : PropNode → ℕ → List AtomVar
rows_of (OfAtom a) var = record { atom = a; var = var } ∷ []
rows_of _ var = []

abbrev pub rows_at : List PropNode → (ℕ → Literal) → ℕ → List AtomVar
rows_at nodes literal_of id = rows_of (node_at nodes id) (literal_of id).var

-- Each node that the root reaches has a literal. All but negations are the gates, the k-th of which has the variable k,
-- from 1; a negation has the negated literal of its child. The clauses are those that define the gates, each with
-- literals of one gate and its children alone, and that of the root's literal.
pub record IsTseitin (nodes : List PropNode) (root vars : ℕ) (clauses : List (List Literal)) (rows : List AtomVar)
    : Type 0 where
  pub gates : List ℕ
  pub literal_of : ℕ → Literal
  pub are_gates : (id : ℕ) → Contains gates id ↔ IsGateOf nodes root id
  pub counted : vars ≡ length gates
  pub numbered : (k : ℕ) → k < length gates → literal_of (slice_index gates k) ≡ literal (k + 1) true
  pub negated : (id a : ℕ) → Reaches nodes root id → StandsAt nodes id (Not a)
      → literal_of id ≡ negate (literal_of a)
  pub defined : AreClauses (flat_map (definition_at nodes literal_of) gates ++ (literal_of root ∷ []) ∷ []) clauses
  pub rows_are : rows ≡ flat_map (rows_at nodes literal_of) gates

-- the literal is the node's, or a child's, or the negation of one
abbrev pub IsOf : (ℕ → Literal) → ℕ → PropNode → Literal → Type 0
IsOf literal_of id node l =
    (l.var ≡ (literal_of id).var) ⊎ ((child : ℕ) × Contains (children node) child × (l.var ≡ (literal_of child).var))

-- the clause has literals of one reached node and its children alone
pub record IsLocal (nodes : List PropNode) (root : ℕ) (literal_of : ℕ → Literal) (clause : List Literal) : Type 0 where
  pub id : ℕ
  pub node : PropNode
  pub reached : Reaches nodes root id
  pub stands : StandsAt nodes id node
  pub literals : All (IsOf literal_of id node) clause

-- each clause but that of the root's literal
abbrev pub AreLocal : List PropNode → ℕ → (ℕ → Literal) → List (List Literal) → Type 0
AreLocal nodes root literal_of clauses =
    All (λ c. SameLiterals c (literal_of root ∷ []) ⊎ IsLocal nodes root literal_of c) clauses

-- an assignment that satisfies the clauses and agrees with the values, under which the literal of each reached node has
-- the value that the node denotes
pub record Extends (nodes : List PropNode) (root : ℕ) (values : Atom → Bool) (clauses : List (List Literal))
    (rows : List AtomVar) (literal_of : ℕ → Literal) : Type 0 where
  pub assignment : ℕ → Bool
  pub satisfies : Satisfies assignment clauses
  pub agrees : Agree assignment values rows
  pub denotes : (id : ℕ) → Reaches nodes root id → literal_value assignment (literal_of id) ≡ truth_at values nodes id
