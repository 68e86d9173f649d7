-- What one node adds to the form of the nodes before it.
use Rattle.std.specs.Prelude.{◌≡◌, ℕ, ◌+◌, Bool, false, true, if◌then◌else◌, List, [], ◌∷◌, ◌++◌, Option, Some, None, unwrap_or, slice_index_or, IsSome, All}
use Rattle.bd_prop.specs.declared.choices.Choice.{Choice}
use Rattle.bd_prop.specs.declared.node.PropNode.{PropNode}
use Rattle.bd_prop.specs.declared.node.PropNode.TheVariants.{Not}
use Rattle.bd_cnf.specs.Literal.{Literal, literal, negate}
use Rattle.bd_tseitin.specs.declared.form.PartialForm.{PartialForm}
use Rattle.bd_tseitin.specs.Definition.{is_gate, definition, tree_clauses, AreClauses, Open}
use Rattle.bd_tseitin.specs.Form.{rows_of}

-- whether the node is marked
abbrev pub is_set : List Bool → ℕ → Bool
is_set marks id = slice_index_or marks id false

-- the literal that the table has for an id
abbrev pub known : List (Option Literal) → ℕ → Literal
known literals id = unwrap_or (slice_index_or literals id None) (literal 0 true)

-- the table has these
abbrev pub AreKnown : List (Option Literal) → List ℕ → Type 0
AreKnown literals ids = All (λ id. IsSome (slice_index_or literals id None)) ids

-- the new clauses come after the old ones
abbrev pub Pushes : List (List Literal) → List (List Literal) → List (List Literal) → Type 0
Pushes old lists new = (more : List (List Literal)) × (new ≡ old ++ more) × AreClauses lists more

-- the new clauses are those of the branch with which the items begin; the other items are left
pub record PushesBranch (child : ℕ → Literal) (path : List Literal) (gate : Literal) (items left : List Choice)
    (old new : List (List Literal)) : Type 0 where
  pub lists : List (List Literal)
  pub pushes : Pushes old lists new
  pub parts : (pending : List Open)
      → tree_clauses child items ((path, gate) ∷ pending) ≡ lists ++ tree_clauses child left pending

-- the literal of a node, where vars gates come before it
abbrev pub literal_in : List (Option Literal) → ℕ → PropNode → Literal
literal_in literals vars (Not a) = negate (known literals a)
literal_in literals vars _ = literal (vars + 1) true

-- the new parts have one node more, which has a literal
pub record AddsNode (old : PartialForm) (node : PropNode) (new : PartialForm) : Type 0 where
  pub literals : new.literals.items ≡ old.literals.items ++ Some (literal_in old.literals.items old.vars node) ∷ []
  pub vars : new.vars ≡ old.vars + (if is_gate node then 1 else 0)
  pub clauses : Pushes old.clauses.items
      (definition (known old.literals.items) (literal_in old.literals.items old.vars node) node) new.clauses.items
  pub atoms : new.atoms.items ≡ old.atoms.items ++ rows_of node (old.vars + 1)
