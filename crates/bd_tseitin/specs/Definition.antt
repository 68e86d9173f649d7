-- The clauses that define a gate, in both directions: by its children (Tseitin 1968), or where it is a tree of choices by
-- the tree's leaves (Velev 2004).
use Rattle.std.specs.Prelude.{◌≡◌, ◌⊎◌, ℕ, Bool, true, false, List, [], ◌∷◌, ◌++◌}
use Rattle.bd_prop.specs.declared.choices.Choice.{Choice}
use Rattle.bd_prop.specs.declared.choices.Choice.TheVariants as choice
use Rattle.bd_prop.specs.declared.node.PropNode.{PropNode}
use Rattle.bd_prop.specs.declared.node.PropNode.TheVariants.{True, Atom as OfAtom, Not, And, Or, Ite, Tree}
use Rattle.bd_cnf.specs.Literal.{Literal, negate}
use Rattle.bd_cnf.specs.Clause.{SameLiterals, IsTautology}

-- whether the node is a gate: all are but negations
abbrev pub is_gate : PropNode → Bool
is_gate (Not a) = false
is_gate _ = true

-- the clauses of gate = a and b (Tseitin 1968)
abbrev pub and_clauses : Literal → Literal → Literal → List (List Literal)
and_clauses gate a b =
    (negate gate ∷ a ∷ []) ∷ (negate gate ∷ b ∷ []) ∷ (gate ∷ negate a ∷ negate b ∷ []) ∷ []

-- the clauses of gate = a or b
abbrev pub or_clauses : Literal → Literal → Literal → List (List Literal)
or_clauses gate a b =
    (gate ∷ negate a ∷ []) ∷ (gate ∷ negate b ∷ []) ∷ (negate gate ∷ a ∷ b ∷ []) ∷ []

-- the clauses of gate = leaf where no literal of the path is true
abbrev pub leaf_clauses : List Literal → Literal → Literal → List (List Literal)
leaf_clauses path gate leaf =
    (path ++ negate gate ∷ leaf ∷ []) ∷ (path ++ gate ∷ negate leaf ∷ []) ∷ []

-- branches of which nothing has been read: the literals of the path to each, and the literal that has its value
abbrev pub Open : Type 0
Open = List Literal × Literal

-- a branch that is missing is false
abbrev pub missing_clauses : List Open → List (List Literal)
missing_clauses [] = []
missing_clauses (o ∷ pending) = (o.0 ++ negate o.1 ∷ []) ∷ missing_clauses pending

-- the clauses of the branches that the items spell one after another in prefix order: below a control the path gets the
-- literal that the control's value falsifies, below a negation the literal is negated, and at a leaf the path ends
abbrev pub tree_clauses : (ℕ → Literal) → List Choice → List Open → List (List Literal)
tree_clauses child [] pending = missing_clauses pending
tree_clauses child (choice.Test a ∷ items) [] = []
tree_clauses child (choice.Test a ∷ items) (o ∷ pending) =
    tree_clauses child items ((o.0 ++ negate (child a) ∷ [], o.1) ∷ (o.0 ++ child a ∷ [], o.1) ∷ pending)
tree_clauses child (choice.Not ∷ items) [] = []
tree_clauses child (choice.Not ∷ items) (o ∷ pending) = tree_clauses child items ((o.0, negate o.1) ∷ pending)
tree_clauses child (choice.Leaf a ∷ items) [] = []
tree_clauses child (choice.Leaf a ∷ items) (o ∷ pending) =
    leaf_clauses o.0 o.1 (child a) ++ tree_clauses child items pending

-- a tree of which nothing has been read
abbrev pub whole : Literal → List Open
whole gate = ([], gate) ∷ []

-- a choice as the items of a tree
abbrev pub choice_items : ℕ → ℕ → ℕ → List Choice
choice_items a b c = choice.Test a ∷ choice.Leaf b ∷ choice.Leaf c ∷ []

-- the clauses that make the gate's literal equal to its connective over the children's literals, in both directions
abbrev pub definition : (ℕ → Literal) → Literal → PropNode → List (List Literal)
definition child gate True = (gate ∷ []) ∷ []
definition child gate (OfAtom a) = []
definition child gate (Not a) = []
definition child gate (And a b) = and_clauses gate (child a) (child b)
definition child gate (Or a b) = or_clauses gate (child a) (child b)
definition child gate (Ite a b c) = tree_clauses child (choice_items a b c) (whole gate)
definition child gate (Tree items) = tree_clauses child items (whole gate)

-- these lists of literals as clauses, in order: each literal once, and no list that is always true
abbrev pub AreClauses : List (List Literal) → List (List Literal) → Type 0
AreClauses [] clauses = clauses ≡ []
AreClauses (d ∷ ds) clauses =
    (IsTautology d × AreClauses ds clauses)
    ⊎ ((c : List Literal) × (rest : List (List Literal)) × (clauses ≡ c ∷ rest) × SameLiterals c d × AreClauses ds rest)
