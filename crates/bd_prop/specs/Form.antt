-- How the constructors rewrite: by a double negation, a constant or equal child, a constant control and equal branches.
use Rattle.std.specs.Prelude.{◌≡◌, ℕ, ◌<◌, Bool, true, false, ◌||◌, ◌==◌, if◌then◌else◌, List, [], ◌∷◌, ◌++◌, ◌⊎◌, slice_index_or}
use Rattle.bd_prop.specs.declared.node.PropNode.{PropNode}
use Rattle.bd_prop.specs.declared.node.PropNode.TheVariants.{True, Not, And, Or, Ite}
use Rattle.bd_prop.specs.declared.form.Rewrite.{Rewrite}
use Rattle.bd_prop.specs.declared.form.Rewrite.TheVariants.{Kept, Fresh}
use Rattle.bd_prop.specs.declared.atom.Atom.{Atom}
use Rattle.bd_prop.specs.Node.{node_truth}
use Rattle.bd_prop.specs.Truth.{truth_at}
use Rattle.bd_prop.specs.Graph.{IsBelow, StandsAt}

-- the node at an id
abbrev pub node_at : List PropNode → ℕ → PropNode
node_at nodes id = slice_index_or nodes id True

abbrev pub is_true_node : PropNode → Bool
is_true_node True = true
is_true_node _ = false

-- the constant true
abbrev pub is_true : List PropNode → ℕ → Bool
is_true nodes id = is_true_node (node_at nodes id)

abbrev pub is_false_node : List PropNode → PropNode → Bool
is_false_node nodes (Not a) = is_true nodes a
is_false_node nodes _ = false

-- the constant false: the negation of true
abbrev pub is_false : List PropNode → ℕ → Bool
is_false nodes id = is_false_node nodes (node_at nodes id)

abbrev pub not_form_of : ℕ → PropNode → Rewrite
not_form_of a (Not b) = Kept b
not_form_of a _ = Fresh (Not a)

-- a double negation is the node below
abbrev pub not_form : List PropNode → ℕ → Rewrite
not_form nodes a = not_form_of a (node_at nodes a)

-- a child that doesn't matter is dropped, and one that decides stands for the whole
abbrev pub and_form : List PropNode → ℕ → ℕ → Rewrite
and_form nodes a b =
    if is_true nodes a || is_false nodes b || (a == b) then Kept b
    else (if is_false nodes a || is_true nodes b then Kept a else Fresh (And a b))

abbrev pub or_form : List PropNode → ℕ → ℕ → Rewrite
or_form nodes a b =
    if is_false nodes a || is_true nodes b || (a == b) then Kept b
    else (if is_true nodes a || is_false nodes b then Kept a else Fresh (Or a b))

-- a constant control chooses, and two equal branches need no choice
abbrev pub ite_form : List PropNode → ℕ → ℕ → ℕ → Rewrite
ite_form nodes a b c =
    if is_true nodes a || (b == c) then Kept b
    else (if is_false nodes a then Kept c else Fresh (Ite a b c))

-- what a form names stands before n
abbrev pub IsFormBelow : ℕ → Rewrite → Type 0
IsFormBelow n (Kept id) = id < n
IsFormBelow n (Fresh node) = IsBelow n node

-- the list with the node, which comes last if it isn't there
abbrev pub Adds : List PropNode → PropNode → List PropNode → Type 0
Adds old node new = (new ≡ old) ⊎ (new ≡ old ++ node ∷ [])

-- the form's id in the new list, which differs from the old one by no more than the form's node
abbrev pub HasForm : List PropNode → Rewrite → List PropNode → ℕ → Type 0
HasForm old (Kept kept) new id = (id ≡ kept) × (new ≡ old)
HasForm old (Fresh node) new id = StandsAt new id node × Adds old node new

-- what the form denotes over the list's denotations
abbrev pub form_truth : (Atom → Bool) → List PropNode → Rewrite → Bool
form_truth values nodes (Kept id) = truth_at values nodes id
form_truth values nodes (Fresh node) = node_truth values (truth_at values nodes) node
