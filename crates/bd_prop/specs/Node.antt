-- The nodes of a truth graph: the connectives of propositional logic, over atoms, and trees of choices.
use Rattle.std.specs.Prelude.{ℕ, Bool, true, false, not, ◌&&◌, ◌||◌, if◌then◌else◌, List, [], ◌∷◌}
use Rattle.bd_prop.specs.declared.atom.Atom.{Atom}
use Rattle.bd_prop.specs.declared.choices.Choice.{Choice}
use Rattle.bd_prop.specs.declared.choices.Choice.TheVariants as choice
use Rattle.bd_prop.specs.declared.node.PropNode.{PropNode}
use Rattle.bd_prop.specs.declared.node.PropNode.TheVariants.{True, Atom as OfAtom, Not, And, Or, Ite, Tree}

-- the ids of the controls and leaves
abbrev pub named : List Choice → List ℕ
named [] = []
named (choice.Test a ∷ items) = a ∷ named items
named (choice.Not ∷ items) = named items
named (choice.Leaf a ∷ items) = a ∷ named items

-- the ids of a node's children
abbrev pub children : PropNode → List ℕ
children True = []
children (OfAtom a) = []
children (Not a) = a ∷ []
children (And a b) = a ∷ b ∷ []
children (Or a b) = a ∷ b ∷ []
children (Ite a b c) = a ∷ b ∷ c ∷ []
children (Tree items) = named items

-- the first of the values, which is false where there is none, and the others
abbrev pub first_value : List Bool → Bool
first_value [] = false
first_value (v ∷ vs) = v

abbrev pub later_values : List Bool → List Bool
later_values [] = []
later_values (v ∷ vs) = vs

-- the first value negated, and the others
abbrev pub negated_first : List Bool → List Bool
negated_first vs = not (first_value vs) ∷ later_values vs

-- the first value where the control is true, else the second, and the others
abbrev pub chosen : Bool → List Bool → List Bool
chosen control vs =
    (if control then first_value vs else first_value (later_values vs)) ∷ later_values (later_values vs)

-- the values of the trees that the items spell one after another in prefix order: of a control with its two branches, of
-- a negation, and of a leaf
abbrev pub tree_values : (ℕ → Bool) → List Choice → List Bool
tree_values child [] = []
tree_values child (choice.Test a ∷ items) = chosen (child a) (tree_values child items)
tree_values child (choice.Not ∷ items) = negated_first (tree_values child items)
tree_values child (choice.Leaf a ∷ items) = child a ∷ tree_values child items

-- the value of a node, from those of the atoms and of its children (propositional logic)
abbrev pub node_truth : (Atom → Bool) → (ℕ → Bool) → PropNode → Bool
node_truth values child True = true
node_truth values child (OfAtom a) = values a
node_truth values child (Not a) = not (child a)
node_truth values child (And a b) = child a && child b
node_truth values child (Or a b) = child a || child b
node_truth values child (Ite a b c) = if child a then child b else child c
node_truth values child (Tree items) = first_value (tree_values child items)
