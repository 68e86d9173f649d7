-- Choices gathered into trees: for each node of a graph, what stands for it in another one.
use Rattle.std.specs.Prelude.{◌≡◌, ℕ, Bool, true, false, List, [], ◌∷◌, ◌++◌, length, Option, Some, None, slice_index_or}
use Rattle.bd_prop.specs.declared.choices.Choice.{Choice}
use Rattle.bd_prop.specs.declared.choices.Choice.TheVariants as choice
use Rattle.bd_prop.specs.declared.gathering.Part.{Part}
use Rattle.bd_prop.specs.declared.gathering.Part.TheVariants.{Inside, Node}
use Rattle.bd_prop.specs.declared.node.PropNode.{PropNode}
use Rattle.bd_prop.specs.declared.node.PropNode.TheVariants.{True, Atom as OfAtom, Not, And, Or, Ite, Tree}
use Rattle.bd_prop.specs.Graph.{StandsAt}
use Rattle.bd_prop.specs.Inside.{is_inside}

-- the node, where the items are a leaf alone
abbrev pub leaf_of : List Choice → Option ℕ
leaf_of (choice.Leaf a ∷ []) = Some a
leaf_of _ = None

abbrev pub IsPlacedBy : List PropNode → List Choice → Option ℕ → ℕ → Type 0
IsPlacedBy new items (Some a) id = id ≡ a
IsPlacedBy new items None id = StandsAt new id (Tree items)

-- the node for the items in the new graph: that of their leaf, or a tree of them
abbrev pub IsPlaced : List PropNode → List Choice → ℕ → Type 0
IsPlaced new items id = IsPlacedBy new items (leaf_of items) id

-- what stands for the node at an id
abbrev pub entry_at : List (List Choice) → ℕ → List Choice
entry_at entries id = slice_index_or entries id []

-- the items with the new nodes of those that they name
abbrev pub AreRenamed : List PropNode → List (List Choice) → List Choice → List Choice → Type 0
AreRenamed new entries [] renamed = renamed ≡ []
AreRenamed new entries (choice.Test a ∷ items) renamed =
    (x : ℕ) × (rest : List Choice) × (renamed ≡ choice.Test x ∷ rest) × IsPlaced new (entry_at entries a) x
    × AreRenamed new entries items rest
AreRenamed new entries (choice.Not ∷ items) renamed =
    (rest : List Choice) × (renamed ≡ choice.Not ∷ rest) × AreRenamed new entries items rest
AreRenamed new entries (choice.Leaf a ∷ items) renamed =
    (x : ℕ) × (rest : List Choice) × (renamed ≡ choice.Leaf x ∷ rest) × IsPlaced new (entry_at entries a) x
    × AreRenamed new entries items rest

-- a control and its two branches
abbrev pub branches : ℕ → List Choice → List Choice → List Choice
branches control first second = choice.Test control ∷ first ++ second

-- a choice that is no branch: of two nodes, or else with the choices below it a tree
abbrev pub choice_node : ℕ → List Choice → List Choice → Option ℕ → Option ℕ → PropNode
choice_node control first second (Some a) (Some b) = Ite control a b
choice_node control first second (Some a) None = Tree (branches control first second)
choice_node control first second None b = Tree (branches control first second)

abbrev pub choice_part : Bool → ℕ → List Choice → List Choice → Part
choice_part true control first second = Inside (branches control first second)
choice_part false control first second = Node (choice_node control first second (leaf_of first) (leaf_of second))

-- the negation of what is inside a tree is inside it too
abbrev pub negation_part : List Choice → Option ℕ → Part
negation_part items (Some a) = Node (Not a)
negation_part items None = Inside (choice.Not ∷ items)

-- what becomes of a node, by whether it is inside and what stands for its children
abbrev pub IsPart : List PropNode → List (List Choice) → Bool → PropNode → Part → Type 0
IsPart new entries inside True part = part ≡ Node True
IsPart new entries inside (OfAtom a) part = part ≡ Node (OfAtom a)
IsPart new entries inside (Not a) part = part ≡ negation_part (entry_at entries a) (leaf_of (entry_at entries a))
IsPart new entries inside (And a b) part =
    (x : ℕ) × (y : ℕ) × IsPlaced new (entry_at entries a) x × IsPlaced new (entry_at entries b) y × (part ≡ Node (And x y))
IsPart new entries inside (Or a b) part =
    (x : ℕ) × (y : ℕ) × IsPlaced new (entry_at entries a) x × IsPlaced new (entry_at entries b) y × (part ≡ Node (Or x y))
IsPart new entries inside (Ite a b c) part =
    (x : ℕ) × IsPlaced new (entry_at entries a) x
    × (part ≡ choice_part inside x (entry_at entries b) (entry_at entries c))
IsPart new entries inside (Tree items) part =
    (renamed : List Choice) × AreRenamed new entries items renamed × (part ≡ Node (Tree renamed))

-- what stands for it: its items where it is inside, else a leaf, which is its node in the new graph
abbrev pub IsEntry : List PropNode → Part → List Choice → Type 0
IsEntry new (Inside items) entry = entry ≡ items
IsEntry new (Node node) entry = (id : ℕ) × (entry ≡ choice.Leaf id ∷ []) × StandsAt new id node

-- the node has what stands for it
abbrev pub HasEntry : List PropNode → List (List Choice) → Bool → PropNode → List Choice → Type 0
HasEntry new entries inside node entry = (part : Part) × IsPart new entries inside node part × IsEntry new part entry

-- the new root is the old one with the choices gathered that are inside trees, and no others: each other node stands in
-- the new graph, over the nodes of its children
pub record IsGathered (old : List PropNode) (root : ℕ) (new : List PropNode) (new_root : ℕ) : Type 0 where
  pub entries : List (List Choice)
  pub size : length entries ≡ length old
  pub each : (id : ℕ) (node : PropNode) → StandsAt old id node
      → HasEntry new entries (is_inside old root id) node (entry_at entries id)
  pub root_is : IsPlaced new (entry_at entries root) new_root
