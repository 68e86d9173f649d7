-- The text that is written for a tree, in this project's own layout, and which trees read back.
use Rattle.std.specs.Prelude.{◌≡◌, ℕ, ◌+◌, ◌<◌, ◌≤◌, max, List, [], ◌∷◌, ◌++◌, length, All, slice_index}
use Rattle.bd_text.specs.Layout.{IsAtomByte, IsSeparator}
use Rattle.bd_text.specs.Nodes.{Node, atom, list, Nodes, no_nodes, node}

-- an atom as it is, and a list as (, its parts with one space between two, and )
abbrev mutual
  pub written : Node → List ℕ
  written (atom offset text) = text
  written (list offset parts) = 40 ∷ written_parts parts ++ 41 ∷ []

  pub written_parts : Nodes → List ℕ
  written_parts no_nodes = []
  written_parts (node t ts) = written t ++ written_rest ts

  -- what follows a first part
  pub written_rest : Nodes → List ℕ
  written_rest no_nodes = []
  written_rest (node t ts) = 32 ∷ written t ++ written_rest ts

-- The text lays a tree out: an atom as it is, and a list with separators as one likes, where each
-- tree is followed by a separator, by a parenthesis or by nothing.
abbrev mutual
  pub LaysOut : Node → List ℕ → Type 0
  LaysOut (atom offset text) x = (x ≡ text) × (0 < length x) × All IsAtomByte x
  LaysOut (list offset parts) x =
      (inside : List ℕ) × (x ≡ 40 ∷ inside ++ 41 ∷ []) × LayOut parts inside

  pub LayOut : Nodes → List ℕ → Type 0
  LayOut no_nodes x = All IsSeparator x
  LayOut (node t ts) x =
      (blank : List ℕ) × (tree : List ℕ) × (rest : List ℕ) × (x ≡ blank ++ (tree ++ rest))
      × All IsSeparator blank × LaysOut t tree × LayOut ts rest
      × (¬ IsAtomByte (slice_index rest 0))

-- how many lists are open at most inside a tree
abbrev mutual
  pub nesting : Node → ℕ
  nesting (atom offset text) = 0
  nesting (list offset parts) = 1 + nesting_inside parts

  pub nesting_inside : Nodes → ℕ
  nesting_inside no_nodes = 0
  nesting_inside (node t ts) = max (nesting t) (nesting_inside ts)

-- each atom has a byte, and only bytes of atoms
abbrev mutual
  pub HasPlainAtoms : Node → Type 0
  HasPlainAtoms (atom offset text) = (0 < length text) × All IsAtomByte text
  HasPlainAtoms (list offset parts) = HavePlainAtoms parts

  pub HavePlainAtoms : Nodes → Type 0
  HavePlainAtoms no_nodes = Unit {0}
  HavePlainAtoms (node t ts) = HasPlainAtoms t × HavePlainAtoms ts

-- at most 200 lists are open at once
abbrev pub AreShallow : Nodes → Type 0
AreShallow ts = nesting_inside ts ≤ 200

-- a tree that reading can give
abbrev pub IsReadable : Node → Type 0
IsReadable t = HasPlainAtoms t × (nesting t ≤ 200)

abbrev pub AreReadable : Nodes → Type 0
AreReadable ts = HavePlainAtoms ts × AreShallow ts

-- the tree with every offset 0: its shape and its atoms
abbrev mutual
  pub without_offsets : Node → Node
  without_offsets (atom offset text) = atom 0 text
  without_offsets (list offset parts) = list 0 (all_without_offsets parts)

  pub all_without_offsets : Nodes → Nodes
  all_without_offsets no_nodes = no_nodes
  all_without_offsets (node t ts) = node (without_offsets t) (all_without_offsets ts)
