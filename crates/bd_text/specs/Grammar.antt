-- Which trees a text spells: S-expressions (McCarthy, 1960) in this project's format. An atom is a
-- longest run of atom bytes, a list stands between ( and ), and separators and comments may stand
-- before, between and after trees.
use Rattle.std.specs.Prelude.{◌≡◌, ℕ, ◌+◌, ◌<◌, ◌≤◌, List, length, slice_range}
use Rattle.bd_text.specs.Layout.{IsSeparator, IsAtomByte, read_at}
use Rattle.bd_text.specs.Nodes.{Node, atom, list, Nodes, no_nodes, node}

-- only separators and comments stand from i to j
pub record IsBlank (source : List ℕ) (i j : ℕ) : Type 0 where
  pub ordered : i ≤ j
  pub blank : (k : ℕ) → i ≤ k → k < j → IsSeparator (read_at source k)

-- a longest run of atom bytes stands from i to j
pub record IsRun (source : List ℕ) (i j : ℕ) : Type 0 where
  pub nonempty : i < j
  pub each : (k : ℕ) → i ≤ k → k < j → IsAtomByte (read_at source k)
  pub longest : ¬ IsAtomByte (read_at source j)

abbrev mutual
  -- the tree stands from i to j
  pub TreeAt : List ℕ → ℕ → ℕ → Node → Type 0
  TreeAt source i j (atom offset text) =
      (offset ≡ i) × IsRun source i j × (text ≡ slice_range source i j)
  TreeAt source i j (list offset parts) =
      (offset ≡ i) × (read_at source i ≡ 40)
      × ((k : ℕ) × TreesAt source (i + 1) k parts × (read_at source k ≡ 41) × (j ≡ k + 1))

  -- the trees, and nothing else, stand from i to j
  pub TreesAt : List ℕ → ℕ → ℕ → Nodes → Type 0
  TreesAt source i j no_nodes = IsBlank source i j
  TreesAt source i j (node t ts) =
      (start : ℕ) × (end : ℕ)
      × IsBlank source i start × TreeAt source start end t × TreesAt source end j ts

-- the whole text is these trees
abbrev pub Spells : List ℕ → Nodes → Type 0
Spells source ts = TreesAt source 0 (length source) ts
