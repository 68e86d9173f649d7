-- What has been read of a text up to an offset.
use Rattle.std.specs.Prelude.{◌≡◌, ◌≢◌, ℕ, ◌+◌, ◌<◌, ◌≤◌, List, [], ◌∷◌, length, drop, map, reverse, slice_index}
use Rattle.bd_text.specs.Layout.{IsAllowed, IsAtomByte, without_comments, read_at}
use Rattle.bd_text.specs.Grammar.{TreesAt}
use Rattle.bd_text.specs.Faults.{IsFault, HasDepth}
use Rattle.bd_text.specs.Nodes.{list, Nodes, add_node}
use Rattle.bd_text.specs.View.{nodes_of_all}
use Rattle.bd_text.specs.declared.code.Code.{Code}
use Rattle.bd_text.specs.declared.read.OpenList.{OpenList}
use Rattle.bd_text.specs.declared.read.Reader.{Reader}

-- an open list: the offset of its parenthesis, and the trees before it in the list around it
abbrev pub opening_of : OpenList → ℕ × Nodes
opening_of l = (l.offset, nodes_of_all l.before.items)

-- the open lists, the innermost first
abbrev pub openings_of : List OpenList → List (ℕ × Nodes)
openings_of ls = reverse (map opening_of ls)

-- the text up to an offset is the trees before each open list, and then the parts of the innermost
abbrev pub StandsOpen : List ℕ → ℕ → Nodes → List (ℕ × Nodes) → Type 0
StandsOpen source at parts [] = TreesAt source 0 at parts
StandsOpen source at parts (l ∷ ls) =
    TreesAt source (l.0 + 1) at parts × (read_at source l.0 ≡ 40) × StandsOpen source l.0 l.1 ls

pub record IsReadTo (source : List ℕ) (at : ℕ)
    (parts : Nodes) (open_lists : List (ℕ × Nodes)) : Type 0 where
  pub within : at ≤ length source
  pub outside_comment : drop at (without_comments source) ≡ without_comments (drop at source)
  pub faultless : (o : ℕ) (code : Code) → o < at → ¬ IsFault source o code
  pub depth : HasDepth source at (length open_lists)
  pub shallow : length open_lists ≤ 200
  pub trees : StandsOpen source at parts open_lists

-- a reader has read the text up to an offset
abbrev pub HasRead : List ℕ → ℕ → Reader → Type 0
HasRead source at reader =
    IsReadTo source at (nodes_of_all reader.parts.items) (openings_of reader.open_lists.items)

-- atom bytes stand from an offset to the next, and no further one follows
pub record IsAtomRun (source : List ℕ) (at end : ℕ) : Type 0 where
  pub nonempty : at < end
  pub within : end ≤ length source
  pub each : (k : ℕ) → at ≤ k → k < end → IsAtomByte (slice_index source k)
  pub longest : ¬ IsAtomByte (slice_index source end)

-- bytes of one comment stand from after an offset to the next
pub record IsComment (source : List ℕ) (at end : ℕ) : Type 0 where
  pub nonempty : at < end
  pub within : end ≤ length source
  pub each : (k : ℕ) → at < k → k < end →
      IsAllowed (slice_index source k) × (slice_index source k ≢ 10)

-- the innermost list becomes the last tree of the one around it
abbrev pub ClosesList : Nodes → List (ℕ × Nodes) → Nodes → List (ℕ × Nodes) → Type 0
ClosesList parts [] new_parts new_open = ⊥
ClosesList parts (l ∷ ls) new_parts new_open =
    (new_parts ≡ add_node l.1 (list l.0 parts)) × (new_open ≡ ls)
