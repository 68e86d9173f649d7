-- Which choices are inside trees: those that occur once, as a branch of another choice, cut where a path would have more
-- than eight choices (Velev 2004). So it is a function of the graph and its root.
use Rattle.std.specs.Prelude.{ℕ, ◌-◌, ◌+◌, Bool, List, [], zero, suc, length, max, nat_lt, fold, replicate, slice_index_or, slice_set, if◌then◌else◌}
use Rattle.bd_list.specs.Grown.{grown}
use Rattle.bd_prop.specs.declared.inside.Uses.{Uses}
use Rattle.bd_prop.specs.declared.inside.Uses.TheVariants.{Nowhere, OneBranch, Elsewhere}
use Rattle.bd_prop.specs.declared.node.PropNode.{PropNode}
use Rattle.bd_prop.specs.declared.node.PropNode.TheVariants.{True, Atom as OfAtom, Not, And, Or, Ite, Tree}
use Rattle.bd_prop.specs.Form.{node_at}
use Rattle.bd_prop.specs.Node.{named}

abbrev pub use_at : List Uses → ℕ → Uses
use_at uses id = slice_index_or uses id Nowhere

-- the first use of a node says how it is used, and a second one that it is used twice
abbrev pub with_use : Uses → Uses → Uses
with_use more Nowhere = more
with_use more OneBranch = Elsewhere
with_use more Elsewhere = Elsewhere

abbrev pub add_use : Uses → List Uses → ℕ → List Uses
add_use more uses id = slice_set uses id (with_use more (use_at uses id))

-- the uses that a node makes of its children: what a negation is used for, its child is; a choice has two branches
abbrev pub add_uses : Uses → List Uses → PropNode → List Uses
add_uses own uses True = uses
add_uses own uses (OfAtom a) = uses
add_uses own uses (Not a) = add_use own uses a
add_uses own uses (And a b) = add_use Elsewhere (add_use Elsewhere uses a) b
add_uses own uses (Or a b) = add_use Elsewhere (add_use Elsewhere uses a) b
add_uses own uses (Ite a b c) = add_use OneBranch (add_use OneBranch (add_use Elsewhere uses a) b) c
add_uses own uses (Tree items) = fold (add_use Elsewhere) uses (named items)

-- a node that the root doesn't reach makes none
abbrev pub use_children : Uses → List Uses → PropNode → List Uses
use_children Nowhere uses node = uses
use_children OneBranch uses node = add_uses OneBranch uses node
use_children Elsewhere uses node = add_uses Elsewhere uses node

-- the uses when the nodes from k on have made theirs, and then those below k, parents before children
abbrev pub uses_down : List PropNode → ℕ → List Uses → List Uses
uses_down nodes zero uses = uses
uses_down nodes (suc k) uses = uses_down nodes k (use_children (use_at uses k) uses (node_at nodes k))

-- how each node is used below the root
unfoldable pub uses_of : List PropNode → ℕ → List Uses
uses_of nodes root =
    uses_down nodes (length nodes) (slice_set (replicate (length nodes) Nowhere) root Elsewhere)

-- the most choices on a path of a tree
abbrev pub deepest : ℕ
deepest = 8

-- one choice more than on the longer of two paths, or none if these are too many
abbrev pub one_more : ℕ → ℕ
one_more below = if nat_lt below (deepest - 1) then below + 1 else 0

-- how many choices are on the longest path of a node if it is inside, by those of the nodes before it, and otherwise 0
abbrev pub height : Uses → List ℕ → PropNode → ℕ
height uses heights True = 0
height uses heights (OfAtom a) = 0
height uses heights (Not a) = slice_index_or heights a 0
height uses heights (And a b) = 0
height uses heights (Or a b) = 0
height OneBranch heights (Ite a b c) =
    one_more (max (slice_index_or heights b 0) (slice_index_or heights c 0))
height Nowhere heights (Ite a b c) = 0
height Elsewhere heights (Ite a b c) = 0
height uses heights (Tree items) = 0

-- by id
unfoldable pub heights : List PropNode → List Uses → List ℕ
heights nodes uses = grown (λ done n. height (use_at uses (length done)) done n) [] nodes

-- whether the choice at the id is inside a tree below the root
abbrev pub is_inside : List PropNode → ℕ → ℕ → Bool
is_inside nodes root id = nat_lt 0 (slice_index_or (heights nodes (uses_of nodes root)) id 0)
