-- The order in which a depth-first walk finishes the terms that it comes to (Tarjan 1972): each after its children, and
-- these in order.
use Rattle.std.specs.Prelude.{ℕ, Bool, ◌==◌, List, [], ◌∷◌, ◌++◌, length, slice_index_or, if◌then◌else◌}
use Rattle.std.specs.List.{list_any}
use Rattle.bd_list.specs.Grown.{grown}
use Rattle.bd_terms.specs.declared.node.Node.{Node}
use Rattle.bd_terms.specs.Graph.{children}

-- what a walk from a term makes of the terms that were finished before it
abbrev pub Walk : Type 0
Walk = List ℕ → List ℕ

abbrev pub is_finished : List ℕ → ℕ → Bool
is_finished finished id = list_any (λ x. x == id) finished

-- the walk from the term at a place
abbrev pub walk_at : List Walk → ℕ → Walk
walk_at walks id = slice_index_or walks id (λ finished. finished)

-- the walks from these terms, one after the other
abbrev pub walk_all : List Walk → List ℕ → Walk
walk_all walks [] finished = finished
walk_all walks (id ∷ ids) finished = walk_all walks ids (walk_at walks id finished)

-- the walk from the term after those before it: its children are finished, then the term, unless it is finished
abbrev pub walk_from : List Walk → Node → Walk
walk_from walks node finished =
    if is_finished finished (length walks) then finished else walk_all walks (children node) finished ++ length walks ∷ []

-- the walks from the terms of a graph
abbrev pub walks : List Node → List Walk
walks nodes = grown walk_from [] nodes

-- the terms that a walk from the root finishes, in order
abbrev pub walk : List Node → ℕ → List ℕ
walk nodes root = walk_at (walks nodes) root []
