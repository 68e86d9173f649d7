-- What nodes denote: each by its children, and the same in every longer list.
use Rattle.std.proofs.Common.{◌≡◌, ℕ, ◌<◌, ◌+◌, Bool, false, not, ◌&&◌, ◌||◌, cond, List, [], ◌∷◌, ◌++◌, length, take, drop, get_or, All, suc, refl, ap, sym, ◌∙◌, subst, arith}
use Rattle.std.specs.Prelude.{slice_index_or}
use Rattle.std.proofs.lemmas.List.{take-append-drop, drop_more, length-take-le}
use Rattle.std.proofs.lemmas.Option.{get_or_from_slice_get, slice_get_within}
use Rattle.bd_list.proofs.Grown.{get-grown_front, get-grown_at}
use Rattle.bd_prop.specs.declared.atom.Atom.{Atom}
use Rattle.bd_prop.specs.declared.choices.Choice.{Choice}
use Rattle.bd_prop.specs.declared.choices.Choice.TheVariants as choice
use Rattle.bd_prop.specs.declared.node.PropNode.{PropNode}
use Rattle.bd_prop.specs.declared.node.PropNode.TheVariants.{True, Atom as OfAtom, Not, And, Or, Ite, Tree}
use Rattle.bd_prop.specs.Node.{children, chosen, first_value, named, negated_first, node_truth, tree_values}
use Rattle.bd_prop.specs.Truth.{truths, truth_at}
use Rattle.bd_prop.specs.Graph.{IsBelow, IsGraph, StandsAt, Extends}

-- the values of trees rest on those of controls and leaves alone
pub tree_values_same : (f g : ℕ → Bool) (items : List Choice) → All (λ c. f c ≡ g c) (named items) → tree_values f items ≡ tree_values g items
tree_values_same f g [] h = refl
tree_values_same f g (choice.Test a ∷ items) h =
    let first : f a ≡ g a = h 0 a (omega arith) in
    let rest = tree_values_same f g items (λ k d low. h (suc k) d (omega arith)) in
    λ i. chosen (first i) (rest i)
tree_values_same f g (choice.Not ∷ items) h = ap negated_first (tree_values_same f g items h)
tree_values_same f g (choice.Leaf a ∷ items) h =
    let first : f a ≡ g a = h 0 a (omega arith) in
    let rest = tree_values_same f g items (λ k d low. h (suc k) d (omega arith)) in
    λ i. first i ∷ rest i

-- the value of a node rests on its children's values alone
pub node_truth_same : (v : Atom → Bool) (f g : ℕ → Bool) (n : PropNode) → All (λ c. f c ≡ g c) (children n) → node_truth v f n ≡ node_truth v g n
node_truth_same v f g True h = refl
node_truth_same v f g (OfAtom a) h = refl
node_truth_same v f g (Not a) h = ap not (h 0 a (omega arith))
node_truth_same v f g (And a b) h = let first : f a ≡ g a = h 0 a (omega arith) in let second : f b ≡ g b = h 1 a (omega arith) in λ i. first i && second i
node_truth_same v f g (Or a b) h = let first : f a ≡ g a = h 0 a (omega arith) in let second : f b ≡ g b = h 1 a (omega arith) in λ i. first i || second i
node_truth_same v f g (Ite a b c) h =
    let first : f a ≡ g a = h 0 a (omega arith) in
    let second : f b ≡ g b = h 1 a (omega arith) in
    let third : f c ≡ g c = h 2 a (omega arith) in
    λ i. cond (first i) (second i) (third i)
node_truth_same v f g (Tree items) h = ap first_value (tree_values_same f g items h)

-- nodes that come after change no value
pub truth-front : (v : Atom → Bool) (nodes more : List PropNode) (id : ℕ) → id < length nodes → truth_at v (nodes ++ more) id ≡ truth_at v nodes id
unfolding truths truth_at
truth-front v nodes more id h = get-grown_front (λ done n. node_truth v (λ c. slice_index_or done c false) n) nodes more id false h

pub truth-extends : (v : Atom → Bool) (old new : List PropNode) (id : ℕ) → Extends old new → id < length old → truth_at v new id ≡ truth_at v old id
truth-extends v old new id (more, is) h = ap (λ ns. truth_at v ns id) is ∙ truth-front v old more id h

-- the node at an id, between those before it and those after it
pub split_at : (nodes : List PropNode) (id : ℕ) (n : PropNode) → StandsAt nodes id n → nodes ≡ take id nodes ++ n ∷ drop (id + 1) nodes
split_at nodes id n at =
    sym (take-append-drop id nodes) ∙ ap (λ rest. take id nodes ++ rest) (drop_more nodes id n (slice_get_within nodes id n at) ∙ ap (λ m. m ∷ drop (id + 1) nodes) (get_or_from_slice_get nodes id n n at))

truth_here : (v : Atom → Bool) (front : List PropNode) (n : PropNode) (rest : List PropNode) → IsBelow (length front) n → truth_at v (front ++ n ∷ rest) (length front) ≡ node_truth v (truth_at v (front ++ n ∷ rest)) n
unfolding truths truth_at
truth_here v front n rest below =
    get-grown_at (λ done m. node_truth v (λ c. slice_index_or done c false) m) front n rest false
    ∙ node_truth_same v _ _ n (λ k d h. sym (truth-front v front (n ∷ rest) (get_or (children n) k d) (below k d h)))

-- the value of a node is that of its connective over its children's values
pub truth-node : (v : Atom → Bool) (nodes : List PropNode) (id : ℕ) (n : PropNode) → IsGraph nodes → StandsAt nodes id n → truth_at v nodes id ≡ node_truth v (truth_at v nodes) n
truth-node v nodes id n graph at =
    let split = split_at nodes id n at in
    let size : length (take id nodes) ≡ id = length-take-le id nodes (omega (arith, slice_get_within nodes id n at)) in
    let below : IsBelow (length (take id nodes)) n = subst (λ k. IsBelow k n) (sym size) (graph id n at) in
    let here = truth_here v (take id nodes) n (drop (id + 1) nodes) below in
    let P : List PropNode → ℕ → Type 0 = λ ns k. truth_at v ns k ≡ node_truth v (truth_at v ns) n in
    subst (λ ns. P ns id) (sym split) (subst (P (take id nodes ++ n ∷ drop (id + 1) nodes)) size here)
