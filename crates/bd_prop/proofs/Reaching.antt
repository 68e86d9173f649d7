-- What a root reaches stands no higher than the root, and decides what it denotes.
use Rattle.std.proofs.Common.{◌≡◌, ℕ, ◌<◌, ◌≤◌, Bool, List, length, get_or, All, Contains, subst, sym, refl, ◌∙◌, zero, suc, arith}
use Rattle.std.proofs.lemmas.List.Elements.{Contains-get_or}
use Rattle.std.proofs.lemmas.Option.{slice_get-get_or}
use Rattle.bd_prop.specs.declared.atom.Atom.{Atom}
use Rattle.bd_prop.specs.declared.node.PropNode.{PropNode}
use Rattle.bd_prop.specs.declared.node.PropNode.TheVariants.{True, Atom as OfAtom, Not, And, Or, Ite, Tree}
use Rattle.bd_prop.specs.Node.{children, node_truth}
use Rattle.bd_prop.specs.Truth.{truth_at}
use Rattle.bd_prop.specs.Graph.{IsGraph, StandsAt, Reaches}
use Rattle.bd_prop.specs.Graph.Reaches.{Itself, Below}
use Rattle.bd_prop.proofs.Truths.{node_truth_same, truth-node}

-- a child stands before its parent
pub child_below : (nodes : List PropNode) (id child : ℕ) (node : PropNode) → IsGraph nodes → StandsAt nodes id node → Contains (children node) child → child < id
child_below nodes id child node graph at (k, inside, is) = subst (λ c. c < id) is (graph id node at k child inside)

pub reached_at_most : (nodes : List PropNode) (root id : ℕ) → IsGraph nodes → Reaches nodes root id → id ≤ root
reached_at_most nodes root _ graph Itself = omega arith
reached_at_most nodes root _ graph (Below id child node up at down) =
    let high : id ≤ root = reached_at_most nodes root id graph up in
    let low : child < id = child_below nodes id child node graph at down in
    omega arith

-- the children of a node that is reached
pub reached_children : (nodes : List PropNode) (root id : ℕ) (node : PropNode) → Reaches nodes root id → StandsAt nodes id node → All (Reaches nodes root) (children node)
reached_children nodes root id node up at k d h = Below id (get_or (children node) k d) node up at (Contains-get_or (children node) k d h)

-- values that agree at the atoms that the root reaches give it one value
module _ (v w : Atom → Bool) (nodes : List PropNode) (root : ℕ) (graph : IsGraph nodes) (agree : (id : ℕ) (a : Atom) → Reaches nodes root id → StandsAt nodes id (OfAtom a) → v a ≡ w a) where
  node_truth_agrees : (id : ℕ) (f : ℕ → Bool) (node : PropNode) → Reaches nodes root id → StandsAt nodes id node → node_truth v f node ≡ node_truth w f node
  node_truth_agrees id f True up at = refl
  node_truth_agrees id f (OfAtom a) up at = agree id a up at
  node_truth_agrees id f (Not a) up at = refl
  node_truth_agrees id f (And a b) up at = refl
  node_truth_agrees id f (Or a b) up at = refl
  node_truth_agrees id f (Ite a b c) up at = refl
  node_truth_agrees id f (Tree items) up at = refl

  truth_agrees_below : (n id : ℕ) → id < n → id < length nodes → Reaches nodes root id → truth_at v nodes id ≡ truth_at w nodes id
  truth_agrees_below zero id low inside up = absurd (omega arith)
  truth_agrees_below (suc n) id low inside up =
      let node : PropNode = get_or nodes id True in
      let at : StandsAt nodes id node = slice_get-get_or nodes id True inside in
      truth-node v nodes id node graph at
      ∙ node_truth_same v _ _ node (λ k d h.
      let below : get_or (children node) k d < id = graph id node at k d h in
      truth_agrees_below n (get_or (children node) k d) (omega arith) (omega arith) (reached_children nodes root id node up at k d h))
      ∙ node_truth_agrees id (truth_at w nodes) node up at
      ∙ sym (truth-node w nodes id node graph at)

  pub truth_agrees : root < length nodes → truth_at v nodes root ≡ truth_at w nodes root
  truth_agrees inside = truth_agrees_below (suc root) root (omega arith) inside Itself
