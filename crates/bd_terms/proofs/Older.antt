-- What a root reaches.
use Rattle.std.proofs.Common.{ℕ, ◌≤◌, List, arith}
use Rattle.bd_terms.specs.declared.node.Node.{Node}
use Rattle.bd_terms.specs.Graph.{IsGraph}
use Rattle.bd_terms.specs.Reaches.{Reaches, Root, Child}
use Rattle.bd_terms.proofs.Reaching.{children-below}

-- what is reached from what is reached is reached
pub Reaches-trans : (nodes : List Node) (a b c : ℕ) → Reaches nodes a b → Reaches nodes b c → Reaches nodes a c
Reaches-trans nodes a b c r Root = r
Reaches-trans nodes a b c r (Child id node d s there p) = Child id node d (Reaches-trans nodes a b id r s) there p

-- a root reaches no later node
pub Reaches-below : (nodes : List Node) → IsGraph nodes → (root id : ℕ) → Reaches nodes root id → id ≤ root
Reaches-below nodes g root id Root = omega arith
Reaches-below nodes g root id (Child i node c r there p) =
    let first = Reaches-below nodes g root i r in
    let second = children-below nodes g i node there c p in
    omega (arith, first, second)
