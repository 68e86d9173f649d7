-- Passes over graphs, one after the other.
use Rattle.std.proofs.Common.{ℕ, ◌<◌, List, length, sym, ◌∙◌, arith}
use Rattle.bd_model.specs.declared.design.Sort.{Sort}
use Rattle.bd_terms.specs.declared.node.Node.{Node}
use Rattle.bd_terms.specs.Graph.{HasSort, IsGraph}
use Rattle.bd_terms.proofs.Older.{Reaches-below}
use Rattle.bd_terms.proofs.Symbols.{uses-get}
use Rattle.bd_walk.specs.Carried.{AppliesReached, DenotesSame, HasSortsReached}

pub DenotesSame-trans : (a : List Node) (i : ℕ) (b : List Node) (j : ℕ) (c : List Node) (k : ℕ) → DenotesSame a i b j → DenotesSame b j c k → DenotesSame a i c k
DenotesSame-trans a i b j c k p q = record { same = λ w. q.same w ∙ p.same w }

pub AppliesReached-trans : (a : List Node) (i : ℕ) (b : List Node) (j : ℕ) (c : List Node) → AppliesReached a i b → AppliesReached b j c → AppliesReached a i c
AppliesReached-trans a i b j c p q = record { reached = λ u h. let r = q.reached u h in p.reached u (uses-get b r.id r.node r.there u r.applies) }

-- where no old term has a sort, no new one has
pub HasSortsReached-none : (old : List Node) → IsGraph old → (root : ℕ) (new : List Node) → root < length old → HasSortsReached old root new → (s : Sort) → ((id : ℕ) → HasSort old id s → ⊥) → (id : ℕ) → HasSort new id s → ⊥
HasSortsReached-none old g root new inside all s none id h =
    let it = all.each id h.inside in
    let below = Reaches-below old g root it.source it.reached in
    none it.source (record { inside = omega (arith, below, inside); sorted = sym it.same ∙ h.sorted })
