-- The trees of a text are no more than its bytes.
use Rattle.std.proofs.Common.{ℕ, ◌+◌, ◌<◌, ◌≤◌, List, length, arith}
use Rattle.bd_text.specs.Nodes.{Node, atom, list, Nodes, no_nodes, node, node_count}
use Rattle.bd_text.specs.Faults.{HasNoFault}
use Rattle.bd_text.specs.Grammar.{TreeAt, TreesAt, Spells}
use Rattle.bd_text.proofs.Readable.{spelled_readable}
use Rattle.bd_syntax.specs.WellFormed.{IsShort, AreShort, AreWithinLimits}
use Rattle.bd_model.specs.Limits.{longest_text}

mutual
  tree_short : (s : List ℕ) (i j most : ℕ) (t : Node) → TreeAt s i j t → j ≤ most → (i < j) × IsShort most t
  tree_short s i j most (atom offset text) h room = (h.1.nonempty, tt)
  tree_short s i j most (list offset parts) h room =
      let inner = trees_short s (i + 1) h.2.0 most parts h.2.1 (omega (arith, h.2.3)) in
      (omega (arith, inner.0, h.2.3), (omega (arith, inner.0, h.2.3), inner.1))

  trees_short : (s : List ℕ) (i j most : ℕ) (ts : Nodes) → TreesAt s i j ts → j ≤ most → (i + node_count ts ≤ j) × AreShort most ts
  trees_short s i j most no_nodes h room = (omega (arith, h.ordered), tt)
  trees_short s i j most (node t ts) h room =
      let rest = trees_short s h.1 j most ts h.4 room in
      let first = tree_short s h.0 h.1 most t h.3 (omega (arith, rest.0)) in
      (omega (arith, h.2.ordered, first.0, rest.0), (first.1, rest.1))

pub spelled_within_limits : (source : List ℕ) (trees : Nodes) → length source ≤ longest_text → HasNoFault source → Spells source trees → AreWithinLimits trees
spelled_within_limits source trees room fine spelled =
    let readable = spelled_readable source trees fine spelled in
    let short = trees_short source 0 (length source) longest_text trees spelled room in
    (readable.1, short.1)
