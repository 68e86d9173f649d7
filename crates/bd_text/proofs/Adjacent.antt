-- Trees that stand one after another.
use Rattle.std.proofs.Common.{◌≡◌, ℕ, ◌+◌, List, [], ◌∷◌, refl, inl, inr, arith}
use Rattle.std.proofs.lemmas.Bool.{cases_lt}
use Rattle.bd_text.specs.Layout.{read_at}
use Rattle.bd_text.specs.Grammar.{IsBlank, TreeAt, TreesAt}
use Rattle.bd_text.specs.Nodes.{Node, list, Nodes, no_nodes, node, add_node}
use Rattle.bd_text.specs.inner.Progress.{StandsOpen}

pub nothing_blank : (s : List ℕ) (i : ℕ) → IsBlank s i i
nothing_blank s i = record { ordered = omega arith; blank = λ k low high. absurd (omega arith) }

pub blank_then_blank : (s : List ℕ) (i j k : ℕ) → IsBlank s i j → IsBlank s j k → IsBlank s i k
blank_then_blank s i j k a b = record {
  ordered = omega arith;
  blank = λ p low high. elim (cases_lt p j) [ inl lt ↦ a.blank p low lt | inr le ↦ b.blank p le high ];
}

pub trees_then_blank : (s : List ℕ) (i j k : ℕ) (ts : Nodes) → TreesAt s i j ts → IsBlank s j k → TreesAt s i k ts
trees_then_blank s i j k no_nodes h b = blank_then_blank s i j k h b
trees_then_blank s i j k (node t ts) h b = (h.0, h.1, h.2, h.3, trees_then_blank s h.1 j k ts h.4 b)

pub trees_then_tree : (s : List ℕ) (i j k : ℕ) (ts : Nodes) (t : Node) → TreesAt s i j ts → TreeAt s j k t → TreesAt s i k (add_node ts t)
trees_then_tree s i j k no_nodes t h at = (j, k, h, at, nothing_blank s k)
trees_then_tree s i j k (node u us) t h at = (h.0, h.1, h.2, h.3, trees_then_tree s h.1 j k us t h.4 at)

pub open_then_blank : (s : List ℕ) (i j : ℕ) (parts : Nodes) (ls : List (ℕ × Nodes)) → StandsOpen s i parts ls → IsBlank s i j → StandsOpen s j parts ls
open_then_blank s i j parts [] h b = trees_then_blank s 0 i j parts h b
open_then_blank s i j parts (l ∷ ls) h b = (trees_then_blank s (l.0 + 1) i j parts h.0 b, h.1, h.2)

pub open_then_tree : (s : List ℕ) (i j : ℕ) (parts : Nodes) (t : Node) (ls : List (ℕ × Nodes)) → StandsOpen s i parts ls → TreeAt s i j t → StandsOpen s j (add_node parts t) ls
open_then_tree s i j parts t [] h at = trees_then_tree s 0 i j parts t h at
open_then_tree s i j parts t (l ∷ ls) h at = (trees_then_tree s (l.0 + 1) i j parts t h.0 at, h.1, h.2)

-- a list begins
pub open_then_open : (s : List ℕ) (i : ℕ) (parts : Nodes) (ls : List (ℕ × Nodes)) → StandsOpen s i parts ls → read_at s i ≡ 40 → StandsOpen s (i + 1) no_nodes ((i, parts) ∷ ls)
open_then_open s i parts ls h is = (nothing_blank s (i + 1), is, h)

-- the innermost list ends
pub open_then_close : (s : List ℕ) (i : ℕ) (parts : Nodes) (l : ℕ × Nodes) (ls : List (ℕ × Nodes)) → StandsOpen s i parts (l ∷ ls) → read_at s i ≡ 41 → StandsOpen s (i + 1) (add_node l.1 (list l.0 parts)) ls
open_then_close s i parts l ls h is =
    let closed : TreeAt s l.0 (i + 1) (list l.0 parts) = (refl, h.1, (i, h.0, is, refl)) in
    open_then_tree s l.0 (i + 1) l.1 (list l.0 parts) ls h.2 closed
