-- A text spells at most one list of trees.
use Rattle.std.proofs.Common.{◌≡◌, ℕ, ◌+◌, ◌⊎◌, List, length, slice_range, refl, inl, inr, sym, ap, ◌∙◌, subst, arith}
use Rattle.std.proofs.lemmas.List.{get_or_past}
use Rattle.std.proofs.lemmas.Bool.{cases_lt}
use Rattle.bd_text.specs.Layout.{IsSeparator, IsAtomByte, without_comments, read_at}
use Rattle.bd_text.specs.Grammar.{IsBlank, IsRun, TreeAt, TreesAt, Spells}
use Rattle.bd_text.specs.Nodes.{Node, atom, list, Nodes, no_nodes, node}
use Rattle.bd_text.proofs.Comments.{length-without_comments}

-- where trees end: at a parenthesis, or at the end
abbrev IsEnd : List ℕ → ℕ → Type 0
IsEnd s i = (read_at s i ≡ 41) ⊎ (read_at s i ≡ 0)

-- where a tree begins
abbrev IsBeginning : List ℕ → ℕ → Type 0
IsBeginning s i = (read_at s i ≡ 40) ⊎ IsAtomByte (read_at s i)

-- no separator
abbrev IsFull : ℕ → Type 0
IsFull b = ¬ IsSeparator b

end_full : (b : ℕ) → (b ≡ 41) ⊎ (b ≡ 0) → IsFull b
end_full b (inl e) = λ h. elim h [ inl a ↦ absurd (omega arith) | inr h ↦ elim h [ inl a ↦ absurd (omega arith) | inr h ↦ elim h [ inl a ↦ absurd (omega arith) | inr a ↦ absurd (omega arith) ] ] ]
end_full b (inr e) = λ h. elim h [ inl a ↦ absurd (omega arith) | inr h ↦ elim h [ inl a ↦ absurd (omega arith) | inr h ↦ elim h [ inl a ↦ absurd (omega arith) | inr a ↦ absurd (omega arith) ] ] ]

beginning_full : (b : ℕ) → (b ≡ 40) ⊎ IsAtomByte b → IsFull b
beginning_full b (inl e) = λ h. elim h [ inl a ↦ absurd (omega arith) | inr h ↦ elim h [ inl a ↦ absurd (omega arith) | inr h ↦ elim h [ inl a ↦ absurd (omega arith) | inr a ↦ absurd (omega arith) ] ] ]
beginning_full b (inr e) = λ h. elim h [ inl a ↦ absurd (omega (arith, e.0)) | inr h ↦ elim h [ inl a ↦ absurd (omega (arith, e.0)) | inr h ↦ elim h [ inl a ↦ absurd (omega (arith, e.0)) | inr a ↦ absurd (omega (arith, e.0)) ] ] ]

no_beginning_at_end : (b : ℕ) → (b ≡ 41) ⊎ (b ≡ 0) → (b ≡ 40) ⊎ IsAtomByte b → ⊥
no_beginning_at_end b (inl e) (inl h) = omega arith
no_beginning_at_end b (inl e) (inr h) = h.3 e
no_beginning_at_end b (inr e) (inl h) = omega arith
no_beginning_at_end b (inr e) (inr h) = omega (arith, h.0)

-- blanks from one place end at the first byte that is no separator
same_blank : (s : List ℕ) (i j k : ℕ) → IsBlank s i j → IsBlank s i k → IsFull (read_at s j) → IsFull (read_at s k) → j ≡ k
same_blank s i j k a b full_j full_k = elim (cases_lt j k) [
  | inl lt ↦ absurd (full_j (b.blank j a.ordered lt))
  | inr le ↦ elim (cases_lt k j) [ inl lt ↦ absurd (full_k (a.blank k b.ordered lt)) | inr ge ↦ omega arith ]
]

tree_begins : (s : List ℕ) (i j : ℕ) (t : Node) → TreeAt s i j t → IsBeginning s i
tree_begins s i j (atom offset text) h = inr (h.1.each i (omega arith) h.1.nonempty)
tree_begins s i j (list offset parts) h = inl h.1

same_run : (s : List ℕ) (i j k : ℕ) → IsRun s i j → IsRun s i k → j ≡ k
same_run s i j k a b = elim (cases_lt j k) [
  | inl lt ↦ absurd (a.longest (b.each j (omega (arith, a.nonempty)) lt))
  | inr le ↦ elim (cases_lt k j) [ inl lt ↦ absurd (b.longest (a.each k (omega (arith, b.nonempty)) lt)) | inr ge ↦ omega arith ]
]

atom_no_list : (b : ℕ) → IsAtomByte b → b ≡ 40 → ⊥
atom_no_list b h e = h.2 e

mutual
  same_tree : (s : List ℕ) (i j k : ℕ) (t u : Node) → TreeAt s i j t → TreeAt s i k u → (t ≡ u) × (j ≡ k)
  same_tree s i j k (atom o text) (atom p other) h g =
      let e = same_run s i j k h.1 g.1 in
      (ap (λ x. atom x text) (h.0 ∙ sym g.0) ∙ ap (atom p) (h.2 ∙ ap (slice_range s i) e ∙ sym g.2), e)
  same_tree s i j k (atom o text) (list p parts) h g = absurd (atom_no_list _ (h.1.each i (omega arith) h.1.nonempty) g.1)
  same_tree s i j k (list o parts) (atom p text) h g = absurd (atom_no_list _ (g.1.each i (omega arith) g.1.nonempty) h.1)
  same_tree s i j k (list o parts) (list p others) h g =
      let m = h.2.0 in
      let n = g.2.0 in
      let e = same_trees s (i + 1) m n parts others h.2.1 g.2.1 (inl h.2.2) (inl g.2.2) in
      (ap (λ x. list x parts) (h.0 ∙ sym g.0) ∙ ap (list p) e.0, h.2.3 ∙ ap (λ x. x + 1) e.1 ∙ sym g.2.3)

  same_trees : (s : List ℕ) (i j k : ℕ) (ts us : Nodes) → TreesAt s i j ts → TreesAt s i k us → IsEnd s j → IsEnd s k → (ts ≡ us) × (j ≡ k)
  same_trees s i j k no_nodes no_nodes h g end_j end_k = (refl, same_blank s i j k h g (end_full _ end_j) (end_full _ end_k))
  same_trees s i j k no_nodes (node u us) h g end_j end_k =
      let begins = tree_begins s g.0 g.1 u g.3 in
      let e = same_blank s i j g.0 h g.2 (end_full _ end_j) (beginning_full _ begins) in
      absurd (no_beginning_at_end (read_at s j) end_j (rw e begins))
  same_trees s i j k (node t ts) no_nodes h g end_j end_k =
      let begins = tree_begins s h.0 h.1 t h.3 in
      let e = same_blank s i k h.0 g h.2 (end_full _ end_k) (beginning_full _ begins) in
      absurd (no_beginning_at_end (read_at s k) end_k (rw e begins))
  same_trees s i j k (node t ts) (node u us) h g end_j end_k =
      let t_begins = tree_begins s h.0 h.1 t h.3 in
      let u_begins = tree_begins s g.0 g.1 u g.3 in
      let start = same_blank s i h.0 g.0 h.2 g.2 (beginning_full _ t_begins) (beginning_full _ u_begins) in
      let first = same_tree s h.0 h.1 g.1 t u h.3 (subst (λ x. TreeAt s x g.1 u) (sym start) g.3) in
      let rest = same_trees s h.1 j k ts us h.4 (subst (λ x. TreesAt s x k us) (sym first.1) g.4) end_j end_k in
      (ap (λ x. node x ts) first.0 ∙ ap (node u) rest.0, rest.1)

pub one_reading-holds : (s : List ℕ) (ts us : Nodes) → Spells s ts → Spells s us → ts ≡ us
one_reading-holds s ts us h g =
    let at_end : read_at s (length s) ≡ 0 = get_or_past (without_comments s) (length s) 0 (omega (arith, length-without_comments s)) in
    (same_trees s 0 (length s) (length s) ts us h g (inr at_end) (inr at_end)).0
