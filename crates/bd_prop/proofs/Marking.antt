-- Marks that go down from a root: what is marked is reached, and at the end what is reached is marked.
use Rattle.std.proofs.Common.{◌≡◌, ◌⊎◌, replicate, ℕ, ◌<◌, ◌≤◌, ◌+◌, Bool, true, false, List, [], ◌∷◌, length, get_or, set, fold, Contains, refl, sym, ◌∙◌, subst, inl, inr, zero, suc, arith}
use Rattle.std.proofs.lemmas.Bool.{false≢true, cases_eq, cases_lt}
use Rattle.std.proofs.lemmas.List.{get_or-set_same, get_or-set_other, length-set, get_or-replicate, length-replicate, get_or_past}
use Rattle.std.proofs.lemmas.Option.{get_or_from_slice_get, slice_get_within}
use Rattle.bd_prop.specs.declared.node.PropNode.{PropNode}
use Rattle.bd_prop.specs.Node.{children}
use Rattle.bd_prop.specs.Graph.{IsGraph, StandsAt, Reaches}
use Rattle.bd_prop.proofs.Reaching.{child_below}
use Rattle.bd_prop.specs.Graph.Reaches.{Itself, Below}

-- marks each of these
abbrev pub mark_all : List Bool → List ℕ → List Bool
mark_all marks cs = fold (λ m c. set m c true) marks cs

abbrev pub IsMarked : List Bool → ℕ → Type 0
IsMarked marks id = get_or marks id false ≡ true

marked-set : (marks : List Bool) (c id : ℕ) → IsMarked marks id → IsMarked (set marks c true) id
marked-set marks c id h =
    elim (cases_eq id c) [
      | inl same ↦
          elim (cases_lt id (length marks)) [
            | inl inside ↦ subst (λ k. IsMarked (set marks k true) id) same (get_or-set_same marks id true false inside)
            | inr past ↦ absurd (false≢true (sym (get_or_past marks id false past) ∙ h))
          ]
      | inr other ↦ get_or-set_other marks c id true false other ∙ h
    ]

pub length-mark_all : (cs : List ℕ) (marks : List Bool) → length (mark_all marks cs) ≡ length marks
length-mark_all [] marks = refl
length-mark_all (c ∷ cs) marks = length-mark_all cs (set marks c true) ∙ length-set marks c true

-- marks stay
pub mark_all_keeps : (cs : List ℕ) (marks : List Bool) (id : ℕ) → IsMarked marks id → IsMarked (mark_all marks cs) id
mark_all_keeps [] marks id h = h
mark_all_keeps (c ∷ cs) marks id h = mark_all_keeps cs (set marks c true) id (marked-set marks c id h)

-- all of these are marked
pub mark_all_marks : (cs : List ℕ) (marks : List Bool) (k : ℕ) (d : ℕ) → k < length cs → get_or cs k d < length marks → IsMarked (mark_all marks cs) (get_or cs k d)
mark_all_marks [] marks k d h low = absurd (omega arith)
mark_all_marks (c ∷ cs) marks zero d h low = mark_all_keeps cs (set marks c true) c (get_or-set_same marks c true false low)
mark_all_marks (c ∷ cs) marks (suc k) d h low = mark_all_marks cs (set marks c true) k d (omega arith) (subst (λ n. get_or cs k d < n) (sym (length-set marks c true)) low)

-- and nothing else
pub mark_all_only : (cs : List ℕ) (marks : List Bool) (id : ℕ) → IsMarked (mark_all marks cs) id → IsMarked marks id ⊎ Contains cs id
mark_all_only [] marks id h = inl h
mark_all_only (c ∷ cs) marks id h =
    elim (mark_all_only cs (set marks c true) id h) [
      | inl old ↦
          elim (cases_eq id c) [
            | inl same ↦ inr (0, omega arith, sym same)
            | inr other ↦ inl (sym (get_or-set_other marks c id true false other) ∙ old)
          ]
      | inr (k, inside, at) ↦ inr (suc k, omega arith, at)
    ]

pub off_at_start : (n id : ℕ) → get_or (replicate n false) id false ≡ false
off_at_start n id =
    elim (cases_lt id n) [
      | inl inside ↦ get_or-replicate n id false false inside
      | inr past ↦ get_or_past (replicate n false) id false (omega (arith, length-replicate n false))
    ]

-- the marks when the ids from k on are done
pub record AreMarks (nodes : List PropNode) (root k : ℕ) (marks : List Bool) : Type 0 where
  pub size : length marks ≡ length nodes
  pub here : IsMarked marks root
  pub sound : (id : ℕ) → IsMarked marks id → Reaches nodes root id
  pub done : (id c : ℕ) (node : PropNode) → k ≤ id → IsMarked marks id → StandsAt nodes id node → Contains (children node) c → IsMarked marks c

module _ (nodes : List PropNode) (graph : IsGraph nodes) (root : ℕ) where
  -- a marked node's children are marked
  pub AreMarks-down : (k : ℕ) (node : PropNode) (marks : List Bool) → k < length nodes → StandsAt nodes k node → IsMarked marks k → AreMarks nodes root (k + 1) marks → AreMarks nodes root k (mark_all marks (children node))
  AreMarks-down k node marks h at marked is = record {
    size = length-mark_all (children node) marks ∙ is.size;
    here = mark_all_keeps (children node) marks root is.here;
    sound = λ id m. elim (mark_all_only (children node) marks id m) [
      | inl old ↦ is.sound id old
      | inr child ↦ Below k id node (is.sound k marked) at child
    ];
    done = λ id c other from m stands child.
        elim (cases_eq id k) [
          | inl same ↦
              let node_is : node ≡ other = sym (get_or_from_slice_get nodes k node node at) ∙ get_or_from_slice_get nodes k other node (subst (λ x. StandsAt nodes x other) same stands) in
              let mine : Contains (children node) c = subst (λ n. Contains (children n) c) (sym node_is) child in
              let low : c < k = child_below nodes k c node graph at mine in
              let size : length marks ≡ length nodes = is.size in
              let short : c < length marks = omega arith in
              subst (IsMarked (mark_all marks (children node))) mine.2 (mark_all_marks (children node) marks mine.0 c mine.1 (subst (λ x. x < length marks) (sym mine.2) short))
          | inr apart ↦
              elim (mark_all_only (children node) marks id m) [
                | inl old ↦ mark_all_keeps (children node) marks c (is.done id c other (omega (arith, apart)) old stands child)
                | inr down ↦ let low : id < k = child_below nodes k id node graph at down in absurd (omega arith)
              ]
        ];
  }

  -- at the start the root alone is marked
  pub AreMarks-start : (marks : List Bool) → root < length nodes → length marks ≡ length nodes → ((id : ℕ) → get_or marks id false ≡ false) → AreMarks nodes root (length nodes) (set marks root true)
  AreMarks-start marks h size off = record {
    size = length-set marks root true ∙ size;
    here = get_or-set_same marks root true false (omega arith);
    sound = λ id m. elim (cases_eq id root) [
      | inl same ↦ subst (Reaches nodes root) (sym same) Itself
      | inr other ↦ absurd (false≢true (sym (off id) ∙ sym (get_or-set_other marks root id true false other) ∙ m))
    ];
    done = λ id c other from m stands child. let inside = slice_get_within nodes id other stands in absurd (omega arith);
  }

  -- at the end all that is reached is marked
  pub marked_from_reach : (marks : List Bool) → AreMarks nodes root 0 marks → (id : ℕ) → Reaches nodes root id → IsMarked marks id
  marked_from_reach marks is _ Itself = is.here
  marked_from_reach marks is _ (Below id c node up at child) = is.done id c node (omega arith) (marked_from_reach marks is id up) at child
