-- One pass downwards marks what a root reaches, and a denotation rests on no other symbol.
use Rattle.std.proofs.Common.{◌≡◌, ◌≢◌, ℕ, zero, suc, ◌<◌, ◌≤◌, ◌⊎◌, inl, inr, Bool, true, false, ◌==◌, List, [], ◌∷◌, length, slice_get, slice_index_or, slice_set, take, Some, Contains, refl, ap, sym, ◌∙◌, subst, arith, true≢false, eqb-true, eq-eqb, get_or-set_same, get_or-set_other, length-set, replicate}
use Rattle.std.specs.List.{All}
use Rattle.std.proofs.lemmas.Option.{slice_get_within, none-some, same_Some, slice_get_past}
use Rattle.std.proofs.lemmas.List.{length-take-le, length-replicate}
use Rattle.std.proofs.lemmas.List.Elements.{All-nil, All-cons, All-contains, All-head, All-tail, All-weaker, Contains-append_right}
use Rattle.bd_model.specs.declared.design.Sort.TheVariants as sort
use Rattle.bd_terms.specs.declared.node.Node.{Node}
use Rattle.bd_terms.specs.declared.node.Node.TheVariants.{True, Not, And, Or, Ite, Eq, App, Pred, Read, Write, Init}
use Rattle.bd_terms.specs.Graph.{FitsSorts, HasSort, IsGraph, children}
use Rattle.bd_terms.specs.Reaches.{Reaches, Root, Child}
use Rattle.bd_terms.specs.inner.Marked.{marked}
use Rattle.bd_terms.proofs.Graphs.{FitsSorts-get}
use Rattle.bd_list.proofs.Numbers.{le-cases}

one : (n a : ℕ) → a < n → All (λ c. c < n) (a ∷ [])
one n a h = All-cons (λ c. c < n) a [] h (All-nil (λ c. c < n))

two : (n a b : ℕ) → a < n → b < n → All (λ c. c < n) (a ∷ b ∷ [])
two n a b h k = All-cons (λ c. c < n) a (b ∷ []) h (one n b k)

three : (n a b d : ℕ) → a < n → b < n → d < n → All (λ c. c < n) (a ∷ b ∷ d ∷ [])
three n a b d h k m = All-cons (λ c. c < n) a (b ∷ d ∷ []) h (two n b d k m)

-- what a node stands over is in its graph
pub children-inside : (nodes : List Node) (node : Node) → FitsSorts nodes node → All (λ c. c < length nodes) (children node)
children-inside nodes True h = All-nil (λ c. c < length nodes)
children-inside nodes (Not a) h = one (length nodes) a h.inside
children-inside nodes (And a b) h = two (length nodes) a b h.0.inside h.1.inside
children-inside nodes (Or a b) h = two (length nodes) a b h.0.inside h.1.inside
children-inside nodes (Ite c a b) h = three (length nodes) c a b h.0.inside h.1.inside h.2.inside
children-inside nodes (Eq a b) h = two (length nodes) a b h.0.inside h.1.inside
children-inside nodes (App s args) h = All-weaker (λ a. HasSort nodes a sort.Word) (λ c. c < length nodes) (λ a k. k.inside) args h
children-inside nodes (Pred s args) h = All-weaker (λ a. HasSort nodes a sort.Word) (λ c. c < length nodes) (λ a k. k.inside) args h
children-inside nodes (Read m a) h = two (length nodes) m a h.0.inside h.1.inside
children-inside nodes (Write m a d) h = three (length nodes) m a d h.0.inside h.1.inside h.2.inside
children-inside nodes (Init e) h = All-nil (λ c. c < length nodes)

-- and before it
pub children-below : (nodes : List Node) → IsGraph nodes → (i : ℕ) (node : Node) → slice_get nodes i ≡ Some node → (c : ℕ) → Contains (children node) c → c < i
children-below nodes g i node h c p =
    let inside : i < length nodes = slice_get_within nodes i node h in
    let size : length (take i nodes) ≡ i = length-take-le i nodes (omega arith) in
    let below : c < length (take i nodes) = All-contains (λ k. k < length (take i nodes)) (children node) c (children-inside (take i nodes) node (g.fits i node h)) p in
    omega arith

abbrev pub mark_at : List Bool → ℕ → Bool
mark_at marks k = slice_index_or marks k false

pub length-marked : (marks : List Bool) (cs : List ℕ) → length (marked marks cs) ≡ length marks
length-marked marks [] = refl
length-marked marks (c ∷ cs) = length-marked (slice_set marks c true) cs ∙ length-set marks c true

set-cases_by : (marks : List Bool) (c k : ℕ) (b : Bool) → (c == k) ≡ b → mark_at (slice_set marks c true) k ≡ true → (mark_at marks k ≡ true) ⊎ (c ≡ k)
set-cases_by marks c k true e h = inr (eqb-true c k e)
set-cases_by marks c k false e h =
    let other : k ≢ c = λ same. true≢false (sym (eq-eqb c k (sym same)) ∙ e) in
    inl (sym (get_or-set_other marks c k true false other) ∙ h)

pub set-cases : (marks : List Bool) (c k : ℕ) → mark_at (slice_set marks c true) k ≡ true → (mark_at marks k ≡ true) ⊎ (c ≡ k)
set-cases marks c k h = set-cases_by marks c k (c == k) refl h

set-stays_by : (marks : List Bool) (c k : ℕ) (b : Bool) → (c == k) ≡ b → k < length marks → mark_at marks k ≡ true → mark_at (slice_set marks c true) k ≡ true
set-stays_by marks c k true e inside h =
    subst (λ j. mark_at (slice_set marks j true) k ≡ true) (sym (eqb-true c k e)) (get_or-set_same marks k true false inside)
set-stays_by marks c k false e inside h =
    let other : k ≢ c = λ same. true≢false (sym (eq-eqb c k (sym same)) ∙ e) in
    get_or-set_other marks c k true false other ∙ h

mark_inside : (marks : List Bool) (k : ℕ) → mark_at marks k ≡ true → k < length marks
mark_inside [] k h = absurd (true≢false (sym h))
mark_inside (m ∷ marks) zero h = omega arith
mark_inside (m ∷ marks) (suc k) h = let below = mark_inside marks k h in omega (arith, below)

pub set-stays : (marks : List Bool) (c k : ℕ) → mark_at marks k ≡ true → mark_at (slice_set marks c true) k ≡ true
set-stays marks c k h = set-stays_by marks c k (c == k) refl (mark_inside marks k h) h

-- marks stay
marked-stays : (marks : List Bool) (cs : List ℕ) (k : ℕ) → mark_at marks k ≡ true → mark_at (marked marks cs) k ≡ true
marked-stays marks [] k h = h
marked-stays marks (c ∷ cs) k h = marked-stays (slice_set marks c true) cs k (set-stays marks c k h)

-- a mark was there, or its place is among those that are marked
marked-cases : (marks : List Bool) (cs : List ℕ) (k : ℕ) → mark_at (marked marks cs) k ≡ true → (mark_at marks k ≡ true) ⊎ Contains cs k
marked-cases marks [] k h = inl h
marked-cases marks (c ∷ cs) k h = elim (marked-cases (slice_set marks c true) cs k h) [
  | inl p ↦ elim (set-cases marks c k p) [ inl q ↦ inl q | inr e ↦ inr (0, omega arith, e) ]
  | inr p ↦ inr (Contains-append_right (c ∷ []) cs k p)
]

-- each of those places is marked
marked-there : (marks : List Bool) (cs : List ℕ) → All (λ c. c < length marks) cs → (k : ℕ) → Contains cs k → mark_at (marked marks cs) k ≡ true
marked-there marks [] all k (i, h, e) = absurd (omega arith)
marked-there marks (c ∷ cs) all k (zero, h, e) =
    marked-stays (slice_set marks c true) cs k
    (subst (λ j. mark_at (slice_set marks c true) j ≡ true) e (get_or-set_same marks c true false (All-head (λ j. j < length marks) c cs all)))
marked-there marks (c ∷ cs) all k (suc i, h, e) =
    marked-there (slice_set marks c true) cs
    (subst (λ n. All (λ j. j < n) cs) (sym (length-set marks c true)) (All-tail (λ j. j < length marks) c cs all))
    k (i, omega arith, e)

-- the marks of a pass downwards that has come to a place: what is marked is reached, and from that place on so
-- is what it stands over
pub record IsMarked (nodes : List Node) (root place : ℕ) (marks : List Bool) : Type 0 where
  pub size : length marks ≡ length nodes
  pub rooted : mark_at marks root ≡ true
  pub sound : (k : ℕ) → mark_at marks k ≡ true → Reaches nodes root k
  pub closed : (k : ℕ) (node : Node) → place ≤ k → mark_at marks k ≡ true → slice_get nodes k ≡ Some node → (c : ℕ) → Contains (children node) c → mark_at marks c ≡ true

pub unmarked : (n k : ℕ) → mark_at (replicate n false) k ≡ true → ⊥
unmarked zero k h = true≢false (sym h)
unmarked (suc n) zero h = true≢false (sym h)
unmarked (suc n) (suc k) h = unmarked n k h

-- first the root alone is marked
pub IsMarked-root : (nodes : List Node) (root : ℕ) → root < length nodes → IsMarked nodes root (length nodes) (slice_set (replicate (length nodes) false) root true)
IsMarked-root nodes root inside = record {
  size = length-set (replicate (length nodes) false) root true ∙ length-replicate (length nodes) false;
  rooted = get_or-set_same (replicate (length nodes) false) root true false (omega (arith, length-replicate (length nodes) false, inside));
  sound = λ k h. elim (set-cases (replicate (length nodes) false) root k h) [
    | inl p ↦ absurd (unmarked (length nodes) k p)
    | inr e ↦ subst (Reaches nodes root) e Root
  ];
  closed = λ k node le h there. absurd (none-some node (sym (slice_get_past nodes k le) ∙ there));
}

-- at a place with a mark what its node stands over is marked
pub IsMarked-mark : (nodes : List Node) → IsGraph nodes → (root place : ℕ) (marks : List Bool) (node : Node) → IsMarked nodes root (suc place) marks → mark_at marks place ≡ true
    → slice_get nodes place ≡ Some node → IsMarked nodes root place (marked marks (children node))
IsMarked-mark nodes g root place marks node m here at = record {
  size = length-marked marks (children node) ∙ m.size;
  rooted = marked-stays marks (children node) root m.rooted;
  sound = λ k h. elim (marked-cases marks (children node) k h) [
    | inl p ↦ m.sound k p
    | inr p ↦ Child place node k (m.sound place here) at p
  ];
  closed = λ k n le h there c p. elim (le-cases place k le) [
    | inl lt ↦ elim (marked-cases marks (children node) k h) [
      | inl q ↦ marked-stays marks (children node) c (m.closed k n lt q there c p)
      | inr q ↦ let below = children-below nodes g place node at k q in absurd (omega (arith, below))
    ]
    | inr e ↦
        let same : n ≡ node = same_Some n node (sym there ∙ ap (slice_get nodes) (sym e) ∙ at) in
        marked-there marks (children node)
        (subst (λ l. All (λ j. j < l) (children node)) (sym m.size) (children-inside nodes node (FitsSorts-get nodes g place node at)))
        c (subst (λ x. Contains (children x) c) same p)
  ];
}

-- in the end all that is reached is marked
pub IsMarked-reached : (nodes : List Node) (root : ℕ) (marks : List Bool) → IsMarked nodes root 0 marks → (k : ℕ) → Reaches nodes root k → mark_at marks k ≡ true
IsMarked-reached nodes root marks m k Root = m.rooted
IsMarked-reached nodes root marks m k (Child id node c r there p) = m.closed id node (omega arith) (IsMarked-reached nodes root marks m id r) there c p
