-- The edges of the atoms that the root reaches.
use Rattle.std.proofs.Common.{◌≡◌, ℕ, ◌+◌, ◌<◌, ◌≤◌, ◌⊎◌, ◌↔◌, inl, inr, Bool, true, List, Some, Contains, slice_get, length, ap, sym, ◌∙◌, subst, arith}
use Rattle.std.proofs.lemmas.Option.{same_Some, slice_get_within}
use Rattle.bd_list.proofs.Numbers.{below_last}
use Rattle.bd_prop.specs.declared.atom.Atom.TheVariants.{Edge as EdgeOf}
use Rattle.bd_prop.specs.declared.node.PropNode.{PropNode}
use Rattle.bd_prop.specs.declared.node.PropNode.TheVariants.{Atom as AtomOf}
use Rattle.bd_prop.specs.Graph.{Reaches, StandsAt}
use Rattle.bd_transitive.specs.declared.graph.Edge.{Edge}
use Rattle.bd_equality.specs.Edges.{ReachesEdge}
use Rattle.bd_equality.specs.inner.Apart.{IsReached}
use Rattle.bd_equality.specs.inner.Means.{edge}

atom_edge : (a b x y : ℕ) → ◌≡◌ {A = PropNode} (AtomOf (EdgeOf a b)) (AtomOf (EdgeOf x y)) → edge a b ≡ edge x y
atom_edge a b x y e = let p : a ≡ x = cc in let q : b ≡ y = cc in (λ i. edge (p i) (q i))

-- the edge of a node that is reached
pub added_edge : (reached : Bool) (node : PropNode) (a b : ℕ) (old new : List Edge) → reached ≡ true → node ≡ AtomOf (EdgeOf a b) → ((e : Edge) → Contains new e ↔ (Contains old e ⊎ (edge a b ≡ e)))
    → (e : Edge) → Contains new e ↔ (Contains old e ⊎ IsReached reached node e)
added_edge reached node a b old new is_true is has e = (
  λ k. elim ((has e).0 k) [ inl q ↦ inl q | inr q ↦ inr (record { marked = is_true; atom = is ∙ ap (λ (x : Edge). AtomOf (EdgeOf x.from x.to)) q }) ],
  λ k. (has e).1 (elim k [ inl q ↦ inl q | inr q ↦ inr (atom_edge a b e.from e.to (sym is ∙ q.atom)) ]),
)

-- so far the edges of the first nodes are there
pub record AddsReached (prop : List PropNode) (root count : ℕ) (old new : List Edge) : Type 0 where
  pub sound : (e : Edge) → Contains new e → ReachesEdge prop root e ⊎ Contains old e
  pub stays : (e : Edge) → Contains old e → Contains new e
  pub joined : (k : ℕ) (e : Edge) → k < count → Reaches prop root k → StandsAt prop k (AtomOf (EdgeOf e.from e.to)) → Contains new e

pub AddsReached-start : (prop : List PropNode) (root : ℕ) (old : List Edge) → AddsReached prop root 0 old old
AddsReached-start prop root old = record { sound = λ e h. inr h; stays = λ e h. h; joined = λ k e lt. absurd (omega arith) }

pub AddsReached-more : (prop : List PropNode) (root count : ℕ) (old new new' : List Edge) (node : PropNode) (mark : Bool) → AddsReached prop root count old new → StandsAt prop count node
    → ((mark ≡ true) ↔ Reaches prop root count) → ((e : Edge) → Contains new' e ↔ (Contains new e ⊎ IsReached mark node e)) → AddsReached prop root (count + 1) old new'
AddsReached-more prop root count old new new' node mark h there reached has = record {
  sound = λ e k. elim ((has e).0 k) [
    | inl q ↦ h.sound e q
    | inr q ↦ inl (record { id = count; reached = reached.0 q.marked; stands = there ∙ ap Some q.atom })
  ];
  stays = λ e k. (has e).1 (inl (h.stays e k));
  joined = λ k e l r s. elim (below_last k count l) [
    | inl q ↦ (has e).1 (inl (h.joined k e q r s))
    | inr q ↦ (has e).1 (inr (record {
      marked = reached.1 (subst (Reaches prop root) q r);
      atom = same_Some node (AtomOf (EdgeOf e.from e.to)) (sym there ∙ ap (slice_get prop) (sym q) ∙ s);
    }))
  ];
}

pub AddsReached-end : (prop : List PropNode) (root count : ℕ) (old new : List Edge) → AddsReached prop root count old new → length prop ≤ count → (e : Edge) → Contains new e ↔ (ReachesEdge prop root e ⊎ Contains old e)
AddsReached-end prop root count old new h all e = (
  h.sound e,
  λ k. elim k [
    | inl q ↦ let lt = slice_get_within prop q.id (AtomOf (EdgeOf e.from e.to)) q.stands in h.joined q.id e (omega (arith, lt)) q.reached q.stands
    | inr q ↦ h.stays e q
  ],
)
