-- What is carried over stays so as the new graph grows.
use Rattle.std.proofs.Common.{◌≡◌, ◌≢◌, ℕ, zero, suc, ◌+◌, ◌<◌, ◌≤◌, ◌⊎◌, inl, inr, Bool, true, false, ◌==◌, List, [], ◌∷◌, ◌++◌, length, slice_get, slice_set, take, Some, Contains, refl, ap, sym, ◌∙◌, subst, arith, true≢false, eqb-true, eq-eqb, get_or-set_same, get_or-set_other, length-set, length-append}
use Rattle.std.proofs.lemmas.Option.{none-some, slice_get_within}
use Rattle.std.proofs.lemmas.List.Elements.{Contains-append_cases}
use Rattle.bd_model.specs.declared.design.Sort.{Sort}
use Rattle.bd_terms.specs.declared.node.Node.{Node}
use Rattle.bd_terms.specs.declared.simplify.Outcome.{Outcome}
use Rattle.bd_terms.specs.declared.simplify.Outcome.TheVariants.{Same, Built}
use Rattle.bd_terms.specs.Graph.{AddsUses, Extends, FitsSorts, HasSort, IsGraph, KeepsSymbol, KeepsUses, Use, children, node_sort, node_uses, sort_at, sorts, uses}
use Rattle.bd_terms.specs.Reaches.{Reaches}
use Rattle.bd_terms.specs.Simplified.{Gives, simplified}
use Rattle.bd_terms.specs.Denotation.{World, Denoted, Denotes, denoted, node_value, values}
use Rattle.bd_terms.specs.Renamed.{id_at, renamed}
use Rattle.bd_terms.proofs.Denotations.{denoted-get}
use Rattle.bd_terms.proofs.Graphs.{FitsSorts-get, sort_at-get}
use Rattle.bd_terms.proofs.Growth.{HasSort-Extends, Denotes-Extends, sort_at-Extends}
use Rattle.bd_terms.proofs.Places.{AllByRecursion-of, Contains-get}
use Rattle.bd_terms.proofs.Older.{Reaches-below}
use Rattle.bd_terms.proofs.Symbols.{uses-get}
use Rattle.bd_walk.specs.Walk.{walk}
use Rattle.bd_walk.proofs.Closing.{IsClosed, walk-closed, walk-reached, walk-root}
use Rattle.bd_walk.specs.Ordered.{Carries, Start, Next}
use Rattle.bd_walk.specs.inner.Carrying.{IsCarrying, Means}
use Rattle.bd_walk.proofs.Renaming.{IsRenamed, renames}
use Rattle.bd_list.proofs.Membership.{Contains-one}

Means-Extends : (old new : List Node) → Extends old new → (id : ℕ) (s : Sort) (value : World → Denoted) → Means old id s value → Means new id s value
Means-Extends old new e id s value m = record {
  sorted = HasSort-Extends old new e id s m.sorted;
  denotes = Denotes-Extends old new e id value m.sorted.inside m.denotes;
}

IsGraph-none : IsGraph []
IsGraph-none = record {
  fits = λ i node h. absurd (none-some node h);
  different = λ i j node h k. absurd (none-some node h);
  consistent = λ u p. absurd (omega (arith, p.1));
}

pub IsCarrying-start : (old : List Node) (root : ℕ) (places : List ℕ) → length places ≡ length old → IsCarrying old root [] [] places
IsCarrying-start old root places size = record {
  carried = Start places;
  graph = IsGraph-none;
  size = size;
  means = λ id p. absurd (omega (arith, p.1));
  sorts = record { each = λ id lt. absurd (omega arith) };
  applies = record { reached = λ u p. absurd (omega (arith, p.1)) };
}

less-or : (a b : ℕ) → a ≤ b → (a < b) ⊎ (a ≡ b)
less-or zero zero h = inr refl
less-or zero (suc b) h = inl (omega arith)
less-or (suc a) zero h = absurd (omega arith)
less-or (suc a) (suc b) h = elim (less-or a b (omega arith)) [ inl p ↦ inl (omega arith) | inr e ↦ inr (ap suc e) ]

get-last : (xs : List Node) (x : Node) → slice_get (xs ++ x ∷ []) (length xs) ≡ Some x
get-last [] x = refl
get-last (y ∷ xs) x = get-last xs x

last : (new new' : List Node) (place : ℕ) (n : Node) → IsGraph new' → slice_get new' place ≡ Some n → new' ≡ new ++ n ∷ [] → (id : ℕ) → id < length new' → (id < length new) ⊎ (id ≡ place)
last new new' place n g stored e id inside =
    let size : length new' ≡ length new + 1 = ap length e ∙ length-append new (n ∷ []) in
    let end : slice_get new' (length new) ≡ Some n = ap (λ l. slice_get l (length new)) e ∙ get-last new n in
    elim (less-or id (length new) (omega (arith, size, inside))) [
      | inl lt ↦ inl lt
      | inr same ↦ inr (same ∙ g.different (length new) place n end stored)
    ]

-- a term that is built is an older one, or the one that is given
Gives-cases : (new new' : List Node) (place : ℕ) (f : Outcome) → IsGraph new' → Gives new new' place f → (id : ℕ) → id < length new' → (id < length new) ⊎ (id ≡ place)
Gives-cases new new' place (Same a) g h id inside = inl (omega (arith, ap length h.0, inside))
Gives-cases new new' place (Built n) g h id inside = elim h.adds [
  | inl e ↦ inl (omega (arith, ap length e, inside))
  | inr e ↦ last new new' place n g h.stored e id inside
]

-- a term that the root reaches, each of whose children is carried over
pub record IsNext (old : List Node) (root : ℕ) (order : List ℕ) (id : ℕ) (node : Node) : Type 0 where
  pub graph : IsGraph old
  pub there : slice_get old id ≡ Some node
  pub reached : Reaches old root id
  pub below : (c : ℕ) → Contains (children node) c → Contains order c

pub next-renames : (old : List Node) (root : ℕ) (order : List ℕ) (new : List Node) (places : List ℕ) (id : ℕ) (node : Node) → IsCarrying old root order new places → IsNext old root order id node
    → IsRenamed old new node (renamed places node)
next-renames old root order new places id node c x =
    renames old new places node (FitsSorts-get old x.graph id node x.there) (λ k p. c.means k (x.below k p))

-- it fits the new graph
pub next-fits : (old : List Node) (root : ℕ) (order : List ℕ) (new : List Node) (places : List ℕ) (id : ℕ) (node n : Node) → IsCarrying old root order new places → IsNext old root order id node
    → n ≡ renamed places node → FitsSorts new n
next-fits old root order new places id node n c x e = subst (FitsSorts new) (sym e) (next-renames old root order new places id node c x).fits

-- and applies its symbol as the new graph does
pub next-uses : (old : List Node) (root : ℕ) (order : List ℕ) (new : List Node) (places : List ℕ) (id : ℕ) (node n : Node) → IsCarrying old root order new places → IsNext old root order id node
    → n ≡ renamed places node → KeepsUses new n
next-uses old root order new places id node n c x e =
    let same : node_uses n ≡ node_uses node = ap node_uses e ∙ (next-renames old root order new places id node c x).uses in
    AllByRecursion-of (λ (u : Use). KeepsSymbol new u.symbol u.arity u.sort) (node_uses n) (λ u p. record {
      keeps = λ v q.
          let r = c.applies.reached v q in
          (x.graph.consistent u (uses-get old id node x.there u (subst (λ l. Contains l u) same p))).keeps v (uses-get old r.id r.node r.there v r.applies);
    })

set-place_by : (places : List ℕ) (id place k : ℕ) (t : Bool) → (id == k) ≡ t → id < length places → ((id ≡ k) × (id_at (slice_set places id place) k ≡ place)) ⊎ ((k ≢ id) × (id_at (slice_set places id place) k ≡ id_at places k))
set-place_by places id place k true e inside =
    let same = eqb-true id k e in
    inl (same, ap (λ j. id_at (slice_set places id place) j) (sym same) ∙ get_or-set_same places id place 0 inside)
set-place_by places id place k false e inside =
    let other : k ≢ id = λ same. true≢false (sym (eq-eqb id k (sym same)) ∙ e) in
    inr (other, get_or-set_other places id k place 0 other)

-- it means there what it does
next-means : (old : List Node) (root : ℕ) (order : List ℕ) (new new' : List Node) (places : List ℕ) (id : ℕ) (node n : Node) (place : ℕ) → IsCarrying old root order new places → IsNext old root order id node
    → n ≡ renamed places node → Denotes new' place (λ w. node_value w (values w new) n) → HasSort new' place (node_sort (sorts new) n) → Means new' place (sort_at old id) (λ w. denoted w old id)
next-means old root order new new' places id node n place c x e d s =
    let m = next-renames old root order new places id node c x in
    record {
      sorted = subst (HasSort new' place) (ap (node_sort (sorts new)) e ∙ m.sorted ∙ sym (sort_at-get old x.graph id node x.there)) s;
      denotes = record {
        is = λ w. d.is w ∙ ap (node_value w (values w new)) e ∙ m.value w ∙ sym (denoted-get w old x.graph id node x.there);
      };
    }

-- and is carried over
pub IsCarrying-next : (old : List Node) (root : ℕ) (order order' : List ℕ) (new new' : List Node) (places places' : List ℕ) (id : ℕ) (node n : Node) (place : ℕ) → IsCarrying old root order new places → IsNext old root order id node
    → n ≡ renamed places node → Gives new new' place (simplified new n) → Denotes new' place (λ w. node_value w (values w new) n) → HasSort new' place (node_sort (sorts new) n)
    → Extends new new' → AddsUses new new' (node_uses n) → IsGraph new' → order' ≡ order ++ id ∷ [] → places' ≡ slice_set places id place → IsCarrying old root order' new' places'
IsCarrying-next old root order order' new new' places places' id node n place c x e gives d s ext adds g more set =
    let inside : id < length places = omega (arith, c.size, slice_get_within old id node x.there) in
    let here : Means new' place (sort_at old id) (λ w. denoted w old id) = next-means old root order new new' places id node n place c x e d s in
    let same : node_uses n ≡ node_uses node = ap node_uses e ∙ (next-renames old root order new places id node c x).uses in
    record {
      carried =
          subst (λ l. Carries old order' new' l) (sym set)
          (subst (λ l. Carries old l new' (slice_set places id place)) (sym more)
          (Next order new places id node new' place c.carried x.there (subst (λ m. Gives new new' place (simplified new m)) e gives)));
      graph = g;
      size = ap length set ∙ length-set places id place ∙ c.size;
      means = λ k p. elim (set-place_by places id place k (id == k) refl inside) [
        | inl q ↦
            subst (λ l. Means new' (id_at l k) (sort_at old k) (λ w. denoted w old k)) (sym set)
            (subst (λ j. Means new' j (sort_at old k) (λ w. denoted w old k)) (sym q.1)
            (subst (λ j. Means new' place (sort_at old j) (λ w. denoted w old j)) q.0 here))
        | inr q ↦ elim (Contains-append_cases order (id ∷ []) k (subst (λ l. Contains l k) more p)) [
          | inl r ↦
              subst (λ l. Means new' (id_at l k) (sort_at old k) (λ w. denoted w old k)) (sym set)
              (subst (λ j. Means new' j (sort_at old k) (λ w. denoted w old k)) (sym q.1)
              (Means-Extends new new' ext (id_at places k) (sort_at old k) (λ w. denoted w old k) (c.means k r)))
          | inr r ↦ absurd (q.0 (sym (Contains-one id k r)))
        ]
      ];
      sorts = record {
        each = λ k lt. elim (Gives-cases new new' place (simplified new n) g gives k lt) [
          | inl q ↦
              let h = c.sorts.each k q in
              record { source = h.source; reached = h.reached; same = sort_at-Extends new new' ext k q ∙ h.same }
          | inr q ↦ record { source = id; reached = x.reached; same = ap (sort_at new') q ∙ here.sorted.sorted }
        ];
      };
      applies = record {
        reached = λ u p. elim (Contains-append_cases (uses new) (node_uses n) u (adds.within u p)) [
          | inl q ↦ c.applies.reached u q
          | inr q ↦ record { id = id; node = node; reached = x.reached; there = x.there; applies = subst (λ l. Contains l u) same q }
        ];
      };
    }

-- the terms of a walk are carried over in turn
pub walk-next : (nodes : List Node) → IsGraph nodes → (root : ℕ) → root < length nodes → (order : List ℕ) → order ≡ walk nodes root → (i id : ℕ) → slice_get order i ≡ Some id
    → (node : Node) → slice_get nodes id ≡ Some node → IsNext nodes root (take i order) id node
walk-next nodes g root inside order same i id at node there =
    let closed : IsClosed nodes order = subst (IsClosed nodes) (sym same) (walk-closed nodes g root inside) in
    record {
      graph = g;
      there = there;
      reached = walk-reached nodes g root inside id (subst (λ l. Contains l id) same (Contains-get order i id at));
      below = λ c p. closed.after i id node c at there p;
    }

pub walk-inside : (nodes : List Node) → IsGraph nodes → (root : ℕ) → root < length nodes → (order : List ℕ) → order ≡ walk nodes root → (i id : ℕ) → slice_get order i ≡ Some id → id < length nodes
walk-inside nodes g root inside order same i id at =
    let below = Reaches-below nodes g root id (walk-reached nodes g root inside id (subst (λ l. Contains l id) same (Contains-get order i id at))) in
    omega (arith, below, inside)

-- where all are, the root is
pub carried-root : (nodes : List Node) → IsGraph nodes → (root : ℕ) → root < length nodes → (order : List ℕ) (new : List Node) (places : List ℕ) → order ≡ walk nodes root → IsCarrying nodes root order new places
    → Means new (id_at places root) (sort_at nodes root) (λ w. denoted w nodes root)
carried-root nodes g root inside order new places same c = c.means root (subst (λ l. Contains l root) (sym same) (walk-root nodes g root inside))
