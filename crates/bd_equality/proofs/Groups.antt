-- Edges between the constants of groups.
use Rattle.std.proofs.Common.{◌≡◌, ℕ, zero, suc, ◌+◌, ◌<◌, ◌≤◌, ◌⊎◌, ◌↔◌, inl, inr, List, [], ◌∷◌, ◌++◌, Option, Some, Contains, slice_index_or, length, refl, ap, sym, ◌∙◌, subst, arith}
use Rattle.std.proofs.lemmas.List.{get_or_default}
use Rattle.std.proofs.lemmas.List.Elements.{Contains-append_left, Contains-get_or, Contains-push, Contains-push_cases}
use Rattle.std.proofs.lemmas.Option.{same_Some}
use Rattle.bd_list.proofs.Numbers.{below_last}
use Rattle.bd_terms.specs.declared.node.Node.{Node}
use Rattle.bd_function.specs.declared.flat.FlatSym.{FlatSym}
use Rattle.bd_transitive.specs.declared.graph.Edge.{Edge}
use Rattle.bd_equality.specs.Edges.{IsApart, IsConstant}
use Rattle.bd_equality.specs.inner.Apart.{HasVariable, JoinsAll}
use Rattle.bd_equality.specs.inner.Means.{edge}
use Rattle.bd_equality.specs.inner.Sets.{variable_of}

-- an edge between the vertices of two constants of the group
pub record JoinsGroup (nodes : List Node) (syms : List FlatSym) (marked : Option (List ℕ)) (group : List ℕ) (edge : Edge) : Type 0 where
  pub f : ℕ
  pub g : ℕ
  pub has_f : Contains group f
  pub has_g : Contains group g
  pub from : IsConstant nodes syms marked f edge.from
  pub to : IsConstant nodes syms marked g edge.to
  pub below : edge.from < edge.to

module _ (nodes : List Node) (syms : List FlatSym) (marked : Option (List ℕ)) (variables : List (ℕ × ℕ)) (are : (f x : ℕ) → (variable_of variables f ≡ Some x) ↔ IsConstant nodes syms marked f x) where
  -- the vertices of a group are joined by these edges alone
  pub joins_vertices : (group vertices : List ℕ) → ((x : ℕ) → Contains vertices x ↔ HasVariable variables group x) → (e : Edge) → JoinsAll vertices vertices e ↔ JoinsGroup nodes syms marked group e
  joins_vertices group vertices has e = (
    λ j.
        let a = (has e.from).0 j.from in
        let b = (has e.to).0 j.to in
        record { f = a.f; g = b.f; has_f = a.has; has_g = b.has; from = (are a.f e.from).0 a.variable; to = (are b.f e.to).0 b.variable; below = j.below },
    λ j. record {
      from = (has e.from).1 (record { f = j.f; has = j.has_f; variable = (are j.f e.from).1 j.from });
      to = (has e.to).1 (record { f = j.g; has = j.has_g; variable = (are j.g e.to).1 j.to });
      below = j.below;
    },
  )

  -- so are those of each group
  pub apart_group : (distinct : List (List ℕ)) (group : List ℕ) (e : Edge) → Contains distinct group → JoinsGroup nodes syms marked group e → IsApart nodes syms distinct marked e
  apart_group distinct group e h j = record { group = group; f = j.f; g = j.g; listed = h; has_f = j.has_f; has_g = j.has_g; from = j.from; to = j.to; below = j.below }

-- an item has an index
pub item_of : {X : Type 0} (xs : List X) (x d : X) → Contains xs x → (k : ℕ) × (k < length xs) × (slice_index_or xs k d ≡ x)
item_of xs x d (k, lt, e) = (k, lt, get_or_default xs k d x lt ∙ e)

one_item : (a x : ℕ) → Contains (a ∷ []) x → a ≡ x
one_item a x (zero, lt, e) = e
one_item a x (suc k, lt, e) = absurd (omega arith)

-- an edge from the one
pub from_one : (a : ℕ) (ys : List ℕ) (e : Edge) → JoinsAll (a ∷ []) ys e → a ≡ e.from
from_one a ys e j = one_item a e.from j.from

pub joins_one : (a : ℕ) (ys : List ℕ) (b : ℕ) → Contains ys b → a < b → JoinsAll (a ∷ []) ys (record { from = a; to = b })
joins_one a ys b h lt = record { from = (0, omega arith, refl); to = h; below = lt }

pub joins_more : (a : ℕ) (xs ys : List ℕ) (e : Edge) → Contains xs a → JoinsAll (a ∷ []) ys e → JoinsAll xs ys e
joins_more a xs ys e h j = record { from = subst (Contains xs) (from_one a ys e j) h; to = j.to; below = j.below }

-- so far a vertex is joined to the first of the vertices
pub record JoinsSome (from : ℕ) (vertices : List ℕ) (count : ℕ) (old new : List Edge) : Type 0 where
  pub sound : (e : Edge) → Contains new e → Contains old e ⊎ JoinsAll (from ∷ []) vertices e
  pub stays : (e : Edge) → Contains old e → Contains new e
  pub joined : (k : ℕ) → k < count → from < slice_index_or vertices k 0 → Contains new (edge from (slice_index_or vertices k 0))

pub JoinsSome-start : (from : ℕ) (vertices : List ℕ) (old : List Edge) → JoinsSome from vertices 0 old old
JoinsSome-start from vertices old = record { sound = λ e h. inl h; stays = λ e h. h; joined = λ k lt. absurd (omega arith) }

pub JoinsSome-more : (from : ℕ) (vertices : List ℕ) (count : ℕ) (old new new' : List Edge) → JoinsSome from vertices count old new → count < length vertices → from < slice_index_or vertices count 0
    → ((e : Edge) → Contains new' e ↔ (Contains new e ⊎ (edge from (slice_index_or vertices count 0) ≡ e))) → JoinsSome from vertices (count + 1) old new'
JoinsSome-more from vertices count old new new' h inside lt has =
    let to = slice_index_or vertices count 0 in
    record {
      sound = λ e k. elim ((has e).0 k) [
        | inl q ↦ h.sound e q
        | inr q ↦ inr (subst (JoinsAll (from ∷ []) vertices) q (joins_one from vertices to (Contains-get_or vertices count 0 inside) lt))
      ];
      stays = λ e k. (has e).1 (inl (h.stays e k));
      joined = λ k l m. elim (below_last k count l) [
        | inl q ↦ (has (edge from (slice_index_or vertices k 0))).1 (inl (h.joined k q m))
        | inr q ↦ (has (edge from (slice_index_or vertices k 0))).1 (inr (ap (λ j. edge from (slice_index_or vertices j 0)) (sym q)))
      ];
    }

pub JoinsSome-pass : (from : ℕ) (vertices : List ℕ) (count : ℕ) (old new : List Edge) → JoinsSome from vertices count old new → slice_index_or vertices count 0 ≤ from → JoinsSome from vertices (count + 1) old new
JoinsSome-pass from vertices count old new h le = record {
  sound = h.sound;
  stays = h.stays;
  joined = λ k l m. elim (below_last k count l) [
    | inl q ↦ h.joined k q m
    | inr q ↦ let lt : from < slice_index_or vertices count 0 = subst (λ j. from < slice_index_or vertices j 0) q m in absurd (omega arith)
  ];
}

pub JoinsSome-end : (from : ℕ) (vertices : List ℕ) (count : ℕ) (old new : List Edge) → JoinsSome from vertices count old new → length vertices ≤ count → (e : Edge) → Contains new e ↔ (Contains old e ⊎ JoinsAll (from ∷ []) vertices e)
JoinsSome-end from vertices count old new h all e = (
  h.sound e,
  λ k. elim k [
    | inl q ↦ h.stays e q
    | inr q ↦
        let i = item_of vertices e.to 0 q.to in
        let is = from_one from vertices e q in
        let lt : from < e.to = subst (λ x. x < e.to) (sym is) q.below in
        subst (Contains new) (λ j. edge (is j) (i.2 j)) (h.joined i.0 (omega (arith, i.1)) (subst (λ x. from < x) (sym i.2) lt))
  ],
)

-- so far the first of the vertices are joined to all
pub record JoinsMost (vertices : List ℕ) (count : ℕ) (old new : List Edge) : Type 0 where
  pub sound : (e : Edge) → Contains new e → Contains old e ⊎ JoinsAll vertices vertices e
  pub stays : (e : Edge) → Contains old e → Contains new e
  pub joined : (k : ℕ) (e : Edge) → k < count → JoinsAll (slice_index_or vertices k 0 ∷ []) vertices e → Contains new e

pub JoinsMost-start : (vertices : List ℕ) (old : List Edge) → JoinsMost vertices 0 old old
JoinsMost-start vertices old = record { sound = λ e h. inl h; stays = λ e h. h; joined = λ k e lt. absurd (omega arith) }

pub JoinsMost-more : (vertices : List ℕ) (count : ℕ) (old new new' : List Edge) → JoinsMost vertices count old new → count < length vertices
    → ((e : Edge) → Contains new' e ↔ (Contains new e ⊎ JoinsAll (slice_index_or vertices count 0 ∷ []) vertices e)) → JoinsMost vertices (count + 1) old new'
JoinsMost-more vertices count old new new' h inside has = record {
  sound = λ e k. elim ((has e).0 k) [
    | inl q ↦ h.sound e q
    | inr q ↦ inr (joins_more (slice_index_or vertices count 0) vertices vertices e (Contains-get_or vertices count 0 inside) q)
  ];
  stays = λ e k. (has e).1 (inl (h.stays e k));
  joined = λ k e l j. elim (below_last k count l) [
    | inl q ↦ (has e).1 (inl (h.joined k e q j))
    | inr q ↦ (has e).1 (inr (subst (λ i. JoinsAll (slice_index_or vertices i 0 ∷ []) vertices e) q j))
  ];
}

pub JoinsMost-end : (vertices : List ℕ) (count : ℕ) (old new : List Edge) → JoinsMost vertices count old new → length vertices ≤ count → (e : Edge) → Contains new e ↔ (Contains old e ⊎ JoinsAll vertices vertices e)
JoinsMost-end vertices count old new h all e = (
  h.sound e,
  λ k. elim k [
    | inl q ↦ h.stays e q
    | inr q ↦
        let i = item_of vertices e.from 0 q.from in
        h.joined i.0 e (omega (arith, i.1)) (record { from = (0, omega arith, i.2); to = q.to; below = q.below })
  ],
)

-- so far the constants of the first groups are joined
pub record JoinsGroups (nodes : List Node) (syms : List FlatSym) (distinct : List (List ℕ)) (marked : Option (List ℕ)) (count : ℕ) (pairs : List Edge) : Type 0 where
  pub sound : (e : Edge) → Contains pairs e → IsApart nodes syms distinct marked e
  pub joined : (k : ℕ) (e : Edge) → k < count → JoinsGroup nodes syms marked (slice_index_or distinct k []) e → Contains pairs e

pub JoinsGroups-start : (nodes : List Node) (syms : List FlatSym) (distinct : List (List ℕ)) (marked : Option (List ℕ)) (pairs : List Edge) → pairs ≡ [] → JoinsGroups nodes syms distinct marked 0 pairs
JoinsGroups-start nodes syms distinct marked pairs e = record {
  sound = λ x h. let none : Contains [] x = subst (λ l. Contains l x) e h in absurd (omega (arith, none.1));
  joined = λ k x lt. absurd (omega arith);
}

module _ (nodes : List Node) (syms : List FlatSym) (distinct : List (List ℕ)) (marked : Option (List ℕ)) (variables : List (ℕ × ℕ)) (are : (f x : ℕ) → (variable_of variables f ≡ Some x) ↔ IsConstant nodes syms marked f x) where
  pub JoinsGroups-more : (count : ℕ) (group vertices : List ℕ) (pairs pairs' : List Edge) → JoinsGroups nodes syms distinct marked count pairs → count < length distinct → slice_index_or distinct count [] ≡ group
      → ((x : ℕ) → Contains vertices x ↔ HasVariable variables group x) → ((e : Edge) → Contains pairs' e ↔ (Contains pairs e ⊎ JoinsAll vertices vertices e)) → JoinsGroups nodes syms distinct marked (count + 1) pairs'
  JoinsGroups-more count group vertices pairs pairs' h inside is has adds =
      let listed : Contains distinct group = subst (Contains distinct) is (Contains-get_or distinct count [] inside) in
      record {
        sound = λ e k. elim ((adds e).0 k) [
          | inl q ↦ h.sound e q
          | inr q ↦ apart_group nodes syms marked variables are distinct group e listed ((joins_vertices nodes syms marked variables are group vertices has e).0 q)
        ];
        joined = λ k e l j. elim (below_last k count l) [
          | inl q ↦ (adds e).1 (inl (h.joined k e q j))
          | inr q ↦
              let here : JoinsGroup nodes syms marked group e = subst (λ x. JoinsGroup nodes syms marked x e) (ap (λ i. slice_index_or distinct i []) q ∙ is) j in
              (adds e).1 (inr ((joins_vertices nodes syms marked variables are group vertices has e).1 here))
        ];
      }

pub JoinsGroups-end : (nodes : List Node) (syms : List FlatSym) (distinct : List (List ℕ)) (marked : Option (List ℕ)) (count : ℕ) (pairs : List Edge) → JoinsGroups nodes syms distinct marked count pairs → length distinct ≤ count
    → (e : Edge) → Contains pairs e ↔ IsApart nodes syms distinct marked e
JoinsGroups-end nodes syms distinct marked count pairs h all e = (
  h.sound e,
  λ a.
      let i = item_of distinct a.group [] a.listed in
      h.joined i.0 e (omega (arith, i.1))
      (subst (λ x. JoinsGroup nodes syms marked x e) (sym i.2) (record { f = a.f; g = a.g; has_f = a.has_f; has_g = a.has_g; from = a.from; to = a.to; below = a.below })),
)

-- so far the variables of the first constants of a group are listed
pub record ListsSome (variables : List (ℕ × ℕ)) (group : List ℕ) (count : ℕ) (vertices : List ℕ) : Type 0 where
  pub sound : (x : ℕ) → Contains vertices x → HasVariable variables group x
  pub complete : (k x : ℕ) → k < count → variable_of variables (slice_index_or group k 0) ≡ Some x → Contains vertices x

pub ListsSome-start : (variables : List (ℕ × ℕ)) (group vertices : List ℕ) → vertices ≡ [] → ListsSome variables group 0 vertices
ListsSome-start variables group vertices e = record {
  sound = λ x h. let none : Contains [] x = subst (λ l. Contains l x) e h in absurd (omega (arith, none.1));
  complete = λ k x lt. absurd (omega arith);
}

pub ListsSome-more : (variables : List (ℕ × ℕ)) (group : List ℕ) (count y : ℕ) (vertices new : List ℕ) → ListsSome variables group count vertices → count < length group
    → variable_of variables (slice_index_or group count 0) ≡ Some y → new ≡ vertices ++ y ∷ [] → ListsSome variables group (count + 1) new
ListsSome-more variables group count y vertices new h inside is e = record {
  sound = λ x k. elim (Contains-push_cases vertices y x (subst (λ l. Contains l x) e k)) [
    | inl q ↦ h.sound x q
    | inr q ↦ record { f = slice_index_or group count 0; has = Contains-get_or group count 0 inside; variable = is ∙ ap Some q }
  ];
  complete = λ k x l m. subst (λ l. Contains l x) (sym e) (elim (below_last k count l) [
    | inl q ↦ Contains-append_left vertices (y ∷ []) x (h.complete k x q m)
    | inr q ↦
        let same : y ≡ x = same_Some y x (sym is ∙ ap (λ i. variable_of variables (slice_index_or group i 0)) (sym q) ∙ m) in
        subst (Contains (vertices ++ y ∷ [])) same (Contains-push vertices y)
  ]);
}

pub ListsSome-pass : (variables : List (ℕ × ℕ)) (group : List ℕ) (count : ℕ) (vertices : List ℕ) → ListsSome variables group count vertices
    → ((y : ℕ) → variable_of variables (slice_index_or group count 0) ≡ Some y → ⊥) → ListsSome variables group (count + 1) vertices
ListsSome-pass variables group count vertices h none = record {
  sound = h.sound;
  complete = λ k x l m. elim (below_last k count l) [
    | inl q ↦ h.complete k x q m
    | inr q ↦ absurd (none x (ap (λ i. variable_of variables (slice_index_or group i 0)) (sym q) ∙ m))
  ];
}

pub ListsSome-end : (variables : List (ℕ × ℕ)) (group : List ℕ) (count : ℕ) (vertices : List ℕ) → ListsSome variables group count vertices → length group ≤ count → (x : ℕ) → Contains vertices x ↔ HasVariable variables group x
ListsSome-end variables group count vertices h all x = (
  h.sound x,
  λ v. let i = item_of group v.f 0 v.has in h.complete i.0 x (omega (arith, i.1)) (ap (variable_of variables) i.2 ∙ v.variable),
)
