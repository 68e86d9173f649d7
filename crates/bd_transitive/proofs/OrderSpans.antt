-- Edges and their spans: what is said of vertices of an order, said of places, and back.
use Rattle.std.proofs.Common.{◌≡◌, ◌≢◌, ℕ, ◌<◌, List, [], ◌∷◌, All, AllPairs, Contains, Some, length, get_or, map, min, max, slice_get, inl, inr, refl, sym, ap, subst, ◌∙◌, ⊎_elim, arith}
use Rattle.std.specs.Option.{option_map}
use Rattle.std.proofs.lemmas.Bool.{cases_eq, cases_order}
use Rattle.std.proofs.lemmas.List.{length-map, get_or-map}
use Rattle.std.proofs.lemmas.List.Elements.{All-map, All-from_get_or, All-contains, Contains-get_or, All-head, All-tail}
use Rattle.std.proofs.lemmas.Option.{slice_get-map, slice_get_within, slice_get-get_or, get_or_from_slice_get, same_Some}
use Rattle.bd_transitive.specs.declared.graph.Edge.{Edge}
use Rattle.bd_transitive.specs.declared.graph.Order.{Order}
use Rattle.bd_transitive.specs.declared.span.Span.{Span}
use Rattle.bd_transitive.specs.Edges.{Joins, JoinsAt, IsEnd, AreEdges}
use Rattle.bd_transitive.specs.Orders.{place, IsLaterNeighbour, IsOrder}
use Rattle.bd_transitive.specs.inner.Spans.{span, span_between, span_of, edge_at, IsSpan, IsComplete}
use Rattle.bd_transitive.proofs.Ends.{no_edge, joins_at, joins_at-within, joins_at-get}
use Rattle.bd_transitive.proofs.Places.{get-place, place-injective, place-Contains, place-get}

-- an item by its place, and the other way round
pub Contains-from_at : {X : Type 0} (xs : List X) (k : ℕ) (x : X) → slice_get xs k ≡ Some x → Contains xs x
Contains-from_at xs k x at = (k, slice_get_within xs k x at, get_or_from_slice_get xs k x x at)

pub at_from_Contains : {X : Type 0} (xs : List X) (x : X) → Contains xs x → (k : ℕ) × (slice_get xs k ≡ Some x)
at_from_Contains xs x at = (at.0, slice_get-get_or xs at.0 x at.1 ∙ ap Some at.2)

-- the order of two places does not matter
pub span_between_comm : (a b : ℕ) → span_between a b ≡ span_between b a
span_between_comm a b = let low : min a b ≡ min b a = omega arith in let high : max a b ≡ max b a = omega arith in (λ j. span (low j) (high j))

pub span_between_lt : (a b : ℕ) → a < b → span_between a b ≡ span a b
span_between_lt a b lt = let low : min a b ≡ a = omega arith in let high : max a b ≡ b = omega arith in (λ j. span (low j) (high j))

-- an edge joins its ends the other way round too
pub joins_at_comm : (es : List Edge) (e a b : ℕ) → JoinsAt es e a b → JoinsAt es e b a
joins_at_comm es e a b h = joins_at es e b a no_edge (joins_at-within es e a b h) (⊎_elim (λ k. inr k) (λ k. inl k) (joins_at-get es e a b no_edge h))

module _ (vs : List ℕ) where
  -- the span of an edge is that between the places of its ends
  pub span_of-joins : (edge : Edge) (a b : ℕ) → Joins edge a b → span_of vs edge ≡ span_between (place vs a) (place vs b)
  span_of-joins edge a b h = ⊎_elim
      (λ k. (λ j. span_between (place vs (k.0 j)) (place vs (k.1 j))))
      (λ k. (λ j. span_between (place vs (k.0 j)) (place vs (k.1 j))) ∙ span_between_comm (place vs b) (place vs a))
      h

  -- and only of an edge that joins these
  pub joins_from_span : (edge : Edge) (a b : ℕ) → place vs a < length vs → place vs b < length vs
      → span_of vs edge ≡ span_between (place vs a) (place vs b) → Joins edge a b
  joins_from_span edge a b in_a in_b is =
      let low : min (place vs edge.from) (place vs edge.to) ≡ min (place vs a) (place vs b) = ap (λ s. s.low) is in
      let high : max (place vs edge.from) (place vs edge.to) ≡ max (place vs a) (place vs b) = ap (λ s. s.high) is in
      ⊎_elim
      (λ e. inl (sym (place-injective vs a edge.from in_a (sym e)), sym (place-injective vs b edge.to in_b (omega arith))))
      (λ ne. inr (sym (place-injective vs b edge.from in_b (omega arith)), sym (place-injective vs a edge.to in_a (omega arith))))
      (cases_eq (place vs edge.from) (place vs a))

  module _ (es : List Edge) where
    spans : List Span
    spans = map (span_of vs) es

    -- the same by the number of the edge
    pub span_at : (e a b : ℕ) → JoinsAt es e a b → slice_get (map (span_of vs) es) e ≡ Some (span_between (place vs a) (place vs b))
    span_at e a b h =
        let lt = joins_at-within es e a b h in
        slice_get-map (span_of vs) es e ∙ ap (option_map (span_of vs)) (slice_get-get_or es e no_edge lt) ∙ ap Some (span_of-joins (get_or es e no_edge) a b (joins_at-get es e a b no_edge h))

    pub joins_at_from_span : (e a b : ℕ) → place vs a < length vs → place vs b < length vs
        → slice_get (map (span_of vs) es) e ≡ Some (span_between (place vs a) (place vs b)) → JoinsAt es e a b
    joins_at_from_span e a b in_a in_b at =
        let within : e < length (map (span_of vs) es) = slice_get_within (map (span_of vs) es) e _ at in
        let lt : e < length es = omega (arith, length-map es (span_of vs)) in
        let is = slice_get-map (span_of vs) es e ∙ ap (option_map (span_of vs)) (slice_get-get_or es e no_edge lt) in
        joins_at es e a b no_edge lt (joins_from_span (get_or es e no_edge) a b in_a in_b (same_Some _ _ (sym is ∙ at)))

    module _ (apart : AllPairs (λ v w. v ≢ w) vs) where
      -- the edge of a span joins the vertices at its ends
      pub joins_at_places : (e p q : ℕ) → p < q → q < length vs → slice_get (map (span_of vs) es) e ≡ Some (span p q) → JoinsAt es e (get_or vs p 0) (get_or vs q 0)
      joins_at_places e p q lt within at =
          let p_is = place-get vs p 0 apart (omega arith) in
          let q_is = place-get vs q 0 apart within in
          joins_at_from_span e (get_or vs p 0) (get_or vs q 0) (omega arith) (omega arith)
          (at ∙ ap Some (sym (span_between_lt p q lt) ∙ (λ j. span_between (sym p_is j) (sym q_is j))))

    -- spans of edges between different vertices of a list
    module _ (edges : AreEdges es) (within : (v : ℕ) → IsEnd es v → Contains vs v) where
      end_places : (e a b : ℕ) → JoinsAt es e a b → (place vs a < length vs) × (place vs b < length vs)
      end_places e a b h = (place-Contains vs a (within a (b, (e, h))), place-Contains vs b (within b (a, (e, joins_at_comm es e a b h))))

      own : (e : ℕ) → e < length es → JoinsAt es e (get_or es e no_edge).from (get_or es e no_edge).to
      own e lt = joins_at es e _ _ no_edge lt (inl (refl, refl))

      pub spans_bounded : All (IsSpan (length vs)) (map (span_of vs) es)
      spans_bounded = All-map (IsSpan (length vs)) (span_of vs) es (All-from_get_or (λ edge. IsSpan (length vs) (span_of vs edge)) es no_edge (λ e lt.
          let edge : Edge = get_or es e no_edge in
          let inside = end_places e edge.from edge.to (own e lt) in
          let apart : place vs edge.from ≢ place vs edge.to = λ same. edges.different e no_edge lt (place-injective vs edge.from edge.to inside.0 same) in
          let in_from = inside.0 in
          let in_to = inside.1 in
          ⊎_elim (λ same. absurd (apart same)) (λ o. ⊎_elim (λ less. (omega arith, omega arith)) (λ more. (omega arith, omega arith)) o) (cases_order (place vs edge.from) (place vs edge.to))))

      pub spans_distinct : AllPairs (λ s t. s ≢ t) (map (span_of vs) es)
      spans_distinct i j d less in_j same =
          let lt : j < length es = omega (arith, length-map es (span_of vs)) in
          let is = sym (get_or-map (span_of vs) es i no_edge d (omega arith)) ∙ same ∙ get_or-map (span_of vs) es j no_edge d lt in
          let inside = end_places j _ _ (own j lt) in
          edges.once i j no_edge less lt (joins_from_span (get_or es i no_edge) (get_or es j no_edge).from (get_or es j no_edge).to inside.0 inside.1 is)

-- an edge made from a span has this span
pub span_of-edge_at : (vs : List ℕ) → AllPairs (λ v w. v ≢ w) vs → (spans : List Span) → All (IsSpan (length vs)) spans → map (span_of vs) (map (edge_at vs) spans) ≡ spans
span_of-edge_at vs apart [] all = refl
span_of-edge_at vs apart (s ∷ ss) all =
    let is = All-head (IsSpan (length vs)) s ss all in
    let less = is.0 in
    let within = is.1 in
    let low = place-get vs s.low 0 apart (omega arith) in
    let high = place-get vs s.high 0 apart within in
    let here = (λ j. span_between (low j) (high j)) ∙ span_between_lt s.low s.high less in
    (λ j. here j ∷ span_of-edge_at vs apart ss (All-tail (IsSpan (length vs)) s ss all) j)

-- the spans of an elimination order
pub complete_from_order : (order : Order) → IsOrder order → IsComplete (length order.vertices) (map (span_of order.vertices) order.edges)
complete_from_order order is = record {
  bounded = spans_bounded order.vertices order.edges is.edges is.ends;
  distinct = spans_distinct order.vertices order.edges is.edges is.ends;
  closed = λ p a b to_a to_b less.
      let vs = order.vertices in
      let es = order.edges in
      let S = map (span_of vs) es in
      let bound = spans_bounded vs es is.edges is.ends in
      let at_a = at_from_Contains S (span p a) to_a in
      let at_b = at_from_Contains S (span p b) to_b in
      let in_a = All-contains (IsSpan (length vs)) S (span p a) bound to_a in
      let in_b = All-contains (IsSpan (length vs)) S (span p b) bound to_b in
      let p_a = in_a.0 in
      let p_b = in_b.0 in
      let a_n = in_a.1 in
      let b_n = in_b.1 in
      let p_is = place-get vs p 0 is.vertices (omega arith) in
      let a_is = place-get vs a 0 is.vertices a_n in
      let b_is = place-get vs b 0 is.vertices b_n in
      let to_x = joins_at_places vs es is.vertices at_a.0 p a p_a a_n at_a.1 in
      let to_y = joins_at_places vs es is.vertices at_b.0 p b p_b b_n at_b.1 in
      let e = is.joined (get_or vs p 0) (get_or vs a 0) (get_or vs b 0) ((at_a.0, to_x), omega arith) ((at_b.0, to_y), omega arith)
      (λ same. let k = ap (place vs) same in absurd (omega arith)) in
      let at = span_at vs es e.0 (get_or vs a 0) (get_or vs b 0) e.1 in
      Contains-from_at S e.0 (span a b) (at ∙ ap Some ((λ j. span_between (a_is j) (b_is j)) ∙ span_between_lt a b less));
}

-- an order is one whose spans are complete
pub order_from_complete : (order : Order) → AllPairs (λ v w. v ≢ w) order.vertices → IsComplete (length order.vertices) (map (span_of order.vertices) order.edges) → IsOrder order
order_from_complete order apart is = record {
  vertices = apart;
  edges = record {
    different = All-from_get_or (λ edge. edge.from ≢ edge.to) es no_edge (λ e lt same.
        let less = (bound_of e lt).0 in
        let k = ap (place vs) same in
        absurd (omega arith));
    once = λ i j d less in_j h.
        is.distinct i j (span_of vs d) less (omega (arith, length-map es (span_of vs)))
        (get_or-map (span_of vs) es i d (span_of vs d) (omega arith) ∙ span_of-joins vs (get_or es i d) _ _ h ∙ sym (get_or-map (span_of vs) es j d (span_of vs d) in_j));
  };
  ends = λ v end. let in_v = (inside end.1.0 v end.0 end.1.1).0 in subst (Contains vs) (get-place vs v 0 in_v) (Contains-get_or vs (place vs v) 0 in_v);
  joined = λ v a b to_a to_b ne.
      let in_a = (inside to_a.0.0 v a to_a.0.1).1 in
      let in_b = (inside to_b.0.0 v b to_b.0.1).1 in
      let near_a = later v a to_a in
      let near_b = later v b to_b in
      ⊎_elim
      (λ same. absurd (ne (place-injective vs a b in_a same)))
      (λ o. ⊎_elim
      (λ less. let at = at_from_Contains S _ (is.closed _ _ _ near_a near_b less) in
      (at.0, joins_at_from_span vs es at.0 a b in_a in_b (at.1 ∙ ap Some (sym (span_between_lt _ _ less)))))
      (λ more. let at = at_from_Contains S _ (is.closed _ _ _ near_b near_a more) in
      (at.0, joins_at_from_span vs es at.0 a b in_a in_b (at.1 ∙ ap Some (sym (span_between_lt _ _ more) ∙ span_between_comm (place vs b) (place vs a)))))
      o)
      (cases_order (place vs a) (place vs b));
}
  where
    vs : List ℕ
    vs = order.vertices

    es : List Edge
    es = order.edges

    S : List Span
    S = map (span_of vs) es

    bound_of : (e : ℕ) → e < length es → IsSpan (length vs) (span_of vs (get_or es e no_edge))
    bound_of e lt = subst (IsSpan (length vs)) (get_or-map (span_of vs) es e no_edge (span 0 0) lt) (is.bounded e (span 0 0) (omega (arith, length-map es (span_of vs))))

    inside : (e a b : ℕ) → JoinsAt es e a b → (place vs a < length vs) × (place vs b < length vs)
    inside e a b h = let k = All-contains (IsSpan (length vs)) S _ is.bounded (Contains-from_at S e _ (span_at vs es e a b h)) in let high = k.1 in (omega arith, omega arith)

    later : (v a : ℕ) → IsLaterNeighbour order v a → Contains S (span (place vs v) (place vs a))
    later v a h = Contains-from_at S h.0.0 _ (span_at vs es h.0.0 v a h.0.1 ∙ ap Some (span_between_lt _ _ h.1))
