-- Triangles of an order and those of its spans.
use Rattle.std.proofs.Common.{◌≡◌, ℕ, ◌<◌, Bool, List, Some, length, get_or, map, sym, ap, subst, ◌∙◌, arith}
use Rattle.std.proofs.lemmas.List.Elements.{All-contains}
use Rattle.bd_transitive.specs.declared.graph.Order.{Order}
use Rattle.bd_transitive.specs.declared.span.Span.{Span}
use Rattle.bd_transitive.specs.Orders.{place, IsOrder}
use Rattle.bd_transitive.specs.Triangle.{IsNotTwo, IsTriangle, MeetsTriangles, AgreesWithClasses}
use Rattle.bd_transitive.specs.inner.Spans.{span, span_between, span_of, IsSpan, IsSpanTriangle, MeetsSpans}
use Rattle.bd_transitive.proofs.Ends.{joins_at-within}
use Rattle.bd_transitive.proofs.NotTwo.{not_two_from}
use Rattle.bd_transitive.proofs.Places.{place-get}
use Rattle.bd_transitive.proofs.OrderSpans.{Contains-from_at, spans_bounded, span_at, span_between_lt, joins_at_places, joins_at_from_span}

module _ (order : Order) (is : IsOrder order) where
  -- three spans make a triangle exactly where their edges do
  pub span_triangle : (d e f : ℕ) → IsTriangle order d e f → IsSpanTriangle (map (span_of order.vertices) order.edges) d e f
  span_triangle d e f t = record {
    low = place order.vertices t.vertex;
    left = place order.vertices t.left;
    right = place order.vertices t.right;
    to_left = span_at order.vertices order.edges d t.vertex t.left t.to_left ∙ ap Some (span_between_lt _ _ t.left_later);
    to_right = span_at order.vertices order.edges e t.vertex t.right t.to_right ∙ ap Some (span_between_lt _ _ t.right_later);
    across = span_at order.vertices order.edges f t.left t.right t.across;
  }

  pub triangle_of_spans : (d e f : ℕ) → IsSpanTriangle (map (span_of order.vertices) order.edges) d e f → IsTriangle order d e f
  triangle_of_spans d e f t =
      let vs = order.vertices in
      let es = order.edges in
      let S : List Span = map (span_of vs) es in
      let bound = spans_bounded vs es is.edges is.ends in
      let in_left = All-contains (IsSpan (length vs)) S (span t.low t.left) bound (Contains-from_at S d _ t.to_left) in
      let in_right = All-contains (IsSpan (length vs)) S (span t.low t.right) bound (Contains-from_at S e _ t.to_right) in
      let a = in_left.0 in
      let b = in_right.0 in
      let left_in = in_left.1 in
      let right_in = in_right.1 in
      let low_is = place-get vs t.low 0 is.vertices (omega arith) in
      let left_is = place-get vs t.left 0 is.vertices left_in in
      let right_is = place-get vs t.right 0 is.vertices right_in in
      record {
        vertex = get_or vs t.low 0;
        left = get_or vs t.left 0;
        right = get_or vs t.right 0;
        to_left = joins_at_places vs es is.vertices d t.low t.left a left_in t.to_left;
        to_right = joins_at_places vs es is.vertices e t.low t.right b right_in t.to_right;
        across = joins_at_from_span vs es f (get_or vs t.left 0) (get_or vs t.right 0) (omega arith) (omega arith)
            (t.across ∙ ap Some (λ j. span_between (sym left_is j) (sym right_is j)));
        left_later = omega arith;
        right_later = omega arith;
      }

  pub spans_from_meets : (value : ℕ → Bool) → MeetsTriangles order value → MeetsSpans (map (span_of order.vertices) order.edges) value
  spans_from_meets value h d e f t = h d e f (triangle_of_spans d e f t)

-- values that come from classes meet the triangles
pub classes_meet : (order : Order) (value : ℕ → Bool) (class : ℕ → ℕ) → AgreesWithClasses order.edges value class → MeetsTriangles order value
classes_meet order value class agrees d e f t =
    let left = agrees d t.vertex t.left t.to_left in
    let right = agrees e t.vertex t.right t.to_right in
    let across = agrees f t.left t.right t.across in
    not_two_from (value d) (value e) (value f)
    (λ a b. across.1 (sym (left.0 a) ∙ right.0 b))
    (λ a b. right.1 (left.0 a ∙ across.0 b))
    (λ a b. left.1 (right.0 a ∙ sym (across.0 b)))

-- values that are the same for each edge meet the triangles alike
pub meets_alike : (order : Order) (value other : ℕ → Bool) → ((e : ℕ) → e < length order.edges → value e ≡ other e) → MeetsTriangles order value → MeetsTriangles order other
meets_alike order value other same h d e f t =
    let same_d = same d (joins_at-within order.edges d t.vertex t.left t.to_left) in
    let same_e = same e (joins_at-within order.edges e t.vertex t.right t.to_right) in
    let same_f = same f (joins_at-within order.edges f t.left t.right t.across) in
    subst (λ x. IsNotTwo x (other e) (other f)) same_d (subst (λ x. IsNotTwo (value d) x (other f)) same_e (subst (λ x. IsNotTwo (value d) (value e) x) same_f (h d e f t)))
