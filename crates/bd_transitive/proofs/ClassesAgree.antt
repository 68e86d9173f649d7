-- The places at which links end are classes of an order's vertices.
use Rattle.std.proofs.Common.{◌≡◌, ℕ, ◌<◌, Bool, false, List, All, Some, length, get_or, map, slice_index, sym, ap, subst, ◌∙◌, ⊎_elim, arith}
use Rattle.std.proofs.lemmas.Bool.{both_ways, cases_order}
use Rattle.std.proofs.lemmas.List.Elements.{All-contains, All-from_get_or}
use Rattle.bd_transitive.specs.declared.graph.Order.{Order}
use Rattle.bd_transitive.specs.declared.span.Span.{Span}
use Rattle.bd_transitive.specs.Orders.{place, IsOrder}
use Rattle.bd_transitive.specs.Edges.{JoinsAt}
use Rattle.bd_transitive.specs.Triangle.{MeetsTriangles, AgreesWithClasses, BeginClasses, class_of}
use Rattle.bd_transitive.specs.inner.Spans.{span, span_between, span_of, IsSpan}
use Rattle.bd_transitive.specs.inner.Links.{AreLinks, AreFollowed}
use Rattle.bd_transitive.proofs.Linking.{agrees_at}
use Rattle.bd_transitive.proofs.Meeting.{spans_from_meets}
use Rattle.bd_transitive.proofs.Places.{get-place, place-Contains, place-get}
use Rattle.bd_transitive.proofs.OrderSpans.{Contains-from_at, complete_from_order, joins_at_places, span_at, span_between_lt, span_between_comm}

pub classes_agree : (order : Order) → IsOrder order → (value : ℕ → Bool) → MeetsTriangles order value → (links ends : List ℕ)
    → AreLinks (map (span_of order.vertices) order.edges) value (length order.vertices) (length (map (span_of order.vertices) order.edges)) links → AreFollowed links ends 0
    → AgreesWithClasses order.edges value (class_of order.vertices ends)
classes_agree order is value meets links ends linked followed e a b h =
    let vs = order.vertices in
    let S : List Span = map (span_of vs) order.edges in
    let complete = complete_from_order order is in
    let at = span_at vs order.edges e a b h in
    let agrees = agrees_at (length vs) S complete value (spans_from_meets order is value meets) links ends linked followed in
    let bound = (All-contains (IsSpan (length vs)) S (span_between (place vs a) (place vs b)) complete.bounded (Contains-from_at S e (span_between (place vs a) (place vs b)) at)).0 in
    ⊎_elim (λ same. absurd (omega arith)) (λ o. ⊎_elim
    (λ less. agrees e (place vs a) (place vs b) (at ∙ ap Some (span_between_lt (place vs a) (place vs b) less)))
    (λ more.
    let back = agrees e (place vs b) (place vs a) (at ∙ ap Some (span_between_comm (place vs a) (place vs b) ∙ span_between_lt (place vs b) (place vs a) more)) in
    (λ t. sym (back.0 t), λ t. back.1 (sym t)))
    o) (cases_order (place vs a) (place vs b))

-- a vertex from which no true edge leads to a later one keeps its place
pub classes_begin : (order : Order) → IsOrder order → (value : ℕ → Bool) → (links ends : List ℕ)
    → AreLinks (map (span_of order.vertices) order.edges) value (length order.vertices) (length (map (span_of order.vertices) order.edges)) links → AreFollowed links ends 0
    → BeginClasses order value ends
classes_begin order is value links ends linked followed v there none =
    let vs = order.vertices in
    let S : List Span = map (span_of vs) order.edges in
    let p = place vs v in
    let lt : p < length vs = place-Contains vs v there in
    let within : p < length links = omega (arith, lt, linked.size) in
    ⊎_elim
    (λ own. followed.own p (omega arith) within own.0)
    (λ one.
    let q = slice_index links p in
    let bound = All-contains (IsSpan (length vs)) S (span p q) (complete_from_order order is).bounded (Contains-from_at S one.0 (span p q) one.1) in
    let joins = joins_at_places vs order.edges is.vertices one.0 p q bound.0 bound.1 one.1 in
    let from : get_or vs p 0 ≡ v = get-place vs v 0 lt in
    let to : place vs (get_or vs q 0) ≡ q = place-get vs q 0 is.vertices bound.1 in
    let fails : value one.0 ≡ false = none one.0 (get_or vs q 0) (subst (λ x. JoinsAt order.edges one.0 x (get_or vs q 0)) from joins) (omega (arith, bound.0, to)) in
    absurd (both_ways (value one.0) fails one.2))
    (linked.linked p lt)

pub classes_below : (links ends : List ℕ) (n : ℕ) → length links ≡ n → AreFollowed links ends 0 → All (λ class. class < n) ends
classes_below links ends n size followed = All-from_get_or (λ class. class < n) ends 0 (λ p lt. let s = followed.size in let b = (followed.bounded p (omega arith)).1 in omega arith)
