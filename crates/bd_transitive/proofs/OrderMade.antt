-- The order that is made of complete spans.
use Rattle.std.proofs.Common.{◌≡◌, ◌≢◌, ℕ, ◌-◌, ◌<◌, ◌≤◌, List, ◌++◌, AllPairs, Contains, Some, Ok, Err, Result, length, get_or, map, take, drop, slice_get, refl, sym, ap, subst, ◌∙◌, arith}
use Rattle.std.specs.Result.{IfOk}
use Rattle.std.proofs.lemmas.List.{length-map, length-append, map-append, take_at, drop_at, get_or-append_right}
use Rattle.std.proofs.lemmas.List.Elements.{All-drop, All-contains, Contains-get_or}
use Rattle.std.proofs.lemmas.Option.{slice_get-get_or}
use Rattle.bd_transitive.specs.declared.graph.Edge.{Edge}
use Rattle.bd_transitive.specs.declared.span.Span.{Span}
use Rattle.bd_transitive.specs.Edges.{JoinsAt}
use Rattle.bd_transitive.specs.Orders.{IsOrder, IsFillIn}
use Rattle.bd_transitive.specs.inner.Spans.{span, span_of, edge_at, filled_order, IsSpan, IsComplete, IsFilled}
use Rattle.bd_transitive.proofs.Places.{place-get}
use Rattle.bd_transitive.proofs.OrderSpans.{at_from_Contains, joins_at_places, span_of-edge_at, order_from_complete}

-- what holds of the one value that a result may have
pub IfOk-at : {A F : Type 0} (r : Result A F) (x : A) (P : A → Type 0) → IfOk r (λ y. y ≡ x) → P x → IfOk r P
IfOk-at (Ok y) x P is p = subst P (sym is) p
IfOk-at (Err e) x P is p = tt

module _ (vs : List ℕ) (given : List Edge) (all : List Span) (apart : AllPairs (λ v w. v ≢ w) vs)
    (complete : IsComplete (length vs) all) (filled : IsFilled (map (span_of vs) given) all) where
  size : length (map (span_of vs) given) ≡ length given
  size = length-map given (span_of vs)

  dropped : drop (length given) all ≡ filled.added
  dropped = ap (drop (length given)) filled.grown ∙ drop_at (map (span_of vs) given) filled.added (length given) size

  pub given-le : length given ≤ length all
  given-le = omega (arith, ap length filled.grown, length-append (map (span_of vs) given) filled.added, size)

  edges : List Edge
  edges = given ++ map (edge_at vs) (drop (length given) all)

  spans_made : map (span_of vs) (given ++ map (edge_at vs) (drop (length given) all)) ≡ all
  spans_made =
      map-append (span_of vs) given (map (edge_at vs) (drop (length given) all))
      ∙ ap (λ l. map (span_of vs) given ++ l) (span_of-edge_at vs apart (drop (length given) all) (All-drop (IsSpan (length vs)) (length given) all complete.bounded))
      ∙ ap (λ l. map (span_of vs) given ++ l) dropped
      ∙ sym filled.grown

  pub made_order : IsOrder (filled_order vs given all)
  made_order = order_from_complete (filled_order vs given all) apart (subst (IsComplete (length vs)) (sym spans_made) complete)

  pub made_given : take (length given) (filled_order vs given all).edges ≡ given
  made_given = take_at given (map (edge_at vs) (drop (length given) all)) (length given) refl

  at_span : (s : Span) → Contains all s → (s.low < s.high) × (s.high < length vs)
  at_span s at = All-contains (IsSpan (length vs)) all s complete.bounded at

  joins : (k p q : ℕ) → p < q → q < length vs → slice_get all k ≡ Some (span p q) → JoinsAt (filled_order vs given all).edges k (get_or vs p 0) (get_or vs q 0)
  joins k p q lt within at = joins_at_places vs (filled_order vs given all).edges apart k p q lt within (ap (λ l. slice_get l k) spans_made ∙ at)

  pub made_further : (e : ℕ) → length given ≤ e → e < length (filled_order vs given all).edges → IsFillIn (filled_order vs given all) e
  made_further e from below =
      let lt : e < length all = omega (arith, ap length spans_made, length-map (filled_order vs given all).edges (span_of vs)) in
      let s : Span = get_or all e (span 0 0) in
      let is : s ≡ get_or filled.added (e - length given) (span 0 0) =
      ap (λ l. get_or l e (span 0 0)) filled.grown ∙ get_or-append_right (map (span_of vs) given) filled.added (length given) e (span 0 0) size from in
      let inside : e - length given < length filled.added = omega (arith, ap length filled.grown, length-append (map (span_of vs) given) filled.added, size) in
      let was : Contains filled.added s = subst (Contains filled.added) (sym is) (Contains-get_or filled.added (e - length given) (span 0 0) inside) in
      let from_p = filled.fill_in s.low s.high was in
      let p = from_p.0 in
      let here = at_span s (Contains-get_or all e (span 0 0) lt) in
      let to_low = at_span (span p s.low) from_p.1 in
      let to_high = at_span (span p s.high) from_p.2 in
      let h1 = here.0 in
      let h2 = here.1 in
      let h3 = to_low.0 in
      let h4 = to_high.0 in
      let p_is = place-get vs p 0 apart (omega arith) in
      let low_is = place-get vs s.low 0 apart (omega arith) in
      let high_is = place-get vs s.high 0 apart h2 in
      let at_low = at_from_Contains all (span p s.low) from_p.1 in
      let at_high = at_from_Contains all (span p s.high) from_p.2 in (
        get_or vs p 0,
        get_or vs s.low 0,
        get_or vs s.high 0,
        joins e s.low s.high h1 h2 (slice_get-get_or all e (span 0 0) lt),
        ((at_low.0, joins at_low.0 p s.low h3 (omega arith) at_low.1), omega arith),
        ((at_high.0, joins at_high.0 p s.high h4 h2 at_high.1), omega arith),
      )
