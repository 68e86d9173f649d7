-- Values that meet the triangles have classes (Bryant and Velev 2000), as a fact that needs no memory.
use Rattle.std.proofs.Common.{◌≡◌, ℕ, zero, suc, ◌+◌, ◌<◌, ◌≤◌, Bool, List, All, length, get_or, map, set, sym, ◌∙◌, subst, inl, inr, arith}
use Rattle.std.proofs.lemmas.Bool.{cases_Bool}
use Rattle.std.proofs.lemmas.List.FromFn.{get_or-range_with_len, length-range_with_len}
use Rattle.std.proofs.lemmas.Option.{slice_get-get_or}
use Rattle.std.specs.List.{range_with_len}
use Rattle.bd_transitive.specs.declared.graph.Order.{Order}
use Rattle.bd_transitive.specs.Orders.{IsOrder}
use Rattle.bd_transitive.specs.Triangle.{AgreesWithClasses, MeetsTriangles, class_of}
use Rattle.bd_transitive.specs.inner.Spans.{IsSpan, span, span_of}
use Rattle.bd_transitive.specs.inner.Links.{AreFollowed, AreLinks}
use Rattle.bd_transitive.proofs.Linking.{followed_more, followed_none, links_false, links_none, links_true, ahead_less}
use Rattle.bd_transitive.proofs.OrderSpans.{complete_from_order}
use Rattle.bd_transitive.proofs.ClassesAgree.{classes_agree, classes_below}

own-places : (n p : ℕ) → p < n → get_or (range_with_len 0 n) p 0 ≡ p
own-places n p lt = get_or-range_with_len 0 n p 0 lt ∙ omega arith

module _ (order : Order) (value : ℕ → Bool) (bounded : All (IsSpan (length order.vertices)) (map (span_of order.vertices) order.edges)) where
  links-more : (n : ℕ) → n < length (map (span_of order.vertices) order.edges) → (links : List ℕ) × AreLinks (map (span_of order.vertices) order.edges) value (length order.vertices) n links
      → (links : List ℕ) × AreLinks (map (span_of order.vertices) order.edges) value (length order.vertices) (n + 1) links
  links-more n lt (links, h) =
      let spans = map (span_of order.vertices) order.edges in
      let s = get_or spans n (span 0 0) in
      let at = slice_get-get_or spans n (span 0 0) lt in
      let bound = bounded n (span 0 0) lt in
      elim (cases_Bool (value n)) [
        | inl holds ↦ (set links s.low s.high, links_true spans value (length order.vertices) n links s at h bound.0 bound.1 holds)
        | inr fails ↦ (links, links_false spans value (length order.vertices) n links s at h fails)
      ]

  links-to : (n : ℕ) → n ≤ length (map (span_of order.vertices) order.edges) → (links : List ℕ) × AreLinks (map (span_of order.vertices) order.edges) value (length order.vertices) n links
  links-to zero le = (
    range_with_len 0 (length order.vertices),
    links_none (map (span_of order.vertices) order.edges) value (length order.vertices) (range_with_len 0 (length order.vertices)) (length-range_with_len 0 (length order.vertices)) (own-places (length order.vertices)),
  )
  links-to (suc n) le =
      let more = links-more n (omega (arith, le)) (links-to n (omega (arith, le))) in
      let is : n + 1 ≡ suc n = omega arith in
      (more.0, subst (λ k. AreLinks (map (span_of order.vertices) order.edges) value (length order.vertices) k more.0) is more.1)

record IsFollowedFrom (links ends : List ℕ) (n : ℕ) : Type 0 where
  done : AreFollowed links ends n
  ahead : (p : ℕ) → p < n → get_or ends p 0 ≡ p

module _ (links : List ℕ) (bounded : (p : ℕ) → p < length links → (p ≤ get_or links p 0) × (get_or links p 0 < length links)) where
  followed-more : (n : ℕ) → n < length links → (ends : List ℕ) × IsFollowedFrom links ends (n + 1) → (ends : List ℕ) × IsFollowedFrom links ends n
  followed-more n within (ends, h) = (
    set ends n (get_or ends (get_or links n 0) 0),
    record {
      done = followed_more links ends n within bounded h.done h.ahead;
      ahead = ahead_less links ends n within bounded h.done h.ahead;
    },
  )

  -- the first so many places from the end on
  followed-from : (k n : ℕ) → n + k ≡ length links → (ends : List ℕ) × IsFollowedFrom links ends n
  followed-from zero n e =
      let is : length links ≡ n = omega (arith, e) in
      let own : (p : ℕ) → p < length links → get_or (range_with_len 0 (length links)) p 0 ≡ p = own-places (length links) in (
        range_with_len 0 (length links),
        subst (IsFollowedFrom links (range_with_len 0 (length links))) is (record { done = followed_none links (range_with_len 0 (length links)) (length-range_with_len 0 (length links)) own; ahead = own }),
      )
  followed-from (suc k) n e =
      let is : n + 1 ≡ suc n = omega arith in
      let rest = followed-from k (n + 1) (omega (arith, e)) in
      followed-more n (omega (arith, e)) rest

-- classes that agree with the edges
pub record HasClasses (order : Order) (value : ℕ → Bool) : Type 0 where
  pub classes : List ℕ
  pub agrees : AgreesWithClasses order.edges value (class_of order.vertices classes)
  pub below : All (λ class. class < length order.vertices) classes

pub classes-exist : (order : Order) → IsOrder order → (value : ℕ → Bool) → MeetsTriangles order value → HasClasses order value
classes-exist order is value meets =
    let spans = map (span_of order.vertices) order.edges in
    let count : ℕ = length order.vertices in
    let linked = links-to order value (complete_from_order order is).bounded (length spans) (omega arith) in
    let links : List ℕ = linked.0 in
    let are : AreLinks spans value count (length spans) links = linked.1 in
    let bounded : (p : ℕ) → p < length links → (p ≤ get_or links p 0) × (get_or links p 0 < length links) =
    subst (λ n. (p : ℕ) → p < n → (p ≤ get_or links p 0) × (get_or links p 0 < n)) (sym are.size) are.bounded in
    let followed = followed-from links bounded (length links) 0 (omega arith) in
    record {
      classes = followed.0;
      agrees = classes_agree order is value meets links followed.0 are followed.1.done;
      below = classes_below links followed.0 count are.size followed.1.done;
    }
