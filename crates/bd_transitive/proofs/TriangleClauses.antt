-- What the clauses of an order's triangles say.
use Rattle.std.proofs.Common.{◌≡◌, ◌≢◌, ◌↔◌, ℕ, ◌*◌, ◌<◌, ◌≤◌, Bool, List, [], ◌∷◌, All, length, map, refl, ap, sym, ◌∙◌, subst, ⊎_elim, length-append, arith}
use Rattle.std.specs.Prelude.{min, max, slice_index}
use Rattle.std.specs.List.{flat_map}
use Rattle.std.proofs.lemmas.Bool.{and_from, and_parts, cases_order}
use Rattle.std.proofs.lemmas.List.{take_all}
use Rattle.std.proofs.lemmas.List.Elements.{All-append, All-cons, All-contains, All-get_or, All-head, All-nil, All-tail, All-weaker}
use Rattle.std.proofs.lemmas.List.Folds.{list_all-append}
use Rattle.std.proofs.lemmas.Option.{slice_get_within}
use Rattle.bd_cnf.specs.Literal.{Literal}
use Rattle.bd_cnf.specs.Clause.{IsWithin, Satisfies, clause_value, clauses_value}
use Rattle.bd_cnf.specs.Problem.{AreWithin}
use Rattle.bd_transitive.specs.declared.graph.Order.{Order}
use Rattle.bd_transitive.specs.Clauses.{AreTriangleClauses, triangle_clauses}
use Rattle.bd_transitive.specs.Orders.{IsOrder}
use Rattle.bd_transitive.specs.Triangle.{IsNotTwo, IsTriangle, MeetsTriangles, Triangle, edge_value, pair_count, triangle, triangle_count}
use Rattle.bd_transitive.specs.inner.Spans.{AreClausesBelow, IsComplete, IsSpanTriangle, same_low, span_of}
use Rattle.bd_transitive.proofs.Counting.{pair_count-map}
use Rattle.bd_transitive.proofs.Ends.{joins_at-within}
use Rattle.bd_transitive.proofs.Fans.{first_apart, third_apart}
use Rattle.bd_transitive.proofs.Implications.{not_two-satisfied, not_two-within}
use Rattle.bd_transitive.proofs.Meeting.{span_triangle, triangle_of_spans}
use Rattle.bd_transitive.proofs.NotTwo.{not_two_swap, not_two_turn}
use Rattle.bd_transitive.proofs.OrderSpans.{complete_from_order, joins_at_comm}

-- three values, taken by rising number of edge
module _ (w : ℕ → Bool) where
  abbrev Two : ℕ → ℕ → ℕ → Type 0
  Two a b c = IsNotTwo (w a) (w b) (w c)

  same_three : (a b c k l m : ℕ) → a ≡ k → b ≡ l → c ≡ m → Two a b c ↔ Two k l m
  same_three a b c k l m p q r = (
    λ h. subst (λ x. Two x l m) p (subst (λ x. Two a x m) q (subst (λ x. Two a b x) r h)),
    λ h. subst (λ x. Two x b c) (sym p) (subst (λ x. Two k x c) (sym q) (subst (λ x. Two k l x) (sym r) h)),
  )

  by_number : (d e f : ℕ) → d < e → f ≢ d → f ≢ e → Two (min d f) (max d (min f e)) (max e f) ↔ Two d e f
  by_number d e f less ne_d ne_e = ⊎_elim
      (λ same. absurd (ne_d same))
      (λ o. ⊎_elim
      (λ below.
      let h = same_three (min d f) (max d (min f e)) (max e f) f d e (omega arith) (omega arith) (omega arith) in
      (λ x. not_two_turn (w d) (w f) (w e) (not_two_swap (w f) (w d) (w e) (h.0 x)), λ x. h.1 (not_two_swap (w d) (w f) (w e) (not_two_turn (w d) (w e) (w f) x))))
      (λ above. ⊎_elim
      (λ same. absurd (ne_e same))
      (λ p. ⊎_elim
      (λ between.
      let h = same_three (min d f) (max d (min f e)) (max e f) d f e (omega arith) (omega arith) (omega arith) in
      (λ x. not_two_turn (w d) (w f) (w e) (h.0 x), λ x. h.1 (not_two_turn (w d) (w e) (w f) x)))
      (λ last. same_three (min d f) (max d (min f e)) (max e f) d e f (omega arith) (omega arith) (omega arith))
      p)
      (cases_order f e))
      o)
      (cases_order f d)

pub triangle-satisfied : (v : ℕ → Bool) (vars : List ℕ) (d e f : ℕ) → d < e → f ≢ d → f ≢ e
    → Satisfies v (triangle_clauses vars (triangle d e f)) ↔ IsNotTwo (edge_value v vars d) (edge_value v vars e) (edge_value v vars f)
triangle-satisfied v vars d e f less ne_d ne_e =
    let three = not_two-satisfied v (slice_index vars (min d f)) (slice_index vars (max d (min f e))) (slice_index vars (max e f)) in
    let turned = by_number (edge_value v vars) d e f less ne_d ne_e in
    (λ h. turned.0 (three.0 h), λ h. three.1 (turned.1 h))

-- clauses that are made of parts are satisfied where each part is
module _ {X : Type 0} (part : X → List (List Literal)) (v : ℕ → Bool) where
  parts_satisfied : (xs : List X) → Satisfies v (flat_map part xs) → All (λ x. Satisfies v (part x)) xs
  parts_satisfied [] h = All-nil (λ x. Satisfies v (part x))
  parts_satisfied (x ∷ xs) h =
      let both = and_parts (clauses_value v (part x)) (clauses_value v (flat_map part xs)) (sym (list_all-append (clause_value v) (part x) (flat_map part xs)) ∙ h) in
      All-cons (λ y. Satisfies v (part y)) x xs both.0 (parts_satisfied xs both.1)

  satisfied_parts : (xs : List X) → All (λ x. Satisfies v (part x)) xs → Satisfies v (flat_map part xs)
  satisfied_parts [] h = refl
  satisfied_parts (x ∷ xs) h =
      list_all-append (clause_value v) (part x) (flat_map part xs)
      ∙ and_from (clauses_value v (part x)) (clauses_value v (flat_map part xs)) (All-head (λ y. Satisfies v (part y)) x xs h) (satisfied_parts xs (All-tail (λ y. Satisfies v (part y)) x xs h))

module _ (order : Order) (is : IsOrder order) (vars : List ℕ) (clauses : List (List Literal)) (t : AreTriangleClauses order vars clauses) where
  complete : IsComplete (length order.vertices) (map (span_of order.vertices) order.edges)
  complete = complete_from_order order is

  apart : (d e f : ℕ) → IsTriangle order d e f → (f ≢ d) × (f ≢ e)
  apart d e f made = third_apart (length order.vertices) (map (span_of order.vertices) order.edges) complete d e f (span_triangle order is d e f made)

  different : (d e f : ℕ) → IsTriangle order d e f → d ≢ e
  different d e f made = first_apart (length order.vertices) (map (span_of order.vertices) order.edges) complete d e f (span_triangle order is d e f made)

  -- they are met exactly where in no triangle exactly two edges are true
  pub clauses_meet : (v : ℕ → Bool) → Satisfies v clauses ↔ MeetsTriangles order (edge_value v vars)
  clauses_meet v = (to, from) where
    rising : Satisfies v clauses → (d e f : ℕ) → d < e → IsTriangle order d e f → IsNotTwo (edge_value v vars d) (edge_value v vars e) (edge_value v vars f)
    rising sat d e f less made =
        let parts = parts_satisfied (triangle_clauses vars) v t.triangles (sym (ap (clauses_value v) t.is) ∙ sat) in
        let ne = apart d e f made in
        (triangle-satisfied v vars d e f less ne.0 ne.1).0 (All-contains (λ (x : Triangle). Satisfies v (triangle_clauses vars x)) t.triangles (triangle d e f) parts (t.are.all d e f less made))

    to : Satisfies v clauses → MeetsTriangles order (edge_value v vars)
    to sat d e f made = ⊎_elim
        (λ same. absurd (different d e f made same))
        (λ o. ⊎_elim
        (λ less. rising sat d e f less made)
        (λ more. not_two_swap (edge_value v vars e) (edge_value v vars d) (edge_value v vars f) (rising sat e d f more (record {
          vertex = made.vertex;
          left = made.right;
          right = made.left;
          to_left = made.to_right;
          to_right = made.to_left;
          across = joins_at_comm order.edges f made.left made.right made.across;
          left_later = made.right_later;
          right_later = made.left_later;
        })))
        o)
        (cases_order d e)

    from : MeetsTriangles order (edge_value v vars) → Satisfies v clauses
    from meets = ap (clauses_value v) t.is ∙ satisfied_parts (triangle_clauses vars) v t.triangles
        (All-weaker (λ (x : Triangle). (x.first < x.second) × IsTriangle order x.first x.second x.across) (λ (x : Triangle). Satisfies v (triangle_clauses vars x))
        (λ x made.
        let ne = apart x.first x.second x.across made.1 in
        (triangle-satisfied v vars x.first x.second x.across made.0 ne.0 ne.1).1 (meets x.first x.second x.across made.1))
        t.triangles t.are.each)

  three_each : (ts : List Triangle) → length (flat_map (triangle_clauses vars) ts) ≡ 3 * length ts
  three_each [] = refl
  three_each (x ∷ xs) =
      let rest = three_each xs in
      let whole = length-append (triangle_clauses vars x) (flat_map (triangle_clauses vars) xs) in
      omega arith

  pub clauses_counted : length clauses ≡ 3 * triangle_count order
  clauses_counted = ap length t.is ∙ three_each t.triangles ∙ ap (λ n. 3 * n) t.are.counted

  pub clauses_within : (n : ℕ) → length vars ≡ length order.edges → All (λ x. x ≤ n) vars → AreWithin n clauses
  clauses_within n size low = subst (AreWithin n) (sym t.is) (by t.triangles t.are.each) where
    at : (e : ℕ) → e < length order.edges → slice_index vars e ≤ n
    at e lt = All-get_or (λ x. x ≤ n) vars e 0 (omega (arith, size)) low

    one : (x : Triangle) → IsTriangle order x.first x.second x.across → AreWithin n (triangle_clauses vars x)
    one x made =
        let d = joins_at-within order.edges x.first made.vertex made.left made.to_left in
        let e = joins_at-within order.edges x.second made.vertex made.right made.to_right in
        let f = joins_at-within order.edges x.across made.left made.right made.across in
        not_two-within n (slice_index vars (min x.first x.across)) (slice_index vars (max x.first (min x.across x.second))) (slice_index vars (max x.second x.across))
        (at (min x.first x.across) (omega arith)) (at (max x.first (min x.across x.second)) (omega arith)) (at (max x.second x.across) (omega arith))

    by : (ts : List Triangle) → All (λ (x : Triangle). (x.first < x.second) × IsTriangle order x.first x.second x.across) ts → AreWithin n (flat_map (triangle_clauses vars) ts)
    by [] h = All-nil (IsWithin n)
    by (x ∷ xs) h =
        All-append (IsWithin n) (triangle_clauses vars x) (flat_map (triangle_clauses vars) xs)
        (one x (All-head (λ (y : Triangle). (y.first < y.second) × IsTriangle order y.first y.second y.across) x xs h).1)
        (by xs (All-tail (λ (y : Triangle). (y.first < y.second) × IsTriangle order y.first y.second y.across) x xs h))

-- the triangles of an order's spans are those of the order
pub clauses_from_spans : (order : Order) → IsOrder order → (vars : List ℕ) (clauses : List (List Literal))
    → AreClausesBelow (map (span_of order.vertices) order.edges) vars (length (map (span_of order.vertices) order.edges)) clauses → AreTriangleClauses order vars clauses
clauses_from_spans order is vars clauses h = record {
  triangles = h.triangles;
  are = record {
    each = All-weaker (λ (t : Triangle). (t.first < t.second) × IsSpanTriangle (map (span_of order.vertices) order.edges) t.first t.second t.across) (λ (t : Triangle). (t.first < t.second) × IsTriangle order t.first t.second t.across)
        (λ t made. (made.0, triangle_of_spans order is t.first t.second t.across made.1)) h.triangles h.are.each;
    all = λ d e f less t.
        let made = span_triangle order is d e f t in
        h.are.all d e f less (slice_get_within (map (span_of order.vertices) order.edges) e _ made.to_right) made;
    counted = h.are.counted ∙ ap (pair_count same_low) (take_all (length (map (span_of order.vertices) order.edges)) (map (span_of order.vertices) order.edges) (omega arith)) ∙ pair_count-map same_low (span_of order.vertices) order.edges;
  };
  is = h.is;
}
