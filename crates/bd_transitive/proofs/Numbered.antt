-- Rows of numbers of spans, and the triangles that they find.
use Rattle.std.proofs.Common.{◌≡◌, ℕ, ◌+◌, ◌<◌, cond, eqb, List, [], ◌∷◌, ◌++◌, All, Contains, Some, length, map, get_or, take, replicate, slice_get, refl, sym, ap, subst, ◌∙◌, ⊎_elim, length-append, arith}
use Rattle.std.specs.List.{flat_map}
use Rattle.std.specs.Prelude.{count_by}
use Rattle.std.proofs.lemmas.Bool.{cases_lt}
use Rattle.std.proofs.lemmas.Grind.{flat_map-append}
use Rattle.std.proofs.lemmas.List.{get_or-map, length-map, take_more}
use Rattle.std.proofs.lemmas.List.Elements.{All-append, All-nil, Contains-append_left, Contains-append_right, Contains-get_or}
use Rattle.std.proofs.lemmas.List.Sums.{sum_by_more}
use Rattle.std.proofs.lemmas.Option.{same_Some, slice_get_within, get_or_from_slice_get}
use Rattle.bd_cnf.specs.Literal.{Literal}
use Rattle.bd_transitive.specs.declared.span.Span.{Span}
use Rattle.bd_transitive.specs.Clauses.{triangle_clauses}
use Rattle.bd_transitive.specs.Triangle.{Triangle, pair_count, triangle}
use Rattle.bd_transitive.specs.inner.Spans.{AreClausesBelow, AreFan, AreTrianglesBelow, IsComplete, IsEarlier, IsSpanTriangle, same_low, span}
use Rattle.bd_transitive.specs.inner.Rows.{row, HaveNumbers}
use Rattle.bd_transitive.proofs.Counting.{pair_count_push}
use Rattle.bd_transitive.proofs.Fans.{one_across}
use Rattle.bd_transitive.proofs.Pushed.{pushed, pushed_old, pushed_new, pushed_cases, length-row_pushed, row-empty, length-row_empty}

-- empty rows have no number
pub HaveNumbers-empty : (spans : List Span) (count : ℕ) → HaveNumbers spans (replicate count []) 0
HaveNumbers-empty spans count = record {
  sound = λ p d at. absurd (row-empty count p d at);
  complete = λ p q d below. absurd (omega arith);
  size = λ p. length-row_empty count p;
}

module _ (spans : List Span) (rows : List (List ℕ)) (e : ℕ) (s : Span) (at : slice_get spans e ≡ Some s) (within : s.low < length rows) (h : HaveNumbers spans rows e) where
  -- a number more
  pub HaveNumbers-pushed : HaveNumbers spans (pushed rows s.low e) (e + 1)
  HaveNumbers-pushed = record {
    sound = λ p d there. ⊎_elim
        (λ old. let was = h.sound p d old in let below = was.0 in (omega arith, was.1))
        (λ new. let number = new.1 in (omega arith, (s.high, ap (slice_get spans) (sym number) ∙ at ∙ ap Some (λ j. span (new.0 j) s.high))))
        (pushed_cases rows s.low e within p d there);
    complete = λ p q d below at_d. ⊎_elim
        (λ less. pushed_old rows s.low e within p d (h.complete p q d less at_d))
        (λ ge.
        let number : e ≡ d = omega arith in
        let low = ap (λ t. t.low) (same_Some s (span p q) (sym at ∙ ap (slice_get spans) number ∙ at_d)) in
        subst (λ x. Contains (row (pushed rows s.low e) x) d) low (subst (Contains (row (pushed rows s.low e) s.low)) number (pushed_new rows s.low e within)))
        (cases_lt d e);
    size = λ p.
        length-row_pushed rows s.low e within p
        ∙ ap (λ n. n + cond (eqb s.low p) 1 0) (h.size p)
        ∙ ap (λ (t : Span). count_by (λ x. eqb x.low p) (take e spans) + cond (eqb t.low p) 1 0) (sym (get_or_from_slice_get spans e s (span 0 0) at))
        ∙ sym (sum_by_more (λ (x : Span). cond (eqb x.low p) 1 0) spans e (span 0 0) (slice_get_within spans e s at));
  }

  -- the row of a span has the earlier ones from its place
  pub row_earlier : All (IsEarlier spans e) (row rows s.low)
  row_earlier k d below =
      let was = h.sound s.low (get_or (row rows s.low) k d) (Contains-get_or (row rows s.low) k d below) in
      record { before = was.0; low = s.low; left = was.1.0; right = s.high; to_left = was.1.1; to_right = at }

  -- the triangles of a span with all earlier ones from its place
  module _ (count : ℕ) (complete : IsComplete count spans) (fan : List Triangle) (are : AreFan spans (row rows s.low) e fan) where
    fan-size : length fan ≡ count_by (λ x. eqb x.low s.low) (take e spans)
    fan-size = sym (length-map fan (λ (t : Triangle). t.first)) ∙ ap length are.firsts ∙ h.size s.low

    fan-each : All (λ (t : Triangle). (t.first < t.second) × IsSpanTriangle spans t.first t.second t.across) fan
    fan-each k d lt =
        let t : Triangle = get_or fan k d in
        let inside : k < length (map (λ (x : Triangle). x.first) fan) = omega (arith, length-map fan (λ (x : Triangle). x.first)) in
        let first : Contains (row rows s.low) t.first =
        subst (Contains (row rows s.low)) (ap (λ l. get_or l k 0) (sym are.firsts) ∙ get_or-map (λ (x : Triangle). x.first) fan k d 0 lt)
        (Contains-get_or (row rows s.low) k 0 (subst (λ l. k < length l) are.firsts inside)) in
        let below : t.first < e = (h.sound s.low t.first first).0 in
        let second : t.second ≡ e = are.seconds k d lt in
        (omega arith, are.each k d lt)

    fan-all : (d f : ℕ) → d < e → IsSpanTriangle spans d e f → Contains fan (triangle d e f)
    fan-all d f less t =
        let low = ap (λ (x : Span). x.low) (same_Some s (span t.low t.right) (sym at ∙ t.to_right)) in
        let there : Contains (row rows s.low) d = subst (λ p. Contains (row rows p) d) (sym low) (h.complete t.low t.left d less t.to_left) in
        let named : Contains (map (λ (x : Triangle). x.first) fan) d = subst (λ l. Contains l d) (sym are.firsts) there in
        let k : ℕ = named.0 in
        let inside : k < length fan = let size = length-map fan (λ (x : Triangle). x.first) in let lt = named.1 in omega arith in
        let u : Triangle = get_or fan k (triangle d e f) in
        let first : u.first ≡ d = sym (get_or-map (λ (x : Triangle). x.first) fan k (triangle d e f) d inside) ∙ named.2 in
        let second : u.second ≡ e = are.seconds k (triangle d e f) inside in
        let made : IsSpanTriangle spans d e u.across = subst (λ x. IsSpanTriangle spans x e u.across) first (subst (λ x. IsSpanTriangle spans u.first x u.across) second (are.each k (triangle d e f) inside)) in
        let third : u.across ≡ f = one_across count spans complete d e u.across f made t in
        (k, inside, λ i. triangle (first i) (second i) (third i))

    pub AreTrianglesBelow-more : (triangles : List Triangle) → AreTrianglesBelow spans e triangles → AreTrianglesBelow spans (e + 1) (triangles ++ fan)
    AreTrianglesBelow-more triangles below = record {
      each = All-append (λ (t : Triangle). (t.first < t.second) × IsSpanTriangle spans t.first t.second t.across) triangles fan below.each fan-each;
      all = λ d e' f less in_e t. ⊎_elim
          (λ lower. Contains-append_left triangles fan (triangle d e' f) (below.all d e' f less lower t))
          (λ ge.
          let number : e ≡ e' = omega arith in
          Contains-append_right triangles fan (triangle d e' f)
          (subst (λ n. Contains fan (triangle d n f)) number (fan-all d f (omega arith) (subst (λ n. IsSpanTriangle spans d n f) (sym number) t))))
          (cases_lt e' e);
      counted =
          let whole = length-append triangles fan in
          let old = below.counted in
          let more = pair_count_push same_low (take e spans) s in
          let next : take (e + 1) spans ≡ take e spans ++ s ∷ [] =
          take_more spans e (span 0 0) (slice_get_within spans e s at) ∙ ap (λ (t : Span). take e spans ++ t ∷ []) (get_or_from_slice_get spans e s (span 0 0) at) in
          let now = ap (pair_count same_low) next in
          let size = fan-size in
          omega arith;
    }

    pub AreClausesBelow-more : (vars : List ℕ) (old new : List (List Literal)) → AreClausesBelow spans vars e old → new ≡ old ++ flat_map (triangle_clauses vars) fan
        → AreClausesBelow spans vars (e + 1) new
    AreClausesBelow-more vars old new below is = record {
      triangles = below.triangles ++ fan;
      are = AreTrianglesBelow-more below.triangles below.are;
      is = is ∙ ap (λ l. l ++ flat_map (triangle_clauses vars) fan) below.is ∙ sym (flat_map-append (triangle_clauses vars) below.triangles fan);
    }

-- no span makes no triangle
pub AreClausesBelow-none : (spans : List Span) (vars : List ℕ) → AreClausesBelow spans vars 0 []
AreClausesBelow-none spans vars = record {
  triangles = [];
  are = record {
    each = All-nil (λ (t : Triangle). (t.first < t.second) × IsSpanTriangle spans t.first t.second t.across);
    all = λ d e f less below t. absurd (omega arith);
    counted = refl;
  };
  is = refl;
}
