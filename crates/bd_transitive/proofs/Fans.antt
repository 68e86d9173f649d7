-- The triangles of one span with earlier ones from the same place.
use Rattle.std.proofs.Common.{◌≡◌, ◌≢◌, ℕ, ◌<◌, ◌++◌, ◌∷◌, List, [], Contains, Some, get_or, slice_get, refl, sym, ap, subst, ◌∙◌, ⊎_elim, arith}
use Rattle.std.proofs.lemmas.Bool.{cases_order}
use Rattle.std.proofs.lemmas.List.{flat_map_more, append-nil, map_push}
use Rattle.std.proofs.lemmas.List.Elements.{All-contains, All-nil, All-push}
use Rattle.std.proofs.lemmas.Option.{same_Some, get_or_from_slice_get}
use Rattle.bd_cnf.specs.Literal.{Literal}
use Rattle.bd_transitive.specs.declared.span.Span.{Span}
use Rattle.bd_transitive.specs.Clauses.{triangle_clauses}
use Rattle.bd_transitive.specs.Triangle.{Triangle, triangle}
use Rattle.bd_transitive.specs.inner.Spans.{AddsFan, IsComplete, IsEarlier, IsSpan, IsSpanTriangle, span, span_between}
use Rattle.bd_transitive.proofs.Linking.{same_number}
use Rattle.bd_transitive.proofs.OrderSpans.{Contains-from_at, span_between_lt, span_between_comm}

-- a span by its number is one
same_span : (spans : List Span) (e : ℕ) (s t : Span) → slice_get spans e ≡ Some s → slice_get spans e ≡ Some t → s ≡ t
same_span spans e s t at_s at_t = same_Some s t (sym at_s ∙ at_t)

module _ (count : ℕ) (spans : List Span) (complete : IsComplete count spans) where
  bound : (e p q : ℕ) → slice_get spans e ≡ Some (span p q) → (p < q) × (q < count)
  bound e p q at = All-contains (IsSpan count) spans (span p q) complete.bounded (Contains-from_at spans e (span p q) at)

  -- two spans from one place with different numbers lead to different places, and some span leads across
  has_across : (d e p a b : ℕ) → d ≢ e → slice_get spans d ≡ Some (span p a) → slice_get spans e ≡ Some (span p b) → Contains spans (span_between a b)
  has_across d e p a b ne at_d at_e = ⊎_elim
      (λ same. absurd (ne (same_number spans complete.distinct d e (span p b) (at_d ∙ ap Some (λ j. span p (same j))) at_e)))
      (λ o. ⊎_elim
      (λ less. subst (Contains spans) (sym (span_between_lt a b less)) (complete.closed p a b (Contains-from_at spans d (span p a) at_d) (Contains-from_at spans e (span p b) at_e) less))
      (λ more. subst (Contains spans) (sym (span_between_comm a b ∙ span_between_lt b a more)) (complete.closed p b a (Contains-from_at spans e (span p b) at_e) (Contains-from_at spans d (span p a) at_d) more))
      o)
      (cases_order a b)

  -- the span across is another one
  across_apart : (d f p a b : ℕ) → slice_get spans d ≡ Some (span p a) → slice_get spans f ≡ Some (span_between a b) → p < a → p < b → f ≡ d → ⊥
  across_apart d f p a b at_d at_f p_a p_b same =
      let low = ap (λ s. s.low) (same_span spans d (span_between a b) (span p a) (sym (ap (slice_get spans) same) ∙ at_f) at_d) in
      absurd (omega arith)

  -- the three spans of a triangle are different
  pub third_apart : (d e f : ℕ) → IsSpanTriangle spans d e f → (f ≢ d) × (f ≢ e)
  third_apart d e f t =
      let left = (bound d t.low t.left t.to_left).0 in
      let right = (bound e t.low t.right t.to_right).0 in (
        across_apart d f t.low t.left t.right t.to_left t.across left right,
        across_apart e f t.low t.right t.left t.to_right (t.across ∙ ap Some (span_between_comm t.left t.right)) right left,
      )

  pub first_apart : (d e f : ℕ) → IsSpanTriangle spans d e f → d ≢ e
  first_apart d e f t same =
      let ends = ap (λ x. x.high) (same_span spans e (span t.low t.left) (span t.low t.right) (sym (ap (slice_get spans) same) ∙ t.to_left) t.to_right) in
      let less = (All-contains (IsSpan count) spans (span_between t.left t.right) complete.bounded (Contains-from_at spans f (span_between t.left t.right) t.across)).0 in
      absurd (omega arith)

  -- two spans have one triangle
  pub one_across : (d e f g : ℕ) → IsSpanTriangle spans d e f → IsSpanTriangle spans d e g → f ≡ g
  one_across d e f g t u =
      let left = ap (λ s. s.high) (same_span spans d (span t.low t.left) (span u.low u.left) t.to_left u.to_left) in
      let right = ap (λ s. s.high) (same_span spans e (span t.low t.right) (span u.low u.right) t.to_right u.to_right) in
      same_number spans complete.distinct f g (span_between t.left t.right) t.across (u.across ∙ ap Some (λ j. span_between (sym left j) (sym right j)))

-- a span that comes before another from the same place makes a triangle with it and the span across
module _ (count : ℕ) (spans : List Span) (complete : IsComplete count spans) (e d : ℕ) (h : IsEarlier spans e d) where
  pub across_there : Contains spans (span_between (get_or spans d (span 0 0)).high (get_or spans e (span 0 0)).high)
  across_there =
      subst (λ s. Contains spans (span_between s.high (get_or spans e (span 0 0)).high)) (sym (get_or_from_slice_get spans d _ (span 0 0) h.to_left))
      (subst (λ s. Contains spans (span_between h.left s.high)) (sym (get_or_from_slice_get spans e _ (span 0 0) h.to_right))
      (has_across count spans complete d e h.low h.left h.right (λ same. let k = h.before in omega arith) h.to_left h.to_right))

  module _ (f : ℕ) (at : slice_get spans f ≡ Some (span_between (get_or spans d (span 0 0)).high (get_or spans e (span 0 0)).high)) where
    across_at : slice_get spans f ≡ Some (span_between h.left h.right)
    across_at = at ∙ ap Some (λ j. span_between (get_or_from_slice_get spans d (span h.low h.left) (span 0 0) h.to_left j).high (get_or_from_slice_get spans e (span h.low h.right) (span 0 0) h.to_right j).high)

    pub triangle_made : IsSpanTriangle spans d e f
    triangle_made = record { low = h.low; left = h.left; right = h.right; to_left = h.to_left; to_right = h.to_right; across = across_at }

-- no span makes no triangle
pub AddsFan-none : (spans : List Span) (vars : List ℕ) (e : ℕ) (clauses : List (List Literal)) → AddsFan spans vars [] e clauses clauses
AddsFan-none spans vars e clauses = record {
  triangles = [];
  are = record {
    firsts = refl;
    seconds = All-nil (λ (t : Triangle). t.second ≡ e);
    each = All-nil (λ (t : Triangle). IsSpanTriangle spans t.first t.second t.across);
  };
  is = sym (append-nil clauses);
}

-- a span more makes one triangle more
pub AddsFan-push : (spans : List Span) (vars row : List ℕ) (d e f : ℕ) (old mid new : List (List Literal)) → AddsFan spans vars row e old mid → IsSpanTriangle spans d e f
    → new ≡ mid ++ triangle_clauses vars (triangle d e f) → AddsFan spans vars (row ++ d ∷ []) e old new
AddsFan-push spans vars row d e f old mid new h made is = record {
  triangles = h.triangles ++ triangle d e f ∷ [];
  are = record {
    firsts = map_push (λ (t : Triangle). t.first) h.triangles (triangle d e f) ∙ ap (λ l. l ++ d ∷ []) h.are.firsts;
    seconds = All-push (λ (t : Triangle). t.second ≡ e) h.triangles (triangle d e f) h.are.seconds refl;
    each = All-push (λ (t : Triangle). IsSpanTriangle spans t.first t.second t.across) h.triangles (triangle d e f) h.are.each made;
  };
  is = is ∙ ap (λ l. l ++ triangle_clauses vars (triangle d e f)) h.is ∙ flat_map_more (triangle_clauses vars) old h.triangles (triangle d e f);
}
