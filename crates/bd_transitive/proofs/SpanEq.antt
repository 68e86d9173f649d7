-- Equality of spans, as the sets of spans use it.
use Rattle.std.proofs.Common.{◌≡◌, ◌<◌, Bool, true, false, Some, None, length, get_or, position, slice_get, ⊎_elim, arith, List, [], ◌∷◌, ◌++◌, Contains, eqb, cond, not, refl, sym, ap, ◌∙◌}
use Rattle.std.specs.Bool.{Decides}
use Rattle.std.specs.List.{list_any, position_or_len}
use Rattle.std.specs.Prelude.{unwrap_or}
use Rattle.std.proofs.lemmas.Bool.{and_parts, and_from, eqb-true, eq-eqb, true≢false, cases_lt, lt-ltb}
use Rattle.std.proofs.lemmas.List.Sums.{fails_before_first, passes_at_first}
use Rattle.std.proofs.lemmas.Option.{slice_get-get_or}
use Rattle.indexmap.specs.IndexSet.{insert_key}
use Rattle.indexmap.proofs.CallerLemmas.{Contains-list_any}
use Rattle.bd_transitive.specs.contracts.span.SpanPartialEq.TheImpl.{eq-value}
use Rattle.bd_transitive.specs.declared.span.Span.{Span}
use Rattle.bd_transitive.specs.inner.Spans.{span}

-- the derived `==`
abbrev pub span_eq : Span → Span → Bool
span_eq = (eq-value).it

pub span_same : (s t : Span) → span_eq s t ≡ true → s ≡ t
span_same s t h = let p = and_parts (eqb s.low t.low) (eqb s.high t.high) h in (λ j. span (eqb-true s.low t.low p.0 j) (eqb-true s.high t.high p.1 j))

pub span_decides : (s t : Span) → Decides (span_eq s t) (s ≡ t)
span_decides s t = (span_same s t, λ e. and_from (eqb s.low t.low) (eqb s.high t.high) (eq-eqb _ _ (ap (λ x. x.low) e)) (eq-eqb _ _ (ap (λ x. x.high) e)))

module _ (spans new : List Span) (s : Span) (added : Bool) (is : new ≡ insert_key span_eq spans s) (was : added ≡ not (list_any (span_eq s) spans)) where
  -- a new span goes last
  pub inserted_new : added ≡ true → new ≡ spans ++ s ∷ []
  inserted_new is_true = by (list_any (span_eq s) spans) refl
    where
      by : (b : Bool) → list_any (span_eq s) spans ≡ b → new ≡ spans ++ s ∷ []
      by true e = absurd (true≢false (sym is_true ∙ was ∙ ap not e))
      by false e = is ∙ ap (λ b. cond b spans (spans ++ s ∷ [])) e

  -- one that was there changes nothing
  pub inserted_there : added ≡ false → (new ≡ spans) × Contains spans s
  inserted_there is_false = by (list_any (span_eq s) spans) refl
    where
      by : (b : Bool) → list_any (span_eq s) spans ≡ b → (new ≡ spans) × Contains spans s
      by true e = (is ∙ ap (λ b. cond b spans (spans ++ s ∷ [])) e, Contains-list_any span_eq span_same spans s e)
      by false e = absurd (true≢false (sym (was ∙ ap not e) ∙ is_false))

-- what a look-up answers for a span that is there
pub slice_get-position : (spans : List Span) (s : Span) → Contains spans s → slice_get spans (unwrap_or (position (span_eq s) spans) 0) ≡ Some s
slice_get-position spans s at =
    let n = position_or_len (span_eq s) spans in
    let itself : span_eq s (get_or spans at.0 s) ≡ true = (span_decides s (get_or spans at.0 s)).1 (sym at.2) in
    let lt : n < length spans = ⊎_elim (λ less. less)
    (λ ge. absurd (true≢false (sym itself ∙ fails_before_first (span_eq s) spans at.0 s (omega (arith, at.1)))))
    (cases_lt n (length spans)) in
    let found : unwrap_or (position (span_eq s) spans) 0 ≡ n = ap (λ b. unwrap_or (cond b (Some n) None) 0) (lt-ltb n (length spans) lt) in
    ap (slice_get spans) found ∙ slice_get-get_or spans n s lt ∙ ap Some (sym (span_same s (get_or spans n s) (passes_at_first (span_eq s) spans s lt)))
