-- Why the places at which links end are classes.
use Rattle.std.proofs.Common.{◌≡◌, ◌≢◌, ◌⊎◌, ◌↔◌, ℕ, zero, suc, ◌+◌, ◌<◌, ◌≤◌, Bool, true, false, List, AllPairs, Some, length, get_or, set, slice_get, inl, inr, sym, ap, ◌∙◌, ⊎_elim, arith}
use Rattle.std.proofs.lemmas.Bool.{cases_eq, cases_lt, cases_order, false≢true}
use Rattle.std.proofs.lemmas.List.{get_or-set_same, get_or-set_other, length-set}
use Rattle.std.proofs.lemmas.List.Elements.{All-contains}
use Rattle.std.proofs.lemmas.Option.{slice_get_within, get_or_from_slice_get, same_Some}
use Rattle.bd_transitive.specs.declared.span.Span.{Span}
use Rattle.bd_transitive.specs.Triangle.{IsNotTwo}
use Rattle.bd_transitive.specs.inner.Spans.{span, span_between, IsSpan, IsComplete, MeetsSpans}
use Rattle.bd_transitive.specs.inner.Links.{HasNone, HasOne, AreLinks, AreFollowed}
use Rattle.bd_transitive.proofs.NotTwo.{third_true, not_two_turn}
use Rattle.bd_transitive.proofs.OrderSpans.{Contains-from_at, at_from_Contains, span_between_lt, span_between_comm}

-- two spans that are the same have one number
pub same_number : (spans : List Span) → AllPairs (λ s t. s ≢ t) spans → (i j : ℕ) (s : Span) → slice_get spans i ≡ Some s → slice_get spans j ≡ Some s → i ≡ j
same_number spans apart i j s at_i at_j =
    let in_i = slice_get_within spans i s at_i in
    let in_j = slice_get_within spans j s at_j in
    let is_i = get_or_from_slice_get spans i s s at_i in
    let is_j = get_or_from_slice_get spans j s s at_j in
    ⊎_elim (λ e. e) (λ o. ⊎_elim (λ less. absurd (apart i j s less in_j (is_i ∙ sym is_j))) (λ more. absurd (apart j i s more in_i (is_j ∙ sym is_i))) o) (cases_order i j)

module _ (count : ℕ) (spans : List Span) (complete : IsComplete count spans) (value : ℕ → Bool) (meets : MeetsSpans spans value)
    (links ends : List ℕ) (linked : AreLinks spans value count (length spans) links) (followed : AreFollowed links ends 0) where
  is_span : (e p q : ℕ) → slice_get spans e ≡ Some (span p q) → (p < q) × (q < count)
  is_span e p q at = All-contains (IsSpan count) spans (span p q) complete.bounded (Contains-from_at spans e (span p q) at)

  -- what holds of one span, where it holds of those from later places
  agrees_step : (p q e : ℕ) → slice_get spans e ≡ Some (span p q)
      → ((p' q' f : ℕ) → p < p' → slice_get spans f ≡ Some (span p' q') → (value f ≡ true) ↔ (get_or ends p' 0 ≡ get_or ends q' 0))
      → (value e ≡ true) ↔ (get_or ends p 0 ≡ get_or ends q 0)
  agrees_step p q e at known = by (linked.linked p (let a = s.0 in let b = s.1 in omega arith))
    where
      s : (p < q) × (q < count)
      s = is_span e p q at

      size : length links ≡ count
      size = linked.size

      p_in : p < length links
      p_in = let a = s.0 in let b = s.1 in let c = size in omega arith

      q_in : q < length links
      q_in = let b = s.1 in let c = size in omega arith

      m : ℕ
      m = get_or links p 0

      to_m : get_or ends p 0 ≡ get_or ends (get_or links p 0) 0
      to_m = followed.same p (omega arith) p_in

      judged : (i f : ℕ) → slice_get spans i ≡ Some (span p (get_or links p 0)) → value i ≡ true → slice_get spans f ≡ Some (span_between (get_or links p 0) q)
          → (value f ≡ true) ↔ (get_or ends (get_or links p 0) 0 ≡ get_or ends q 0) → (value e ≡ true) ↔ (get_or ends p 0 ≡ get_or ends q 0)
      judged i f at_i is_true at_f third =
          let not_two : IsNotTwo (value i) (value e) (value f) = meets i e f record { low = p; left = get_or links p 0; right = q; to_left = at_i; to_right = at; across = at_f } in (
            λ e_true. to_m ∙ third.0 (third_true (value i) (value e) (value f) not_two is_true e_true),
            λ same. third_true (value i) (value f) (value e) (not_two_turn (value i) (value e) (value f) not_two) is_true (third.1 (sym to_m ∙ same)),
          )

      across : (i : ℕ) → slice_get spans i ≡ Some (span p (get_or links p 0)) → value i ≡ true → (get_or links p 0 ≡ q → ⊥) → (value e ≡ true) ↔ (get_or ends p 0 ≡ get_or ends q 0)
      across i at_i is_true ne =
          let here = Contains-from_at spans e (span p q) at in
          let there = Contains-from_at spans i (span p (get_or links p 0)) at_i in
          let later = (is_span i p (get_or links p 0) at_i).0 in
          ⊎_elim (λ same. absurd (ne same)) (λ o. ⊎_elim
          (λ less.
          let f = at_from_Contains spans (span (get_or links p 0) q) (complete.closed p (get_or links p 0) q there here less) in
          judged i f.0 at_i is_true (f.1 ∙ ap Some (sym (span_between_lt (get_or links p 0) q less))) (known (get_or links p 0) q f.0 later f.1))
          (λ more.
          let f = at_from_Contains spans (span q (get_or links p 0)) (complete.closed p q (get_or links p 0) here there more) in
          let third = known q (get_or links p 0) f.0 s.0 f.1 in
          judged i f.0 at_i is_true (f.1 ∙ ap Some (sym (span_between_lt q (get_or links p 0) more) ∙ span_between_comm q (get_or links p 0))) (λ t. sym (third.0 t), λ t. third.1 (sym t)))
          o) (cases_order (get_or links p 0) q)

      by : ((get_or links p 0 ≡ p) × HasNone spans value (length spans) p) ⊎ HasOne spans value p (get_or links p 0) → (value e ≡ true) ↔ (get_or ends p 0 ≡ get_or ends q 0)
      by (inl alone) =
          let is_false = alone.1 e q (slice_get_within spans e (span p q) at) at in
          let own = followed.own p (omega arith) p_in alone.0 in
          let above = (followed.bounded q q_in).0 in
          let a = s.0 in
          (λ is_true. absurd (false≢true (sym is_false ∙ is_true)), λ same. absurd (omega arith))
      by (inr one) = ⊎_elim
          (λ same_end.
          let number : one.0 ≡ e = same_number spans complete.distinct one.0 e (span p q) (one.1 ∙ ap Some (λ j. span p (same_end j))) at in
          (λ _. to_m ∙ ap (λ x. get_or ends x 0) same_end, λ _. sym (ap value number) ∙ one.2))
          (λ ne. across one.0 one.1 one.2 ne)
          (cases_eq (get_or links p 0) q)

  agrees_from : (n p q e : ℕ) → count ≤ p + n → slice_get spans e ≡ Some (span p q) → (value e ≡ true) ↔ (get_or ends p 0 ≡ get_or ends q 0)
  agrees_from zero p q e near at = let s = is_span e p q at in let a = s.0 in let b = s.1 in absurd (omega arith)
  agrees_from (suc n) p q e near at = agrees_step p q e at (λ p' q' f later at'. agrees_from n p' q' f (omega arith) at')

  -- two ends of a span are in one class exactly where it is true
  pub agrees_at : (e p q : ℕ) → slice_get spans e ≡ Some (span p q) → (value e ≡ true) ↔ (get_or ends p 0 ≡ get_or ends q 0)
  agrees_at e p q at = agrees_from count p q e (omega arith) at

-- at first each place is linked to itself
pub links_none : (spans : List Span) (value : ℕ → Bool) (count : ℕ) (links : List ℕ) → length links ≡ count → ((p : ℕ) → p < count → get_or links p 0 ≡ p) → AreLinks spans value count 0 links
links_none spans value count links size own = record {
  size = size;
  bounded = λ p lt. let e = own p lt in (omega arith, omega arith);
  linked = λ p lt. inl (own p lt, λ e q below at. absurd (omega arith));
}

module _ (spans : List Span) (value : ℕ → Bool) (count n : ℕ) (links : List ℕ) (s : Span) (at : slice_get spans n ≡ Some s) (h : AreLinks spans value count n links) where
  -- a false span changes no link
  pub links_false : value n ≡ false → AreLinks spans value count (n + 1) links
  links_false is_false = record {
    size = h.size;
    bounded = h.bounded;
    linked = λ p lt. ⊎_elim
        (λ alone. inl (alone.0, λ e q below at_e. ⊎_elim (λ less. alone.1 e q less at_e) (λ more. let same : e ≡ n = omega arith in ap value same ∙ is_false) (cases_lt e n)))
        (λ one. inr one)
        (h.linked p lt);
  }

  -- a true one is the link of its first end
  pub links_true : s.low < s.high → s.high < count → value n ≡ true → AreLinks spans value count (n + 1) (set links s.low s.high)
  links_true less within is_true = record {
    size = length-set links s.low s.high ∙ h.size;
    bounded = λ p lt. ⊎_elim
        (λ e. let k = here p e in (omega arith, omega arith))
        (λ ne. let k = other p ne in let b = h.bounded p lt in let b0 = b.0 in let b1 = b.1 in (omega arith, omega arith))
        (cases_eq p s.low);
    linked = λ p lt. ⊎_elim
        (λ e. inr (n, at ∙ ap Some (λ j. span (sym e j) (sym (here p e) j)), is_true))
        (λ ne. ⊎_elim
        (λ alone. inl (
          other p ne ∙ alone.0,
          λ e q below at_e. ⊎_elim
              (λ lower. alone.1 e q lower at_e)
              (λ more. let same : e ≡ n = omega arith in
              absurd (ne (sym (ap (λ t. t.low) (same_Some s (span p q) (sym at ∙ ap (slice_get spans) (sym same) ∙ at_e))))))
              (cases_lt e n),
        ))
        (λ one. inr (one.0, one.1 ∙ ap Some (λ j. span p (sym (other p ne) j)), one.2))
        (h.linked p lt))
        (cases_eq p s.low);
  }
    where
      size : length links ≡ count
      size = h.size

      here : (p : ℕ) → p ≡ s.low → get_or (set links s.low s.high) p 0 ≡ s.high
      here p e = ap (λ x. get_or (set links s.low s.high) x 0) e ∙ get_or-set_same links s.low s.high 0 (omega (arith, size))

      other : (p : ℕ) → p ≢ s.low → get_or (set links s.low s.high) p 0 ≡ get_or links p 0
      other p ne = get_or-set_other links s.low p s.high 0 ne

module _ (links ends : List ℕ) (n : ℕ) (within : n < length links) (bounded : (p : ℕ) → p < length links → (p ≤ get_or links p 0) × (get_or links p 0 < length links))
    (h : AreFollowed links ends (n + 1)) (ahead : (p : ℕ) → p < n + 1 → get_or ends p 0 ≡ p) where
  size : length ends ≡ length links
  size = h.size

  here : get_or (set ends n (get_or ends (get_or links n 0) 0)) n 0 ≡ get_or ends (get_or links n 0) 0
  here = get_or-set_same ends n (get_or ends (get_or links n 0) 0) 0 (omega (arith, size))

  other : (p : ℕ) → p ≢ n → get_or (set ends n (get_or ends (get_or links n 0) 0)) p 0 ≡ get_or ends p 0
  other p ne = get_or-set_other ends n p (get_or ends (get_or links n 0) 0) 0 ne

  -- one place more follows its link
  pub followed_more : AreFollowed links (set ends n (get_or ends (get_or links n 0) 0)) n
  followed_more = record {
    size = length-set ends n (get_or ends (get_or links n 0) 0) ∙ h.size;
    bounded = λ p lt. ⊎_elim
        (λ e.
        let next = bounded n within in
        let next0 = next.0 in
        let b = h.bounded (get_or links n 0) next.1 in
        let b0 = b.0 in
        let b1 = b.1 in
        let k = ap (λ x. get_or (set ends n (get_or ends (get_or links n 0) 0)) x 0) e ∙ here in
        (omega arith, omega arith))
        (λ ne. let k = other p ne in let b = h.bounded p lt in let b0 = b.0 in let b1 = b.1 in (omega arith, omega arith))
        (cases_eq p n);
    own = λ p from lt self. ⊎_elim
        (λ e. ap (λ x. get_or (set ends n (get_or ends (get_or links n 0) 0)) x 0) e ∙ here ∙ ap (λ x. get_or ends x 0) (ap (λ x. get_or links x 0) (sym e) ∙ self ∙ e) ∙ ahead n (omega arith) ∙ sym e)
        (λ ne. other p ne ∙ h.own p (omega arith) lt self)
        (cases_eq p n);
    same = λ p from lt. ⊎_elim
        (λ e. ap (λ x. get_or (set ends n (get_or ends (get_or links n 0) 0)) x 0) e ∙ here ∙ sym (next_of p (ap (λ x. get_or links x 0) e)))
        (λ ne. let b = (bounded p lt).0 in
        other p ne ∙ h.same p (omega arith) lt ∙ sym (other (get_or links p 0) (λ e. omega arith)))
        (cases_eq p n);
  }
    where
      next_of : (p : ℕ) → get_or links p 0 ≡ get_or links n 0 → get_or (set ends n (get_or ends (get_or links n 0) 0)) (get_or links p 0) 0 ≡ get_or ends (get_or links n 0) 0
      next_of p is = ⊎_elim
          (λ e. ap (λ x. get_or (set ends n (get_or ends (get_or links n 0) 0)) x 0) e ∙ here)
          (λ ne. other (get_or links p 0) ne ∙ ap (λ x. get_or ends x 0) is)
          (cases_eq (get_or links p 0) n)

  pub ahead_less : (p : ℕ) → p < n → get_or (set ends n (get_or ends (get_or links n 0) 0)) p 0 ≡ p
  ahead_less p lt = other p (λ e. omega arith) ∙ ahead p (omega arith)

-- at first nothing has followed
pub followed_none : (links ends : List ℕ) → length ends ≡ length links → ((p : ℕ) → p < length links → get_or ends p 0 ≡ p) → AreFollowed links ends (length links)
followed_none links ends size own = record {
  size = size;
  bounded = λ p lt. let e = own p lt in (omega arith, omega arith);
  own = λ p from lt. absurd (omega arith);
  same = λ p from lt. absurd (omega arith);
}
