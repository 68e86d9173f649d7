-- Rows that gain an end when a span is added, and places joined to others.
use Rattle.std.proofs.Common.{◌≡◌, ◌≢◌, ◌⊎◌, ℕ, zero, suc, ◌+◌, cond, eqb, ◌<◌, List, [], ◌∷◌, ◌++◌, Contains, length, set, get_or, replicate, inl, inr, refl, sym, ap, subst, ◌∙◌, ⊎_elim, arith}
use Rattle.std.proofs.lemmas.Bool.{cases_eq, eq-eqb, ne_eqb}
use Rattle.std.proofs.lemmas.List.{get_or-set_same, get_or-set_other, append-nil, append_assoc, length-set, length_push, get_or_read}
use Rattle.std.proofs.lemmas.List.Elements.{Contains-push, Contains-push_cases, Contains-append_left}
use Rattle.bd_list.proofs.Membership.{Contains-none}
use Rattle.bd_transitive.specs.declared.span.Span.{Span}
use Rattle.bd_transitive.specs.inner.Spans.{span}
use Rattle.bd_transitive.specs.inner.Rows.{row, HaveEnds, JoinedToAll}

-- an empty row has nothing
pub row-empty : (count p q : ℕ) → Contains (row (replicate count []) p) q → ⊥
row-empty zero p q at = Contains-none q at
row-empty (suc n) zero q at = Contains-none q at
row-empty (suc n) (suc p) q at = row-empty n p q at

pub length-row_empty : (count p : ℕ) → length (row (replicate count []) p) ≡ 0
length-row_empty zero p = refl
length-row_empty (suc n) zero = refl
length-row_empty (suc n) (suc p) = length-row_empty n p

-- the rows after a push to one of them
pub pushed : List (List ℕ) → ℕ → ℕ → List (List ℕ)
pushed rows low x = set rows low (row rows low ++ x ∷ [])

-- a row that was read, pushed to and written back
pub pushed_is : (rows : List (List ℕ)) (low x : ℕ) (r new : List ℕ) → low < length rows → r ≡ get_or rows low r → new ≡ r ++ x ∷ [] → set rows low new ≡ pushed rows low x
unfolding pushed
pushed_is rows low x r new lt read is = ap (set rows low) (is ∙ ap (λ l. l ++ x ∷ []) (get_or_read rows low r lt read []))

module _ (rows : List (List ℕ)) (low x : ℕ) where
  row-pushed_same : low < length rows → row (pushed rows low x) low ≡ row rows low ++ x ∷ []
  unfolding pushed
  row-pushed_same lt = get_or-set_same rows low (row rows low ++ x ∷ []) [] lt

  row-pushed_other : (p : ℕ) → p ≢ low → row (pushed rows low x) p ≡ row rows p
  unfolding pushed
  row-pushed_other p ne = get_or-set_other rows low p (row rows low ++ x ∷ []) [] ne

  pub length-pushed : length (pushed rows low x) ≡ length rows
  unfolding pushed
  length-pushed = length-set rows low (row rows low ++ x ∷ [])

  module _ (lt : low < length rows) where
    -- what was in a row stays there
    pub pushed_old : (p q : ℕ) → Contains (row rows p) q → Contains (row (pushed rows low x) p) q
    pushed_old p q at = ⊎_elim
        (λ e. subst (λ l. Contains (row (pushed rows low x) l) q) (sym e) (subst (λ l. Contains l q) (sym (row-pushed_same lt))
        (Contains-append_left (row rows low) (x ∷ []) q (subst (λ l. Contains (row rows l) q) e at))))
        (λ ne. subst (λ l. Contains l q) (sym (row-pushed_other p ne)) at)
        (cases_eq p low)

    -- what is pushed is there
    pub pushed_new : Contains (row (pushed rows low x) low) x
    pushed_new = subst (λ l. Contains l x) (sym (row-pushed_same lt)) (Contains-push (row rows low) x)

    -- and nothing else is
    pub pushed_cases : (p q : ℕ) → Contains (row (pushed rows low x) p) q → Contains (row rows p) q ⊎ ((low ≡ p) × (x ≡ q))
    pushed_cases p q at = ⊎_elim
        (λ e. ⊎_elim (λ old. inl (subst (λ l. Contains (row rows l) q) (sym e) old)) (λ same. inr (sym e, same))
        (Contains-push_cases (row rows low) x q (subst (λ l. Contains l q) (row-pushed_same lt) (subst (λ l. Contains (row (pushed rows low x) l) q) e at))))
        (λ ne. inl (subst (λ l. Contains l q) (row-pushed_other p ne) at))
        (cases_eq p low)

    -- the length of each row
    pub length-row_pushed : (p : ℕ) → length (row (pushed rows low x) p) ≡ length (row rows p) + cond (eqb low p) 1 0
    length-row_pushed p = ⊎_elim
        (λ e. subst (λ l. length (row (pushed rows low x) l) ≡ length (row rows l) + cond (eqb low l) 1 0) (sym e)
        (ap length (row-pushed_same lt) ∙ length_push (row rows low) x ∙ ap (λ b. length (row rows low) + cond b 1 0) (sym (eq-eqb low low refl))))
        (λ ne. ap length (row-pushed_other p ne) ∙ omega arith ∙ ap (λ b. length (row rows p) + cond b 1 0) (sym (ne_eqb low p (λ e. ne (sym e)))))
        (cases_eq p low)

-- a row with an end more has the ends of a list with a span more
pub HaveEnds-pushed : (spans : List Span) (rows : List (List ℕ)) (from : ℕ) (s : Span) → s.low < length rows
    → HaveEnds spans rows from → HaveEnds (spans ++ s ∷ []) (pushed rows s.low s.high) from
HaveEnds-pushed spans rows from s lt h = record {
  sound = λ p q le at. ⊎_elim
      (λ old. Contains-append_left spans (s ∷ []) (span p q) (h.sound p q le old))
      (λ new. subst (Contains (spans ++ s ∷ [])) (λ j. span (new.0 j) (new.1 j)) (Contains-push spans s))
      (pushed_cases rows s.low s.high lt p q at);
  complete = λ p q le at. ⊎_elim
      (λ old. pushed_old rows s.low s.high lt p q (h.complete p q le old))
      (λ e. subst (λ t. Contains (row (pushed rows s.low s.high) t.low) t.high) e (pushed_new rows s.low s.high lt))
      (Contains-push_cases spans s (span p q) at);
}

-- empty rows have the ends of no span
pub HaveEnds-empty : (count from : ℕ) → HaveEnds [] (replicate count []) from
HaveEnds-empty count from = record {
  sound = λ p q _ at. absurd (row-empty count p q at);
  complete = λ p q _ at. absurd (Contains-none _ at);
}

module _ (old new : List Span) (low : ℕ) (ends : List ℕ) (x : ℕ) (h : JoinedToAll old new low ends) where
  -- one end more that is joined already
  pub joined_more : ((low ≡ x) ⊎ Contains new (span low x)) → JoinedToAll old new low (ends ++ x ∷ [])
  joined_more done = record {
    added = h.added;
    grown = h.grown;
    from_low = λ a b at. let f = h.from_low a b at in (f.0, Contains-append_left ends (x ∷ []) b f.1, f.2);
    all = λ b at. ⊎_elim (h.all b) (λ e. subst (λ y. (low ≡ y) ⊎ Contains new (span low y)) e done) (Contains-push_cases ends x b at);
  }

  -- one end more that is joined now
  pub joined_added : low < x → JoinedToAll old (new ++ span low x ∷ []) low (ends ++ x ∷ [])
  joined_added lt = record {
    added = h.added ++ span low x ∷ [];
    grown = ap (λ l. l ++ span low x ∷ []) h.grown ∙ append_assoc old h.added (span low x ∷ []);
    from_low = λ a b at. ⊎_elim
        (λ was. let f = h.from_low a b was in (f.0, Contains-append_left ends (x ∷ []) b f.1, f.2))
        (λ e. (sym (ap (λ s. s.low) e), subst (Contains (ends ++ x ∷ [])) (ap (λ s. s.high) e) (Contains-push ends x), subst (λ y. low < y) (ap (λ s. s.high) e) lt))
        (Contains-push_cases h.added (span low x) (span a b) at);
    all = λ b at. ⊎_elim
        (λ was. ⊎_elim (λ e. inl e) (λ there. inr (Contains-append_left new (span low x ∷ []) _ there)) (h.all b was))
        (λ e. inr (subst (λ y. Contains (new ++ span low x ∷ []) (span low y)) e (Contains-push new (span low x))))
        (Contains-push_cases ends x b at);
  }

-- nothing is done for no end
pub joined_none : (spans : List Span) (low : ℕ) → JoinedToAll spans spans low []
joined_none spans low = record {
  added = [];
  grown = sym (append-nil spans);
  from_low = λ a b at. absurd (Contains-none _ at);
  all = λ b at. absurd (Contains-none _ at);
}
