-- Why joining the first later neighbour of each vertex to the others is enough.
use Rattle.std.proofs.Common.{◌≡◌, ◌⊎◌, ℕ, zero, suc, ◌+◌, ◌<◌, ◌≤◌, List, [], ◌++◌, All, Contains, get_or, set, inl, inr, sym, ap, subst, ◌∙◌, ⊎_elim, arith}
use Rattle.std.proofs.lemmas.List.{append-nil, append_assoc, get_or-set_other}
use Rattle.std.proofs.lemmas.List.Elements.{All-contains, All-from_get_or, Contains-get_or, Contains-append_left, Contains-append_cases}
use Rattle.bd_list.proofs.Membership.{Contains-none}
use Rattle.bd_transitive.specs.declared.span.Span.{Span}
use Rattle.bd_transitive.specs.inner.Spans.{span, IsSpan, IsClosed, IsFilled}
use Rattle.bd_transitive.specs.inner.Rows.{row, HaveEnds, JoinedToAll}

-- some later place is joined to each other end of the spans from p, and none of these stands before it
pub record IsSettled (spans : List Span) (p : ℕ) : Type 0 where
  pub parent : ℕ
  pub later : p < parent
  pub joined : (q : ℕ) → Contains spans (span p q) → (parent ≡ q) ⊎ ((parent < q) × Contains spans (span parent q))

-- where each place is settled, each two spans from one place have a span between their ends: that of the first
-- end is joined to both, or is one of them
module _ (count : ℕ) (spans : List Span) (bounded : All (IsSpan count) spans) (settled : (p : ℕ) → p < count → IsSettled spans p) where
  is_span : (a b : ℕ) → Contains spans (span a b) → (a < b) × (b < count)
  is_span a b at = All-contains (IsSpan count) spans (span a b) bounded at

  closed_within : (n p a b : ℕ) → a ≤ p + n → Contains spans (span p a) → Contains spans (span p b) → a < b → Contains spans (span a b)
  closed_within zero p a b near to_a to_b lt = let s = is_span p a to_a in absurd (omega arith)
  closed_within (suc n) p a b near to_a to_b lt =
      let to_b_within = is_span p b to_b in
      let s = settled p (omega arith) in
      let has_a = s.joined a to_a in
      let has_b = s.joined b to_b in
      let later = s.later in
      ⊎_elim
      (λ first. ⊎_elim
      (λ same. absurd (omega arith))
      (λ other. subst (λ x. Contains spans (span x b)) first other.1)
      has_b)
      (λ both. ⊎_elim
      (λ same. let before = both.0 in absurd (omega arith))
      (λ other. closed_within n s.parent a b (omega arith) both.1 other.1 lt)
      has_b)
      has_a

  pub closed_from_settled : IsClosed spans
  closed_from_settled p a b to_a to_b lt = closed_within a p a b (omega arith) to_a to_b lt

-- the rows without one that is done
pub HaveEnds-done : (spans : List Span) (rows : List (List ℕ)) (low : ℕ) → HaveEnds spans rows low → HaveEnds spans (set rows low []) (low + 1)
HaveEnds-done spans rows low h = record {
  sound = λ p q le at. h.sound p q (omega arith) (subst (λ l. Contains l q) (other p le) at);
  complete = λ p q le at. subst (λ l. Contains l q) (sym (other p le)) (h.complete p q (omega arith) at);
}
  where
    other : (p : ℕ) → low + 1 ≤ p → row (set rows low []) p ≡ row rows p
    other p le = get_or-set_other rows low p [] [] (λ e. omega arith)

-- a place with no span from it is settled
pub settled_alone : (spans : List Span) (rows : List (List ℕ)) (low : ℕ) → HaveEnds spans rows low → row rows low ≡ [] → IsSettled spans low
settled_alone spans rows low h none = record {
  parent = low + 1;
  later = omega arith;
  joined = λ q at. absurd (Contains-none q (subst (λ l. Contains l q) none (h.complete low q (omega arith) at)));
}

-- spans at the start of which nothing was added
pub filled_none : (spans : List Span) → IsFilled spans spans
filled_none spans = record { added = []; grown = sym (append-nil spans); fill_in = λ a b at. absurd (Contains-none _ at) }

-- the first end of a row is a later place
pub first_later : (count low parent : ℕ) (spans : List Span) (rows : List (List ℕ)) → HaveEnds spans rows low → All (IsSpan count) spans
    → Contains (row rows low) parent → (low < parent) × (parent < count)
first_later count low parent spans rows ends bounded first = All-contains (IsSpan count) spans (span low parent) bounded (ends.sound low parent (omega arith) first)

module _ (count low parent : ℕ) (spans new : List Span) (rows : List (List ℕ)) (ends : HaveEnds spans rows low) (bounded : All (IsSpan count) spans)
    (first : Contains (row rows low) parent) (j : JoinedToAll spans new parent (row rows low)) where
  from_row : (q : ℕ) → Contains (row rows low) q → Contains spans (span low q)
  from_row q at = ends.sound low q (omega arith) at

  at_spans : (a b : ℕ) → Contains spans (span a b) → (a < b) × (b < count)
  at_spans a b at = All-contains (IsSpan count) spans (span a b) bounded at

  parent_later : (low < parent) × (parent < count)
  parent_later = first_later count low parent spans rows ends bounded first

  old : (s : Span) → Contains spans s → Contains new s
  old s at = subst (λ l. Contains l s) (sym j.grown) (Contains-append_left spans j.added s at)

  cases : (a b : ℕ) → Contains new (span a b) → Contains spans (span a b) ⊎ ((a ≡ parent) × Contains (row rows low) b × (parent < b))
  cases a b at = ⊎_elim (λ was. inl was) (λ is. inr (j.from_low a b is)) (Contains-append_cases spans j.added (span a b) (subst (λ l. Contains l (span a b)) j.grown at))

  pub bounded_joined : All (IsSpan count) new
  bounded_joined = All-from_get_or (IsSpan count) new (span 0 0)
      (λ i lt. let s : Span = get_or new i (span 0 0) in
      ⊎_elim (λ was. at_spans s.low s.high was)
      (λ is. let b = at_spans low s.high (from_row s.high is.1) in let e = is.0 in let l = is.2 in (omega arith, omega arith))
      (cases s.low s.high (Contains-get_or new i (span 0 0) lt)))

  pub filled_joined : (given : List Span) → IsFilled given spans → IsFilled given new
  filled_joined given f = record {
    added = f.added ++ j.added;
    grown = j.grown ∙ ap (λ l. l ++ j.added) f.grown ∙ append_assoc given f.added j.added;
    fill_in = λ a b at. ⊎_elim
        (λ was. let w = f.fill_in a b was in (w.0, old _ w.1, old _ w.2))
        (λ is. let w = j.from_low a b is in (low, subst (λ x. Contains new (span low x)) (sym w.0) (old _ (from_row parent first)), old _ (from_row b w.1)))
        (Contains-append_cases f.added j.added (span a b) at);
  }

  pub settled_joined : (p : ℕ) → p < low → IsSettled spans p → IsSettled new p
  settled_joined p lt s = record {
    parent = s.parent;
    later = s.later;
    joined = λ q at. ⊎_elim
        (λ was. ⊎_elim (λ e. inl e) (λ both. inr (both.0, old _ both.1)) (s.joined q was))
        (λ is. let e = is.0 in let l = parent_later in absurd (omega arith))
        (cases p q at);
  }

  pub settled_now : IsSettled new low
  settled_now = record {
    parent = parent;
    later = parent_later.0;
    joined = λ q at. ⊎_elim
        (λ was. ⊎_elim (λ e. inl e)
        (λ there. inr ((All-contains (IsSpan count) new (span parent q) bounded_joined there).0, there))
        (j.all q (ends.complete low q (omega arith) was)))
        (λ is. let e = is.0 in let l = parent_later in absurd (omega arith))
        (cases low q at);
  }
