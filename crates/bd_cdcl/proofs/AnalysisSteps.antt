-- An analysis comes down the trail: a place is passed over, kept or resolved; how it begins, and what it ends with.
use Rattle.std.proofs.Common.{◌≡◌, ℕ, ◌+◌, ◌<◌, ◌≤◌, Bool, true, false, List, [], ◌∷◌, ◌++◌, Option, None, Some, length, get_or, set, take, drop, refl, sym, ap, ◌∙◌, subst, inl, inr, arith, eqb, append_assoc, get_or-set_same, get_or-set_other}
use Rattle.std.specs.Prelude.{IsSomeAnd}
use Rattle.std.specs.List.{All}
use Rattle.std.specs.FinMap.{get}
use Rattle.std.proofs.lemmas.Bool.{false≢true, true≢false, cases_eq, cases_lt, cases_Bool, false_from_ne_true, or_from, or_cases, ne_eqb}
use Rattle.std.proofs.lemmas.List.{take-append-drop, drop_more, get_or_default, length-map, get_or-map}
use Rattle.std.proofs.lemmas.List.Folds.{list_any-append}
use Rattle.std.proofs.lemmas.List.Elements.{All-nil, All-cons, All-head, All-tail, All-weaker}
use Rattle.bd_cnf.specs.Literal.{Literal, negate, literal_eq, has_literal, has_variable}
use Rattle.bd_cnf.specs.Clause.{IsRising}
use Rattle.bd_cnf.specs.Standing.{Standing}
use Rattle.bd_cnf.specs.Trail.{is_false, open_literals, IsClosed, IsPartOf}
use Rattle.bd_cnf.proofs.Literals.{literal_eq-true, any_has, has_at, negate_twice}
use Rattle.bd_cnf.proofs.Closed.{has_variable_of, part_variable, part_push, part_not_false}
use Rattle.bd_lrat.specs.declared.line.Hint.TheVariants as hint
use Rattle.bd_lrat.specs.Propagation.{Conflict, propagate}
use Rattle.bd_watch.specs.Levels.{Assigned, assigned, literals, decisions, reasons, IsReason, IsPlaced, IsComplete}
use Rattle.bd_watch.specs.Watching.{front}
use Rattle.bd_watch.proofs.Parts.{has_here, has_single, has_left, has_right, has_either, part_nil, literal_of, open_has, open_from}
use Rattle.bd_watch.proofs.Placed.{complete_at, complete_consistent}
use Rattle.bd_watch.proofs.Fronts.{in_front, place_in_front, place_of, front_within}
use Rattle.bd_watch.proofs.Guards.{front_part, unit_besides, apart_from}
use Rattle.bd_cdcl.specs.inner.Analysis.{marked, IsBeside, Explains, AreUnmarked, IsMarkedIn, IsUnique, IsFound, IsAnalyzing, Marks}
use Rattle.bd_cdcl.proofs.Replay.{chain_conflict}

module _ (trail : List Assigned) where
  module _ (standing : Standing) (all : IsComplete standing trail) where
    pub placed_at : (place : ℕ) (d : Assigned) → place < length trail → IsPlaced standing (front trail place) (get_or trail place d)
    placed_at place d h =
        complete_at standing (take place trail) (get_or trail place d) (drop (place + 1) trail)
        (subst (IsComplete standing) (sym (take-append-drop place trail) ∙ ap (λ es. take place trail ++ es) (drop_more trail place d h)) all)

    -- an entry's variable is in front of no earlier place
    pub free_in_front : (place end : ℕ) (d : Assigned) → end ≤ place → place < length trail → has_variable (front trail end) (get_or trail place d).literal.var ≡ false
    free_in_front place end d h low = part_variable (front trail end) (front trail place) (get_or trail place d).literal.var (front_within trail end place h) (placed_at place d low).unassigned

    -- a variable that is in front of no earlier place isn't the entry's
    pub other_variable : (place end var : ℕ) (d : Assigned) → place < end → place < length trail → has_variable (front trail end) var ≡ false → (get_or trail place d).literal.var ≡ var → ⊥
    other_variable place end var d h low none same =
        false≢true (sym none ∙ subst (λ v. has_variable (front trail end) v ≡ true) same (has_variable_of (front trail end) (get_or trail place d).literal (in_front trail place end d h low)))

-- a marked place before another one, where a literal stands
record IsMarkedFor (trail : List Assigned) (marks : List Bool) (place : ℕ) (l : Literal) (d : Assigned) : Type 0 where
  pub at : ℕ
  pub under : at < place
  pub mark : marked marks at ≡ true
  pub is : (get_or trail at d).literal ≡ l

shrink : (trail : List Assigned) (place var : ℕ) → has_variable (front trail (place + 1)) var ≡ false → has_variable (front trail place) var ≡ false
shrink trail place var none = part_variable (front trail place) (front trail (place + 1)) var (front_within trail place (place + 1) (omega arith)) none

module _ (standing : Standing) (trail : List Assigned) (start : ℕ) (conflict : List Literal) (marks : List Bool) (place : ℕ) (kept : List Literal) (resolved : List Assigned) where
  -- a place that isn't marked
  pub analysis_passes : IsAnalyzing standing trail start conflict marks (place + 1) kept resolved → marked marks place ≡ false → IsAnalyzing standing trail start conflict marks place kept resolved
  analysis_passes is off = record {
    bound = omega (arith, is.bound);
    cleared = λ p h. elim (cases_eq p place) [ inl e ↦ ap (marked marks) e ∙ off | inr apart ↦ is.cleared p (omega (arith, apart)) ];
    explains = λ before so. is.explains before (record {
      inside = so.inside;
      marked_there = λ p d h on. elim (cases_eq p place) [
        | inl e ↦ absurd (false≢true (sym off ∙ subst (λ n. marked marks n ≡ true) e on))
        | inr apart ↦ so.marked_there p d (omega (arith, apart)) on
      ];
      kept_there = so.kept_there;
      apart = so.apart;
    });
    kept_false = is.kept_false;
    kept_after = λ l h. shrink trail place l.var (is.kept_after l h);
    resolved_after = All-weaker (λ (a : Assigned). has_variable (front trail (place + 1)) a.literal.var ≡ false) (λ (a : Assigned). has_variable (front trail place) a.literal.var ≡ false) (λ a. shrink trail place a.literal.var) resolved is.resolved_after;
    disjoint = is.disjoint;
    resolved_inside = is.resolved_inside;
    implied = is.implied;
    found = found kept is.found;
  }
    where
      found : (ks : List Literal) → IsFound trail marks start (place + 1) ks → IsFound trail marks start place ks
      found [] so = record { place = so.place; after = so.after; within = within; is = so.is }
        where
          within : so.place < place
          within = elim (cases_eq so.place place) [
            | inl e ↦ absurd (false≢true (sym off ∙ subst (λ n. marked marks n ≡ true) e so.is))
            | inr apart ↦ omega (arith, apart, so.within)
          ]
      found (u ∷ rest) so = record { free = so.free; others = so.others; unmarked = λ p low high. so.unmarked p low (omega arith) }

  module _ (is : IsAnalyzing standing trail start conflict marks (place + 1) kept resolved) (on : marked marks place ≡ true) (all : IsComplete standing trail) (d : Assigned) where
    abbrev a : Assigned
    a = get_or trail place d

    low : place < length trail
    low = omega (arith, is.bound)

    here : has_literal (literals trail) a.literal ≡ true
    here = front_part trail (place + 1) a.literal (in_front trail place (place + 1) d (omega arith) low)

    -- a place of the last level, where nothing was kept, or one before it
    pub before_start : (u : Literal) (rest : List Literal) → kept ≡ u ∷ rest → place < start
    before_start u rest e = elim (cases_lt place start) [
      | inl h ↦ h
      | inr h ↦ absurd (false≢true (sym ((subst (IsFound trail marks start (place + 1)) e is.found).unmarked place h (omega arith)) ∙ on))
    ]

    pub at_start : kept ≡ [] → start ≤ place
    at_start e = let so = subst (IsFound trail marks start (place + 1)) e is.found in omega (arith, so.after, so.within)

    -- the negation of a marked literal is kept, and if it is the first, no other of the last level is marked
    pub analysis_keeps : (start ≤ place → AreUnmarked marks start place) → place < length marks → IsAnalyzing standing trail start conflict (set marks place false) place (kept ++ negate a.literal ∷ []) resolved
    analysis_keeps lone room = record {
      bound = omega (arith, is.bound);
      cleared = λ p h. elim (cases_eq p place) [
        | inl e ↦ ap (marked (set marks place false)) e ∙ get_or-set_same marks place false false room
        | inr apart ↦ get_or-set_other marks place p false false apart ∙ is.cleared p (omega (arith, apart))
      ];
      explains = λ before so. is.explains before (record {
        inside = so.inside;
        marked_there = λ p e h mark. elim (cases_eq p place) [
          | inl same ↦ subst (λ n. has_literal before (get_or trail n e).literal ≡ true) (sym same)
              (subst (λ (x : Assigned). has_literal before x.literal ≡ true) (get_or_default trail place d e low)
              (subst (λ (l : Literal). has_literal before l ≡ true) (negate_twice a.literal) (so.kept_there (negate a.literal) (has_right kept (negate a.literal ∷ []) (negate a.literal) (has_here (negate a.literal) [])))))
          | inr apart ↦ so.marked_there p e (omega (arith, apart)) (get_or-set_other marks place p false false apart ∙ mark)
        ];
        kept_there = λ l h. so.kept_there l (has_left kept (negate a.literal ∷ []) l h);
        apart = so.apart;
      });
      kept_false = λ l h. has_either kept (negate a.literal ∷ []) l h (is.kept_false l) (λ new. subst (λ (m : Literal). is_false (literals trail) m ≡ true) (sym (has_single l (negate a.literal) new)) twice);
      kept_after = λ l h. has_either kept (negate a.literal ∷ []) l h (λ old. shrink trail place l.var (is.kept_after l old)) (λ new. subst (λ (m : Literal). has_variable (front trail place) m.var ≡ false) (sym (has_single l (negate a.literal) new)) (placed_at trail standing all place d low).unassigned);
      resolved_after = All-weaker (λ (x : Assigned). has_variable (front trail (place + 1)) x.literal.var ≡ false) (λ (x : Assigned). has_variable (front trail place) x.literal.var ≡ false) (λ x. shrink trail place x.literal.var) resolved is.resolved_after;
      disjoint = λ l h. has_either kept (negate a.literal ∷ []) l h (is.disjoint l) (λ new. subst (λ (m : Literal). has_variable (literals resolved) m.var ≡ false) (sym (has_single l (negate a.literal) new)) (unresolved resolved is.resolved_after));
      resolved_inside = is.resolved_inside;
      implied = is.implied;
      found = found kept refl;
    }
      where
        twice : is_false (literals trail) (negate a.literal) ≡ true
        twice = subst (λ (l : Literal). has_literal (literals trail) l ≡ true) (sym (negate_twice a.literal)) here

        unresolved : (rs : List Assigned) → All (λ x. has_variable (front trail (place + 1)) x.literal.var ≡ false) rs → has_variable (literals rs) a.literal.var ≡ false
        unresolved [] after = refl
        unresolved (r ∷ rs) after =
            or_from _ _ (ne_eqb r.literal.var a.literal.var (λ e. other_variable trail standing all place (place + 1) r.literal.var d (omega arith) low (All-head (λ (x : Assigned). has_variable (front trail (place + 1)) x.literal.var ≡ false) r rs after) (sym e)))
            (unresolved rs (All-tail (λ (x : Assigned). has_variable (front trail (place + 1)) x.literal.var ≡ false) r rs after))

        found : (ks : List Literal) → ks ≡ kept → IsFound trail (set marks place false) start place (ks ++ negate a.literal ∷ [])
        found [] e =
            let after : start ≤ place = at_start (sym e) in
            record {
              free = free_in_front trail standing all place start d after low;
              others = λ l h. absurd (false≢true h);
              unmarked = λ p from under. get_or-set_other marks place p false false (λ same. absurd (omega arith)) ∙ lone after p from under;
            }
        found (u ∷ rest) e =
            let under : place < start = before_start u rest (sym e) in
            let so = subst (IsFound trail marks start (place + 1)) (sym e) is.found in
            record {
              free = so.free;
              others = λ l h. has_either rest (negate a.literal ∷ []) l h (so.others l) (λ new. subst (λ (m : Literal). is_false (front trail start) m ≡ true) (sym (has_single l (negate a.literal) new))
                  (subst (λ (m : Literal). has_literal (front trail start) m ≡ true) (sym (negate_twice a.literal)) (in_front trail place start d under low)));
              unmarked = λ p from below. absurd (omega arith);
            }

    -- a marked literal is resolved with its reason, and if it is of the last level, another there is marked
    module _ (mid : List Bool) (id : ℕ) (clause : List Literal) (sets : Marks trail clause marks mid) (reason : a.reason ≡ Some id) (stands : get standing id ≡ Some clause) (rising : IsRising clause) (room : place < length marks) where
      unit : open_literals (front trail place) clause ≡ a.literal ∷ []
      unit = at a.reason reason (placed_at trail standing all place d low).reason
        where
          at : (r : Option ℕ) → r ≡ Some id → IsReason standing (front trail place) a.literal r → open_literals (front trail place) clause ≡ a.literal ∷ []
          at None e so = cc
          at (Some q) e so = let same : q ≡ id = cc in subst (λ o. IsSomeAnd o (λ c. open_literals (front trail place) c ≡ a.literal ∷ [])) stands (subst (λ n. IsSomeAnd (get standing n) (λ c. open_literals (front trail place) c ≡ a.literal ∷ [])) same so)

      implied_here : has_literal clause a.literal ≡ true
      implied_here = (open_has (front trail place) clause a.literal (subst (λ ls. has_literal ls a.literal ≡ true) (sym unit) (has_here a.literal []))).0

      false_others : (l : Literal) → has_literal clause l ≡ true → literal_eq l a.literal ≡ false → is_false (front trail place) l ≡ true
      false_others l h apart = elim (cases_Bool (is_false (front trail place) l)) [
        | inl e ↦ e
        | inr e ↦ absurd (apart_from l a.literal apart (has_single l a.literal (subst (λ ls. has_literal ls l ≡ true) unit (open_from (front trail place) clause l h e))))
      ]

      -- the clause's variables are in front of the next place
      variables_after : (p : ℕ) (e : Assigned) → place < p → p < length trail → has_variable clause (get_or trail p e).literal.var ≡ false
      variables_after p e h within = false_from_ne_true _ (λ there.
          let (l, of_clause, same) = literal_of clause (get_or trail p e).literal.var there in
          let none : has_variable (front trail (place + 1)) l.var ≡ false = subst (λ v. has_variable (front trail (place + 1)) v ≡ false) (sym same) (free_in_front trail standing all p (place + 1) e (omega arith) within) in
          elim (cases_Bool (literal_eq l a.literal)) [
            | inl f ↦ other_variable trail standing all place (place + 1) l.var d (omega arith) low none (ap (λ (m : Literal). m.var) (sym (literal_eq-true l a.literal f)))
            | inr f ↦ false≢true (sym (shrink trail place l.var none) ∙ has_variable_of (front trail place) (negate l) (false_others l of_clause f))
          ])

      abbrev new : List Bool
      new = set mid place false

      -- what was marked in front still is
      still : (p : ℕ) → p < place → marked marks p ≡ true → marked new p ≡ true
      still p h mark = get_or-set_other mid place p false false (λ e. absurd (omega arith)) ∙ mid_mark
        where
          within : p < length trail
          within = omega (arith, low)

          mid_mark : marked mid p ≡ true
          mid_mark = elim (cases_Bool (has_variable clause (get_or trail p d).literal.var)) [
            | inl e ↦ sets.set p d within e
            | inr e ↦ sets.others p (λ _ q. subst (λ (x : Assigned). has_variable clause x.literal.var ≡ false) (get_or_default trail p d q within) e) ∙ mark
          ]

      marked_other : (l : Literal) → has_literal clause l ≡ true → literal_eq l a.literal ≡ false → IsMarkedFor trail new place (negate l) d
      marked_other l h apart =
          let at = place_in_front trail place (negate l) (false_others l h apart) in
          let under : at.place < place = at.before in
          let var : has_variable clause (get_or trail at.place d).literal.var ≡ true = subst (λ v. has_variable clause v ≡ true) (sym (ap (λ (m : Literal). m.var) (at.is d))) (has_variable_of clause l h) in
          record { at = at.place; under = under; mark = get_or-set_other mid place at.place false false (λ e. absurd (omega arith)) ∙ sets.set at.place d at.within var; is = at.is d }

      pub analysis_resolves : (start ≤ place → IsMarkedIn marks start place) → IsAnalyzing standing trail start conflict (set mid place false) place kept (a ∷ resolved)
      analysis_resolves more = record {
        bound = omega (arith, is.bound);
        cleared = cleared;
        explains = explains;
        kept_false = is.kept_false;
        kept_after = λ l h. shrink trail place l.var (is.kept_after l h);
        resolved_after = All-cons (λ (x : Assigned). has_variable (front trail place) x.literal.var ≡ false) a resolved (placed_at trail standing all place d low).unassigned
            (All-weaker (λ (x : Assigned). has_variable (front trail (place + 1)) x.literal.var ≡ false) (λ (x : Assigned). has_variable (front trail place) x.literal.var ≡ false) (λ x. shrink trail place x.literal.var) resolved is.resolved_after);
        disjoint = λ l h. or_from _ _ (ne_eqb a.literal.var l.var (other_variable trail standing all place (place + 1) l.var d (omega arith) low (is.kept_after l h))) (is.disjoint l h);
        resolved_inside = λ l h. elim (or_cases (literal_eq l a.literal) _ h) [
          | inl e ↦ subst (λ (m : Literal). has_literal (literals trail) m ≡ true) (sym (literal_eq-true l a.literal e)) here
          | inr e ↦ is.resolved_inside l e
        ];
        implied = no_decision a.reason reason;
        found = found kept refl;
      }
        where
          cleared : (p : ℕ) → place ≤ p → marked (set mid place false) p ≡ false
          cleared p h = elim (cases_eq p place) [
            | inl e ↦ ap (marked (set mid place false)) e ∙ get_or-set_same mid place false false (omega (arith, sets.size))
            | inr apart ↦ get_or-set_other mid place p false false apart ∙ sets.others p (λ within e. variables_after p e (omega (arith, apart)) within) ∙ is.cleared p (omega (arith, apart))
          ]

          no_decision : (r : Option ℕ) → r ≡ Some id → decisions (assigned a.literal r ∷ resolved) ≡ []
          no_decision None e = cc
          no_decision (Some q) e = is.implied

          found : (ks : List Literal) → ks ≡ kept → IsFound trail (set mid place false) start place ks
          found [] e =
              let so = more (at_start (sym e)) in
              record { place = so.place; after = so.after; within = so.within; is = still so.place so.within so.is }
          found (u ∷ rest) e =
              let under : place < start = before_start u rest (sym e) in
              let so = subst (IsFound trail marks start (place + 1)) (sym e) is.found in
              record { free = so.free; others = so.others; unmarked = λ p from below. absurd (omega arith) }

          explains : (before : List Literal) → IsBeside trail (set mid place false) place kept (a ∷ resolved) before → Explains standing before (a ∷ resolved) conflict
          explains before so =
              let rest = is.explains (before ++ a.literal ∷ []) (record {
                inside = part_push before (literals trail) a.literal so.inside here;
                marked_there = λ p e h mark. elim (cases_eq p place) [
                  | inl same ↦ subst (λ n. has_literal (before ++ a.literal ∷ []) (get_or trail n e).literal ≡ true) (sym same)
                      (subst (λ (x : Assigned). has_literal (before ++ a.literal ∷ []) x.literal ≡ true) (get_or_default trail place d e low) (has_right before (a.literal ∷ []) a.literal (has_here a.literal [])))
                  | inr apart ↦ let under : p < place = omega (arith, apart) in has_left before (a.literal ∷ []) _ (so.marked_there p e under (still p under mark))
                ];
                kept_there = λ l h. has_left before (a.literal ∷ []) (negate l) (so.kept_there l h);
                apart = apart_more resolved (All-tail (λ (x : Assigned). has_variable before x.literal.var ≡ false) a resolved so.apart) is.resolved_after;
              }) in
              record {
                placed = (record { unassigned = All-head (λ (x : Assigned). has_variable before x.literal.var ≡ false) a resolved so.apart; reason = reason_there a.reason reason }, rest.placed);
                conflicting = ap (λ ls. open_literals ls conflict) (sym (append_assoc before (a.literal ∷ []) (literals resolved))) ∙ rest.conflicting;
              }
            where
              apart_more : (rs : List Assigned) → All (λ x. has_variable before x.literal.var ≡ false) rs → All (λ x. has_variable (front trail (place + 1)) x.literal.var ≡ false) rs → All (λ x. has_variable (before ++ a.literal ∷ []) x.literal.var ≡ false) rs
              apart_more rs none after k e h =
                  let x = get_or rs k e in
                  list_any-append (λ (m : Literal). eqb m.var x.literal.var) before (a.literal ∷ [])
                  ∙ or_from _ _ (none k e h) (or_from _ _ (ne_eqb a.literal.var x.literal.var (other_variable trail standing all place (place + 1) x.literal.var d (omega arith) low (after k e h))) refl)

              clause_unit : open_literals before clause ≡ a.literal ∷ []
              clause_unit = unit_besides before clause a.literal rising implied_here
                  (λ l h apart. let other = marked_other l h apart in subst (λ (m : Literal). has_literal before m ≡ true) other.is (so.marked_there other.at d other.under other.mark))
                  (part_not_false before (literals trail) a.literal so.inside (complete_consistent standing trail all a.literal here))

              reason_there : (r : Option ℕ) → r ≡ Some id → IsReason standing before a.literal r
              reason_there None e = cc
              reason_there (Some q) e = let same : id ≡ q = cc in subst (λ n. IsSomeAnd (get standing n) (λ c. open_literals before c ≡ a.literal ∷ [])) same (subst (λ o. IsSomeAnd o (λ c. open_literals before c ≡ a.literal ∷ [])) (sym stands) clause_unit)

-- an analysis begins with the marks of the false clause, which has a literal of the last level
pub analysis_begins : (standing : Standing) (trail : List Assigned) (start : ℕ) (conflict : List Literal) (old marks : List Bool) → IsComplete standing trail → ((place : ℕ) → marked old place ≡ false) → Marks trail conflict old marks → open_literals (literals trail) conflict ≡ [] → IsClosed (front trail start) conflict → IsAnalyzing standing trail start conflict marks (length trail) [] []
analysis_begins standing trail start conflict old marks all clear sets bad closed = record {
  bound = omega arith;
  cleared = λ p h. sets.others p (λ within d. absurd (omega arith)) ∙ clear p;
  explains = λ before so. record {
    placed = tt;
    conflicting = none (open_literals (before ++ []) conflict) (λ l h.
        let both = open_has (before ++ []) conflict l h in
        let at = place_of trail (negate l) (on_trail l both.0) in
        let d : Assigned = assigned l None in
        let there : has_literal before (negate l) ≡ true = subst (λ (m : Literal). has_literal before m ≡ true) (at.is d) (so.marked_there at.place d at.within (sets.set at.place d at.within (subst (λ v. has_variable conflict v ≡ true) (sym (ap (λ (m : Literal). m.var) (at.is d))) (has_variable_of conflict l both.0)))) in
        true≢false (sym (has_left before [] (negate l) there) ∙ both.1));
  };
  kept_false = λ l h. absurd (false≢true h);
  kept_after = λ l h. absurd (false≢true h);
  resolved_after = All-nil (λ (a : Assigned). has_variable (front trail (length trail)) a.literal.var ≡ false);
  disjoint = λ l h. absurd (false≢true h);
  resolved_inside = part_nil (literals trail);
  implied = refl;
  found = last closed;
}
  where
    none : (ls : List Literal) → ((l : Literal) → has_literal ls l ≡ true → ⊥) → ls ≡ []
    none [] nowhere = refl
    none (l ∷ ls) nowhere = absurd (nowhere l (has_here l ls))

    on_trail : (l : Literal) → has_literal conflict l ≡ true → is_false (literals trail) l ≡ true
    on_trail l h = elim (cases_Bool (is_false (literals trail) l)) [
      | inl e ↦ e
      | inr e ↦ absurd (false≢true (subst (λ ls. has_literal ls l ≡ true) bad (open_from (literals trail) conflict l h e)))
    ]

    -- a literal of the clause that isn't false in front
    open_one : (l : Literal) → has_literal conflict l ≡ true → is_false (front trail start) l ≡ false → IsMarkedIn marks start (length trail)
    open_one l here not_false =
        let at = place_of trail (negate l) (on_trail l here) in
        let d : Assigned = assigned l None in
        record {
          place = at.place;
          after = elim (cases_lt at.place start) [
            | inl h ↦ absurd (true≢false (sym (subst (λ (m : Literal). has_literal (front trail start) m ≡ true) (at.is d) (in_front trail at.place start d h at.within)) ∙ not_false))
            | inr h ↦ h
          ];
          within = at.within;
          is = sets.set at.place d at.within (subst (λ v. has_variable conflict v ≡ true) (sym (ap (λ (m : Literal). m.var) (at.is d))) (has_variable_of conflict l here));
        }

    last : IsClosed (front trail start) conflict → IsMarkedIn marks start (length trail)
    last (inl holds) =
        let (l, here, on) = any_has (has_literal (front trail start)) conflict holds in
        absurd (true≢false (sym (on_trail l here) ∙ complete_consistent standing trail all l (front_part trail start l on)))
    last (inr two) = first (open_literals (front trail start) conflict) refl two
      where
        first : (ls : List Literal) → open_literals (front trail start) conflict ≡ ls → 2 ≤ length ls → IsMarkedIn marks start (length trail)
        first [] e h = absurd (omega arith)
        first (l ∷ ls) e h =
            let both = open_has (front trail start) conflict l (subst (λ ks. has_literal ks l ≡ true) (sym e) (has_here l ls)) in
            open_one l both.0 both.1

-- at its end the negations of what was kept lead to the conflict, by the reasons of what was resolved
pub analysis_follows : (standing : Standing) (trail : List Assigned) (start : ℕ) (conflict : List Literal) (marks : List Bool) (kept taken : List Literal) (resolved : List Assigned) (id : ℕ) → IsComplete standing trail → IsAnalyzing standing trail start conflict marks 0 kept resolved → get standing id ≡ Some conflict → ((l : Literal) → has_literal taken l ≡ true → has_literal kept (negate l) ≡ true) → ((l : Literal) → has_literal kept l ≡ true → has_literal taken (negate l) ≡ true) → propagate standing taken (reasons resolved ++ hint.Unit id ∷ []) ≡ Conflict
analysis_follows standing trail start conflict marks kept taken resolved id all is stands from to =
    chain_conflict standing (literals trail) taken resolved id conflict (complete_consistent standing trail all) inside is.resolved_inside explains.placed is.implied stands explains.conflicting
  where
    inside : IsPartOf taken (literals trail)
    inside l h = subst (λ (m : Literal). has_literal (literals trail) m ≡ true) (negate_twice l) (is.kept_false (negate l) (from l h))

    explains : Explains standing taken resolved conflict
    explains = is.explains taken (record {
      inside = inside;
      marked_there = λ p d h on. absurd (omega arith);
      kept_there = to;
      apart = λ k d h.
          let r = get_or resolved k d in
          let size : length (literals resolved) ≡ length resolved = length-map resolved (λ (a : Assigned). a.literal) in
          let there : has_literal (literals resolved) r.literal ≡ true = has_at k (literals resolved) d.literal r.literal (omega arith) (sym (get_or-map (λ (a : Assigned). a.literal) resolved k d d.literal h)) in
          false_from_ne_true _ (λ on.
          let (l, of_taken, same) = literal_of taken r.literal.var on in
          false≢true (sym (is.disjoint (negate l) (from l of_taken)) ∙ subst (λ v. has_variable (literals resolved) v ≡ true) (sym same) (has_variable_of (literals resolved) r.literal there)));
    })

-- something was kept, and it asserts its first literal at the end of the level before
pub analysis_asserts : (standing : Standing) (trail : List Assigned) (start : ℕ) (conflict : List Literal) (marks : List Bool) (kept : List Literal) (resolved : List Assigned) → IsAnalyzing standing trail start conflict marks 0 kept resolved → (u : Literal) × (rest : List Literal) × (kept ≡ u ∷ rest) × IsUnique trail marks start 0 u rest
analysis_asserts standing trail start conflict marks kept resolved is = first kept refl is.found
  where
    first : (ks : List Literal) → ks ≡ kept → IsFound trail marks start 0 ks → (u : Literal) × (rest : List Literal) × (kept ≡ u ∷ rest) × IsUnique trail marks start 0 u rest
    first [] e so = let bad : so.place < 0 = so.within in absurd (omega arith)
    first (u ∷ rest) e so = (u, rest, sym e, so)

-- no literal was kept with its negation
pub analysis_no_tautology : (standing : Standing) (trail : List Assigned) (start : ℕ) (conflict : List Literal) (marks : List Bool) (end : ℕ) (kept : List Literal) (resolved : List Assigned) → IsComplete standing trail → IsAnalyzing standing trail start conflict marks end kept resolved → (l : Literal) → has_literal kept l ≡ true → has_literal kept (negate l) ≡ true → ⊥
analysis_no_tautology standing trail start conflict marks end kept resolved all is l here there =
    let on : has_literal (literals trail) l ≡ true = subst (λ (m : Literal). has_literal (literals trail) m ≡ true) (negate_twice l) (is.kept_false (negate l) there) in
    true≢false (sym (is.kept_false l here) ∙ complete_consistent standing trail all l on)
