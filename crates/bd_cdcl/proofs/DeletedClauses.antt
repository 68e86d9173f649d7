-- A clause that level 0 makes true, and that isn't the reason for it, is the reason of no literal and never false: so a trail is complete over what stands where it is over all clauses, and the hints that it gives lead to the same.
use Rattle.std.proofs.Common.{◌≡◌, ◌≢◌, ℕ, ◌+◌, ◌<◌, ◌≤◌, Bool, true, false, not, nat_eq, cond, List, [], ◌∷◌, ◌++◌, Option, None, Some, IfSome, length, get_or, take, refl, sym, ap, ◌∙◌, subst, inl, inr, arith, append_assoc, length-append}
use Rattle.std.specs.Prelude.{IsSomeAnd}
use Rattle.std.specs.List.{All, Contains, cons_option}
use Rattle.std.specs.Option.{option_map, option_eq}
use Rattle.std.specs.Ordering.{nat_cmp, eq_by_cmp}
use Rattle.std.specs.Cmp.{nat_cmp_total}
use Rattle.std.specs.FinMap.{get, insert, remove, get-insert, get-remove}
use Rattle.std.proofs.lemmas.Bool.{false≢true, cases_lt, eqb-true, eq-eqb}
use Rattle.std.proofs.lemmas.List.{get_or-take, length-take-le, take-append-le, take_all, get_or-append-add, get_or_read}
use Rattle.std.proofs.lemmas.List.Elements.{All-head, All-tail}
use Rattle.bd_cnf.specs.Literal.{Literal, has_literal}
use Rattle.bd_cnf.specs.Standing.{Standing, IsBelow}
use Rattle.bd_cnf.specs.Trail.{is_false, open_literals, IsClosed, AreClosed}
use Rattle.bd_lrat.specs.declared.line.Hint.{Hint}
use Rattle.bd_lrat.specs.declared.line.Hint.TheVariants as hint
use Rattle.bd_lrat.specs.Propagation.{Outcome, Conflict, Reached, Stopped, clause_outcome, hint_outcome, and_then, propagate}
use Rattle.bd_lrat.specs.Database.{numbered, remove_all}
use Rattle.bd_lrat.proofs.Keys.{tied}
use Rattle.bd_lrat.proofs.Standings.{each_numbered, numbered-push}
use Rattle.bd_watch.specs.Levels.{Assigned, literals, reasons, IsReason, ArePlaced, IsComplete}
use Rattle.bd_watch.specs.Trails.{IsDecisionAt, IsPlaceOf}
use Rattle.bd_watch.specs.Watching.{front, IsConflict}
use Rattle.bd_watch.proofs.Parts.{has_single, open_from}
use Rattle.bd_watch.proofs.Placed.{literals-append, complete_consistent}
use Rattle.bd_watch.proofs.Fronts.{in_front, place_of}
use Rattle.bd_watch.proofs.Guards.{front_part, front_open}
use Rattle.bd_cdcl.specs.inner.Deletions.{IsFixed, KeepsFixed, IsSatisfied, MayDelete, IsReduced}
use Rattle.bd_cdcl.proofs.AnalysisSteps.{placed_at, other_variable}
use Rattle.bd_cdcl.proofs.Analyses.{named}

-- what is fixed stays fixed on a longer trail
pub fixed_longer : (old new : List Assigned) → length old ≤ length new → take (length old) new ≡ old → KeepsFixed old new
fixed_longer old new longer kept a f = record {
  place = f.place;
  within = omega (arith, f.within);
  is = λ d. same f.place d f.within ∙ f.is d;
  first = λ decision at. elim (cases_lt decision (length old)) [
    | inl early ↦ f.first decision (record { within = early; undecided = λ d. ap (λ (b : Assigned). b.reason) (sym (same decision d early)) ∙ at.undecided d })
    | inr late ↦ omega (arith, f.within)
  ];
}
  where
    same : (place : ℕ) (d : Assigned) → place < length old → get_or new place d ≡ get_or old place d
    same place d h = sym (get_or-take (length old) new place d h) ∙ ap (λ es. get_or es place d) kept

pub fixed_pushed : (old : List Assigned) (a : Assigned) → KeepsFixed old (old ++ a ∷ [])
fixed_pushed old a = fixed_longer old (old ++ a ∷ []) (omega (arith, length-append old (a ∷ []))) (take-append-le (length old) old (a ∷ []) (omega arith) ∙ take_all (length old) old (omega arith))

-- and where the trail is taken back to a decision
pub fixed_back : (old : List Assigned) (cut : ℕ) → IsDecisionAt old cut → KeepsFixed old (take cut old)
fixed_back old cut decision a f =
    let before : f.place < cut = f.first cut decision in
    let low : cut < length old = decision.within in
    let size : length (take cut old) ≡ cut = length-take-le cut old (omega arith) in
    record {
      place = f.place;
      within = omega arith;
      is = λ d. get_or-take cut old f.place d before ∙ f.is d;
      first = λ other at.
          let early : other < length (take cut old) = at.within in
          f.first other (record { within = omega arith; undecided = λ d. ap (λ (b : Assigned). b.reason) (sym (get_or-take cut old other d (omega arith))) ∙ at.undecided d });
    }

module _ (standing : Standing) (trail : List Assigned) (all : IsComplete standing trail) where
  -- two literals of one variable stand at one place
  pub same_place : (i j : ℕ) (d : Assigned) → i < length trail → j < length trail → (get_or trail i d).literal.var ≡ (get_or trail j d).literal.var → i ≡ j
  same_place i j d low high same =
      elim (cases_lt i j) [
        | inl before ↦ absurd (other_variable trail standing all i j (get_or trail j d).literal.var d before low (placed_at trail standing all j d high).unassigned same)
        | inr not_before ↦ elim (cases_lt j i) [
          | inl after ↦ absurd (other_variable trail standing all j i (get_or trail i d).literal.var d after high (placed_at trail standing all i d low).unassigned (sym same))
          | inr not_after ↦ omega arith
        ]
      ]

  -- the reason of an entry has its literal alone open
  reason_unit : (place id : ℕ) (d : Assigned) → place < length trail → (get_or trail place d).reason ≡ Some id → IsSomeAnd (get standing id) (λ c. open_literals (front trail place) c ≡ (get_or trail place d).literal ∷ [])
  reason_unit place id d low reason = at (get_or trail place d).reason reason (placed_at trail standing all place d low).reason
    where
      at : (r : Option ℕ) → r ≡ Some id → IsReason standing (front trail place) (get_or trail place d).literal r → IsSomeAnd (get standing id) (λ c. open_literals (front trail place) c ≡ (get_or trail place d).literal ∷ [])
      at None e so = cc
      at (Some q) e so = let same : q ≡ id = cc in subst (λ n. IsSomeAnd (get standing n) (λ c. open_literals (front trail place) c ≡ (get_or trail place d).literal ∷ [])) same so

  fixed_open : (a : Assigned) → IsFixed trail a → is_false (literals trail) a.literal ≡ false
  fixed_open a f =
      complete_consistent standing trail all a.literal
      (subst (λ (b : Assigned). has_literal (literals trail) b.literal ≡ true) (f.is a) (front_part trail (f.place + 1) (get_or trail f.place a).literal (in_front trail f.place (f.place + 1) a (omega arith) f.within)))

  -- a clause that level 0 satisfies is no reason
  satisfied_no_reason : (place id : ℕ) (d : Assigned) (clause : List Literal) → place < length trail → (get_or trail place d).reason ≡ Some id → open_literals (front trail place) clause ≡ (get_or trail place d).literal ∷ [] → IsSatisfied trail id clause → ⊥
  satisfied_no_reason place id d clause low reason unit so =
      let f = so.fixed in
      let open_there : has_literal (open_literals (front trail place) clause) so.entry.literal ≡ true = open_from (front trail place) clause so.entry.literal so.here (front_open trail place so.entry.literal (fixed_open so.entry f)) in
      let one : so.entry.literal ≡ (get_or trail place d).literal = has_single so.entry.literal (get_or trail place d).literal (subst (λ ls. has_literal ls so.entry.literal ≡ true) unit open_there) in
      let same : f.place ≡ place = same_place f.place place d f.within low (ap (λ (b : Assigned). b.literal.var) (f.is d) ∙ ap (λ (l : Literal). l.var) one) in
      so.besides (ap (λ (b : Assigned). b.reason) (sym (f.is d) ∙ ap (λ n. get_or trail n d) same) ∙ reason)

  -- nor false
  satisfied_not_false : (id : ℕ) (clause : List Literal) → open_literals (literals trail) clause ≡ [] → IsSatisfied trail id clause → ⊥
  satisfied_not_false id clause bad so =
      false≢true (subst (λ ls. has_literal ls so.entry.literal ≡ true) bad (open_from (literals trail) clause so.entry.literal so.here (fixed_open so.entry so.fixed)))

  -- a true literal in front of all decisions satisfies a clause that isn't its reason
  pub satisfied_by : (id end place : ℕ) (entry : Assigned) (l : Literal) (clause : List Literal) → ((p : ℕ) → IsDecisionAt trail p → end ≤ p) → has_literal clause l ≡ true → has_literal (literals trail) l ≡ true → IsPlaceOf trail l.var place → entry ≡ get_or trail place entry → place < end → entry.reason ≢ Some id → IsSatisfied trail id clause
  satisfied_by id end place entry l clause after here on at read low besides =
      let there = place_of trail l on in
      let same : there.place ≡ place = same_place there.place place entry there.within at.within (ap (λ (m : Literal). m.var) (there.is entry) ∙ sym (at.is entry)) in
      let is_l : entry.literal ≡ l = ap (λ (a : Assigned). a.literal) read ∙ ap (λ n. (get_or trail n entry).literal) (sym same) ∙ there.is entry in
      record {
        entry = entry;
        fixed = record {
          place = place;
          within = at.within;
          is = λ d. sym (get_or_read trail place entry at.within read d);
          first = λ p decision. let past : end ≤ p = after p decision in omega arith;
        };
        here = subst (λ (m : Literal). has_literal clause m ≡ true) (sym is_l) here;
        besides = besides;
      }

-- a clause that stands has room for its variables where all do
pub stands_below : (limit : ℕ) (clauses : List (List Literal)) (id : ℕ) (clause : List Literal) → All (IsBelow limit) clauses → get (numbered clauses) id ≡ Some clause → IsBelow limit clause
stands_below limit clauses id clause below here = subst (λ o. IfSome o (IsBelow limit)) here (each_numbered (IsBelow limit) clauses below id)

-- a reason is another where a test says so
pub other_reason : (r : Option ℕ) (id : ℕ) → not (option_eq nat_eq r (Some id)) ≡ true → r ≢ Some id
other_reason r id apart same = false≢true (sym (ap not (ap (λ o. option_eq nat_eq o (Some id)) same ∙ eq-eqb id id refl)) ∙ apart)

-- what stands under the ids of hints is the same in two sets of clauses
abbrev IsSameFor : Standing → Standing → Hint → Type 0
IsSameFor s t (hint.Unit id) = get s id ≡ get t id
IsSameFor s t (hint.Rat id) = Unit {0}

abbrev AreSameFor : Standing → Standing → List Hint → Type 0
AreSameFor s t [] = Unit {0}
AreSameFor s t (h ∷ hs) = IsSameFor s t h × AreSameFor s t hs

-- so the hints lead to the same
propagate_same : (s t : Standing) (hints : List Hint) (taken : List Literal) → AreSameFor s t hints → propagate s taken hints ≡ propagate t taken hints
propagate_same s t [] taken same = refl
propagate_same s t (h ∷ hs) taken same = ap (λ o. and_then o (λ more. propagate s more hs)) (one h same.0) ∙ next (hint_outcome t taken h) (λ more. propagate_same s t hs more same.1)
  where
    one : (g : Hint) → IsSameFor s t g → hint_outcome s taken g ≡ hint_outcome t taken g
    one (hint.Unit id) e = ap (clause_outcome id taken) e
    one (hint.Rat id) e = refl

    next : (o : Outcome) → ((more : List Literal) → propagate s more hs ≡ propagate t more hs) → and_then o (λ more. propagate s more hs) ≡ and_then o (λ more. propagate t more hs)
    next Conflict rest = refl
    next (Reached more) rest = rest more
    next (Stopped r) rest = refl

module _ (clauses : List (List Literal)) (trail : List Assigned) (standing : Standing) (all : IsComplete (numbered clauses) trail) (reduced : IsReduced clauses trail standing) where
  -- a clause that level 0 doesn't satisfy stands still
  still_stands : (id : ℕ) (clause : List Literal) → get (numbered clauses) id ≡ Some clause → (IsSatisfied trail id clause → ⊥) → get standing id ≡ Some clause
  still_stands id clause here needed = by_case (get standing id) refl
    where
      by_case : (o : Option (List Literal)) → get standing id ≡ o → get standing id ≡ Some clause
      by_case None e = absurd (needed (subst (λ o. IfSome o (IsSatisfied trail id)) here (reduced.gone id e)))
      by_case (Some c) e = e ∙ sym (subst (λ o. IfSome o (λ x. get (numbered clauses) id ≡ Some x)) e (reduced.kept id)) ∙ here

  -- as does a reason
  pub reason_stands : (place id : ℕ) (d : Assigned) → place < length trail → (get_or trail place d).reason ≡ Some id → get standing id ≡ get (numbered clauses) id
  reason_stands place id d low reason =
      let so = named (numbered clauses) id (λ c. open_literals (front trail place) c ≡ (get_or trail place d).literal ∷ []) (reason_unit (numbered clauses) trail all place id d low reason) in
      still_stands id so.0 so.1 (satisfied_no_reason (numbered clauses) trail all place id d so.0 low reason so.2) ∙ sym so.1

  -- and a false clause
  pub conflict_same : (id : ℕ) → IsConflict (numbered clauses) trail id → get standing id ≡ get (numbered clauses) id
  conflict_same id at =
      let so = named (numbered clauses) id (λ c. open_literals (literals trail) c ≡ []) at in
      still_stands id so.0 so.1 (satisfied_not_false (numbered clauses) trail all id so.0 so.2) ∙ sym so.1

  pub conflict_in : (id : ℕ) → IsConflict (numbered clauses) trail id → IsConflict standing trail id
  conflict_in id at = subst (λ o. IsSomeAnd o (λ c. open_literals (literals trail) c ≡ [])) (sym (conflict_same id at)) at

  -- what is closed over all clauses is so over what stands
  pub closed_in : (before : List Literal) → AreClosed (numbered clauses) before → AreClosed standing before
  closed_in before closed id = by_case (get standing id) (reduced.kept id)
    where
      by_case : (o : Option (List Literal)) → IfSome o (λ c. get (numbered clauses) id ≡ Some c) → IfSome o (IsClosed before)
      by_case None so = tt
      by_case (Some c) so = subst (λ o. IfSome o (IsClosed before)) so (closed id)

  -- and a complete trail is complete
  pub complete_in : IsComplete standing trail
  complete_in = rest [] trail refl all
    where
      reason_in : (a : Assigned) (done more : List Assigned) → trail ≡ done ++ a ∷ more → (r : Option ℕ) → a.reason ≡ r → IsReason (numbered clauses) (literals done) a.literal r → IsReason standing (literals done) a.literal r
      reason_in a done more e None f so = closed_in (literals done) so
      reason_in a done more e (Some id) f so =
          let low : length done < length trail = omega (arith, ap length e, length-append done (a ∷ more)) in
          let at : get_or trail (length done) a ≡ a = ap (λ es. get_or es (length done) a) e ∙ ap (λ n. get_or (done ++ a ∷ more) n a) (omega arith) ∙ get_or-append-add done (a ∷ more) 0 a in
          subst (λ o. IsSomeAnd o (λ c. open_literals (literals done) c ≡ a.literal ∷ [])) (sym (reason_stands (length done) id a low (ap (λ (b : Assigned). b.reason) at ∙ f))) so

      rest : (done more : List Assigned) → trail ≡ done ++ more → ArePlaced (numbered clauses) (literals done) more → ArePlaced standing (literals done) more
      rest done [] e placed = tt
      rest done (a ∷ more) e placed =
          let pushed : literals (done ++ a ∷ []) ≡ literals done ++ a.literal ∷ [] = literals-append done (a ∷ []) in (
            record { unassigned = placed.0.unassigned; reason = reason_in a done more e a.reason refl placed.0.reason },
            subst (λ ls. ArePlaced standing ls more) pushed (rest (done ++ a ∷ []) more (e ∙ sym (append_assoc done (a ∷ []) more)) (subst (λ ls. ArePlaced (numbered clauses) ls more) (sym pushed) placed.1)),
          )

  same_reasons : (resolved : List Assigned) (more : List Hint) → All (Contains trail) resolved → AreSameFor standing (numbered clauses) more → AreSameFor standing (numbered clauses) (reasons resolved ++ more)
  same_reasons [] more there so = so
  same_reasons (a ∷ rest) more there so = first a.reason refl (same_reasons rest more (All-tail (Contains trail) a rest there) so)
    where
      first : (r : Option ℕ) → a.reason ≡ r → AreSameFor standing (numbered clauses) (reasons rest ++ more) → AreSameFor standing (numbered clauses) (cons_option (option_map hint.Unit r) (reasons rest) ++ more)
      first None e later = later
      first (Some id) e later = let here = All-head (Contains trail) a rest there in (reason_stands here.0 id a here.1 (ap (λ (b : Assigned). b.reason) here.2 ∙ e), later)

  -- reasons of the trail's literals and a false clause lead to the same, from whatever is taken
  pub propagate_in : (resolved : List Assigned) (taken : List Literal) (id : ℕ) → All (Contains trail) resolved → IsConflict (numbered clauses) trail id → propagate standing taken (reasons resolved ++ hint.Unit id ∷ []) ≡ propagate (numbered clauses) taken (reasons resolved ++ hint.Unit id ∷ [])
  propagate_in resolved taken id there at = propagate_same standing (numbered clauses) (reasons resolved ++ hint.Unit id ∷ []) taken (same_reasons resolved (hint.Unit id ∷ []) there (conflict_same id at, tt))

-- where nothing was deleted all stands
pub reduced_none : (clauses : List (List Literal)) (trail : List Assigned) → IsReduced clauses trail (numbered clauses)
reduced_none clauses trail = record {
  kept = λ id. by_case id (get (numbered clauses) id) refl;
  gone = λ id none. subst (λ o. IfSome o (IsSatisfied trail id)) (sym none) tt;
}
  where
    by_case : (id : ℕ) (o : Option (List Literal)) → get (numbered clauses) id ≡ o → IfSome o (λ c. get (numbered clauses) id ≡ Some c)
    by_case id None e = tt
    by_case id (Some c) e = e

-- what is satisfied stays so
pub reduced_moves : (clauses : List (List Literal)) (old new : List Assigned) (standing : Standing) → KeepsFixed old new → IsReduced clauses old standing → IsReduced clauses new standing
reduced_moves clauses old new standing keeps reduced = record {
  kept = reduced.kept;
  gone = λ id none. by_case id (get (numbered clauses) id) (reduced.gone id none);
}
  where
    by_case : (id : ℕ) (o : Option (List Literal)) → IfSome o (IsSatisfied old id) → IfSome o (IsSatisfied new id)
    by_case id None so = tt
    by_case id (Some c) so = record { entry = so.entry; fixed = keeps so.entry so.fixed; here = so.here; besides = so.besides }

-- a clause is added
pub reduced_adds : (clauses : List (List Literal)) (trail : List Assigned) (standing : Standing) (clause : List Literal) → IsReduced clauses trail standing → IsReduced (clauses ++ clause ∷ []) trail (insert standing (length clauses + 1) clause)
reduced_adds clauses trail standing clause reduced = record { kept = kept; gone = gone }
  where
    new : ℕ
    new = length clauses + 1

    in_standing : (id : ℕ) → get (insert standing new clause) id ≡ cond (eq_by_cmp nat_cmp id new) (Some clause) (get standing id)
    in_standing id = get-insert nat_cmp_total standing new clause id

    in_numbered : (id : ℕ) → get (numbered (clauses ++ clause ∷ [])) id ≡ cond (eq_by_cmp nat_cmp id new) (Some clause) (get (numbered clauses) id)
    in_numbered id = ap (λ s. get s id) (numbered-push clauses clause) ∙ get-insert nat_cmp_total (numbered clauses) new clause id

    kept_by : (id : ℕ) (b : Bool) → IfSome (cond b (Some clause) (get standing id)) (λ c. cond b (Some clause) (get (numbered clauses) id) ≡ Some c)
    kept_by id true = refl
    kept_by id false = reduced.kept id

    kept : (id : ℕ) → IfSome (get (insert standing new clause) id) (λ c. get (numbered (clauses ++ clause ∷ [])) id ≡ Some c)
    kept id =
        subst (λ o. IfSome o (λ c. get (numbered (clauses ++ clause ∷ [])) id ≡ Some c)) (sym (in_standing id))
        (subst (λ p. IfSome (cond (eq_by_cmp nat_cmp id new) (Some clause) (get standing id)) (λ c. p ≡ Some c)) (sym (in_numbered id)) (kept_by id (eq_by_cmp nat_cmp id new)))

    gone_by : (id : ℕ) (b : Bool) → cond b (Some clause) (get standing id) ≡ None → IfSome (cond b (Some clause) (get (numbered clauses) id)) (IsSatisfied trail id)
    gone_by id true none = cc
    gone_by id false none = reduced.gone id none

    gone : (id : ℕ) → get (insert standing new clause) id ≡ None → IfSome (get (numbered (clauses ++ clause ∷ [])) id) (IsSatisfied trail id)
    gone id none = subst (λ o. IfSome o (IsSatisfied trail id)) (sym (in_numbered id)) (gone_by id (eq_by_cmp nat_cmp id new) (sym (in_standing id) ∙ none))

-- one that may be deleted is
reduced_removes : (clauses : List (List Literal)) (trail : List Assigned) (standing : Standing) (id : ℕ) → MayDelete clauses trail id → IsReduced clauses trail standing → IsReduced clauses trail (remove standing id)
reduced_removes clauses trail standing id may reduced = record { kept = kept; gone = gone }
  where
    removed : (q : ℕ) → get (remove standing id) q ≡ cond (eq_by_cmp nat_cmp q id) None (get standing q)
    removed q = get-remove nat_cmp_total standing id q

    kept_by : (q : ℕ) (b : Bool) → IfSome (cond b None (get standing q)) (λ c. get (numbered clauses) q ≡ Some c)
    kept_by q true = tt
    kept_by q false = reduced.kept q

    kept : (q : ℕ) → IfSome (get (remove standing id) q) (λ c. get (numbered clauses) q ≡ Some c)
    kept q = subst (λ o. IfSome o (λ c. get (numbered clauses) q ≡ Some c)) (sym (removed q)) (kept_by q (eq_by_cmp nat_cmp q id))

    satisfied : (o : Option (List Literal)) → IsSomeAnd o (IsSatisfied trail id) → IfSome o (IsSatisfied trail id)
    satisfied None so = tt
    satisfied (Some c) so = so

    gone_by : (q : ℕ) (b : Bool) → eq_by_cmp nat_cmp q id ≡ b → cond b None (get standing q) ≡ None → IfSome (get (numbered clauses) q) (IsSatisfied trail q)
    gone_by q true e none =
        let same : q ≡ id = eqb-true q id (sym (tied q id) ∙ e) in
        subst (λ n. IfSome (get (numbered clauses) n) (IsSatisfied trail n)) (sym same) (satisfied (get (numbered clauses) id) may)
    gone_by q false e none = reduced.gone q none

    gone : (q : ℕ) → get (remove standing id) q ≡ None → IfSome (get (numbered clauses) q) (IsSatisfied trail q)
    gone q none = gone_by q (eq_by_cmp nat_cmp q id) refl (sym (removed q) ∙ none)

-- and so are several
pub reduced_deletes : (clauses : List (List Literal)) (trail : List Assigned) (ids : List ℕ) (standing : Standing) → All (MayDelete clauses trail) ids → IsReduced clauses trail standing → IsReduced clauses trail (remove_all standing ids)
reduced_deletes clauses trail [] standing all reduced = reduced
reduced_deletes clauses trail (id ∷ ids) standing all reduced =
    reduced_deletes clauses trail ids (remove standing id) (All-tail (MayDelete clauses trail) id ids all) (reduced_removes clauses trail standing id (All-head (MayDelete clauses trail) id ids all) reduced)
