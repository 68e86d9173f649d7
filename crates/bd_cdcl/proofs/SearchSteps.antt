-- A search goes on: it starts, propagates, decides and learns; and what its ends mean.
use Rattle.std.proofs.Common.{◌≡◌, ◌≢◌, ℕ, ◌+◌, ◌<◌, ◌≤◌, Bool, true, cond, List, [], ◌∷◌, ◌++◌, Option, None, Some, IfSome, length, get_or, map, refl, sym, ap, ◌∙◌, subst, inl, inr, arith, length-append}
use Rattle.std.specs.Prelude.{IsSome, IsSomeAnd}
use Rattle.std.specs.List.{All, AllPairs, Contains}
use Rattle.std.specs.FinMap.{get, insert}
use Rattle.std.proofs.lemmas.Bool.{false≢true}
use Rattle.std.proofs.lemmas.List.Elements.{All-nil, All-push, All-contains, Contains-get_or, Contains-append_left, Contains-append_right, Contains-push, Contains-push_cases, Contains-append_cases}
use Rattle.bd_cnf.specs.Literal.{Literal, negate, has_literal}
use Rattle.bd_cnf.specs.Assignment.{value_of}
use Rattle.std.specs.FinMap.{FinMap}
use Rattle.std.specs.Ordering.{nat_cmp}
use Rattle.bd_cnf.specs.Clause.{IsRising, IsWithin, SameLiterals, clause_value}
use Rattle.bd_cnf.specs.Problem.{Problem}
use Rattle.bd_cnf.specs.Standing.{Standing, IsBelow}
use Rattle.bd_cnf.specs.Trail.{open_literals, IsConsistent, IsClosed, AreClosed}
use Rattle.bd_cnf.proofs.Literals.{has_at}
use Rattle.bd_cnf.proofs.Rising.{above_floor}
use Rattle.bd_lrat.specs.declared.line.Hint.{Hint}
use Rattle.bd_lrat.specs.declared.line.Line.{Line}
use Rattle.bd_lrat.specs.declared.line.Line.TheVariants.{Add, Delete}
use Rattle.bd_lrat.specs.Propagation.{Conflict, propagate}
use Rattle.bd_lrat.specs.Database.{Database, database, database_of, numbered, remove_all, IsAccepted, after}
use Rattle.bd_lrat.specs.Deletions.{IsCovered, IsCoveredDeletion, HasCoveredDeletions}
use Rattle.bd_lrat.specs.inner.Deletions.{last_added}
use Rattle.bd_lrat.specs.Log.{IsAcceptedLog, IsFresh, IsFreshClause, IsUnsettled, AddsRising, after_all, additions, with_added, adds_empty, adds_literals}
use Rattle.bd_lrat.proofs.Standings.{numbered-push}
use Rattle.bd_lrat.proofs.Ends.{after_all-push, accepted-push, with_added-append, fresh-push_addition, fresh-push_deletion, additions-push, last_added-push_addition, last_added-push_deletion, covered-push_addition, covered-push_deletion}
use Rattle.bd_lrat.proofs.Closed.{closed_no_conflict}
use Rattle.bd_cdcl.specs.declared.solver.Found.{Found}
use Rattle.bd_cdcl.specs.declared.solver.Found.TheVariants.{Model, Refuted, Spent}
use Rattle.bd_cdcl.specs.Law.{IsLaw, ends_empty}
use Rattle.bd_watch.specs.Levels.{Assigned, assigned, literals, decisions, IsComplete}
use Rattle.bd_watch.specs.Trails.{LeveledTrail, leveled, IsLastDecision, Decides, AllAssigned, MakesTrue}
use Rattle.bd_cdcl.specs.inner.Passes.{AllClosed}
use Rattle.bd_cdcl.specs.inner.Search.{conflict_hints, addition, IsLearned, IsResolved, IsSearching, IsSearchingIn}
use Rattle.bd_watch.proofs.Parts.{all_has, has_negated, part_nil}
use Rattle.bd_watch.proofs.Placed.{complete_push, complete_consistent}
use Rattle.bd_watch.proofs.Numbered.{numbered_past, all_from_numbered, closed_standing}
use Rattle.bd_watch.proofs.AssertedLiterals.{asserted_complete}
use Rattle.bd_watch.specs.Watching.{IsAsserting, IsConflict}
use Rattle.bd_cdcl.proofs.Learned.{asserting_fresh, front_complete, front_closed, decision_follows, decision_asserting, decision_closed}
use Rattle.bd_cdcl.proofs.Settled.{conflict_unsettled, conflict_refutes, closed_true, satisfies_all}

-- the trail moves, and stays complete
pub search_moves_in : (standing : Standing) (p : Problem) (clauses : List (List Literal)) (trail after : LeveledTrail) (count : ℕ) (log : List Line) → IsSearchingIn standing p clauses trail count log → after.limit ≡ trail.limit → IsComplete standing after.entries → IsSearchingIn standing p clauses after count log
search_moves_in standing p clauses trail after count log is same complete = record {
  limit = same ∙ is.limit;
  complete = complete;
  rising = is.rising;
  within = is.within;
  known = is.known;
  accepted = is.accepted;
  fresh = is.fresh;
  added_rising = is.added_rising;
  stands = is.stands;
  counted = is.counted;
  covered = is.covered;
  last = is.last;
}

pub search_moves : (p : Problem) (clauses : List (List Literal)) (trail after : LeveledTrail) (count : ℕ) (log : List Line) → IsSearching p clauses trail count log → after.limit ≡ trail.limit → IsComplete (numbered clauses) after.entries → IsSearching p clauses after count log
search_moves p clauses trail after count log is same complete = search_moves_in (numbered clauses) p clauses trail after count log is same complete

-- a decision where no clause is false or unit
pub search_decides : (p : Problem) (clauses : List (List Literal)) (trail after : LeveledTrail) (count : ℕ) (log : List Line) → IsSearching p clauses trail count log → AllClosed clauses trail.entries → Decides trail after → IsSearching p clauses after count log
search_decides p clauses trail after count log is closed (d, low, free, e) =
    search_moves p clauses trail after count log is (ap (λ (t : LeveledTrail). t.limit) e)
    (subst (λ (t : LeveledTrail). IsComplete (numbered clauses) t.entries) (sym e) (complete_push (numbered clauses) trail.entries (assigned d None) is.complete (record { unassigned = free; reason = closed_standing clauses (literals trail.entries) closed })))

-- the clause that a conflict names
pub conflict_clause : (standing : Standing) (trail : List Assigned) (id : ℕ) → IsConflict standing trail id → (clause : List Literal) × (get standing id ≡ Some clause) × (open_literals (literals trail) clause ≡ [])
conflict_clause standing trail id is = named (get standing id) refl is
  where
    named : (o : Option (List Literal)) → get standing id ≡ o → IsSomeAnd o (λ clause. open_literals (literals trail) clause ≡ []) → (clause : List Literal) × (get standing id ≡ Some clause) × (open_literals (literals trail) clause ≡ [])
    named None e h = absurd h
    named (Some clause) e h = (clause, e, h)

-- what stands after the log, by its fields
last_is : (standing : Standing) (p : Problem) (clauses : List (List Literal)) (db : Database) → db ≡ database p.vars (length clauses) standing → (clause : List Literal) (hints : List Hint) → IsWithin p.vars clause → propagate standing (map negate clause) hints ≡ Conflict → IsAccepted db (addition clauses clause hints)
last_is standing p clauses db e clause hints within conflict = subst (λ d. IsAccepted d (addition clauses clause hints)) (sym e) (let above : length clauses < length clauses + 1 = omega arith in (above, within, conflict))

-- the negations of decisions are within the formula's variables
decision_within : (p : Problem) (trail : LeveledTrail) (clause : List Literal) → trail.limit ≡ p.vars + 1 → IsBelow trail.limit (decisions trail.entries) → SameLiterals clause (map negate (decisions trail.entries)) → IsWithin p.vars clause
decision_within p trail clause limit below same k d h =
    let l = get_or clause k d in
    let there : has_literal (decisions trail.entries) (negate l) ≡ true = has_negated (decisions trail.entries) l (sym (same l) ∙ has_at k clause d l h refl) in
    let low : l.var < trail.limit = all_has (λ m. m.var < trail.limit) (decisions trail.entries) (negate l) below there in
    omega arith

-- clauses known before the line, and the line's
known_more : (earlier clauses new : List (List Literal)) (clause : List Literal) (log lines : List Line) (hints : List Hint) → ((c : List Literal) → Contains (with_added earlier log) c → Contains clauses c) → new ≡ clauses ++ clause ∷ [] → lines ≡ log ++ addition clauses clause hints ∷ [] → (c : List Literal) → Contains (with_added earlier lines) c → Contains new c
known_more earlier clauses new clause log lines hints known same logged c h =
    let added : with_added earlier lines ≡ (clause ∷ []) ++ with_added earlier log = ap (with_added earlier) logged ∙ with_added-append earlier log (addition clauses clause hints ∷ []) in
    subst (λ cs. Contains cs c) (sym same) (elim (Contains-append_cases (clause ∷ []) (with_added earlier log) c (subst (λ cs. Contains cs c) added h)) [
      | inl here ↦ elim (Contains-push_cases [] clause c here) [
        | inl nothing ↦ Contains-append_left clauses (clause ∷ []) c (known c (let bad : nothing.0 < 0 = nothing.1 in absurd (omega arith)))
        | inr e ↦ subst (λ x. Contains (clauses ++ clause ∷ []) x) e (Contains-push clauses clause)
      ]
      | inr there ↦ Contains-append_left clauses (clause ∷ []) c (known c there)
    ])

-- a clause with a literal counts
counts : (id : ℕ) (clause : List Literal) (hints : List Hint) (l : Literal) → has_literal clause l ≡ true → adds_literals (Add id clause hints) ≡ true
counts id [] hints l h = absurd (false≢true h)
counts id (m ∷ ms) hints l h = refl

-- a rising clause after rising ones
rising-push_addition : (xs : List Line) (id : ℕ) (clause : List Literal) (hints : List Hint) → AddsRising xs → IsRising clause → AddsRising (xs ++ Add id clause hints ∷ [])
rising-push_addition [] id clause hints front rising = (rising, tt)
rising-push_addition ((Add i c hs) ∷ xs) id clause hints front rising = (front.0, rising-push_addition xs id clause hints front.1 rising)
rising-push_addition ((Delete i is) ∷ xs) id clause hints front rising = rising-push_addition xs id clause hints front rising

rising-push_deletion : (xs : List Line) (id : ℕ) (ids : List ℕ) → AddsRising xs → AddsRising (xs ++ Delete id ids ∷ [])
rising-push_deletion [] id ids front = tt
rising-push_deletion ((Add i c hs) ∷ xs) id ids front = (front.0, rising-push_deletion xs id ids front.1)
rising-push_deletion ((Delete i is) ∷ xs) id ids front = rising-push_deletion xs id ids front

-- a clause is added that follows, and is false but for one literal at the end of a level
pub search_adds : (standing : Standing) (p : Problem) (clauses : List (List Literal)) (trail after : LeveledTrail) (count : ℕ) (log : List Line) (clause : List Literal) (hints : List Hint) (front : List Literal) (u : Literal) → IsSearchingIn standing p clauses trail count log → IsRising clause → IsWithin p.vars clause → propagate standing (map negate clause) hints ≡ Conflict → IsConsistent front → AreClosed standing front → All (IsClosed front) clauses → IsAsserting front clause u → after.limit ≡ trail.limit → IsComplete (insert standing (length clauses + 1) clause) after.entries → IsSearchingIn (insert standing (length clauses + 1) clause) p (clauses ++ clause ∷ []) after (count + 1) (log ++ addition clauses clause hints ∷ [])
search_adds standing p clauses trail after_trail count log clause hints front u is rising within follows consistent closed all_closed asserting limit complete = record {
  limit = limit ∙ is.limit;
  complete = complete;
  rising = All-push IsRising clauses clause is.rising rising;
  within = All-push (IsWithin p.vars) clauses clause is.within within;
  known = known_more p.clauses clauses (clauses ++ clause ∷ []) clause log lines hints is.known refl refl;
  accepted = accepted-push (database_of p) log line is.accepted (last_is standing p clauses (after_all (database_of p) log) is.stands clause hints within follows);
  fresh = fresh-push_addition (database_of p) p.clauses log id clause hints is.fresh (λ _. fresh);
  added_rising = rising-push_addition log id clause hints is.added_rising rising;
  stands = after_all-push (database_of p) log line ∙ ap (λ d. after d line) is.stands ∙ stand;
  counted = additions-push log line ∙ ap (λ b. additions log + cond b 1 0) (counts id clause hints u asserting.here) ∙ ap (λ n. n + 1) is.counted;
  covered = covered-push_addition (database_of p) None log id clause hints is.covered;
  last = λ low. last_added-push_addition None log id clause hints ∙ ap (λ n. Some n) (sym (length-append clauses (clause ∷ [])));
}
  where
    id : ℕ
    id = length clauses + 1

    line : Line
    line = addition clauses clause hints

    lines : List Line
    lines = log ++ line ∷ []

    fresh : IsFreshClause (after_all (database_of p) log).clauses (with_added p.clauses log) clause
    fresh =
        subst (λ (d : Database). IsFreshClause d.clauses (with_added p.clauses log) clause) (sym is.stands)
        (asserting_fresh standing front (with_added p.clauses log) clause u consistent closed
        (λ k d h.
        let there = is.known (get_or (with_added p.clauses log) k d) (Contains-get_or (with_added p.clauses log) k d h) in
        (All-contains IsRising clauses _ is.rising there, All-contains (IsClosed front) clauses _ all_closed there))
        asserting)

    stand : database p.vars (length clauses + 1) (insert standing (length clauses + 1) clause) ≡ database p.vars (length (clauses ++ clause ∷ [])) (insert standing (length clauses + 1) clause)
    stand =
        let size : length (clauses ++ clause ∷ []) ≡ length clauses + 1 = length-append clauses (clause ∷ []) in
        ap (λ n. database p.vars n (insert standing (length clauses + 1) clause)) (sym size)

-- a line that deletes clauses that the rest covers, where propagation has ended without a conflict
pub search_deletes : (standing : Standing) (p : Problem) (clauses : List (List Literal)) (trail : LeveledTrail) (count : ℕ) (log : List Line) (ids : List ℕ) → IsSearchingIn standing p clauses trail count log → 0 < count → ids ≢ [] → All (λ gone. IsSome (get standing gone)) ids → AllPairs (λ one other. one ≢ other) ids → AreClosed standing (literals trail.entries) → All (λ gone. IfSome (get standing gone) (IsCovered (remove_all standing ids))) ids → IsComplete (remove_all standing ids) trail.entries → IsSearchingIn (remove_all standing ids) p clauses trail count (log ++ Delete (length clauses) ids ∷ [])
search_deletes standing p clauses trail count log ids is some named stand differ closed covers complete = record {
  limit = is.limit;
  complete = complete;
  rising = is.rising;
  within = is.within;
  known = λ c h. is.known c (subst (λ cs. Contains cs c) (with_added-append p.clauses log (line ∷ [])) h);
  accepted = accepted-push (database_of p) log line is.accepted tt;
  fresh = fresh-push_deletion (database_of p) p.clauses log (length clauses) ids is.fresh;
  added_rising = rising-push_deletion log (length clauses) ids is.added_rising;
  stands = after_all-push (database_of p) log line ∙ ap (λ d. after d line) is.stands;
  counted = additions-push log line ∙ (omega (arith, is.counted));
  covered = covered-push_deletion (database_of p) None log (length clauses) ids is.covered (subst (λ (db : Database). IsCoveredDeletion db (last_added None log) (length clauses) ids) (sym is.stands) deletion);
  last = λ low. last_added-push_deletion None log (length clauses) ids ∙ is.last low;
}
  where
    line : Line
    line = Delete (length clauses) ids

    deletion : IsCoveredDeletion (database p.vars (length clauses) standing) (last_added None log) (length clauses) ids
    deletion = record {
      some = named;
      stand = stand;
      differ = differ;
      last = is.last some;
      no_conflict = λ hints. closed_no_conflict standing (literals trail.entries) (complete_consistent standing trail.entries is.complete) closed hints [] (part_nil (literals trail.entries));
      covered = covers;
    }

-- a search learns from a conflict above level 0
pub search_learns : (p : Problem) (clauses new : List (List Literal)) (trail after : LeveledTrail) (count more : ℕ) (log lines : List Line) (conflict : ℕ) → IsSearching p clauses trail count log → IsConflict (numbered clauses) trail.entries conflict → IsLearned clauses new trail after log lines conflict → more ≡ count + 1 → IsSearching p new after more lines
search_learns p clauses new trail after_trail count more log lines conflict is at learned counted =
    let standing = numbered clauses in
    let named = conflict_clause standing trail.entries conflict at in
    let clause = learned.clause in
    let front = learned.front in
    let u = negate learned.last in
    let asserting = decision_asserting standing trail.entries front learned.last learned.rest is.complete learned.at clause learned.same in
    let within = decision_within p trail clause is.limit learned.below learned.same in
    let follows = decision_follows standing trail.entries front learned.last learned.rest is.complete learned.at clause learned.same conflict named.0 named.1 named.2 in
    let complete_before = front_complete standing trail.entries front learned.last learned.rest is.complete learned.at in
    let closed = front_closed standing trail.entries front learned.last learned.rest is.complete learned.at in
    let entries : List Assigned = front ++ assigned u (Some (length clauses + 1)) ∷ [] in
    let complete : IsComplete (insert standing (length clauses + 1) clause) entries =
    (asserted_complete standing front (length clauses + 1) clause u (numbered_past clauses) learned.rising complete_before
    (decision_closed standing trail.entries front learned.last learned.rest is.complete learned.at clause learned.same) asserting) in
    let added = search_adds standing p clauses trail (leveled trail.limit entries) count log clause (conflict_hints trail.entries conflict) (literals front) u is learned.rising within follows (complete_consistent standing front complete_before) closed (all_from_numbered (IsClosed (literals front)) clauses closed) asserting refl complete in
    let so = subst (λ s. IsSearchingIn s p (clauses ++ clause ∷ []) (leveled trail.limit entries) (count + 1) (log ++ addition clauses clause (conflict_hints trail.entries conflict) ∷ [])) (sym (numbered-push clauses clause)) added in
    subst (λ n. IsSearching p new after_trail n lines) (sym counted)
    (subst (λ cs. IsSearching p cs after_trail (count + 1) lines) (sym learned.added)
    (subst (λ t. IsSearching p (clauses ++ clause ∷ []) t (count + 1) lines) (sym learned.asserted)
    (subst (λ ls. IsSearching p (clauses ++ clause ∷ []) (leveled trail.limit entries) (count + 1) ls) (sym learned.logged) so)))

ends-push : (log : List Line) (line : Line) → ends_empty (log ++ line ∷ []) ≡ adds_empty line
ends-push [] line = refl
ends-push (x ∷ []) line = refl
ends-push (x ∷ y ∷ ys) line = ends-push (y ∷ ys) line

-- a conflict at level 0 refutes the formula
pub search_refutes : (standing : Standing) (p : Problem) (clauses : List (List Literal)) (trail : LeveledTrail) (count budget : ℕ) (log lines : List Line) (conflict : ℕ) → IsSearchingIn standing p clauses trail count log → count ≤ budget → IsConflict standing trail.entries conflict → decisions trail.entries ≡ [] → lines ≡ log ++ addition clauses [] (conflict_hints trail.entries conflict) ∷ [] → IsLaw p budget Refuted lines
search_refutes standing p clauses trail count budget log lines conflict is low at none logged =
    let named = conflict_clause standing trail.entries conflict at in
    let hints = conflict_hints trail.entries conflict in
    let line : Line = addition clauses [] hints in
    let follows = conflict_refutes standing trail.entries conflict named.0 is.complete none named.1 named.2 in
    let accepted : IsAccepted (after_all (database_of p) log) line = last_is standing p clauses (after_all (database_of p) log) is.stands [] hints (All-nil (λ (l : Literal). l.var ≤ p.vars)) follows in
    record {
      answer = ap ends_empty logged ∙ ends-push log line;
      accepted = subst (IsAcceptedLog (database_of p)) (sym logged) (accepted-push (database_of p) log line is.accepted accepted);
      fresh = subst (IsFresh p) (sym logged) (fresh-push_addition (database_of p) p.clauses log (length clauses + 1) [] hints is.fresh (λ apart. absurd (apart refl)));
      covered = subst (HasCoveredDeletions p) (sym logged) (covered-push_addition (database_of p) None log (length clauses + 1) [] hints is.covered);
      rising = subst AddsRising (sym logged) (rising-push_addition log (length clauses + 1) [] hints is.added_rising tt);
      within = subst (λ ls. additions ls ≤ budget) (sym logged) (let same : additions (log ++ line ∷ []) ≡ additions log + 0 = additions-push log line in omega (arith, same, is.counted));
    }

-- a conflict above level 0 where the budget is spent
pub search_spends : (standing : Standing) (p : Problem) (clauses : List (List Literal)) (trail : LeveledTrail) (count budget : ℕ) (log lines : List Line) (conflict : ℕ) (front : List Assigned) (d : Literal) (rest : List Assigned) → IsSearchingIn standing p clauses trail count log → IsConflict standing trail.entries conflict → lines ≡ log → count ≡ budget → IsLastDecision trail.entries front d rest → IsLaw p budget Spent lines
search_spends standing p clauses trail count budget log lines conflict front d rest is at same spent last =
    let named = conflict_clause standing trail.entries conflict at in
    let unsettled = conflict_unsettled standing trail.entries front d rest conflict named.0 is.complete last named.1 named.2 in
    subst (IsLaw p budget Spent) (sym same) (record {
      answer = (is.counted ∙ spent, subst (λ (db : Database). IsUnsettled db.clauses) (sym is.stands) unsettled);
      accepted = is.accepted;
      fresh = is.fresh;
      covered = is.covered;
      rising = is.added_rising;
      within = omega (arith, is.counted, spent);
    })

earlier_known : (earlier : List (List Literal)) (log : List Line) (c : List Literal) → Contains earlier c → Contains (with_added earlier log) c
earlier_known earlier [] c h = h
earlier_known earlier ((Add id clause hints) ∷ log) c h = earlier_known (clause ∷ earlier) log c (Contains-append_right (clause ∷ []) earlier c h)
earlier_known earlier ((Delete id ids) ∷ log) c h = earlier_known earlier log c h

-- where each variable has a value and no clause is false or unit, the values satisfy the formula
pub search_satisfies : (standing : Standing) (p : Problem) (clauses : List (List Literal)) (trail : LeveledTrail) (count budget : ℕ) (log : List Line) (a : FinMap nat_cmp Bool) → IsSearchingIn standing p clauses trail count log → count ≤ budget → AllClosed clauses trail.entries → AllAssigned trail → MakesTrue (value_of a) (literals trail.entries) → IsLaw p budget (Model a) log
search_satisfies standing p clauses trail count budget log a is low closed all holds = record {
  answer = satisfies_all (value_of a) p.clauses (λ k d h. holds_clause (get_or p.clauses k d) (is.known (get_or p.clauses k d) (earlier_known p.clauses log (get_or p.clauses k d) (Contains-get_or p.clauses k d h))));
  accepted = is.accepted;
  fresh = is.fresh;
  covered = is.covered;
  rising = is.added_rising;
  within = omega (arith, is.counted);
}
  where
    holds_clause : (c : List Literal) → Contains clauses c → clause_value (value_of a) c ≡ true
    holds_clause c there =
        closed_true (value_of a) (literals trail.entries) c holds
        (λ l h.
        let low : l.var ≤ p.vars = all_has (λ m. m.var ≤ p.vars) c l (All-contains (IsWithin p.vars) clauses c is.within there) h in
        let up : 0 < l.var = above_floor 0 c l (All-contains IsRising clauses c is.rising there) h in
        let limit : trail.limit ≡ p.vars + 1 = is.limit in
        all l.var up (omega arith))
        (All-contains (IsClosed (literals trail.entries)) clauses c closed there)

-- what a conflict that ends the search means
pub search_ends : (p : Problem) (clauses new : List (List Literal)) (trail after : LeveledTrail) (log lines : List Line) (conflict added count budget : ℕ) (o : Option Found) (found : Found) → IsSearching p clauses trail added log → added ≤ budget → IsConflict (numbered clauses) trail.entries conflict → IsResolved clauses new trail after log lines conflict added count budget o → o ≡ Some found → IsLaw p budget found lines
search_ends p clauses new trail after log lines conflict added count budget o found is low at resolved e = by_found found (subst (IsResolved clauses new trail after log lines conflict added count budget) e resolved)
  where
    by_found : (f : Found) → IsResolved clauses new trail after log lines conflict added count budget (Some f) → IsLaw p budget f lines
    by_found (Model a) so = absurd so
    by_found Refuted so = search_refutes (numbered clauses) p clauses trail added budget log lines conflict is low at so.0 so.1
    by_found Spent so = search_spends (numbered clauses) p clauses trail added budget log lines conflict so.2.0 so.2.1 so.2.2 is at so.0 so.1 so.2.3

-- and one that doesn't
pub search_goes_on : (p : Problem) (clauses new : List (List Literal)) (trail after : LeveledTrail) (log lines : List Line) (conflict added count budget : ℕ) (o : Option Found) → IsSearching p clauses trail added log → IsConflict (numbered clauses) trail.entries conflict → IsResolved clauses new trail after log lines conflict added count budget o → o ≡ None → IsSearching p new after count lines × (count ≤ budget)
search_goes_on p clauses new trail after log lines conflict added count budget o is at resolved e =
    let so : IsResolved clauses new trail after log lines conflict added count budget None = subst (IsResolved clauses new trail after log lines conflict added count budget) e resolved in
    (search_learns p clauses new trail after added count log lines conflict is at so.0 so.1, so.2)

-- where nothing is left to decide, the trail that is still the same makes the formula true
pub search_is_done : (p : Problem) (clauses : List (List Literal)) (trail same : LeveledTrail) (count budget : ℕ) (log : List Line) (a : FinMap nat_cmp Bool) → IsSearching p clauses trail count log → count ≤ budget → AllClosed clauses trail.entries → AllAssigned trail → same ≡ trail → MakesTrue (value_of a) (literals same.entries) → IsLaw p budget (Model a) log
search_is_done p clauses trail same count budget log a is low closed all e holds =
    search_satisfies (numbered clauses) p clauses trail count budget log a is low closed all (subst (λ (t : LeveledTrail). MakesTrue (value_of a) (literals t.entries)) e holds)

-- a decision, with the clauses and the count that are still the same
pub search_decided : (p : Problem) (clauses same : List (List Literal)) (trail after : LeveledTrail) (count kept : ℕ) (log : List Line) → IsSearching p clauses trail count log → AllClosed clauses trail.entries → Decides trail after → same ≡ clauses → kept ≡ count → IsSearching p same after kept log
search_decided p clauses same trail after count kept log is closed decides e f =
    subst (λ cs. IsSearching p cs after kept log) (sym e) (subst (λ n. IsSearching p clauses after n log) (sym f) (search_decides p clauses trail after count log is closed decides))
