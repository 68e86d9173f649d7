-- A search by watched clauses begins, moves, learns, and ends.
use Rattle.std.proofs.Common.{◌≡◌, ℕ, ◌+◌, ◌-◌, ◌*◌, ◌<◌, ◌≤◌, Bool, true, false, cond, List, [], ◌∷◌, ◌++◌, ◌⊎◌, Option, None, Some, IfSome, length, get_or, take, drop, refl, sym, ap, ◌∙◌, subst, inl, inr, arith, length-append}
use Rattle.std.specs.Prelude.{IfOk, Result, Ok, Err, if◌then◌else◌}
use Rattle.std.specs.List.{All, Contains}
use Rattle.std.proofs.lemmas.Nat.{mul-le}
use Rattle.std.proofs.lemmas.List.{take-append-drop, drop_more, get_or-drop, get_or-take, length-drop, length-take-le, take-take}
use Rattle.std.proofs.lemmas.List.Elements.{All-nil, All-append, All-weaker}
use Rattle.bd_cnf.specs.Literal.{Literal, has_variable}
use Rattle.bd_cnf.specs.Clause.{IsRising, IsWithin}
use Rattle.bd_cnf.specs.Problem.{Problem, AreWithin}
use Rattle.bd_cnf.specs.Standing.{Standing, IsBelow}
use Rattle.bd_cnf.specs.Trail.{IsClosed, AreClosed}
use Rattle.bd_cnf.specs.Assignment.{value_of}
use Rattle.std.specs.FinMap.{FinMap, insert}
use Rattle.std.specs.Ordering.{nat_cmp}
use Rattle.bd_lrat.specs.declared.line.Line.{Line}
use Rattle.bd_lrat.specs.declared.line.Line.TheVariants.{Add, Delete}
use Rattle.bd_lrat.specs.Database.{database, numbered, remove_all}
use Rattle.bd_watch.specs.declared.watch.Watch.{Watch}
use Rattle.bd_watch.specs.Levels.{Assigned, assigned, literals, IsComplete}
use Rattle.bd_watch.specs.Trails.{LeveledTrail, IsDecisionAt, IsLastStart, IsStartFrom, IsLastDecision, AllAssigned, MakesTrue}
use Rattle.bd_watch.specs.Watching.{front, IsConflict, IsAsserting}
use Rattle.bd_watch.specs.Watch.{IsWatching, IsLoaded, Propagates, Starts, DecidesIn, TakesBack, MayLearn, Learns}
use Rattle.bd_watch.proofs.Placed.{complete_front, complete_consistent}
use Rattle.bd_watch.proofs.Fronts.{no_decisions}
use Rattle.bd_watch.proofs.Numbered.{all_from_numbered}
use Rattle.bd_cdcl.specs.Law.{IsLaw}
use Rattle.bd_cdcl.specs.declared.solver.Found.{Found}
use Rattle.bd_cdcl.specs.declared.solver.Found.TheVariants.{Model, Refuted, Spent}
use Rattle.bd_cdcl.specs.declared.cdcl.search.Search.{Search}
use Rattle.bd_cdcl.specs.declared.cdcl.learn.Lesson.{Lesson}
use Rattle.bd_cdcl.specs.declared.cdcl.reduce.Deletion.{Deletion}
use Rattle.bd_cdcl.specs.inner.Deleting.{Deletes}
use Rattle.bd_cdcl.specs.inner.Deletions.{KeepsFixed, MayDelete, IsReduced, standing_of, AreCovered}
use Rattle.bd_cdcl.specs.inner.Search.{addition, conflict_hints, IsSearching, IsSearchingIn}
use Rattle.bd_cdcl.specs.inner.Analyses.{IsClear, IsLesson}
use Rattle.bd_cdcl.specs.inner.Descents.{standing_in, IsBegun, IsDescending, GoesOn, Advances, Follows, Steps, distance, to_go}
use Rattle.bd_cdcl.proofs.SearchSteps.{search_moves_in, search_adds, search_deletes, search_refutes, search_spends, search_satisfies}
use Rattle.bd_cdcl.proofs.Analyses.{start_reason}
use Rattle.bd_cdcl.proofs.DeletedClauses.{fixed_longer, fixed_pushed, fixed_back, conflict_in, closed_in, complete_in, reduced_none, reduced_moves, reduced_adds, reduced_deletes}
use Rattle.bd_cdcl.proofs.CoveredDeletions.{reduced_covered, deleted_covered, may_delete_given, remove_all-append, standing_adds}

-- a search begins with the formula's clauses and the literals of those of one
pub descent_searches : (p : Problem) (old new : Watch) (o : Option ℕ) → IsLoaded (p.vars + 1) p.clauses old → Starts old new o → IsSearching p new.clauses new.trail 0 []
descent_searches p old new o loaded starts = record {
  limit = starts.limit ∙ ap (λ (t : LeveledTrail). t.limit) loaded.trail;
  complete = starts.complete;
  rising = subst (All IsRising) (sym starts.clauses) loaded.watched.rising;
  within = subst (AreWithin p.vars) (sym starts.clauses) (All-weaker (IsBelow (p.vars + 1)) (IsWithin p.vars) (λ c. All-weaker (λ (l : Literal). l.var < p.vars + 1) (λ (l : Literal). l.var ≤ p.vars) (λ l low. omega arith) c) old.clauses loaded.watched.below);
  known = λ c h. subst (λ cs. Contains cs c) (sym clauses) h;
  accepted = tt;
  fresh = tt;
  added_rising = tt;
  stands = ap (λ cs. database p.vars (length cs) (numbered cs)) (sym clauses);
  counted = refl;
  covered = tt;
  last = λ low. absurd (omega (arith, low));
}
  where
    clauses : new.clauses ≡ p.clauses
    clauses = starts.clauses ∙ loaded.clauses_are

-- the trail moves, and stays complete
pub descent_moves : (p : Problem) (old new : Search) (log : List Line) → IsDescending p old log → IsWatching new.watch → new.watch.clauses ≡ old.watch.clauses → new.watch.trail.limit ≡ old.watch.trail.limit → KeepsFixed old.watch.trail.entries new.watch.trail.entries → new.learned ≡ old.learned → new.analysis ≡ old.analysis → new.deletion ≡ old.deletion → IsDescending p new log
descent_moves p old new log is watching clauses limit fixed learned analysis deletion = record {
  watching = watching;
  reduced = subst (IsReduced new.watch.clauses new.watch.trail.entries) (sym same) reduced;
  given =
      subst (λ (x : Deletion). All (λ id. id ≤ length new.watch.clauses) x.deleted.items) (sym deletion)
      (subst (λ (cs : List (List Literal)). All (λ id. id ≤ length cs) old.deletion.deleted.items) (sym clauses) is.given);
  searching =
      subst (λ s. IsSearchingIn s p new.watch.clauses new.watch.trail new.learned log) (sym same)
      (subst (λ cs. IsSearchingIn (standing_in old) p cs new.watch.trail new.learned log) (sym clauses)
      (subst (λ n. IsSearchingIn (standing_in old) p old.watch.clauses new.watch.trail n log) (sym learned)
      (search_moves_in (standing_in old) p old.watch.clauses old.watch.trail new.watch.trail old.learned log is.searching limit
      (complete_in new.watch.clauses new.watch.trail.entries (standing_in old) watching.complete reduced))));
  clear = subst (λ n. IsClear n new.analysis) (sym limit) (subst (IsClear old.watch.trail.limit) (sym analysis) is.clear);
}
  where
    same : standing_in new ≡ standing_in old
    same = ap (λ cs. standing_of cs new.deletion.deleted.items) clauses ∙ ap (λ (x : Deletion). standing_of old.watch.clauses x.deleted.items) deletion

    reduced : IsReduced new.watch.clauses new.watch.trail.entries (standing_in old)
    reduced = subst (λ cs. IsReduced cs new.watch.trail.entries (standing_in old)) (sym clauses) (reduced_moves old.watch.clauses old.watch.trail.entries new.watch.trail.entries (standing_in old) fixed is.reduced)

-- by propagation
abbrev pub propagated : Search → Watch → Search
propagated d w = record { watch = w; analysis = d.analysis; guide = d.guide; deletion = d.deletion; learned = d.learned; restarts = d.restarts }

pub descent_propagates : (p : Problem) (d : Search) (w : Watch) (log : List Line) (o : Option ℕ) → IsDescending p d log → Propagates d.watch w o → IsDescending p (propagated d w) log
descent_propagates p d w log o is propagates =
    descent_moves p d (propagated d w) log is propagates.watching propagates.clauses propagates.limit (fixed_longer d.watch.trail.entries w.trail.entries propagates.longer propagates.kept) refl refl refl

-- what was deleted, with more
abbrev pub deleting : Search → Deletion → Search
deleting d del = record { watch = d.watch; analysis = d.analysis; guide = d.guide; deletion = del; learned = d.learned; restarts = d.restarts }

-- clauses that level 0 makes true are deleted, after one was learned
pub descent_deletes : (p : Problem) (d : Search) (del : Deletion) (log lines : List Line) → IsDescending p d log → Deletes d.watch d.deletion del log lines → (0 < d.learned) ⊎ (lines ≡ log) → IsDescending p (deleting d del) lines
descent_deletes p d del log lines is (inl (same, unchanged)) after = subst (IsDescending p (deleting d del)) (sym unchanged) (record {
  watching = is.watching;
  reduced = subst (λ ids. IsReduced d.watch.clauses d.watch.trail.entries (standing_of d.watch.clauses ids)) (sym same) is.reduced;
  given = subst (All (λ id. id ≤ length d.watch.clauses)) (sym same) is.given;
  searching = subst (λ ids. IsSearchingIn (standing_of d.watch.clauses ids) p d.watch.clauses d.watch.trail d.learned log) (sym same) is.searching;
  clear = is.clear;
})
descent_deletes p d del log lines is (inr deletes) (inr unchanged) =
    let longer : length lines ≡ length log + 1 = ap length deletes.logged ∙ length-append log (Delete (length d.watch.clauses) deletes.ids ∷ []) in
    absurd (omega (arith, longer, ap length unchanged))
descent_deletes p d del log lines is (inr deletes) (inl some) = record {
  watching = is.watching;
  reduced = subst (IsReduced clauses entries) (sym same) reduced;
  given = subst (All (λ id. id ≤ length clauses)) (sym deletes.noted) (All-append (λ id. id ≤ length clauses) d.deletion.deleted.items deletes.ids is.given (All-weaker (MayDelete clauses entries) (λ id. id ≤ length clauses) (may_delete_given clauses entries) deletes.ids deletes.satisfied));
  searching =
      subst (λ s. IsSearchingIn s p clauses d.watch.trail d.learned lines) (sym same)
      (subst (IsSearchingIn standing p clauses d.watch.trail d.learned) (sym deletes.logged)
      (search_deletes (standing_in d) p clauses d.watch.trail d.learned log deletes.ids is.searching some deletes.some deletes.stand deletes.differ
      (closed_in clauses entries (standing_in d) is.watching.complete is.reduced (literals entries) deletes.closed)
      (deleted_covered clauses entries (standing_in d) standing deletes.ids complete is.reduced deletes.satisfied)
      complete));
  clear = is.clear;
}
  where
    clauses : List (List Literal)
    clauses = d.watch.clauses

    entries : List Assigned
    entries = d.watch.trail.entries

    standing : Standing
    standing = remove_all (standing_in d) deletes.ids

    same : standing_of clauses del.deleted.items ≡ standing
    same = ap (standing_of clauses) deletes.noted ∙ sym (remove_all-append (numbered clauses) d.deletion.deleted.items deletes.ids)

    reduced : IsReduced clauses entries standing
    reduced = reduced_deletes clauses entries deletes.ids (standing_in d) deletes.satisfied is.reduced

    complete : IsComplete standing entries
    complete = complete_in clauses entries standing is.watching.complete reduced

-- between two steps a search is complete, and covers what it deleted
pub descent_complete : (p : Problem) (d : Search) (log : List Line) → IsDescending p d log → IsComplete (standing_in d) d.watch.trail.entries
descent_complete p d log is = is.searching.complete

pub descent_covered : (p : Problem) (d : Search) (log : List Line) → IsDescending p d log → AreCovered d.watch.clauses (standing_in d)
descent_covered p d log is = reduced_covered d.watch.clauses d.watch.trail.entries (standing_in d) is.searching.complete is.reduced

-- the place of the last decision, as the parts of the trail
pub last_parts : (trail : List Assigned) (start : ℕ) (d : Assigned) → IsLastStart trail start → IsLastDecision trail (take start trail) (get_or trail start d).literal (drop (start + 1) trail)
last_parts trail start d last = record {
  whole = sym (take-append-drop start trail) ∙ ap (λ es. take start trail ++ es) (drop_more trail start d last.decision.within) ∙ ap (λ (a : Assigned). take start trail ++ a ∷ drop (start + 1) trail) (undecided (get_or trail start d) (last.decision.undecided d));
  implied = no_decisions (drop (start + 1) trail) (λ q at.
      let low : q < length (drop (start + 1) trail) = at.within in
      let later : (start + 1) + q ≤ start = last.last ((start + 1) + q) (record {
        within = omega (arith, length-drop (start + 1) trail);
        undecided = λ e. ap (λ (a : Assigned). a.reason) (sym (get_or-drop (start + 1) trail q e)) ∙ at.undecided e;
      }) in
      omega arith);
}
  where
    undecided : (a : Assigned) → a.reason ≡ None → a ≡ assigned a.literal None
    undecided a e = λ i. record { literal = a.literal; reason = e i }

-- the trail was taken back to the start of a level, where that was due
pub restart_advances : (old new : Search) (place start : ℕ) → old.restarts ≡ true → new.restarts ≡ false → IsStartFrom old.watch.trail.entries place start → TakesBack old.watch new.watch start → Advances old new
restart_advances old new place start due done from backs = record {
  watching = backs.watching;
  clauses = backs.clauses;
  limit = limit;
  fixed = subst (KeepsFixed old.watch.trail.entries) (sym (ap (λ (t : LeveledTrail). t.entries) backs.trail)) (fixed_back old.watch.trail.entries start from.decision);
  nearer =
      let far : distance old ≡ (old.watch.trail.limit + 1) + (old.watch.trail.limit - length old.watch.trail.entries) = ap (λ b. cond b (old.watch.trail.limit + 1) 0 + (old.watch.trail.limit - length old.watch.trail.entries)) due in
      let near : distance new ≡ 0 + (new.watch.trail.limit - length new.watch.trail.entries) = ap (λ b. cond b (new.watch.trail.limit + 1) 0 + (new.watch.trail.limit - length new.watch.trail.entries)) done in
      omega (arith, far, near, limit);
}
  where
    limit : new.watch.trail.limit ≡ old.watch.trail.limit
    limit = ap (λ (t : LeveledTrail). t.limit) backs.trail

-- a literal was decided
pub decision_advances : (old new : Search) (l : Literal) → new.restarts ≡ old.restarts → DecidesIn old.watch new.watch l → Advances old new
decision_advances old new l same decides = record {
  watching = decides.watching;
  clauses = decides.clauses;
  limit = limit;
  fixed = subst (KeepsFixed old.watch.trail.entries) (sym entries) (fixed_pushed old.watch.trail.entries (assigned l None));
  nearer =
      let size : length new.watch.trail.entries ≡ length old.watch.trail.entries + 1 = ap length entries ∙ length-append old.watch.trail.entries (assigned l None ∷ []) in
      let near : distance new ≡ cond old.restarts (old.watch.trail.limit + 1) 0 + (old.watch.trail.limit - length new.watch.trail.entries) = ap (λ b. cond b (new.watch.trail.limit + 1) 0 + (new.watch.trail.limit - length new.watch.trail.entries)) same ∙ ap (λ n. cond old.restarts (n + 1) 0 + (n - length new.watch.trail.entries)) limit in
      omega (arith, near, size, limit, decides.watching.room);
}
  where
    limit : new.watch.trail.limit ≡ old.watch.trail.limit
    limit = ap (λ (t : LeveledTrail). t.limit) decides.trail

    entries : new.watch.trail.entries ≡ old.watch.trail.entries ++ assigned l None ∷ []
    entries = ap (λ (t : LeveledTrail). t.entries) decides.trail

-- where a clause was learned, all that isn't deleted stands still
learned_reduced : (p : Problem) (old : Search) (back new : Watch) (start : ℕ) (lesson : Lesson) (log : List Line) → (is : IsDescending p old log) → IsLesson old.watch start lesson → TakesBack old.watch back lesson.backjump → Learns back new lesson.clause lesson.first → IsReduced new.clauses new.trail.entries (insert (standing_in old) (length old.watch.clauses + 1) lesson.clause)
learned_reduced p old back new start lesson log is taught backs learns =
    subst (λ cs. IsReduced cs new.trail.entries (insert (standing_in old) (length clauses + 1) lesson.clause)) (sym (learns.clauses ∙ ap (λ cs. cs ++ lesson.clause ∷ []) backs.clauses))
    (reduced_adds clauses new.trail.entries (standing_in old) lesson.clause (reduced_moves clauses old.watch.trail.entries new.trail.entries (standing_in old) keeps is.reduced))
  where
    clauses : List (List Literal)
    clauses = old.watch.clauses

    asserted : Assigned
    asserted = assigned lesson.first (Some (length back.clauses + 1))

    entries : new.trail.entries ≡ take lesson.backjump old.watch.trail.entries ++ asserted ∷ []
    entries = ap (λ (t : LeveledTrail). t.entries) learns.trail ∙ ap (λ (t : LeveledTrail). t.entries ++ asserted ∷ []) backs.trail

    keeps : KeepsFixed old.watch.trail.entries new.trail.entries
    keeps = subst (KeepsFixed old.watch.trail.entries) (sym entries) (λ a fixed. fixed_pushed (take lesson.backjump old.watch.trail.entries) asserted a (fixed_back old.watch.trail.entries lesson.backjump taught.decision a fixed))

-- a clause was learned there
pub descent_learns : (p : Problem) (old : Search) (back new : Watch) (start : ℕ) (lesson : Lesson) (log : List Line) → (is : IsDescending p old log) → IsLastStart old.watch.trail.entries start → IsLesson old.watch start lesson → TakesBack old.watch back lesson.backjump → Learns back new lesson.clause lesson.first → IsSearchingIn (insert (standing_in old) (length old.watch.clauses + 1) lesson.clause) p new.clauses new.trail (old.learned + 1) (log ++ addition old.watch.clauses lesson.clause lesson.hints ∷ [])
descent_learns p old back new start lesson log is last taught backs learns =
    let clauses = old.watch.clauses in
    let standing = standing_in old in
    let all_clauses : new.clauses ≡ clauses ++ lesson.clause ∷ [] = learns.clauses ∙ ap (λ cs. cs ++ lesson.clause ∷ []) backs.clauses in
    let front_complete = complete_front (numbered clauses) (take start old.watch.trail.entries) (drop start old.watch.trail.entries) (subst (IsComplete (numbered clauses)) (sym (take-append-drop start old.watch.trail.entries)) is.watching.complete) in
    let closed : AreClosed (numbered clauses) (front old.watch.trail.entries start) = start_reason old.watch start is.watching last in
    let limit : new.trail.limit ≡ old.watch.trail.limit = ap (λ (t : LeveledTrail). t.limit) learns.trail ∙ ap (λ (t : LeveledTrail). t.limit) backs.trail in
    subst (λ cs. IsSearchingIn (insert standing (length clauses + 1) lesson.clause) p cs new.trail (old.learned + 1) (log ++ addition clauses lesson.clause lesson.hints ∷ [])) (sym all_clauses)
    (search_adds standing p clauses old.watch.trail new.trail old.learned log lesson.clause lesson.hints (front old.watch.trail.entries start) lesson.first is.searching taught.rising within (taught.follows standing is.reduced)
    (complete_consistent (numbered clauses) (take start old.watch.trail.entries) front_complete)
    (closed_in clauses old.watch.trail.entries standing is.watching.complete is.reduced (front old.watch.trail.entries start) closed)
    (all_from_numbered (IsClosed (front old.watch.trail.entries start)) clauses closed) taught.fresh limit
    (complete_in new.clauses new.trail.entries (insert standing (length clauses + 1) lesson.clause) learns.watching.complete (learned_reduced p old back new start lesson log is taught backs learns)))
  where
    within : IsWithin p.vars lesson.clause
    within = All-weaker (λ (l : Literal). l.var < old.watch.trail.limit) (λ (l : Literal). l.var ≤ p.vars) (λ l low. let limit : old.watch.trail.limit ≡ p.vars + 1 = is.searching.limit in omega arith) lesson.clause taught.below

-- it may be learned where the trail is taken back to
pub may_learn : (watch back : Watch) (start : ℕ) (lesson : Lesson) → IsLesson watch start lesson → TakesBack watch back lesson.backjump → MayLearn back lesson.clause lesson.first lesson.second
may_learn watch back start lesson taught backs = record {
  rising = taught.rising;
  below = subst (λ n. IsBelow n lesson.clause) (sym limit) taught.below;
  asserting = subst (λ es. IsAsserting (literals es) lesson.clause lesson.first) (sym entries) taught.asserting;
  pair = taught.pair;
  levels = λ p at.
      let size : length (take lesson.backjump watch.trail.entries) ≡ lesson.backjump = length-take-le lesson.backjump watch.trail.entries (omega (arith, taught.decision.within)) in
      let there : IsDecisionAt (take lesson.backjump watch.trail.entries) p = subst (λ es. IsDecisionAt es p) entries at in
      let low : p < lesson.backjump = omega (arith, there.within) in
      let both = taught.levels p low (record { within = omega (arith, taught.decision.within); undecided = λ d. ap (λ (a : Assigned). a.reason) (sym (get_or-take lesson.backjump watch.trail.entries p d low)) ∙ there.undecided d }) in
      (both.0, subst (λ es. has_variable (literals es) lesson.second.var ≡ false) (sym (ap (take p) entries ∙ take-take p lesson.backjump watch.trail.entries (omega arith))) both.1);
}
  where
    limit : back.trail.limit ≡ watch.trail.limit
    limit = ap (λ (t : LeveledTrail). t.limit) backs.trail

    entries : back.trail.entries ≡ take lesson.backjump watch.trail.entries
    entries = ap (λ (t : LeveledTrail). t.entries) backs.trail

-- so the search goes on
pub goes_on : (old new : Search) (back : Watch) (start id : ℕ) (lesson : Lesson) (log lines : List Line) → IsLastStart old.watch.trail.entries start → IsLesson old.watch start lesson → TakesBack old.watch back lesson.backjump → Learns back new.watch lesson.clause lesson.first → IsClear old.watch.trail.limit new.analysis → new.learned ≡ old.learned + 1 → new.deletion ≡ old.deletion → id ≡ length back.clauses + 1 → lines ≡ log ++ Add id lesson.clause lesson.hints ∷ [] → GoesOn old new log lines
goes_on old new back start id lesson log lines last taught backs learns clear counted deletion same logged = record {
  learned = counted;
  limit = limit;
  descends = λ p is. record {
    watching = learns.watching;
    reduced = subst (IsReduced new.watch.clauses new.watch.trail.entries) (adds is.given) (learned_reduced p old back new.watch start lesson log is taught backs learns);
    given =
        subst (λ (x : Deletion). All (λ i. i ≤ length new.watch.clauses) x.deleted.items) (sym deletion)
        (All-weaker (λ i. i ≤ length old.watch.clauses) (λ i. i ≤ length new.watch.clauses) (λ i low. omega (arith, low, ap length clauses, length-append old.watch.clauses (lesson.clause ∷ []))) old.deletion.deleted.items is.given);
    searching =
        subst (λ s. IsSearchingIn s p new.watch.clauses new.watch.trail new.learned lines) (adds is.given)
        (subst (λ n. IsSearchingIn (insert (standing_in old) (length old.watch.clauses + 1) lesson.clause) p new.watch.clauses new.watch.trail n lines) (sym counted)
        (subst (IsSearchingIn (insert (standing_in old) (length old.watch.clauses + 1) lesson.clause) p new.watch.clauses new.watch.trail (old.learned + 1)) (sym whole) (descent_learns p old back new.watch start lesson log is last taught backs learns)));
    clear = subst (λ n. IsClear n new.analysis) (sym limit) clear;
  };
}
  where
    limit : new.watch.trail.limit ≡ old.watch.trail.limit
    limit = ap (λ (t : LeveledTrail). t.limit) learns.trail ∙ ap (λ (t : LeveledTrail). t.limit) backs.trail

    clauses : new.watch.clauses ≡ old.watch.clauses ++ lesson.clause ∷ []
    clauses = learns.clauses ∙ ap (λ cs. cs ++ lesson.clause ∷ []) backs.clauses

    adds : All (λ i. i ≤ length old.watch.clauses) old.deletion.deleted.items → insert (standing_in old) (length old.watch.clauses + 1) lesson.clause ≡ standing_in new
    adds given =
        standing_adds old.watch.clauses old.deletion.deleted.items lesson.clause given
        ∙ ap (λ cs. standing_of cs old.deletion.deleted.items) (sym clauses)
        ∙ ap (λ (x : Deletion). standing_of new.watch.clauses x.deleted.items) (sym deletion)

    whole : lines ≡ log ++ addition old.watch.clauses lesson.clause lesson.hints ∷ []
    whole = logged ∙ ap (λ n. log ++ Add n lesson.clause lesson.hints ∷ []) (same ∙ ap (λ (cs : List (List Literal)). length cs + 1) backs.clauses)

-- a search begins where no clause is false
pub descent_begins : (p : Problem) (old new : Search) → IsBegun p old → Starts old.watch new.watch None → new.learned ≡ old.learned → new.analysis ≡ old.analysis → new.deletion ≡ old.deletion → IsDescending p new []
descent_begins p old new begun starts learned analysis deletion = record {
  watching = starts.start;
  reduced = subst (λ ids. IsReduced new.watch.clauses new.watch.trail.entries (standing_of new.watch.clauses ids)) (sym none) (reduced_none new.watch.clauses new.watch.trail.entries);
  given = subst (All (λ id. id ≤ length new.watch.clauses)) (sym none) (All-nil (λ id. id ≤ length new.watch.clauses));
  searching =
      subst (λ ids. IsSearchingIn (standing_of new.watch.clauses ids) p new.watch.clauses new.watch.trail new.learned []) (sym none)
      (subst (λ n. IsSearching p new.watch.clauses new.watch.trail n []) (sym (learned ∙ begun.none)) (descent_searches p old.watch new.watch None begun.loaded starts));
  clear = subst (λ n. IsClear n new.analysis) (sym (starts.limit ∙ ap (λ (t : LeveledTrail). t.limit) begun.loaded.trail)) (subst (IsClear (p.vars + 1)) (sym analysis) begun.clear);
}
  where
    none : new.deletion.deleted.items ≡ []
    none = ap (λ (x : Deletion). x.deleted.items) deletion ∙ begun.all

-- or ends there
pub units_refute : (p : Problem) (old : Search) (new : Watch) (budget id : ℕ) (log lines : List Line) → IsBegun p old → Starts old.watch new (Some id) → log ≡ [] → lines ≡ log ++ addition new.clauses [] (conflict_hints new.trail.entries id) ∷ [] → IsLaw p budget Refuted lines
units_refute p old new budget id log lines begun starts empty logged =
    search_refutes (numbered new.clauses) p new.clauses new.trail 0 budget [] lines id (descent_searches p old.watch new (Some id) begun.loaded starts) (omega arith) starts.start starts.level_zero (logged ∙ ap (λ ls. ls ++ addition new.clauses [] (conflict_hints new.trail.entries id) ∷ []) empty)

-- what a conflict that ends the search means
pub descent_ends : (p : Problem) (old new : Search) (log lines : List Line) (budget id : ℕ) (o : Option Found) (found : Found) → IsDescending p old log → old.learned ≤ budget → IsConflict (numbered old.watch.clauses) old.watch.trail.entries id → Follows old new log lines budget id o → o ≡ Some found → IsLaw p budget found lines
descent_ends p old new log lines budget id o found is low at follows e = by_found found (subst (Follows old new log lines budget id) e follows)
  where
    at_standing : IsConflict (standing_in old) old.watch.trail.entries id
    at_standing = conflict_in old.watch.clauses old.watch.trail.entries (standing_in old) is.watching.complete is.reduced id at

    by_found : (f : Found) → Follows old new log lines budget id (Some f) → IsLaw p budget f lines
    by_found (Model a) so = absurd so
    by_found Refuted so = search_refutes (standing_in old) p old.watch.clauses old.watch.trail old.learned budget log lines id is.searching low at_standing so.0 so.1
    by_found Spent so =
        let d : Assigned = assigned (record { var = 0; positive = true }) None in
        let (start, last) = so.2 in
        search_spends (standing_in old) p old.watch.clauses old.watch.trail old.learned budget log lines id (take start old.watch.trail.entries) (get_or old.watch.trail.entries start d).literal (drop (start + 1) old.watch.trail.entries) is.searching at_standing so.0 so.1 (last_parts old.watch.trail.entries start d last)

-- and one that doesn't
pub descent_goes_on : (p : Problem) (old new : Search) (log lines : List Line) (budget id : ℕ) (o : Option Found) → IsDescending p old log → Follows old new log lines budget id o → o ≡ None → IsDescending p new lines × (new.learned ≡ old.learned + 1) × (old.learned < budget) × (new.watch.trail.limit ≡ old.watch.trail.limit)
descent_goes_on p old new log lines budget id o is follows e =
    let so = subst (Follows old new log lines budget id) e follows in
    (so.0.descends p is, so.0.learned, so.1, so.0.limit)

-- where nothing is left to decide, the trail makes the formula true
pub descent_satisfies : (p : Problem) (d : Search) (budget : ℕ) (log : List Line) (a : FinMap nat_cmp Bool) → IsDescending p d log → d.learned ≤ budget → AreClosed (numbered d.watch.clauses) (literals d.watch.trail.entries) → AllAssigned d.watch.trail → MakesTrue (value_of a) (literals d.watch.trail.entries) → IsLaw p budget (Model a) log
descent_satisfies p d budget log a is low closed all holds =
    search_satisfies (standing_in d) p d.watch.clauses d.watch.trail d.learned budget log a is.searching low (all_from_numbered (IsClosed (literals d.watch.trail.entries)) d.watch.clauses closed) all holds

-- each learned clause takes one from the budget, which is worth more than any distance to the next
descent_far : (learns : Bool) (limit len : ℕ) → cond learns (limit + 1) 0 + (limit - len) < 2 * limit + 2
descent_far true limit len = omega arith
descent_far false limit len = omega arith

fewer : (left more step rest far : ℕ) → more ≡ left + 1 → rest < step → left * step + rest < more * step + far
fewer left more step rest far one small = omega (arith, mul-le (left + 1) step more step (omega arith) (omega arith))

pub descent_nearer : (budget : ℕ) (old new : Search) → new.learned ≡ old.learned + 1 → old.learned < budget → new.watch.trail.limit ≡ old.watch.trail.limit → (budget - new.learned) * (2 * new.watch.trail.limit + 2) + distance new < (budget - old.learned) * (2 * old.watch.trail.limit + 2) + distance old
descent_nearer budget old new learned room limit =
    subst (λ n. (budget - new.learned) * (2 * new.watch.trail.limit + 2) + distance new < (budget - old.learned) * (2 * n + 2) + distance old) limit
    (fewer (budget - new.learned) (budget - old.learned) (2 * new.watch.trail.limit + 2) (distance new) (distance old) (omega arith) (descent_far new.restarts new.watch.trail.limit (length new.watch.trail.entries)))

-- what a conflict led to is what the step leads to: the conflict came by propagation, which left the search at that many learned clauses
pub descent_followed : (p : Problem) (first old new : Search) (log lines : List Line) (budget id : ℕ) → IsDescending p old log → old.learned ≤ budget → IsConflict (numbered old.watch.clauses) old.watch.trail.entries id → old.learned ≡ first.learned → old.watch.trail.limit ≡ first.watch.trail.limit
    → (found : Option Found) → Follows old new log lines budget id found → IfSome found (λ _. new ≡ old) → Steps p first new lines budget found
descent_followed p first old new log lines budget id is fits at learned limit None follows ended =
    let so = descent_goes_on p old new log lines budget id None is follows refl in
    let more : new.learned ≡ first.learned + 1 = so.1 ∙ ap (λ n. n + 1) learned in
    let room : first.learned < budget = subst (λ n. n < budget) learned so.2 in
    record { descending = so.0; within = omega (arith, more, room); nearer = descent_nearer budget first new more room (so.3 ∙ limit) }
descent_followed p first old new log lines budget id is fits at learned limit (Some found) follows ended =
    let same : new ≡ old = ended in
    record {
      law = descent_ends p old new log lines budget id (Some found) found is fits at follows refl;
      complete = subst (λ (s : Search). IsComplete (standing_in s) s.watch.trail.entries) (sym same) (descent_complete p old log is);
      covered = subst (λ (s : Search). AreCovered s.watch.clauses (standing_in s)) (sym same) (descent_covered p old log is);
    }

further : (a x y : ℕ) → x < y → a + x < a + y
further a x y h = omega (arith, h)

nearer_by : (x l n m : ℕ) → n ≤ m → x + (l - m) ≤ x + (l - n)
nearer_by x l n m h = omega (arith, h)

-- it comes nearer to the next learned clause where it goes on after propagation
pub descent_advances : (budget : ℕ) (d : Search) (w : Watch) (o : Option ℕ) (new : Search) → Propagates d.watch w o → new.learned ≡ d.learned → new.watch.trail.limit ≡ w.trail.limit → distance new < distance (propagated d w) → to_go budget new < to_go budget d
descent_advances budget d w o new propagates learned limit near =
    let far : distance (propagated d w) ≤ distance d =
    subst (λ n. (if d.restarts then n + 1 else 0) + (n - length w.trail.entries) ≤ distance d) (sym propagates.limit)
    (nearer_by (if d.restarts then d.watch.trail.limit + 1 else 0) d.watch.trail.limit (length d.watch.trail.entries) (length w.trail.entries) propagates.longer) in
    let less : distance new < distance d = omega (arith, near, far) in
    subst (λ n. (budget - n) * (2 * new.watch.trail.limit + 2) + distance new < to_go budget d) (sym learned)
    (subst (λ n. (budget - d.learned) * (2 * n + 2) + distance new < to_go budget d) (sym (limit ∙ propagates.limit))
    (further ((budget - d.learned) * (2 * d.watch.trail.limit + 2)) (distance new) (distance d) less))

-- both of what an answer has
pub both_if_ok : {X E : Type 0} (P Q R : X → Type 0) → ((x : X) → P x → Q x → R x) → (r : Result X E) → IfOk r P → IfOk r Q → IfOk r R
both_if_ok P Q R f (Ok x) p q = f x p q
both_if_ok P Q R f (Err e) p q = tt
