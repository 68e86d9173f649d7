-- An analysis as it is kept, place by place.
use Rattle.std.proofs.Common.{◌≡◌, ℕ, ◌+◌, ◌-◌, ◌<◌, ◌≤◌, Bool, true, false, List, [], ◌∷◌, ◌++◌, Option, None, Some, length, get_or, set, map, reverse, refl, sym, ap, ◌∙◌, subst, inl, inr, arith, length-set}
use Rattle.std.specs.Prelude.{IsSomeAnd, IsSome, IfSome, is_some}
use Rattle.std.specs.List.{Contains}
use Rattle.std.specs.FinMap.{get}
use Rattle.std.proofs.lemmas.Bool.{false≢true, cases_Bool}
use Rattle.std.proofs.lemmas.List.{reverse-append, get_or_read}
use Rattle.std.proofs.lemmas.List.Elements.{All-nil, All-cons, Contains-get_or}
use Rattle.bd_cnf.specs.Literal.{Literal, negate, has_literal, has_variable}
use Rattle.bd_cnf.specs.Clause.{IsRising}
use Rattle.bd_cnf.specs.Standing.{Standing}
use Rattle.bd_cnf.specs.Trail.{is_false, open_literals, IsClosed, AreClosed}
use Rattle.bd_cnf.proofs.Closed.{has_variable_of}
use Rattle.bd_lrat.specs.declared.line.Hint.TheVariants as hint
use Rattle.bd_lrat.specs.Database.{numbered}
use Rattle.bd_watch.specs.declared.watch.Watch.{Watch}
use Rattle.bd_watch.specs.Levels.{Assigned, assigned, literals, reasons, IsReason}
use Rattle.bd_watch.specs.Trails.{IsLastStart}
use Rattle.bd_watch.specs.Watching.{front, IsConflict}
use Rattle.bd_watch.specs.Watch.{IsWatching}
use Rattle.bd_watch.proofs.Parts.{open_from, has_single}
use Rattle.bd_watch.proofs.Fronts.{in_front}
use Rattle.bd_watch.proofs.Guards.{front_part}
use Rattle.bd_watch.proofs.Numbered.{id_within, clause_of_id}
use Rattle.bd_cdcl.specs.declared.cdcl.analyze.Analysis.{Analysis}
use Rattle.bd_cdcl.specs.inner.Analysis.{marked, AreUnmarked, IsMarkedIn, IsAnalyzing, Marks, AreAssigned}
use Rattle.bd_cdcl.specs.inner.Analyses.{IsClear, Analyzes, Keeps, Resolves}
use Rattle.bd_cdcl.proofs.AnalysisSteps.{placed_at, analysis_passes, analysis_keeps, analysis_resolves, analysis_begins}

-- what a reason or a conflict names
pub named : (standing : Standing) (id : ℕ) (P : List Literal → Type 0) → IsSomeAnd (get standing id) P → (clause : List Literal) × (get standing id ≡ Some clause) × P clause
named standing id P is = go (get standing id) refl is
  where
    go : (o : Option (List Literal)) → get standing id ≡ o → IsSomeAnd o P → (clause : List Literal) × (get standing id ≡ Some clause) × P clause
    go None e so = absurd so
    go (Some c) e so = (c, e, so)

-- a clause that is false has values for all its variables
pub false_assigned : (trail : List Assigned) (clause : List Literal) → open_literals (literals trail) clause ≡ [] → AreAssigned trail clause
false_assigned trail clause bad l here = elim (cases_Bool (is_false (literals trail) l)) [
  | inl e ↦ has_variable_of (literals trail) (negate l) e
  | inr e ↦ absurd (false≢true (subst (λ ls. has_literal ls l ≡ true) bad (open_from (literals trail) clause l here e)))
]

-- so has a reason
pub reason_assigned : (standing : Standing) (trail : List Assigned) (place : ℕ) (d : Assigned) (clause : List Literal) → place < length trail → open_literals (front trail place) clause ≡ (get_or trail place d).literal ∷ [] → has_literal (literals trail) (get_or trail place d).literal ≡ true → AreAssigned trail clause
reason_assigned standing trail place d clause low unit on l here = elim (cases_Bool (is_false (front trail place) l)) [
  | inl e ↦ has_variable_of (literals trail) (negate l) (front_part trail place (negate l) e)
  | inr e ↦ subst (λ (m : Literal). has_variable (literals trail) m.var ≡ true) (sym (has_single l (get_or trail place d).literal (subst (λ ls. has_literal ls l ≡ true) unit (open_from (front trail place) clause l here e)))) (has_variable_of (literals trail) (get_or trail place d).literal on)
]

module _ (watch : Watch) (start : ℕ) (conflict : List Literal) (place : ℕ) where
  pub passes_on : (a : Analysis) → Analyzes watch start conflict (place + 1) a → marked a.marks.items place ≡ false → Analyzes watch start conflict place a
  passes_on a is off = record { room = is.room; resolved = is.resolved; there = is.there; ids = is.ids; analyzing = analysis_passes (numbered watch.clauses) watch.trail.entries start conflict a.marks.items place a.kept.items is.resolved is.analyzing off }

  pub keeps_on : (old new : Analysis) (d : Assigned) (l : Literal) → IsWatching watch → Analyzes watch start conflict (place + 1) old → marked old.marks.items place ≡ true → l ≡ negate (get_or watch.trail.entries place d).literal → Keeps old new place l → (start ≤ place → AreUnmarked old.marks.items start place) → place < length watch.trail.entries → Analyzes watch start conflict place new
  keeps_on old new d l watching is on same keeps lone low = record {
    room = omega (arith, is.room, ap length keeps.marks, length-set old.marks.items place false);
    resolved = is.resolved;
    there = is.there;
    ids = is.ids ∙ ap (λ xs. map hint.Unit (reverse xs)) (sym keeps.ids);
    analyzing =
        subst (λ ms. IsAnalyzing (numbered watch.clauses) watch.trail.entries start conflict ms place new.kept.items is.resolved) (sym keeps.marks)
        (subst (λ ks. IsAnalyzing (numbered watch.clauses) watch.trail.entries start conflict (set old.marks.items place false) place ks is.resolved) (sym (keeps.kept ∙ ap (λ (m : Literal). old.kept.items ++ m ∷ []) same))
        (analysis_keeps (numbered watch.clauses) watch.trail.entries start conflict old.marks.items place old.kept.items is.resolved is.analyzing on watching.complete d lone (omega (arith, is.room, watching.room))));
  }

  pub resolves_on : (old new : Analysis) (d : Assigned) (id : ℕ) → IsWatching watch → Analyzes watch start conflict (place + 1) old → marked old.marks.items place ≡ true → (get_or watch.trail.entries place d).reason ≡ Some id → Resolves watch old new place id → (start ≤ place → IsMarkedIn old.marks.items start place) → place < length watch.trail.entries → Analyzes watch start conflict place new
  resolves_on old new d id watching is on reason resolves more low = record {
    room = omega (arith, is.room, ap length resolves.marks, length-set resolves.mid place false, resolves.sets.size);
    resolved = get_or watch.trail.entries place d ∷ is.resolved;
    there = All-cons (Contains watch.trail.entries) (get_or watch.trail.entries place d) is.resolved (Contains-get_or watch.trail.entries place d low) is.there;
    ids = one (get_or watch.trail.entries place d).reason reason;
    analyzing =
        subst (λ ms. IsAnalyzing (numbered watch.clauses) watch.trail.entries start conflict ms place new.kept.items (get_or watch.trail.entries place d ∷ is.resolved)) (sym resolves.marks)
        (subst (λ ks. IsAnalyzing (numbered watch.clauses) watch.trail.entries start conflict (set resolves.mid place false) place ks (get_or watch.trail.entries place d ∷ is.resolved)) (sym resolves.kept)
        (analysis_resolves (numbered watch.clauses) watch.trail.entries start conflict old.marks.items place old.kept.items is.resolved is.analyzing on watching.complete d resolves.mid id resolves.clause resolves.sets reason resolves.stands rising (omega (arith, is.room, watching.room)) more));
  }
    where
      some : IsSome (get (numbered watch.clauses) id)
      some = ap is_some resolves.stands

      rising : IsRising resolves.clause
      rising =
          let both = id_within watch.clauses id some in
          let at : Some resolves.clause ≡ Some (get_or watch.clauses (id - 1) []) = sym resolves.stands ∙ clause_of_id watch.clauses id some in
          let same : resolves.clause ≡ get_or watch.clauses (id - 1) [] = cc in
          subst IsRising (sym same) (watching.watched.rising (id - 1) [] (omega (arith, both.0, both.1)))

      one : (r : Option ℕ) → r ≡ Some id → reasons (assigned (get_or watch.trail.entries place d).literal r ∷ is.resolved) ≡ map hint.Unit (reverse new.ids.items)
      one None e = cc
      one (Some q) e =
          let named_so : q ≡ id = cc in
          ap (λ hs. hint.Unit q ∷ hs) is.ids ∙ ap (λ n. hint.Unit n ∷ map hint.Unit (reverse old.ids.items)) named_so
          ∙ ap (map hint.Unit) (sym (ap reverse resolves.ids ∙ reverse-append old.ids.items (id ∷ [])))

-- the last level begins at the end of one where no clause is false or unit
pub start_reason : (watch : Watch) (start : ℕ) → IsWatching watch → IsLastStart watch.trail.entries start → AreClosed (numbered watch.clauses) (front watch.trail.entries start)
start_reason watch start watching last =
    let d : Assigned = assigned (record { var = 0; positive = true }) None in
    let placed = placed_at watch.trail.entries (numbered watch.clauses) watching.complete start d last.decision.within in
    closed (get_or watch.trail.entries start d).literal (get_or watch.trail.entries start d).reason (last.decision.undecided d) placed.reason
  where
    closed : (l : Literal) (r : Option ℕ) → r ≡ None → IsReason (numbered watch.clauses) (front watch.trail.entries start) l r → AreClosed (numbered watch.clauses) (front watch.trail.entries start)
    closed l None e so = so
    closed l (Some q) e so = cc

pub start_closed : (watch : Watch) (start id : ℕ) (conflict : List Literal) → IsWatching watch → IsLastStart watch.trail.entries start → get (numbered watch.clauses) id ≡ Some conflict → IsClosed (front watch.trail.entries start) conflict
start_closed watch start id conflict watching last stands = subst (λ o. IfSome o (IsClosed (front watch.trail.entries start))) stands (start_reason watch start watching last id)

-- an analysis begins
pub analyzes_from : (watch : Watch) (start id : ℕ) (conflict : List Literal) (old new : Analysis) → IsWatching watch → IsLastStart watch.trail.entries start → get (numbered watch.clauses) id ≡ Some conflict → open_literals (literals watch.trail.entries) conflict ≡ [] → IsClear watch.trail.limit old → Marks watch.trail.entries conflict old.marks.items new.marks.items → new.kept.items ≡ [] → new.ids.items ≡ [] → Analyzes watch start conflict (length watch.trail.entries) new
analyzes_from watch start id conflict old new watching last stands bad clear sets no_kept no_ids = record {
  room = omega (arith, clear.room, sets.size);
  resolved = [];
  there = All-nil (Contains watch.trail.entries);
  ids = ap (λ xs. map hint.Unit (reverse xs)) (sym no_ids);
  analyzing = subst (λ ks. IsAnalyzing (numbered watch.clauses) watch.trail.entries start conflict new.marks.items (length watch.trail.entries) ks []) (sym no_kept)
      (analysis_begins (numbered watch.clauses) watch.trail.entries start conflict old.marks.items new.marks.items watching.complete clear.clear sets bad (start_closed watch start id conflict watching last stands));
}

-- a mark that was read
pub mark_read : (marks : List Bool) (place : ℕ) (b : Bool) → place < length marks → b ≡ get_or marks place b → marked marks place ≡ b
mark_read marks place b h read = sym (get_or_read marks place b h read false)

module _ (watch : Watch) (place : ℕ) (entry : Assigned) (watching : IsWatching watch) (low : place < length watch.trail.entries) (read : entry ≡ get_or watch.trail.entries place entry) where
  -- an entry's reason
  pub entry_reason : (id : ℕ) → entry.reason ≡ Some id → IsSomeAnd (get (numbered watch.clauses) id) (λ c. open_literals (front watch.trail.entries place) c ≡ entry.literal ∷ [])
  entry_reason id reason = at entry.reason reason (subst (λ (a : Assigned). IsReason (numbered watch.clauses) (front watch.trail.entries place) a.literal a.reason) (sym read) (placed_at watch.trail.entries (numbered watch.clauses) watching.complete place entry low).reason)
    where
      at : (r : Option ℕ) → r ≡ Some id → IsReason (numbered watch.clauses) (front watch.trail.entries place) entry.literal r → IsSomeAnd (get (numbered watch.clauses) id) (λ c. open_literals (front watch.trail.entries place) c ≡ entry.literal ∷ [])
      at None e so = cc
      at (Some q) e so = let same : q ≡ id = cc in subst (λ n. IsSomeAnd (get (numbered watch.clauses) n) (λ c. open_literals (front watch.trail.entries place) c ≡ entry.literal ∷ [])) same so

  pub entry_stands : (id : ℕ) → entry.reason ≡ Some id → IsSome (get (numbered watch.clauses) id)
  entry_stands id reason = let so = named (numbered watch.clauses) id _ (entry_reason id reason) in ap is_some so.1

  pub entry_assigned : (id : ℕ) (clause : List Literal) → entry.reason ≡ Some id → get (numbered watch.clauses) id ≡ Some clause → AreAssigned watch.trail.entries clause
  entry_assigned id clause reason stands =
      reason_assigned (numbered watch.clauses) watch.trail.entries place entry clause low
      (subst (λ (a : Assigned). open_literals (front watch.trail.entries place) clause ≡ a.literal ∷ []) read (subst (λ o. IsSomeAnd o (λ c. open_literals (front watch.trail.entries place) c ≡ entry.literal ∷ [])) stands (entry_reason id reason)))
      (front_part watch.trail.entries (place + 1) (get_or watch.trail.entries place entry).literal (in_front watch.trail.entries place (place + 1) entry (omega arith) low))

  pub entry_all_assigned : (id : ℕ) → entry.reason ≡ Some id → IsSomeAnd (get (numbered watch.clauses) id) (AreAssigned watch.trail.entries)
  entry_all_assigned id reason =
      let so = named (numbered watch.clauses) id _ (entry_reason id reason) in
      subst (λ o. IsSomeAnd o (AreAssigned watch.trail.entries)) (sym so.1) (entry_assigned id so.0 reason so.1)

  -- a decision from the start of the last level on is its first literal
  pub decision_lone : (start : ℕ) (marks : List Bool) → entry.reason ≡ None → IsLastStart watch.trail.entries start → start ≤ place → AreUnmarked marks start place
  decision_lone start marks none last after p from under =
      let bound : place ≤ start = last.last place (record { within = low; undecided = λ d. ap (λ (a : Assigned). a.reason) (sym (get_or_read watch.trail.entries place entry low read d)) ∙ none }) in
      absurd (omega arith)

  -- a step that keeps
  pub step_keeps : (start : ℕ) (old new : Analysis) (l : Literal) → marked old.marks.items place ≡ true → l ≡ negate entry.literal → (start ≤ place → AreUnmarked old.marks.items start place) → Keeps old new place l → (conflict : List Literal) → Analyzes watch start conflict (place + 1) old → Analyzes watch start conflict place new
  step_keeps start old new l on same lone keeps conflict is = keeps_on watch start conflict place old new entry l watching is on (same ∙ ap (λ (a : Assigned). negate a.literal) read) keeps lone low

  -- and one that resolves
  pub step_resolves : (start id : ℕ) (old new : Analysis) → marked old.marks.items place ≡ true → entry.reason ≡ Some id → (start ≤ place → IsMarkedIn old.marks.items start place) → Resolves watch old new place id → (conflict : List Literal) → Analyzes watch start conflict (place + 1) old → Analyzes watch start conflict place new
  step_resolves start id old new on reason more resolves conflict is = resolves_on watch start conflict place old new entry id watching is on (ap (λ (a : Assigned). a.reason) (sym read) ∙ reason) resolves more low

-- the clause that a conflict names is false
pub conflict_false : (standing : Standing) (trail : List Assigned) (id : ℕ) (clause : List Literal) → IsConflict standing trail id → get standing id ≡ Some clause → open_literals (literals trail) clause ≡ []
conflict_false standing trail id clause at stands = subst (λ o. IsSomeAnd o (λ c. open_literals (literals trail) c ≡ [])) stands at
