-- A search for an assignment by decisions, and what a conflict leads to.
use Rattle.std.specs.Prelude.{◌≡◌, ℕ, ◌+◌, ◌<◌, ◌≤◌, List, [], ◌++◌, ◌∷◌, Option, None, Some, length, map}
use Rattle.std.specs.List.{All, Contains}
use Rattle.bd_cnf.specs.Literal.{Literal, negate}
use Rattle.bd_cnf.specs.Clause.{IsRising, SameLiterals}
use Rattle.bd_cnf.specs.Problem.{Problem, AreWithin}
use Rattle.bd_cnf.specs.Standing.{Standing, IsBelow}
use Rattle.bd_lrat.specs.declared.line.Hint.{Hint}
use Rattle.bd_lrat.specs.declared.line.Hint.TheVariants as hint
use Rattle.bd_lrat.specs.declared.line.Line.{Line}
use Rattle.bd_lrat.specs.declared.line.Line.TheVariants.{Add}
use Rattle.bd_lrat.specs.Database.{database, database_of, numbered}
use Rattle.bd_lrat.specs.Deletions.{HasCoveredDeletions}
use Rattle.bd_lrat.specs.inner.Deletions.{last_added}
use Rattle.bd_lrat.specs.Log.{IsAcceptedLog, IsFresh, AddsRising, after_all, additions, with_added}
use Rattle.bd_cdcl.specs.declared.plain.search.PlainSearch.{PlainSearch}
use Rattle.bd_cdcl.specs.declared.solver.Found.{Found}
use Rattle.bd_cdcl.specs.declared.solver.Found.TheVariants.{Model, Refuted, Spent}
use Rattle.bd_watch.specs.Levels.{Assigned, assigned, decisions, reasons, IsComplete}
use Rattle.bd_watch.specs.Trails.{LeveledTrail, leveled, IsLastDecision}

-- the reasons of a trail, and then the conflict
abbrev pub conflict_hints : List Assigned → ℕ → List Hint
conflict_hints trail conflict = reasons trail ++ hint.Unit conflict ∷ []

-- the addition of a clause under the id after the last, by those hints
abbrev pub addition : List (List Literal) → List Literal → List Hint → Line
addition clauses clause hints = Add (length clauses + 1) clause hints

-- the decision clause was learned: it stands after the others and in the log, and implies the negation of the last decision, to which the trail was taken back
pub record IsLearned (clauses new : List (List Literal)) (trail after : LeveledTrail) (log lines : List Line) (conflict : ℕ) : Type 0 where
  pub clause : List Literal
  pub rising : IsRising clause
  pub same : SameLiterals clause (map negate (decisions trail.entries))
  pub below : IsBelow trail.limit (decisions trail.entries)
  pub front : List Assigned
  pub last : Literal
  pub rest : List Assigned
  pub at : IsLastDecision trail.entries front last rest
  pub added : new ≡ clauses ++ clause ∷ []
  pub logged : lines ≡ log ++ addition clauses clause (conflict_hints trail.entries conflict) ∷ []
  pub asserted : after ≡ leveled trail.limit (front ++ assigned (negate last) (Some (length clauses + 1)) ∷ [])

-- what a conflict led to: a learned clause, the empty clause at level 0, or an end where the budget was spent
abbrev pub IsResolved : List (List Literal) → List (List Literal) → LeveledTrail → LeveledTrail → List Line → List Line → ℕ → ℕ → ℕ → ℕ → Option Found → Type 0
IsResolved clauses new trail after log lines conflict added count budget None = IsLearned clauses new trail after log lines conflict × (count ≡ added + 1) × (count ≤ budget)
IsResolved clauses new trail after log lines conflict added count budget (Some (Model a)) = ⊥
IsResolved clauses new trail after log lines conflict added count budget (Some Refuted) = (decisions trail.entries ≡ []) × (lines ≡ log ++ addition clauses [] (conflict_hints trail.entries conflict) ∷ [])
IsResolved clauses new trail after log lines conflict added count budget (Some Spent) = (lines ≡ log) × (added ≡ budget) × ((front : List Assigned) × (last : Literal) × (rest : List Assigned) × IsLastDecision trail.entries front last rest)

-- the same of two states of a search
abbrev pub Resolves : PlainSearch → PlainSearch → List Line → List Line → ℕ → ℕ → Option Found → Type 0
Resolves old new log lines conflict budget found = IsResolved old.clauses.items new.clauses.items old.trail new.trail log lines conflict old.learned new.learned budget found

-- a search over a formula, as far as it has come: of its clauses those stand that weren't deleted
pub record IsSearchingIn (standing : Standing) (problem : Problem) (clauses : List (List Literal)) (trail : LeveledTrail) (count : ℕ) (log : List Line) : Type 0 where
  pub limit : trail.limit ≡ problem.vars + 1
  pub complete : IsComplete standing trail.entries
  pub rising : All IsRising clauses
  pub within : AreWithin problem.vars clauses
  pub known : (clause : List Literal) → Contains (with_added problem.clauses log) clause → Contains clauses clause
  pub accepted : IsAcceptedLog (database_of problem) log
  pub fresh : IsFresh problem log
  pub added_rising : AddsRising log
  pub stands : after_all (database_of problem) log ≡ database problem.vars (length clauses) standing
  pub counted : additions log ≡ count
  pub covered : HasCoveredDeletions problem log
  pub last : 0 < count → last_added None log ≡ Some (length clauses)

-- a search that deletes none
abbrev pub IsSearching : Problem → List (List Literal) → LeveledTrail → ℕ → List Line → Type 0
IsSearching problem clauses trail count log = IsSearchingIn (numbered clauses) problem clauses trail count log
