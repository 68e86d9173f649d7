-- A search by watched clauses, and what a conflict leads to.
use Rattle.std.specs.Prelude.{◌≡◌, ◌<◌, ◌≤◌, ◌+◌, ◌-◌, ◌*◌, ℕ, false, List, [], ◌∷◌, ◌++◌, Option, None, Some, length, if◌then◌else◌}
use Rattle.std.specs.List.{All}
use Rattle.bd_cnf.specs.Literal.{Literal, has_variable}
use Rattle.bd_cnf.specs.Problem.{Problem}
use Rattle.bd_cnf.specs.Standing.{Standing}
use Rattle.bd_lrat.specs.declared.line.Line.{Line}
use Rattle.bd_watch.specs.declared.watch.Watch.{Watch}
use Rattle.bd_watch.specs.Levels.{IsComplete, literals, decisions}
use Rattle.bd_watch.specs.Trails.{IsLastStart}
use Rattle.bd_watch.specs.Watch.{IsWatching, IsLoaded}
use Rattle.bd_cdcl.specs.declared.solver.Found.{Found}
use Rattle.bd_cdcl.specs.declared.solver.Found.TheVariants.{Model, Refuted, Spent}
use Rattle.bd_cdcl.specs.declared.cdcl.search.Search.{Search}
use Rattle.bd_cdcl.specs.Law.{IsLaw}
use Rattle.bd_cdcl.specs.inner.Analyses.{IsClear}
use Rattle.bd_cdcl.specs.inner.Deletions.{AreCovered, KeepsFixed, IsReduced, standing_of}
use Rattle.bd_cdcl.specs.inner.Search.{addition, conflict_hints, IsSearchingIn}

-- what stands in a search: its clauses, but those that were deleted
abbrev pub standing_in : Search → Standing
standing_in d = standing_of d.watch.clauses d.deletion.deleted.items

-- the clauses of a formula, before anything is assigned
pub record IsBegun (p : Problem) (d : Search) : Type 0 where
  pub loaded : IsLoaded (p.vars + 1) p.clauses d.watch
  pub clear : IsClear (p.vars + 1) d.analysis
  pub none : d.learned ≡ 0
  pub all : d.deletion.deleted.items ≡ []

-- a search over a formula, as far as it has come
pub record IsDescending (p : Problem) (d : Search) (log : List Line) : Type 0 where
  pub watching : IsWatching d.watch
  pub reduced : IsReduced d.watch.clauses d.watch.trail.entries (standing_in d)
  pub given : All (λ id. id ≤ length d.watch.clauses) d.deletion.deleted.items
  pub searching : IsSearchingIn (standing_in d) p d.watch.clauses d.watch.trail d.learned log
  pub clear : IsClear d.watch.trail.limit d.analysis

-- a clause was learned and logged
pub record GoesOn (old new : Search) (log lines : List Line) : Type 0 where
  pub learned : new.learned ≡ old.learned + 1
  pub limit : new.watch.trail.limit ≡ old.watch.trail.limit
  pub descends : (p : Problem) → IsDescending p old log → IsDescending p new lines

-- the empty clause was logged, by all reasons and the conflict
abbrev pub Refutes : Search → ℕ → List Line → List Line → Type 0
Refutes d conflict log lines = lines ≡ log ++ addition d.watch.clauses [] (conflict_hints d.watch.trail.entries conflict) ∷ []

-- a literal whose variable has no value
pub record IsChoice (w : Watch) (l : Literal) : Type 0 where
  pub within : l.var < w.trail.limit
  pub free : has_variable (literals w.trail.entries) l.var ≡ false

-- how far a search is from its next learned clause: less by a decision, and by a return to level 0 where that was due
abbrev pub distance : Search → ℕ
distance d = (if d.restarts then d.watch.trail.limit + 1 else 0) + (d.watch.trail.limit - length d.watch.trail.entries)

-- the trail was taken back towards level 0, after a clause was learned, or a literal was decided, and it is complete
pub record Advances (old new : Search) : Type 0 where
  pub watching : IsWatching new.watch
  pub clauses : new.watch.clauses ≡ old.watch.clauses
  pub limit : new.watch.trail.limit ≡ old.watch.trail.limit
  pub fixed : KeepsFixed old.watch.trail.entries new.watch.trail.entries
  pub nearer : distance new < distance old

-- what a conflict led to: a learned clause, the empty clause at level 0, or an end where the budget was spent
abbrev pub Follows : Search → Search → List Line → List Line → ℕ → ℕ → Option Found → Type 0
Follows old new log lines budget conflict None = GoesOn old new log lines × (old.learned < budget)
Follows old new log lines budget conflict (Some (Model a)) = ⊥
Follows old new log lines budget conflict (Some Refuted) = (decisions old.watch.trail.entries ≡ []) × Refutes old conflict log lines
Follows old new log lines budget conflict (Some Spent) = (lines ≡ log) × (old.learned ≡ budget) × ((start : ℕ) × IsLastStart old.watch.trail.entries start)

-- how far a search is from its end: the clauses that the budget has left, and then how far the next one is
abbrev pub to_go : ℕ → Search → ℕ
to_go budget d = (budget - d.learned) * (2 * d.watch.trail.limit + 2) + distance d

-- a step later the search is nearer to its end
pub record Nears (p : Problem) (old new : Search) (lines : List Line) (budget : ℕ) : Type 0 where
  pub descending : IsDescending p new lines
  pub within : new.learned ≤ budget
  pub nearer : to_go budget new < to_go budget old

-- or at its end, where its answer is right, its trail is complete and what it deleted is covered
pub record Ends (p : Problem) (new : Search) (lines : List Line) (budget : ℕ) (found : Found) : Type 0 where
  pub law : IsLaw p budget found lines
  pub complete : IsComplete (standing_in new) new.watch.trail.entries
  pub covered : AreCovered new.watch.clauses (standing_in new)

-- what a step of a search over a formula leads to
abbrev pub Steps : Problem → Search → Search → List Line → ℕ → Option Found → Type 0
Steps p old new lines budget None = Nears p old new lines budget
Steps p old new lines budget (Some found) = Ends p new lines budget found
