-- A line of the log that deletes clauses.
use Rattle.std.specs.Prelude.{◌≡◌, ◌≢◌, ℕ, List, [], ◌∷◌, ◌++◌, ◌⊎◌, IsSome, length}
use Rattle.std.specs.List.{All, AllPairs}
use Rattle.std.specs.FinMap.{get}
use Rattle.bd_cnf.specs.Literal.{Literal}
use Rattle.bd_cnf.specs.Trail.{AreClosed}
use Rattle.bd_lrat.specs.declared.line.Line.{Line}
use Rattle.bd_lrat.specs.declared.line.Line.TheVariants.{Delete}
use Rattle.bd_lrat.specs.Database.{numbered}
use Rattle.bd_watch.specs.declared.watch.Watch.{Watch}
use Rattle.bd_watch.specs.Levels.{Assigned, literals}
use Rattle.bd_cdcl.specs.declared.cdcl.reduce.Deletion.{Deletion}
use Rattle.bd_cdcl.specs.inner.Deletions.{MayDelete, standing_of}

-- a line was logged that deletes clauses that stand, one at least and none twice, with the id of the last clause, where no clause is false or unit
pub record IsDeleting (clauses : List (List Literal)) (trail : List Assigned) (deleted all : List ℕ) (log lines : List Line) : Type 0 where
  pub ids : List ℕ
  pub some : ids ≢ []
  pub stand : All (λ id. IsSome (get (standing_of clauses deleted) id)) ids
  pub differ : AllPairs (λ one other. one ≢ other) ids
  pub satisfied : All (MayDelete clauses trail) ids
  pub closed : AreClosed (numbered clauses) (literals trail)
  pub noted : all ≡ deleted ++ ids
  pub logged : lines ≡ log ++ Delete (length clauses) ids ∷ []

-- or none was
abbrev pub Deletes : Watch → Deletion → Deletion → List Line → List Line → Type 0
Deletes watch old new log lines = ((new.deleted.items ≡ old.deleted.items) × (lines ≡ log)) ⊎ IsDeleting watch.clauses watch.trail.entries old.deleted.items new.deleted.items log lines
