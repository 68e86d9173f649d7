-- Deletions that lose nothing: a clause goes only where propagation from nothing makes it true without it, as solvers delete the clauses that level 0 satisfies (Eén and Sörensson, MiniSat, 2003).
use Rattle.std.specs.Prelude.{◌≡◌, ◌≢◌, ℕ, ◌+◌, ◌≤◌, true, List, [], ◌∷◌, Option, None, Some, IfSome, IsSome, ◌⊎◌, length}
use Rattle.std.specs.List.{All, AllPairs}
use Rattle.std.specs.FinMap.{get}
use Rattle.bd_cnf.specs.Literal.{Literal, has_literal}
use Rattle.bd_cnf.specs.Problem.{Problem}
use Rattle.bd_cnf.specs.Standing.{Standing}
use Rattle.bd_lrat.specs.declared.line.Hint.{Hint}
use Rattle.bd_lrat.specs.declared.line.Line.{Line}
use Rattle.bd_lrat.specs.declared.line.Line.TheVariants.{Add, Delete}
use Rattle.bd_lrat.specs.Propagation.{Conflict, Reached, propagate}
use Rattle.bd_lrat.specs.Database.{Database, database_of, after, remove_all}

-- some propagation from nothing ends in a conflict
abbrev pub IsConflicting : Standing → Type 0
IsConflicting standing = (hints : List Hint) × (propagate standing [] hints ≡ Conflict)

-- some propagation from nothing makes a literal of the clause true
pub record IsFulfilled (standing : Standing) (clause : List Literal) : Type 0 where
  pub hints : List Hint
  pub trail : List Literal
  pub reached : propagate standing [] hints ≡ Reached trail
  pub literal : Literal
  pub here : has_literal clause literal ≡ true
  pub is_true : has_literal trail literal ≡ true

-- what stands covers a clause that was deleted: propagation from nothing makes a literal of it true, or ends in a conflict
abbrev pub IsCovered : Standing → List Literal → Type 0
IsCovered standing clause = IsConflicting standing ⊎ IsFulfilled standing clause

-- a deletion names clauses that stand, one at least and none twice; it has the id of the last addition, propagation from nothing ends in no conflict before it, and what stands after it covers each clause that it takes out
pub record IsCoveredDeletion (db : Database) (added : Option ℕ) (id : ℕ) (ids : List ℕ) : Type 0 where
  pub some : ids ≢ []
  pub stand : All (λ gone. IsSome (get db.clauses gone)) ids
  pub differ : AllPairs (λ one other. one ≢ other) ids
  pub last : added ≡ Some id
  pub no_conflict : (hints : List Hint) → propagate db.clauses [] hints ≢ Conflict
  pub covered : All (λ gone. IfSome (get db.clauses gone) (IsCovered (remove_all db.clauses ids))) ids

-- each deletion is so, where `added` is the id of the last addition before the lines
abbrev pub DeletesCovered : Database → Option ℕ → List Line → Type 0
DeletesCovered db added [] = Unit {0}
DeletesCovered db added ((Add id clause hints) ∷ lines) = DeletesCovered (after db (Add id clause hints)) (Some id) lines
DeletesCovered db added ((Delete id ids) ∷ lines) = IsCoveredDeletion db added id ids × DeletesCovered (after db (Delete id ids)) added lines

-- each deletion of a log over a formula is so: none comes before an addition
abbrev pub HasCoveredDeletions : Problem → List Line → Type 0
HasCoveredDeletions p lines = DeletesCovered (database_of p) None lines

-- how many lines add a clause, the empty one too
abbrev pub clauses_added : List Line → ℕ
clauses_added [] = 0
clauses_added ((Add id clause hints) ∷ lines) = clauses_added lines + 1
clauses_added ((Delete id ids) ∷ lines) = clauses_added lines

-- how many lines delete
abbrev pub deletions : List Line → ℕ
deletions [] = 0
deletions ((Add id clause hints) ∷ lines) = deletions lines
deletions ((Delete id ids) ∷ lines) = deletions lines + 1

-- no more lines delete than there are clauses, those of the formula and those that are added: each takes one out that stands
abbrev pub DeletionsAreFew : Type 0
DeletionsAreFew = (p : Problem) (lines : List Line) → HasCoveredDeletions p lines → deletions lines ≤ length p.clauses + clauses_added lines
