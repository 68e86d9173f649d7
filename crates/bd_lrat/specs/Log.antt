-- Logs: accepted, refuting, fresh, and what a log leaves unsettled (textual LRAT; unit propagation as in conflict-driven solvers).
use Rattle.std.specs.Prelude.{◌≡◌, ◌≢◌, ◌<◌, ◌+◌, ◌^◌, ℕ, Bool, true, false, List, [], ◌∷◌, ◌++◌, Option, None, Some, is_ok, not, IsTrue, if◌then◌else◌, map, count_by}
use Rattle.std.specs.List.{All, filter, list_any, list_all}
use Rattle.bd_cnf.specs.Literal.{Literal, negate, literal_eq, has_literal, has_variable}
use Rattle.bd_cnf.specs.Clause.{Satisfies, IsRising}
use Rattle.bd_cnf.specs.Problem.{Problem}
use Rattle.bd_cnf.specs.Standing.{Standing}
use Rattle.bd_lrat.specs.declared.line.Hint.{Hint}
use Rattle.bd_lrat.specs.declared.line.Line.{Line}
use Rattle.bd_lrat.specs.declared.line.Line.TheVariants.{Add, Delete}
use Rattle.bd_lrat.specs.Propagation.{Conflict, propagate, reaches}
use Rattle.bd_lrat.specs.Database.{Database, database_of, IsAccepted, after, line_answer}

-- each line is accepted on what stands before it
abbrev pub IsAcceptedLog : Database → List Line → Type 0
IsAcceptedLog db [] = Unit {0}
IsAcceptedLog db (line ∷ lines) = IsAccepted db line × IsAcceptedLog (after db line) lines

-- the number of the first line, from n, that isn't accepted on what stands before it
abbrev pub refused_from : ℕ → Database → List Line → Option ℕ
refused_from n db [] = None
refused_from n db (line ∷ lines) = if is_ok (line_answer db line) then refused_from (n + 1) (after db line) lines else Some n

-- what stands after the lines
abbrev pub after_all : Database → List Line → Database
after_all db [] = db
after_all db (line ∷ lines) = after_all (after db line) lines

-- the line adds the empty clause, which is always false
abbrev pub adds_empty : Line → Bool
adds_empty (Add id [] hints) = true
adds_empty (Add id (l ∷ ls) hints) = false
adds_empty (Delete id ids) = false

-- the line adds a clause of one literal or more
abbrev pub adds_literals : Line → Bool
adds_literals (Add id [] hints) = false
adds_literals (Add id (l ∷ ls) hints) = true
adds_literals (Delete id ids) = false

-- how many lines add a clause of one literal or more
abbrev pub additions : List Line → ℕ
additions lines = count_by adds_literals lines

-- an accepted log that adds the empty clause
abbrev pub IsRefutation : Problem → List Line → Type 0
IsRefutation p lines = IsAcceptedLog (database_of p) lines × IsTrue (list_any adds_empty lines)

-- no assignment satisfies the formula (propositional logic)
abbrev pub IsUnsatisfiable : Problem → Type 0
IsUnsatisfiable p = (v : ℕ → Bool) → Satisfies v p.clauses → ⊥

-- whether a clause has each literal of another
abbrev pub includes : List Literal → List Literal → Bool
includes clause other = list_all (has_literal clause) other

-- the literals of a clause but the one
abbrev pub others : List Literal → Literal → List Literal
others clause l = filter (λ m. not (literal_eq l m)) clause

-- no propagation from the literals ends in a conflict or gives the variable a value
abbrev pub NeverReaches : Standing → List Literal → ℕ → Type 0
NeverReaches standing trail var = (hints : List Hint) → reaches (propagate standing trail hints) var ≡ false

-- a clause is fresh where it includes no earlier one, and some literal of it isn't reached from the negations of the others
pub record IsFreshClause (standing : Standing) (earlier : List (List Literal)) (clause : List Literal) : Type 0 where
  pub includes_none : All (λ other. includes clause other ≡ false) earlier
  pub literal : Literal
  pub stands : IsTrue (has_literal clause literal)
  pub unreached : NeverReaches standing (map negate (others clause literal)) literal.var

-- the earlier clauses and those that the lines add, whether they are deleted or not, the latest first
abbrev pub with_added : List (List Literal) → List Line → List (List Literal)
with_added earlier [] = earlier
with_added earlier ((Add id clause hints) ∷ lines) = with_added (clause ∷ earlier) lines
with_added earlier ((Delete id ids) ∷ lines) = with_added earlier lines

-- each clause that is added, the empty one aside, is fresh: over what stands before its line, and against the clauses of the formula and of all earlier lines, deleted ones included
abbrev pub AddsFresh : Database → List (List Literal) → List Line → Type 0
AddsFresh db earlier [] = Unit {0}
AddsFresh db earlier ((Add id clause hints) ∷ lines) = (clause ≢ [] → IsFreshClause db.clauses earlier clause) × AddsFresh (after db (Add id clause hints)) (clause ∷ earlier) lines
AddsFresh db earlier ((Delete id ids) ∷ lines) = AddsFresh (after db (Delete id ids)) earlier lines

-- a log is fresh over a formula
abbrev pub IsFresh : Problem → List Line → Type 0
IsFresh p lines = AddsFresh (database_of p) p.clauses lines

-- no two literals have one variable
abbrev pub HaveDifferentVariables : List Literal → Type 0
HaveDifferentVariables [] = Unit {0}
HaveDifferentVariables (l ∷ ls) = (has_variable ls l.var ≡ false) × HaveDifferentVariables ls

-- what stands is unsettled: propagation from nothing ends in no conflict, and some decisions, of which the last isn't reached from the others, lead to one
pub record IsUnsettled (standing : Standing) : Type 0 where
  pub no_conflict : (hints : List Hint) → propagate standing [] hints ≢ Conflict
  pub decisions : List Literal
  pub last : Literal
  pub different : HaveDifferentVariables (decisions ++ last ∷ [])
  pub unreached : NeverReaches standing decisions last.var
  pub hints : List Hint
  pub conflict : propagate standing (decisions ++ last ∷ []) hints ≡ Conflict

-- each clause that the lines add is by rising variable, so none stands twice in it
abbrev pub AddsRising : List Line → Type 0
AddsRising [] = Unit {0}
AddsRising ((Add id clause hints) ∷ lines) = IsRising clause × AddsRising lines
AddsRising ((Delete id ids) ∷ lines) = AddsRising lines

-- a fresh log adds fewer clauses of one literal or more than 3 to the number of variables: a clause has a variable, or its negation, or neither, and none is added twice
abbrev pub FreshLogsAreShort : Type 0
FreshLogsAreShort = (p : Problem) (lines : List Line) → IsAcceptedLog (database_of p) lines → AddsRising lines → IsFresh p lines → additions lines < 3 ^ p.vars
