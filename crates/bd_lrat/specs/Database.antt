-- The database of a check, and the lines that it accepts (textual LRAT, without lines that need resolution on asymmetric tautologies).
use Rattle.std.specs.Prelude.{refl, ◌≡◌, ℕ, ◌<◌, Bool, List, [], ◌∷◌, Option, None, Some, Result, Ok, Err, map, length, nat_lt, nat_le, if◌then◌else◌}
use Rattle.std.specs.List.{enumerate_from}
use Rattle.std.specs.Coded.{Coded, code_by, coded×, coded_ℕ}
use Rattle.std.specs.FinMap.{insert, remove, from_entries}
use Rattle.bd_cnf.specs.Literal.{Literal, negate}
use Rattle.bd_cnf.specs.Clause.{IsWithin}
use Rattle.bd_cnf.specs.Problem.{Problem}
use Rattle.bd_cnf.specs.Standing.{Standing, coded_standing, Models}
use Rattle.bd_lrat.specs.declared.line.Hint.{Hint}
use Rattle.bd_lrat.specs.declared.line.Line.{Line}
use Rattle.bd_lrat.specs.declared.line.Line.TheVariants.{Add, Delete}
use Rattle.bd_lrat.specs.declared.refused.Refused.{Refused}
use Rattle.bd_lrat.specs.declared.refused.Refused.TheVariants as refused
use Rattle.bd_lrat.specs.declared.refused.AddError.{AddError}
use Rattle.bd_lrat.specs.declared.refused.AddError.TheVariants as add
use Rattle.bd_lrat.specs.Propagation.{Outcome, Conflict, Reached, Stopped, propagate}

-- the number of variables, the greatest id that the formula or an addition has given, and the clauses that stand
pub record Database : Type 0 where
  pub vars : ℕ
  pub last : ℕ
  pub clauses : Standing

abbrev pub database : ℕ → ℕ → Standing → Database
database vars last clauses = record { vars = vars; last = last; clauses = clauses }

-- a database is stored as its fields
abbrev pub coded_database : Coded Database
coded_database =
    code_by (ℕ × (ℕ × Standing)) (coded× coded_ℕ (coded× coded_ℕ coded_standing)) (λ d. (d.vars, (d.last, d.clauses))) (λ p. database p.0 p.1.0 p.1.1) (λ _. refl)

-- the clauses of a formula with the ids from 1, in order (textual LRAT)
abbrev pub numbered : List (List Literal) → Standing
numbered clauses = from_entries (enumerate_from 1 clauses)

-- the database that a check begins with
abbrev pub database_of : Problem → Database
database_of p = database p.vars (length p.clauses) (numbered p.clauses)

-- an addition is accepted where its id is new and higher than all before, its variables are the formula's, and propagation along its hints, from the negations of its literals, ends in a conflict (reverse unit propagation); a deletion always
abbrev pub IsAccepted : Database → Line → Type 0
IsAccepted db (Add id clause hints) = (db.last < id) × IsWithin db.vars clause × (propagate db.clauses (map negate clause) hints ≡ Conflict)
IsAccepted db (Delete id ids) = Unit {0}

-- the answer to where propagation came to
abbrev pub outcome_answer : Outcome → Result (Unit {0}) Refused
outcome_answer Conflict = Ok tt
outcome_answer (Reached trail) = Err refused.NoConflict
outcome_answer (Stopped r) = Err r

-- the first variable of a clause that is above vars
abbrev pub variable_past : ℕ → List Literal → Option ℕ
variable_past vars [] = None
variable_past vars (l ∷ ls) = if nat_lt vars l.var then Some l.var else variable_past vars ls

-- a variable past the formula's is refused before the hints
abbrev pub hints_answer : Standing → List Literal → List Hint → Option ℕ → Result (Unit {0}) Refused
hints_answer standing clause hints (Some var) = Err (refused.NoVariable var)
hints_answer standing clause hints None = outcome_answer (propagate standing (map negate clause) hints)

-- the answer to an addition: the first refusal, by its id, its variables, its hints in order
abbrev pub addition_answer : Database → ℕ → List Literal → List Hint → Result (Unit {0}) Refused
addition_answer db id clause hints = if nat_le id db.last then Err refused.NotRising else hints_answer db.clauses clause hints (variable_past db.vars clause)

-- the answer to a line
abbrev pub line_answer : Database → Line → Result (Unit {0}) Refused
line_answer db (Add id clause hints) = addition_answer db id clause hints
line_answer db (Delete id ids) = Ok tt

-- the clauses that stand after those ids are taken out, of which some may not stand
abbrev pub remove_all : Standing → List ℕ → Standing
remove_all standing [] = standing
remove_all standing (id ∷ ids) = remove_all (remove standing id) ids

-- what stands after a line
abbrev pub after : Database → Line → Database
after db (Add id clause hints) = database db.vars id (insert db.clauses id clause)
after db (Delete id ids) = database db.vars db.last (remove_all db.clauses ids)

-- what a refused call of a line to be added says of it
abbrev pub IsAddError : Database → Line → AddError → Type 0
IsAddError db line (add.Refused r) = line_answer db line ≡ Err r
IsAddError db line add.Memory = IsAccepted db line

-- the line takes clauses out
abbrev pub IsDeletion : Line → Type 0
IsDeletion (Add id clause hints) = ⊥
IsDeletion (Delete id ids) = Unit {0}

-- each assignment that makes what stands in the one database true does so in the other
abbrev pub KeepsModels : Database → Database → Type 0
KeepsModels old new = (v : ℕ → Bool) → Models v old.clauses → Models v new.clauses
