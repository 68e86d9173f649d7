-- Clauses that stand under ids, as a check of a proof holds them (textual LRAT).
use Rattle.std.specs.Prelude.{refl, ◌≡◌, ℕ, ◌<◌, Bool, true, List, IfSome}
use Rattle.std.specs.List.{All}
use Rattle.std.specs.Ordering.{nat_cmp}
use Rattle.std.specs.FinMap.{FinMap, get, code}
use Rattle.std.specs.Coded.{Coded, code_by, coded×, coded_ℕ, coded_bool, coded_list}
use Rattle.bd_cnf.specs.Literal.{Literal, literal}
use Rattle.bd_cnf.specs.Clause.{clause_value}

-- the clauses that stand, by their ids (textual LRAT)
abbrev pub Standing : Type 0
Standing = FinMap nat_cmp (List Literal)

-- a literal is stored as the pair of its fields
abbrev pub coded_literal : Coded Literal
coded_literal = code_by (ℕ × Bool) (coded× coded_ℕ coded_bool) (λ l. (l.var, l.positive)) (λ p. literal p.0 p.1) (λ _. refl)

-- what stands is stored as its entries
abbrev pub coded_standing : Coded Standing
coded_standing = code coded_ℕ (coded_list coded_literal)

-- P holds of each clause that stands
abbrev pub EachStanding : (List Literal → Type 0) → Standing → Type 0
EachStanding P standing = (id : ℕ) → IfSome (get standing id) P

-- v makes each clause that stands true (a model, propositional logic)
abbrev pub Models : (ℕ → Bool) → Standing → Type 0
Models v standing = EachStanding (λ clause. clause_value v clause ≡ true) standing

-- each variable of the clause is below limit
abbrev pub IsBelow : ℕ → List Literal → Type 0
IsBelow limit clause = All (λ l. l.var < limit) clause

-- so is each variable of each clause that stands
abbrev pub StandsBelow : ℕ → Standing → Type 0
StandsBelow limit standing = EachStanding (IsBelow limit) standing
