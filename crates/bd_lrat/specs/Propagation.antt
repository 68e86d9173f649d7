-- Unit propagation along hints: the check of a clause by reverse unit propagation, as textual LRAT reads its hints.
use Rattle.std.specs.Prelude.{ℕ, Bool, true, false, List, [], ◌∷◌, ◌++◌, Option, None, Some, if◌then◌else◌}
use Rattle.std.specs.FinMap.{get}
use Rattle.bd_cnf.specs.Literal.{Literal, has_literal, has_variable}
use Rattle.bd_cnf.specs.Standing.{Standing}
use Rattle.bd_cnf.specs.Trail.{open_literals}
use Rattle.bd_lrat.specs.declared.line.Hint.{Hint}
use Rattle.bd_lrat.specs.declared.line.Hint.TheVariants as hint
use Rattle.bd_lrat.specs.declared.refused.Refused.{Refused}
use Rattle.bd_lrat.specs.declared.refused.Refused.TheVariants as refused

-- where propagation has come to: a conflict, a trail, or a stop with its cause
pub data Outcome : Type 0 where
  Conflict : Outcome
  Reached : List Literal → Outcome
  Stopped : Refused → Outcome

-- a literal that is true already changes nothing
abbrev pub assign : List Literal → Literal → List Literal
assign trail l = if has_literal trail l then trail else trail ++ l ∷ []

-- a clause with no open literal is a conflict, one with one makes it true, and one with more is no unit
abbrev pub unit_outcome : ℕ → List Literal → List Literal → Outcome
unit_outcome id trail [] = Conflict
unit_outcome id trail (l ∷ []) = Reached (assign trail l)
unit_outcome id trail (l ∷ m ∷ ls) = Stopped (refused.NotUnit id)

-- an id names the clause that stands under it
abbrev pub clause_outcome : ℕ → List Literal → Option (List Literal) → Outcome
clause_outcome id trail None = Stopped (refused.NoSuch id)
clause_outcome id trail (Some clause) = unit_outcome id trail (open_literals trail clause)

-- one hint
abbrev pub hint_outcome : Standing → List Literal → Hint → Outcome
hint_outcome standing trail (hint.Unit id) = clause_outcome id trail (get standing id)
hint_outcome standing trail (hint.Rat id) = Stopped refused.Rat

-- what comes next goes on from the trail; a conflict and a stop stay
abbrev pub and_then : Outcome → (List Literal → Outcome) → Outcome
and_then Conflict next = Conflict
and_then (Reached trail) next = next trail
and_then (Stopped r) next = Stopped r

-- the hints in order, from the literals of the trail, which are taken as true
abbrev pub propagate : Standing → List Literal → List Hint → Outcome
propagate standing trail [] = Reached trail
propagate standing trail (h ∷ hs) = and_then (hint_outcome standing trail h) (λ more. propagate standing more hs)

-- whether propagation ended in a conflict or gave the variable a value
abbrev pub reaches : Outcome → ℕ → Bool
reaches Conflict var = true
reaches (Reached trail) var = has_variable trail var
reaches (Stopped r) var = false
