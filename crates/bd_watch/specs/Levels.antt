-- Trails of decisions and of literals that have reasons, and their decision levels (conflict-driven solvers).
use Rattle.std.specs.Prelude.{◌≡◌, ℕ, false, List, [], ◌∷◌, ◌++◌, Option, None, Some, IsSomeAnd, map}
use Rattle.std.specs.List.{filter_map}
use Rattle.std.specs.FinMap.{get}
use Rattle.std.specs.Option.{option_map}
use Rattle.bd_cnf.specs.Literal.{Literal, has_variable}
use Rattle.bd_cnf.specs.Standing.{Standing}
use Rattle.bd_cnf.specs.Trail.{open_literals, AreClosed}
use Rattle.bd_lrat.specs.declared.line.Hint.{Hint}
use Rattle.bd_lrat.specs.declared.line.Hint.TheVariants as hint

-- a literal on a trail: one with no reason is a decision, and any other has the id of the clause that implied it
pub record Assigned : Type 0 where
  pub literal : Literal
  pub reason : Option ℕ

abbrev pub assigned : Literal → Option ℕ → Assigned
assigned literal reason = record { literal = literal; reason = reason }

-- the literals of a trail, in order
abbrev pub literals : List Assigned → List Literal
literals trail = map (λ a. a.literal) trail

-- the literal, if it has no reason
abbrev pub decided : Literal → Option ℕ → Option Literal
decided l None = Some l
decided l (Some id) = None

-- the decisions of a trail, in order: as many as its current level
abbrev pub decisions : List Assigned → List Literal
decisions trail = filter_map (λ a. decided a.literal a.reason) trail

-- the hints that name the reasons of a trail, in order
abbrev pub reasons : List Assigned → List Hint
reasons trail = filter_map (λ a. option_map hint.Unit a.reason) trail

-- after the literals `before` it may be decided only where no clause that stands is unit or false, and implied only by a clause of which it is the one open literal
abbrev pub IsReason : Standing → List Literal → Literal → Option ℕ → Type 0
IsReason standing before l None = AreClosed standing before
IsReason standing before l (Some id) = IsSomeAnd (get standing id) (λ clause. open_literals before clause ≡ l ∷ [])

-- a literal whose variable had no value, and that stands after `before` with a right reason
pub record IsPlaced (standing : Standing) (before : List Literal) (a : Assigned) : Type 0 where
  pub unassigned : has_variable before a.literal.var ≡ false
  pub reason : IsReason standing before a.literal a.reason

-- each is, after `before` and those in front of it
abbrev pub ArePlaced : Standing → List Literal → List Assigned → Type 0
ArePlaced standing before [] = Unit {0}
ArePlaced standing before (a ∷ rest) = IsPlaced standing before a × ArePlaced standing (before ++ a.literal ∷ []) rest

-- a complete trail: at the end of each level below the current one no clause that stands is unit or false, and all else on the trail is implied
abbrev pub IsComplete : Standing → List Assigned → Type 0
IsComplete standing trail = ArePlaced standing [] trail
