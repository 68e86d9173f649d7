-- The trail of a solver as it is kept: room for variables, and its literals with their reasons (conflict-driven solvers).
use Rattle.std.specs.Prelude.{◌≡◌, ◌<◌, ◌≤◌, ◌*◌, ◌^◌, ℕ, Bool, true, false, List, [], ◌++◌, ◌∷◌, Option, None, Some, length, slice_index, slice_index_or}
use Rattle.std.specs.List.{enumerate_from, filter_map}
use Rattle.bd_cnf.specs.Literal.{Literal, has_literal, has_variable, literal_value}
use Rattle.bd_cnf.specs.Standing.{IsBelow}
use Rattle.bd_lrat.specs.Log.{HaveDifferentVariables}
use Rattle.bd_cnf.specs.Packed.{literal_index}
use Rattle.bd_watch.specs.Levels.{Assigned, assigned, literals, decisions}

-- how many variables there is room for, 0 among them, and the literals in the order in which they were assigned
pub record LeveledTrail : Type 0 where
  pub limit : ℕ
  pub entries : List Assigned

abbrev pub leveled : ℕ → List Assigned → LeveledTrail
leveled limit entries = record { limit = limit; entries = entries }

-- a trail with one more literal
abbrev pub extended : LeveledTrail → Assigned → LeveledTrail
extended trail a = leveled trail.limit (trail.entries ++ a ∷ [])

-- the place, if a literal there has no reason
abbrev pub place_of_decision : ℕ → Option ℕ → Option ℕ
place_of_decision place None = Some place
place_of_decision place (Some id) = None

-- the places of the decisions, in order: where each level above 0 begins
abbrev pub decision_places : List Assigned → List ℕ
decision_places trail = filter_map (λ p. place_of_decision p.0 p.1.reason) (enumerate_from 0 trail)

-- the tables and the trail say the same: which literals are true, and where each variable's literal stands
pub record IsLeveled (holds : List Bool) (places starts : List ℕ) (entries : List Assigned) (capacity starts_capacity : ℕ) : Type 0 where
  pub agrees : (l : Literal) → literal_index l < length holds → slice_index_or holds (literal_index l) false ≡ has_literal (literals entries) l
  pub twice : length holds ≡ 2 * length places
  pub within : IsBelow (length places) (literals entries)
  pub different : HaveDifferentVariables (literals entries)
  pub placed : (p : ℕ) (d : Assigned) → p < length entries → slice_index places (slice_index_or entries p d).literal.var ≡ p
  pub started : starts ≡ decision_places entries
  pub packable : length places ≤ 2 ^ 31
  pub room : length places ≤ capacity
  pub starts_room : length places ≤ starts_capacity

-- a trail at its last decision: what is in front of it, and what it led to
pub record IsLastDecision (trail front : List Assigned) (d : Literal) (rest : List Assigned) : Type 0 where
  pub whole : trail ≡ front ++ assigned d None ∷ rest
  pub implied : decisions rest ≡ []

-- the trail was taken back to what was in front of its last decision
abbrev pub GoesBack : List Assigned → List Assigned → Literal → Type 0
GoesBack trail front d = (rest : List Assigned) × IsLastDecision trail front d rest

-- v makes each literal true
abbrev pub MakesTrue : (ℕ → Bool) → List Literal → Type 0
MakesTrue v ls = (l : Literal) → has_literal ls l ≡ true → literal_value v l ≡ true

-- a literal without a value was decided
abbrev pub Decides : LeveledTrail → LeveledTrail → Type 0
Decides trail after = (d : Literal) × (d.var < trail.limit) × (has_variable (literals trail.entries) d.var ≡ false) × (after ≡ extended trail (assigned d None))

-- each variable has a value
abbrev pub AllAssigned : LeveledTrail → Type 0
AllAssigned trail = (var : ℕ) → 0 < var → var < trail.limit → has_variable (literals trail.entries) var ≡ true

-- the literal at that place is the variable's
pub record IsPlaceOf (trail : List Assigned) (var place : ℕ) : Type 0 where
  pub within : place < length trail
  pub is : (d : Assigned) → (slice_index_or trail place d).literal.var ≡ var

-- the place of a decision
pub record IsDecisionAt (trail : List Assigned) (place : ℕ) : Type 0 where
  pub within : place < length trail
  pub undecided : (d : Assigned) → (slice_index_or trail place d).reason ≡ None

-- the place of the last decision: where the current level begins
pub record IsLastStart (trail : List Assigned) (place : ℕ) : Type 0 where
  pub decision : IsDecisionAt trail place
  pub last : (later : ℕ) → IsDecisionAt trail later → later ≤ place

-- the place of the first decision from a place on
pub record IsStartFrom (trail : List Assigned) (place start : ℕ) : Type 0 where
  pub decision : IsDecisionAt trail start
  pub after : place ≤ start
  pub first : (other : ℕ) → IsDecisionAt trail other → place ≤ other → start ≤ other
