-- Trails of unit propagation: the literals that are taken as true, in order, and what they leave of a clause (conflict-driven solvers).
use Rattle.std.specs.Prelude.{◌≡◌, ℕ, ◌+◌, ◌<◌, ◌≤◌, Bool, not, true, false, List, length, Option, None, Some, is_none, slice_index_or, if◌then◌else◌, count_by, IsTrue, ◌⊎◌}
use Rattle.std.specs.List.{All, filter, list_any}
use Rattle.bd_cnf.specs.Literal.{Literal, negate, has_literal}
use Rattle.bd_cnf.specs.Standing.{Standing, EachStanding}

-- a literal is false where its negation stands on the trail
abbrev pub is_false : List Literal → Literal → Bool
is_false trail l = has_literal trail (negate l)

-- the literals of a clause that aren't false: none where the clause is false, one where it is unit
abbrev pub open_literals : List Literal → List Literal → List Literal
open_literals trail clause = filter (λ l. not (is_false trail l)) clause

-- no literal stands on the trail with its negation
abbrev pub IsConsistent : List Literal → Type 0
IsConsistent trail = (l : Literal) → IsTrue (has_literal trail l) → is_false trail l ≡ false

-- each literal of the one stands on the other
abbrev pub IsPartOf : List Literal → List Literal → Type 0
IsPartOf part whole = (l : Literal) → IsTrue (has_literal part l) → IsTrue (has_literal whole l)

-- some literal of the clause is true, or two or more are open: the clause is neither false nor unit
abbrev pub IsClosed : List Literal → List Literal → Type 0
IsClosed trail clause = IsTrue (list_any (has_literal trail) clause) ⊎ (2 ≤ length (open_literals trail clause))

-- no clause that stands is false or unit: the trail is closed under unit propagation
abbrev pub AreClosed : Standing → List Literal → Type 0
AreClosed standing trail = EachStanding (IsClosed trail) standing

-- how many variables there are room for, and the literals in the order in which they were taken as true
pub record TrailView : Type 0 where
  pub limit : ℕ
  pub literals : List Literal

abbrev pub trail_of : ℕ → List Literal → TrailView
trail_of limit literals = record { limit = limit; literals = literals }

-- whether a variable has that value
abbrev pub has_value : Option Bool → Bool → Bool
has_value None positive = false
has_value (Some value) positive = if value then positive else not positive

-- the values and the trail say the same, each variable stands on the trail once at most, and the trail has room for all
pub record IsTrail (values : List (Option Bool)) (literals : List Literal) (capacity : ℕ) : Type 0 where
  pub agrees : (l : Literal) → l.var < length values → has_value (slice_index_or values l.var None) l.positive ≡ has_literal literals l
  pub within : All (λ l. l.var < length values) literals
  pub once : length literals + count_by is_none values ≤ length values
  pub room : length values ≤ capacity

-- only variables of those literals have values, and those of the literals
abbrev pub IsLeft : List (Option Bool) → List Literal → Type 0
IsLeft values rest = (l : Literal) → l.var < length values → has_value (slice_index_or values l.var None) l.positive ≡ true → has_literal rest l ≡ true
