-- A conflict is analyzed from the end of the trail to its front: a marked literal is resolved with its reason, or its negation is kept for the learned clause (Marques-Silva and Sakallah, GRASP, 1996; Eén and Sörensson, 2003).
use Rattle.std.specs.Prelude.{◌≡◌, ◌<◌, ◌≤◌, ℕ, Bool, true, false, List, [], ◌∷◌, ◌++◌, length, slice_index_or}
use Rattle.std.specs.List.{All}
use Rattle.bd_cnf.specs.Literal.{Literal, negate, has_literal, has_variable}
use Rattle.bd_cnf.specs.Standing.{Standing}
use Rattle.bd_cnf.specs.Trail.{is_false, open_literals, IsPartOf}
use Rattle.bd_watch.specs.Levels.{Assigned, literals, decisions, ArePlaced}
use Rattle.bd_watch.specs.Watching.{front}

-- whether a place of the trail is marked
abbrev pub marked : List Bool → ℕ → Bool
marked marks place = slice_index_or marks place false

-- literals of the trail among which are all that are marked and all whose negations were kept, and none that was resolved
pub record IsBeside (trail : List Assigned) (marks : List Bool) (end : ℕ) (kept : List Literal) (resolved : List Assigned) (before : List Literal) : Type 0 where
  pub inside : IsPartOf before (literals trail)
  pub marked_there : (place : ℕ) (d : Assigned) → place < end → marked marks place ≡ true → has_literal before (slice_index_or trail place d).literal ≡ true
  pub kept_there : (l : Literal) → has_literal kept l ≡ true → has_literal before (negate l) ≡ true
  pub apart : All (λ a. has_variable before a.literal.var ≡ false) resolved

-- after such literals the resolved ones are implied one after another, and then the conflict is false
pub record Explains (standing : Standing) (before : List Literal) (resolved : List Assigned) (conflict : List Literal) : Type 0 where
  pub placed : ArePlaced standing before resolved
  pub conflicting : open_literals (before ++ literals resolved) conflict ≡ []

-- no place from the start of the last level on is marked
abbrev pub AreUnmarked : List Bool → ℕ → ℕ → Type 0
AreUnmarked marks start end = (place : ℕ) → start ≤ place → place < end → marked marks place ≡ false

-- some is
pub record IsMarkedIn (marks : List Bool) (start end : ℕ) : Type 0 where
  pub place : ℕ
  pub after : start ≤ place
  pub within : place < end
  pub is : marked marks place ≡ true

-- the first literal that was kept has no value at the end of the level before, and the others are false there
pub record IsUnique (trail : List Assigned) (marks : List Bool) (start end : ℕ) (u : Literal) (rest : List Literal) : Type 0 where
  pub free : has_variable (front trail start) u.var ≡ false
  pub others : (l : Literal) → has_literal rest l ≡ true → is_false (front trail start) l ≡ true
  pub unmarked : AreUnmarked marks start end

abbrev pub IsFound : List Assigned → List Bool → ℕ → ℕ → List Literal → Type 0
IsFound trail marks start end [] = IsMarkedIn marks start end
IsFound trail marks start end (u ∷ rest) = IsUnique trail marks start end u rest

-- an analysis that has come down to a place
pub record IsAnalyzing (standing : Standing) (trail : List Assigned) (start : ℕ) (conflict : List Literal) (marks : List Bool) (end : ℕ) (kept : List Literal) (resolved : List Assigned) : Type 0 where
  pub bound : end ≤ length trail
  pub cleared : (place : ℕ) → end ≤ place → marked marks place ≡ false
  pub explains : (before : List Literal) → IsBeside trail marks end kept resolved before → Explains standing before resolved conflict
  pub kept_false : (l : Literal) → has_literal kept l ≡ true → is_false (literals trail) l ≡ true
  pub kept_after : (l : Literal) → has_literal kept l ≡ true → has_variable (front trail end) l.var ≡ false
  pub resolved_after : All (λ a. has_variable (front trail end) a.literal.var ≡ false) resolved
  pub disjoint : (l : Literal) → has_literal kept l ≡ true → has_variable (literals resolved) l.var ≡ false
  pub resolved_inside : IsPartOf (literals resolved) (literals trail)
  pub implied : decisions resolved ≡ []
  pub found : IsFound trail marks start end kept

-- the marks of a clause's variables were set
pub record Marks (trail : List Assigned) (clause : List Literal) (old new : List Bool) : Type 0 where
  pub size : length new ≡ length old
  pub set : (place : ℕ) (d : Assigned) → place < length trail → has_variable clause (slice_index_or trail place d).literal.var ≡ true → marked new place ≡ true
  pub others : (place : ℕ) → (place < length trail → (d : Assigned) → has_variable clause (slice_index_or trail place d).literal.var ≡ false) → marked new place ≡ marked old place

-- the variables of the clause have values
abbrev pub AreAssigned : List Assigned → List Literal → Type 0
AreAssigned trail clause = (l : Literal) → has_literal clause l ≡ true → has_variable (literals trail) l.var ≡ true
