-- Unit propagation over watched clauses, as its callers see it.
use Rattle.std.specs.Prelude.{◌≡◌, ◌≢◌, ◌≤◌, ◌+◌, ℕ, true, false, List, [], ◌∷◌, ◌++◌, Option, None, Some, length, take}
use Rattle.bd_cnf.specs.Literal.{Literal, has_literal, has_variable}
use Rattle.bd_cnf.specs.Clause.{IsRising}
use Rattle.bd_cnf.specs.Trail.{AreClosed}
use Rattle.bd_cnf.specs.Standing.{IsBelow}
use Rattle.bd_lrat.specs.Database.{numbered}
use Rattle.bd_watch.specs.declared.watch.Watch.{Watch}
use Rattle.bd_watch.specs.Levels.{Assigned, assigned, literals, decisions, IsComplete}
use Rattle.bd_watch.specs.Trails.{leveled, extended, IsDecisionAt}
use Rattle.bd_watch.specs.Watching.{AreWatched, AreWatching, IsAsserting, IsConflict, front}

-- the trail is complete, and the clauses watch it
abbrev pub IsWatching : Watch → Type 0
IsWatching w = AreWatching w.clauses w.pairs.items w.lists.items w.trail w.head

-- each literal of the trail was propagated
abbrev pub IsPropagated : Watch → Type 0
IsPropagated w = w.head ≡ length w.trail.entries

-- the trail has grown, and nothing else has changed
pub record Extends (old new : Watch) : Type 0 where
  pub clauses : new.clauses ≡ old.clauses
  pub limit : new.trail.limit ≡ old.trail.limit
  pub head : new.head ≡ old.head
  pub more : List Assigned
  pub grown : new.trail.entries ≡ old.trail.entries ++ more

-- propagation came to a clause that is false, by its id, or to an end where no clause is false or unit
abbrev pub IsEnd : Watch → Option ℕ → Type 0
IsEnd w None = IsPropagated w × AreClosed (numbered w.clauses) (literals w.trail.entries)
IsEnd w (Some id) = IsConflict (numbered w.clauses) w.trail.entries id

-- propagation made the trail longer, up to an end
pub record Propagates (old new : Watch) (conflict : Option ℕ) : Type 0 where
  pub watching : IsWatching new
  pub clauses : new.clauses ≡ old.clauses
  pub limit : new.trail.limit ≡ old.trail.limit
  pub longer : length old.trail.entries ≤ length new.trail.entries
  pub kept : take (length old.trail.entries) new.trail.entries ≡ old.trail.entries
  pub end : IsEnd new conflict

-- those clauses, and no literal yet
pub record IsLoaded (limit : ℕ) (clauses : List (List Literal)) (w : Watch) : Type 0 where
  pub clauses_are : w.clauses ≡ clauses
  pub watched : AreWatched limit w.clauses w.pairs.items w.lists.items
  pub trail : w.trail ≡ leveled limit []
  pub head : w.head ≡ 0

-- the clauses of one literal made it true, or one is false, by its id
abbrev pub IsStart : Watch → Option ℕ → Type 0
IsStart w None = IsWatching w
IsStart w (Some id) = IsConflict (numbered w.clauses) w.trail.entries id

pub record Starts (old new : Watch) (conflict : Option ℕ) : Type 0 where
  pub clauses : new.clauses ≡ old.clauses
  pub limit : new.trail.limit ≡ old.trail.limit
  pub complete : IsComplete (numbered new.clauses) new.trail.entries
  pub level_zero : decisions new.trail.entries ≡ []
  pub start : IsStart new conflict

-- a literal was decided
pub record DecidesIn (old new : Watch) (l : Literal) : Type 0 where
  pub watching : IsWatching new
  pub clauses : new.clauses ≡ old.clauses
  pub trail : new.trail ≡ extended old.trail (assigned l None)

-- the trail was taken back to a place
pub record TakesBack (old new : Watch) (place : ℕ) : Type 0 where
  pub watching : IsWatching new
  pub propagated : IsPropagated new
  pub clauses : new.clauses ≡ old.clauses
  pub trail : new.trail ≡ leveled old.trail.limit (take place old.trail.entries)

-- a clause may be learned there: its first literal has no value and the others are false, and at each decision the second has no value
pub record MayLearn (w : Watch) (clause : List Literal) (first second : Literal) : Type 0 where
  pub rising : IsRising clause
  pub below : IsBelow w.trail.limit clause
  pub asserting : IsAsserting (literals w.trail.entries) clause first
  pub pair : 2 ≤ length clause → (has_literal clause second ≡ true) × (first ≢ second)
  pub levels : (place : ℕ) → IsDecisionAt w.trail.entries place → (2 ≤ length clause) × (has_variable (front w.trail.entries place) second.var ≡ false)

-- it was learned, and implies its first literal
pub record Learns (old new : Watch) (clause : List Literal) (first : Literal) : Type 0 where
  pub watching : IsWatching new
  pub clauses : new.clauses ≡ old.clauses ++ clause ∷ []
  pub trail : new.trail ≡ extended old.trail (assigned first (Some (length old.clauses + 1)))
