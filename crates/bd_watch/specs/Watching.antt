-- Two watched literals for each clause of two or more (Moskewicz, Madigan, Zhao, Zhang and Malik, DAC 2001), and what they say of a trail.
use Rattle.std.specs.Prelude.{◌≡◌, ◌≢◌, ◌<◌, ◌≤◌, ◌*◌, ◌^◌, ℕ, true, false, List, [], ◌⊎◌, length, take, slice_index_or, Option, IfSome, IsSomeAnd}
use Rattle.std.specs.List.{All, list_any}
use Rattle.std.specs.FinMap.{get}
use Rattle.bd_cnf.specs.Literal.{Literal, literal_eq, has_literal, has_variable}
use Rattle.bd_cnf.specs.Clause.{IsRising}
use Rattle.bd_cnf.specs.Standing.{Standing, IsBelow}
use Rattle.bd_cnf.specs.Trail.{is_false, open_literals}
use Rattle.bd_lrat.specs.Database.{numbered}
use Rattle.bd_watch.specs.declared.watcher.Watcher.{Watcher}
use Rattle.bd_watch.specs.declared.watcher.WatchedPair.{WatchedPair}
use Rattle.bd_cnf.specs.Packed.{literal_index}
use Rattle.bd_watch.specs.Levels.{Assigned, literals, IsComplete}
use Rattle.bd_watch.specs.Trails.{LeveledTrail, IsDecisionAt}

-- the clause at a place, and the watchers of a literal
abbrev pub clause_at : List (List Literal) → ℕ → List Literal
clause_at clauses place = slice_index_or clauses place []

abbrev pub list_at : List (List Watcher) → Literal → List Watcher
list_at lists l = slice_index_or lists (literal_index l) []

-- a pair of watched literals, with the third literal that it names
abbrev pub pair_of : Literal → Literal → Option Literal → WatchedPair
pair_of first second third = record { first = first; second = second; third = third }

-- the literal is one of the two
abbrev pub IsOneOf : WatchedPair → Literal → Type 0
IsOneOf p l = (l ≡ p.first) ⊎ (l ≡ p.second)

-- besides those two literals, a clause has this one and no other
pub record IsThird (clause : List Literal) (first second l : Literal) : Type 0 where
  pub here : has_literal clause l ≡ true
  pub not_first : l ≢ first
  pub not_second : l ≢ second
  pub all : (m : Literal) → has_literal clause m ≡ true → (m ≡ l) ⊎ ((m ≡ first) ⊎ (m ≡ second))

-- two literals of the clause, and its third where the pair names one
pub record IsPair (clause : List Literal) (p : WatchedPair) : Type 0 where
  pub first : has_literal clause p.first ≡ true
  pub second : has_literal clause p.second ≡ true
  pub apart : p.first ≢ p.second
  pub third : IfSome p.third (IsThird clause p.first p.second)

-- from that place on, some watcher of the list is for the clause
pub record IsListed (watchers : List Watcher) (from clause : ℕ) : Type 0 where
  pub place : ℕ
  pub after : from ≤ place
  pub within : place < length watchers
  pub is : (d : Watcher) → (slice_index_or watchers place d).clause ≡ clause

-- besides the literal of that index and the blocker, a clause has at most this one; of a long clause it is the blocker again, and says nothing
pub record IsRest (clause : List Literal) (index : ℕ) (w : Watcher) : Type 0 where
  pub here : has_literal clause w.rest ≡ true
  pub all : literal_eq w.rest w.blocker ≡ false → (m : Literal) → has_literal clause m ≡ true → (literal_index m ≡ index) ⊎ ((m ≡ w.blocker) ⊎ (m ≡ w.rest))

-- a watcher of the literal of that index is for a clause of two or more literals, one of which is its blocker, and one its rest
pub record IsWatcher (clauses : List (List Literal)) (index : ℕ) (w : Watcher) : Type 0 where
  pub within : w.clause < length clauses
  pub long : 2 ≤ length (clause_at clauses w.clause)
  pub blocker : has_literal (clause_at clauses w.clause) w.blocker ≡ true
  pub rest : IsRest (clause_at clauses w.clause) index w

-- each clause of two or more literals watches two of them
pub record AreWatched (limit : ℕ) (clauses : List (List Literal)) (pairs : List WatchedPair) (lists : List (List Watcher)) : Type 0 where
  pub packable : limit ≤ 2 ^ 31
  pub paired : length pairs ≡ length clauses
  pub sized : length lists ≡ 2 * limit
  pub rising : All IsRising clauses
  pub below : All (IsBelow limit) clauses
  pub two : (i : ℕ) (d : WatchedPair) → i < length clauses → 2 ≤ length (clause_at clauses i) → IsPair (clause_at clauses i) (slice_index_or pairs i d)
  pub listed : (i : ℕ) (d : WatchedPair) (l : Literal) → i < length clauses → 2 ≤ length (clause_at clauses i) → IsOneOf (slice_index_or pairs i d) l → IsListed (list_at lists l) 0 i
  pub watchers : (index : ℕ) → All (IsWatcher clauses index) (slice_index_or lists index [])

-- a clause has two literals or more, and neither of the two that it watches is false
pub record AreOpen (done clause : List Literal) (p : WatchedPair) : Type 0 where
  pub long : 2 ≤ length clause
  pub first : is_false done p.first ≡ false
  pub second : is_false done p.second ≡ false

-- a clause is true, or what is done of the trail makes neither of its watched literals false
abbrev pub IsGuarded : List Literal → List Literal → List Literal → WatchedPair → Type 0
IsGuarded done trail clause p = (list_any (has_literal trail) clause ≡ true) ⊎ AreOpen done clause p

abbrev pub AreGuarded : List (List Literal) → List WatchedPair → List Literal → List Literal → Type 0
AreGuarded clauses pairs done trail = (i : ℕ) (d : WatchedPair) → i < length clauses → IsGuarded done trail (clause_at clauses i) (slice_index_or pairs i d)

-- the literals in front of a place
abbrev pub front : List Assigned → ℕ → List Literal
front trail place = literals (take place trail)

-- a complete trail over watched clauses, of which so many literals are done
pub record AreWatching (clauses : List (List Literal)) (pairs : List WatchedPair) (lists : List (List Watcher)) (trail : LeveledTrail) (head : ℕ) : Type 0 where
  pub watched : AreWatched trail.limit clauses pairs lists
  pub complete : IsComplete (numbered clauses) trail.entries
  pub room : length trail.entries ≤ trail.limit
  pub below : IsBelow trail.limit (literals trail.entries)
  pub done : head ≤ length trail.entries
  pub guarded : AreGuarded clauses pairs (front trail.entries head) (literals trail.entries)
  pub levels : (place : ℕ) → IsDecisionAt trail.entries place → AreGuarded clauses pairs (front trail.entries place) (front trail.entries place)

-- the clause that stands under that id is false
abbrev pub IsConflict : Standing → List Assigned → ℕ → Type 0
IsConflict standing trail id = IsSomeAnd (get standing id) (λ clause. open_literals (literals trail) clause ≡ [])

-- a clause is false at the end of a level, but for one literal, whose variable has no value there
pub record IsAsserting (before clause : List Literal) (u : Literal) : Type 0 where
  pub here : has_literal clause u ≡ true
  pub free : has_variable before u.var ≡ false
  pub others : (l : Literal) → has_literal clause l ≡ true → (l ≡ u → ⊥) → is_false before l ≡ true
