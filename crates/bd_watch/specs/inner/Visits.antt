-- What it comes to where clauses are looked at whose watched literal has become false.
use Rattle.std.specs.Prelude.{◌≡◌, ◌≢◌, ◌⊎◌, ◌<◌, ◌≤◌, ℕ, true, false, List, [], Option, None, Some, length, slice_index_or}
use Rattle.std.specs.List.{list_any}
use Rattle.bd_cnf.specs.Literal.{Literal, negate, literal_eq, has_literal}
use Rattle.bd_cnf.specs.Trail.{is_false, open_literals}
use Rattle.bd_lrat.specs.Database.{numbered}
use Rattle.bd_watch.specs.declared.watcher.WatchedPair.{WatchedPair}
use Rattle.bd_watch.specs.declared.watcher.Watcher.{Watcher}
use Rattle.bd_watch.specs.declared.watch.Watch.{Watch}
use Rattle.bd_watch.specs.declared.watch.Visited.{Visited}
use Rattle.bd_watch.specs.declared.watch.Visited.TheVariants.{Moved, Kept, Blocked, Conflict}
use Rattle.bd_watch.specs.Levels.{Assigned, literals}
use Rattle.bd_watch.specs.Watching.{clause_at, list_at, IsOneOf, IsPair, IsListed, IsConflict}
use Rattle.bd_watch.specs.Watch.{IsWatching, Extends}
use Rattle.bd_watch.specs.inner.Watchers.{AreTwo, HasBlocker, Removes}

-- a literal of the clause besides the other that isn't false
pub record IsReplacement (trail clause : List Literal) (other l : Literal) : Type 0 where
  pub here : has_literal clause l ≡ true
  pub apart : literal_eq l other ≡ false
  pub not_false : is_false trail l ≡ false

-- all literals of the clause are false but perhaps the one
abbrev pub AreFalseBesides : List Literal → List Literal → Literal → Type 0
AreFalseBesides trail clause other = (l : Literal) → has_literal clause l ≡ true → literal_eq l other ≡ false → is_false trail l ≡ true

-- the clause doesn't watch the literal any more, or is true, or is false
abbrev pub IsVisited : List (List Literal) → List WatchedPair → List Assigned → Literal → ℕ → Visited → Type 0
IsVisited clauses pairs trail l i Moved = (d : WatchedPair) → IsOneOf (slice_index_or pairs i d) l → ⊥
IsVisited clauses pairs trail l i Kept = list_any (has_literal (literals trail)) (clause_at clauses i) ≡ true
IsVisited clauses pairs trail l i (Blocked blocker) = (has_literal (clause_at clauses i) blocker ≡ true) × (has_literal (literals trail) blocker ≡ true)
IsVisited clauses pairs trail l i Conflict = open_literals (literals trail) (clause_at clauses i) ≡ []

-- one clause was looked at
pub record Visits (old new : Watch) (l : Literal) (i : ℕ) (visited : Visited) : Type 0 where
  pub watching : IsWatching new
  pub extends : Extends old new
  pub list : list_at new.lists.items l ≡ list_at old.lists.items l
  pub pairs : (k : ℕ) (d : WatchedPair) → k ≢ i → slice_index_or new.pairs.items k d ≡ slice_index_or old.pairs.items k d
  pub outcome : IsVisited new.clauses new.pairs.items new.trail.entries l i visited

-- each clause that watches the literal is true
abbrev pub AreSettled : List (List Literal) → List WatchedPair → List Assigned → Literal → Type 0
AreSettled clauses pairs trail l = (i : ℕ) (d : WatchedPair) → i < length clauses → 2 ≤ length (clause_at clauses i) → IsOneOf (slice_index_or pairs i d) l → list_any (has_literal (literals trail)) (clause_at clauses i) ≡ true

-- all clauses were looked at that watch the literal, or up to one that is false
abbrev pub IsSwept : Watch → Literal → Option ℕ → Type 0
IsSwept new l None = AreSettled new.clauses new.pairs.items new.trail.entries l
IsSwept new l (Some id) = IsConflict (numbered new.clauses) new.trail.entries id

pub record Sweeps (old new : Watch) (l : Literal) (conflict : Option ℕ) : Type 0 where
  pub watching : IsWatching new
  pub extends : Extends old new
  pub swept : IsSwept new l conflict

-- a clause may watch those two: the second it watches already, and the first isn't false
pub record MayWatch (w : Watch) (i : ℕ) (p : WatchedPair) : Type 0 where
  pub two : IsPair (clause_at w.clauses i) p
  pub second : (d : WatchedPair) → IsOneOf (slice_index_or w.pairs.items i d) p.second
  pub first : is_false (literals w.trail.entries) p.first ≡ false

-- the clause at a place watches these two
abbrev pub AreWatchedAt : Watch → ℕ → Literal → Literal → Type 0
AreWatchedAt w i l other = (d : WatchedPair) → AreTwo (slice_index_or w.pairs.items i d) l other

-- the other literals of a clause are false, and this one isn't true
pub record IsLeft (w : Watch) (i : ℕ) (l : Literal) : Type 0 where
  pub here : has_literal (clause_at w.clauses i) l ≡ true
  pub besides : AreFalseBesides (literals w.trail.entries) (clause_at w.clauses i) l
  pub not_true : has_literal (literals w.trail.entries) l ≡ false

-- a clause of two or more literals
pub record IsLong (w : Watch) (i : ℕ) : Type 0 where
  pub within : i < length w.clauses
  pub long : 2 ≤ length (clause_at w.clauses i)

-- each clause that watches the literal is true, or listed from that place on
abbrev pub ArePending : List (List Literal) → List WatchedPair → List Watcher → List Assigned → Literal → ℕ → Type 0
ArePending clauses pairs watchers trail l place = (i : ℕ) (d : WatchedPair) → i < length clauses → 2 ≤ length (clause_at clauses i) → IsOneOf (slice_index_or pairs i d) l → (list_any (has_literal (literals trail)) (clause_at clauses i) ≡ true) ⊎ IsListed watchers place i

-- a watcher was taken out of the list of the literal
pub record Unwatches (old new : Watch) (l : Literal) (place : ℕ) : Type 0 where
  pub watching : IsWatching new
  pub clauses : new.clauses ≡ old.clauses
  pub pairs : new.pairs.items ≡ old.pairs.items
  pub trail : new.trail ≡ old.trail
  pub head : new.head ≡ old.head
  pub removes : Removes (list_at old.lists.items l) place (list_at new.lists.items l)

-- a literal is one of the clause whose watcher stands at a place of the list of another
pub record MayBlock (w : Watch) (l : Literal) (place : ℕ) (blocker : Literal) : Type 0 where
  pub within : place < length (list_at w.lists.items l)
  pub here : (d : Watcher) → has_literal (clause_at w.clauses (slice_index_or (list_at w.lists.items l) place d).clause) blocker ≡ true

-- it is that watcher's blocker now
pub record Renews (old new : Watch) (l : Literal) (place : ℕ) (blocker : Literal) : Type 0 where
  pub watching : IsWatching new
  pub clauses : new.clauses ≡ old.clauses
  pub pairs : new.pairs.items ≡ old.pairs.items
  pub trail : new.trail ≡ old.trail
  pub head : new.head ≡ old.head
  pub list : HasBlocker (list_at old.lists.items l) place blocker (list_at new.lists.items l)

-- the watcher at that place of the list is this
pub record IsAt (watchers : List Watcher) (place : ℕ) (w : Watcher) : Type 0 where
  pub within : place < length watchers
  pub is : (d : Watcher) → slice_index_or watchers place d ≡ w

-- no clause of the watcher at that place watches the literal
abbrev pub IsStale : Watch → Literal → ℕ → Type 0
IsStale w l place = (p : WatchedPair) (d : Watcher) → IsOneOf (slice_index_or w.pairs.items (slice_index_or (list_at w.lists.items l) place d).clause p) l → ⊥

-- the literal is the negation of the first that wasn't propagated
pub record IsNext (w : Watch) (l : Literal) : Type 0 where
  pub within : w.head < length w.trail.entries
  pub is : (d : Assigned) → l ≡ negate (slice_index_or w.trail.entries w.head d).literal
