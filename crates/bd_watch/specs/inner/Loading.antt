-- A formula's clauses put into a watch, before anything is assigned.
use Rattle.std.specs.Prelude.{◌≡◌, ◌<◌, ◌≤◌, ◌+◌, ℕ, Bool, true, false, List, [], ◌∷◌, ◌++◌, Option, length}
use Rattle.std.specs.List.{list_any}
use Rattle.bd_cnf.specs.Literal.{Literal, has_literal}
use Rattle.bd_cnf.specs.Standing.{IsBelow}
use Rattle.bd_lrat.specs.Database.{numbered}
use Rattle.bd_watch.specs.declared.watcher.Watcher.{Watcher}
use Rattle.bd_watch.specs.declared.watch.Watch.{Watch}
use Rattle.bd_watch.specs.inner.Watchers.{listed_more}
use Rattle.bd_watch.specs.Levels.{literals, decisions, IsComplete}
use Rattle.bd_watch.specs.Watching.{IsPair, pair_of, AreWatched, clause_at, IsConflict}

-- the literal has one watcher more
pub record Lists (old new : Watch) (l : Literal) (watcher : Watcher) : Type 0 where
  pub lists : new.lists.items ≡ listed_more old.lists.items l watcher
  pub clauses : new.clauses ≡ old.clauses
  pub pairs : new.pairs.items ≡ old.pairs.items
  pub trail : new.trail ≡ old.trail
  pub head : new.head ≡ old.head

-- one clause more, which watches those two if it has two or more
pub record Adds (old new : Watch) (clause : List Literal) (first second : Literal) : Type 0 where
  pub third : Option Literal
  pub pair : 2 ≤ length clause → IsPair clause (pair_of first second third)
  pub watched : AreWatched new.trail.limit new.clauses new.pairs.items new.lists.items
  pub clauses : new.clauses ≡ old.clauses ++ clause ∷ []
  pub pairs : new.pairs.items ≡ old.pairs.items ++ pair_of first second third ∷ []
  pub trail : new.trail ≡ old.trail
  pub head : new.head ≡ old.head

-- at level 0, with nothing propagated yet, and with the literals true of the clauses of one literal so far
pub record IsStarting (w : Watch) (count : ℕ) : Type 0 where
  pub watched : AreWatched w.trail.limit w.clauses w.pairs.items w.lists.items
  pub complete : IsComplete (numbered w.clauses) w.trail.entries
  pub room : length w.trail.entries ≤ w.trail.limit
  pub below : IsBelow w.trail.limit (literals w.trail.entries)
  pub level_zero : decisions w.trail.entries ≡ []
  pub head : w.head ≡ 0
  pub units : (i : ℕ) → i < count → length (clause_at w.clauses i) ≤ 1 → list_any (has_literal (literals w.trail.entries)) (clause_at w.clauses i) ≡ true

-- a clause was found false, or is true if it has one literal
abbrev pub IsStarted : Watch → ℕ → Bool → Type 0
IsStarted w place true = IsConflict (numbered w.clauses) w.trail.entries (place + 1)
IsStarted w place false = IsStarting w (place + 1)

-- the literal of one clause was taken as implied, if it is the only one
pub record StartsUnit (old new : Watch) (place : ℕ) (conflict : Bool) : Type 0 where
  pub clauses : new.clauses ≡ old.clauses
  pub limit : new.trail.limit ≡ old.trail.limit
  pub complete : IsComplete (numbered new.clauses) new.trail.entries
  pub level_zero : decisions new.trail.entries ≡ []
  pub started : IsStarted new place conflict
