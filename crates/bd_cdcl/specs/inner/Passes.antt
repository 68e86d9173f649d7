-- What a pass over the clauses reports.
use Rattle.std.specs.Prelude.{◌≡◌, ◌<◌, ◌≤◌, Bool, true, false, List, length}
use Rattle.std.specs.List.{All}
use Rattle.bd_cnf.specs.Literal.{Literal}
use Rattle.bd_lrat.specs.Database.{numbered}
use Rattle.bd_cnf.specs.Trail.{IsClosed}
use Rattle.bd_cdcl.specs.declared.plain.propagation.Passed.{Passed}
use Rattle.bd_cdcl.specs.declared.plain.propagation.Passed.TheVariants.{Conflict, Extended, Closed}
use Rattle.bd_watch.specs.Levels.{Assigned, literals}
use Rattle.bd_watch.specs.Trails.{LeveledTrail}
use Rattle.bd_watch.specs.Watching.{IsConflict}

-- no clause is false or unit
abbrev pub AllClosed : List (List Literal) → List Assigned → Type 0
AllClosed clauses trail = All (IsClosed (literals trail)) clauses

-- the trail is longer than it was, and no longer than there are variables
pub record IsLonger (before trail : LeveledTrail) : Type 0 where
  pub longer : length before.entries < length trail.entries
  pub room : length trail.entries ≤ trail.limit

-- a pass came to a false clause, or made the trail longer, or found no clause false or unit
abbrev pub IsPassed : List (List Literal) → LeveledTrail → LeveledTrail → Passed → Type 0
IsPassed clauses before trail (Conflict id) = IsConflict (numbered clauses) trail.entries id × (length before.entries ≤ length trail.entries)
IsPassed clauses before trail Extended = IsLonger before trail
IsPassed clauses before trail Closed = (trail ≡ before) × AllClosed clauses trail.entries

-- how far a pass has come
abbrev pub IsPassing : List (List Literal) → LeveledTrail → LeveledTrail → Bool → Type 0
IsPassing done before trail true = IsLonger before trail
IsPassing done before trail false = (trail ≡ before) × AllClosed done trail.entries
