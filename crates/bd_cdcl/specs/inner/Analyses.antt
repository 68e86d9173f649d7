-- An analysis as it is kept.
use Rattle.std.specs.Prelude.{◌≡◌, ◌≢◌, ◌<◌, ◌≤◌, ℕ, Bool, true, false, List, [], ◌∷◌, ◌++◌, Some, length, map, reverse, slice_set}
use Rattle.std.specs.List.{All, Contains}
use Rattle.std.specs.FinMap.{get}
use Rattle.bd_cnf.specs.Literal.{Literal, negate, has_literal, has_variable}
use Rattle.bd_cnf.specs.Clause.{IsRising}
use Rattle.bd_cnf.specs.Standing.{Standing, IsBelow}
use Rattle.bd_cnf.specs.Trail.{is_false}
use Rattle.bd_lrat.specs.Propagation.{Conflict, propagate}
use Rattle.bd_lrat.specs.declared.line.Hint.TheVariants as hint
use Rattle.bd_lrat.specs.Database.{numbered}
use Rattle.bd_watch.specs.declared.watch.Watch.{Watch}
use Rattle.bd_watch.specs.Levels.{Assigned, reasons}
use Rattle.bd_watch.specs.Trails.{IsDecisionAt}
use Rattle.bd_watch.specs.Watching.{front, IsAsserting}
use Rattle.bd_cdcl.specs.declared.cdcl.learn.Lesson.{Lesson}
use Rattle.bd_cdcl.specs.declared.cdcl.learn.Second.{Second}
use Rattle.bd_cdcl.specs.declared.cdcl.analyze.Analysis.{Analysis}
use Rattle.bd_cdcl.specs.inner.Analysis.{marked, IsAnalyzing, Marks}
use Rattle.bd_cdcl.specs.inner.Deletions.{IsReduced}

-- no place is marked, and there is room for a literal of each variable
pub record IsClear (limit : ℕ) (a : Analysis) : Type 0 where
  pub room : limit ≤ length a.marks.items
  pub clear : (place : ℕ) → marked a.marks.items place ≡ false

-- it has come down to a place
pub record Analyzes (watch : Watch) (start : ℕ) (conflict : List Literal) (end : ℕ) (a : Analysis) : Type 0 where
  pub room : watch.trail.limit ≤ length a.marks.items
  pub resolved : List Assigned
  pub there : All (Contains watch.trail.entries) resolved
  pub ids : reasons resolved ≡ map hint.Unit (reverse a.ids.items)
  pub analyzing : IsAnalyzing (numbered watch.clauses) watch.trail.entries start conflict a.marks.items end a.kept.items resolved

-- a literal was kept
pub record Keeps (old new : Analysis) (place : ℕ) (l : Literal) : Type 0 where
  pub marks : new.marks.items ≡ slice_set old.marks.items place false
  pub kept : new.kept.items ≡ old.kept.items ++ l ∷ []
  pub ids : new.ids.items ≡ old.ids.items

-- one was resolved
pub record Resolves (watch : Watch) (old new : Analysis) (place id : ℕ) : Type 0 where
  pub clause : List Literal
  pub stands : get (numbered watch.clauses) id ≡ Some clause
  pub mid : List Bool
  pub sets : Marks watch.trail.entries clause old.marks.items mid
  pub marks : new.marks.items ≡ slice_set mid place false
  pub kept : new.kept.items ≡ old.kept.items
  pub ids : new.ids.items ≡ old.ids.items ++ id ∷ []

-- all was looked at
pub record Analyzed (watch : Watch) (start id : ℕ) (a : Analysis) : Type 0 where
  pub conflict : List Literal
  pub stands : get (numbered watch.clauses) id ≡ Some conflict
  pub analyzes : Analyzes watch start conflict 0 a

-- of some literals that are false on a trail, one that became false last: in front of its place it has no value, and up to there all are false
pub record IsSecond (trail : List Assigned) (rest : List Literal) (s : Second) : Type 0 where
  pub here : 0 < length rest → has_literal rest s.literal ≡ true
  pub some : 0 < s.floor → 0 < length rest
  pub others : (l : Literal) → has_literal rest l ≡ true → is_false (front trail s.floor) l ≡ true
  pub free : (place : ℕ) → place < s.floor → has_variable (front trail place) s.literal.var ≡ false

-- a clause that follows from what stands, is unit at the end of the level before the last, and at the place that is gone back to, and neither unit nor false at any decision in front of it
pub record IsLesson (watch : Watch) (start : ℕ) (lesson : Lesson) : Type 0 where
  pub rising : IsRising lesson.clause
  pub below : IsBelow watch.trail.limit lesson.clause
  pub follows : (standing : Standing) → IsReduced watch.clauses watch.trail.entries standing → propagate standing (map negate lesson.clause) lesson.hints ≡ Conflict
  pub fresh : IsAsserting (front watch.trail.entries start) lesson.clause lesson.first
  pub decision : IsDecisionAt watch.trail.entries lesson.backjump
  pub asserting : IsAsserting (front watch.trail.entries lesson.backjump) lesson.clause lesson.first
  pub pair : 2 ≤ length lesson.clause → (has_literal lesson.clause lesson.second ≡ true) × (lesson.first ≢ lesson.second)
  pub levels : (place : ℕ) → place < lesson.backjump → IsDecisionAt watch.trail.entries place → (2 ≤ length lesson.clause) × (has_variable (front watch.trail.entries place) lesson.second.var ≡ false)
