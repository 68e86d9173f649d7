-- Clauses that are deleted: a literal of level 0 makes them true, so they are never unit or false again.
use Rattle.std.specs.Prelude.{◌≡◌, ◌≢◌, ◌<◌, ℕ, Bool, true, false, List, None, Some, IsSomeAnd, IfSome, length, slice_index_or}
use Rattle.std.specs.List.{All}
use Rattle.std.specs.FinMap.{get}
use Rattle.bd_cnf.specs.Literal.{Literal, has_literal}
use Rattle.bd_cnf.specs.Standing.{Standing}
use Rattle.bd_lrat.specs.Database.{numbered, remove_all}
use Rattle.bd_lrat.specs.Deletions.{IsCovered}
use Rattle.bd_watch.specs.Levels.{Assigned}
use Rattle.bd_watch.specs.Trails.{IsDecisionAt}

-- a literal of level 0: it stands in front of all decisions
pub record IsFixed (trail : List Assigned) (a : Assigned) : Type 0 where
  pub place : ℕ
  pub within : place < length trail
  pub is : (d : Assigned) → slice_index_or trail place d ≡ a
  pub first : (decision : ℕ) → IsDecisionAt trail decision → place < decision

-- what is fixed on the one trail is fixed on the other
abbrev pub KeepsFixed : List Assigned → List Assigned → Type 0
KeepsFixed old new = (a : Assigned) → IsFixed old a → IsFixed new a

-- a literal of level 0 makes the clause of that id true, and has another reason: so the clause is the reason of no literal
pub record IsSatisfied (trail : List Assigned) (id : ℕ) (clause : List Literal) : Type 0 where
  pub entry : Assigned
  pub fixed : IsFixed trail entry
  pub here : has_literal clause entry.literal ≡ true
  pub besides : entry.reason ≢ Some id

-- a clause that may be deleted, by its id
abbrev pub MayDelete : List (List Literal) → List Assigned → ℕ → Type 0
MayDelete clauses trail id = IsSomeAnd (get (numbered clauses) id) (IsSatisfied trail id)

-- what stands of the clauses, after some that may be deleted were
pub record IsReduced (clauses : List (List Literal)) (trail : List Assigned) (standing : Standing) : Type 0 where
  pub kept : (id : ℕ) → IfSome (get standing id) (λ clause. get (numbered clauses) id ≡ Some clause)
  pub gone : (id : ℕ) → get standing id ≡ None → IfSome (get (numbered clauses) id) (IsSatisfied trail id)

-- what stands of the clauses, after those with these ids were deleted
abbrev pub standing_of : List (List Literal) → List ℕ → Standing
standing_of clauses deleted = remove_all (numbered clauses) deleted

-- what stands covers each clause that was deleted
abbrev pub AreCovered : List (List Literal) → Standing → Type 0
AreCovered clauses standing = (id : ℕ) → get standing id ≡ None → IfSome (get (numbered clauses) id) (IsCovered standing)

-- each of these ids is marked
abbrev pub AreMarked : List Bool → List ℕ → Type 0
AreMarked marks ids = All (λ id. slice_index_or marks id false ≡ true) ids

-- this id isn't marked
abbrev pub IsUnmarked : List Bool → ℕ → Type 0
IsUnmarked marks id = slice_index_or marks id false ≡ false

-- none of these ids is marked
abbrev pub AreUnmarked : List Bool → List ℕ → Type 0
AreUnmarked marks ids = All (IsUnmarked marks) ids

-- what is marked stays so
abbrev pub KeepsMarks : List Bool → List Bool → Type 0
KeepsMarks old new = (id : ℕ) → slice_index_or old id false ≡ true → slice_index_or new id false ≡ true
