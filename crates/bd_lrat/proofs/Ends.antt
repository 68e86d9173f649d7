-- Logs taken apart at their end: the definitions go down a log from its front, and a solver adds lines after it.
use Rattle.std.proofs.Common.{◌≡◌, ◌≢◌, ℕ, ◌+◌, cond, List, [], ◌∷◌, ◌++◌, Option, Some, refl}
use Rattle.std.proofs.lemmas.List.Sums.{sum_by-append, sum_by_push}
use Rattle.bd_cnf.specs.Literal.{Literal}
use Rattle.bd_lrat.specs.declared.line.Hint.{Hint}
use Rattle.bd_lrat.specs.declared.line.Line.{Line}
use Rattle.bd_lrat.specs.declared.line.Line.TheVariants.{Add, Delete}
use Rattle.bd_lrat.specs.Database.{Database, IsAccepted, after}
use Rattle.bd_lrat.specs.Deletions.{IsCoveredDeletion, DeletesCovered}
use Rattle.bd_lrat.specs.inner.Deletions.{last_added}
use Rattle.bd_lrat.specs.Log.{IsAcceptedLog, after_all, adds_literals, additions, IsFreshClause, with_added, AddsFresh}

-- what stands after two logs
pub after_all-append : (db : Database) (xs ys : List Line) → after_all db (xs ++ ys) ≡ after_all (after_all db xs) ys
after_all-append db [] ys = refl
after_all-append db (x ∷ xs) ys = after_all-append (after db x) xs ys

pub after_all-push : (db : Database) (xs : List Line) (line : Line) → after_all db (xs ++ line ∷ []) ≡ after (after_all db xs) line
after_all-push db xs line = after_all-append db xs (line ∷ [])

-- two logs are accepted where the second is on what the first leaves
pub accepted-append : (db : Database) (xs ys : List Line) → IsAcceptedLog db xs → IsAcceptedLog (after_all db xs) ys → IsAcceptedLog db (xs ++ ys)
accepted-append db [] ys front back = back
accepted-append db (x ∷ xs) ys front back = (front.0, accepted-append (after db x) xs ys front.1 back)

pub accepted-push : (db : Database) (xs : List Line) (line : Line) → IsAcceptedLog db xs → IsAccepted (after_all db xs) line → IsAcceptedLog db (xs ++ line ∷ [])
accepted-push db xs line front last = accepted-append db xs (line ∷ []) front (last, tt)

-- the clauses of two logs
pub with_added-append : (earlier : List (List Literal)) (xs ys : List Line) → with_added earlier (xs ++ ys) ≡ with_added (with_added earlier xs) ys
with_added-append earlier [] ys = refl
with_added-append earlier ((Add id clause hints) ∷ xs) ys = with_added-append (clause ∷ earlier) xs ys
with_added-append earlier ((Delete id ids) ∷ xs) ys = with_added-append earlier xs ys

-- two logs are fresh where the second is on what the first leaves, against the clauses of the first too
pub fresh-append : (db : Database) (earlier : List (List Literal)) (xs ys : List Line) → AddsFresh db earlier xs → AddsFresh (after_all db xs) (with_added earlier xs) ys → AddsFresh db earlier (xs ++ ys)
fresh-append db earlier [] ys front back = back
fresh-append db earlier ((Add id clause hints) ∷ xs) ys front back = (front.0, fresh-append (after db (Add id clause hints)) (clause ∷ earlier) xs ys front.1 back)
fresh-append db earlier ((Delete id ids) ∷ xs) ys front back = fresh-append (after db (Delete id ids)) earlier xs ys front back

-- an addition of a fresh clause after a fresh log
pub fresh-push_addition : (db : Database) (earlier : List (List Literal)) (xs : List Line) (id : ℕ) (clause : List Literal) (hints : List Hint) → AddsFresh db earlier xs → (clause ≢ [] → IsFreshClause (after_all db xs).clauses (with_added earlier xs) clause) → AddsFresh db earlier (xs ++ Add id clause hints ∷ [])
fresh-push_addition db earlier xs id clause hints front last = fresh-append db earlier xs (Add id clause hints ∷ []) front (last, tt)

-- a deletion after a fresh log
pub fresh-push_deletion : (db : Database) (earlier : List (List Literal)) (xs : List Line) (id : ℕ) (ids : List ℕ) → AddsFresh db earlier xs → AddsFresh db earlier (xs ++ Delete id ids ∷ [])
fresh-push_deletion db earlier xs id ids front = fresh-append db earlier xs (Delete id ids ∷ []) front tt

-- non-empty additions of two logs
pub additions-append : (xs ys : List Line) → additions (xs ++ ys) ≡ additions xs + additions ys
additions-append xs ys = sum_by-append (λ line. cond (adds_literals line) 1 0) xs ys

-- a line after a log counts where it adds a clause of one literal or more
pub additions-push : (xs : List Line) (line : Line) → additions (xs ++ line ∷ []) ≡ additions xs + cond (adds_literals line) 1 0
additions-push xs line = sum_by_push (λ line. cond (adds_literals line) 1 0) xs line

-- the last addition of a log with a line more
pub last_added-push_addition : (added : Option ℕ) (xs : List Line) (id : ℕ) (clause : List Literal) (hints : List Hint) → last_added added (xs ++ Add id clause hints ∷ []) ≡ Some id
last_added-push_addition added [] id clause hints = refl
last_added-push_addition added ((Add i c hs) ∷ xs) id clause hints = last_added-push_addition (Some i) xs id clause hints
last_added-push_addition added ((Delete i is) ∷ xs) id clause hints = last_added-push_addition added xs id clause hints

pub last_added-push_deletion : (added : Option ℕ) (xs : List Line) (id : ℕ) (ids : List ℕ) → last_added added (xs ++ Delete id ids ∷ []) ≡ last_added added xs
last_added-push_deletion added [] id ids = refl
last_added-push_deletion added ((Add i c hs) ∷ xs) id ids = last_added-push_deletion (Some i) xs id ids
last_added-push_deletion added ((Delete i is) ∷ xs) id ids = last_added-push_deletion added xs id ids

-- an addition after covered deletions
pub covered-push_addition : (db : Database) (added : Option ℕ) (xs : List Line) (id : ℕ) (clause : List Literal) (hints : List Hint) → DeletesCovered db added xs → DeletesCovered db added (xs ++ Add id clause hints ∷ [])
covered-push_addition db added [] id clause hints front = tt
covered-push_addition db added ((Add i c hs) ∷ xs) id clause hints front = covered-push_addition (after db (Add i c hs)) (Some i) xs id clause hints front
covered-push_addition db added ((Delete i is) ∷ xs) id clause hints front = (front.0, covered-push_addition (after db (Delete i is)) added xs id clause hints front.1)

-- a covered deletion after others
pub covered-push_deletion : (db : Database) (added : Option ℕ) (xs : List Line) (id : ℕ) (ids : List ℕ) → DeletesCovered db added xs → IsCoveredDeletion (after_all db xs) (last_added added xs) id ids → DeletesCovered db added (xs ++ Delete id ids ∷ [])
covered-push_deletion db added [] id ids front last = (last, tt)
covered-push_deletion db added ((Add i c hs) ∷ xs) id ids front last = covered-push_deletion (after db (Add i c hs)) (Some i) xs id ids front last
covered-push_deletion db added ((Delete i is) ∷ xs) id ids front last = (front.0, covered-push_deletion (after db (Delete i is)) added xs id ids front.1 last)
