-- Passes over the clauses: what a unit clause gives, and how far a pass has come.
use Rattle.std.proofs.Common.{◌≡◌, ℕ, ◌+◌, ◌<◌, ◌≤◌, Bool, true, false, List, [], ◌∷◌, ◌++◌, Some, length, get_or, take, sym, ap, ◌∙◌, subst, inl, arith, length-append}
use Rattle.std.specs.Prelude.{IsSomeAnd}
use Rattle.std.specs.List.{All}
use Rattle.std.proofs.lemmas.List.{take_all}
use Rattle.std.proofs.lemmas.List.Elements.{All-more}
use Rattle.bd_cnf.specs.Literal.{Literal, has_literal, has_variable}
use Rattle.bd_cnf.specs.Standing.{IsBelow}
use Rattle.bd_cnf.specs.Trail.{open_literals, IsClosed}
use Rattle.bd_cnf.proofs.Literals.{any_from_has}
use Rattle.bd_cnf.proofs.Opens.{open_is_open, open_is_below}
use Rattle.bd_lrat.specs.Database.{numbered}
use Rattle.bd_watch.specs.Levels.{Assigned, assigned, literals, IsComplete}
use Rattle.bd_watch.specs.Trails.{LeveledTrail, leveled}
use Rattle.bd_watch.specs.Watching.{IsConflict}
use Rattle.bd_watch.proofs.Numbered.{numbered_at}
use Rattle.bd_cdcl.specs.inner.Passes.{IsPassing, AllClosed}
use Rattle.bd_watch.proofs.Parts.{has_here, open_has, unassigned_from}
use Rattle.bd_watch.proofs.Placed.{complete_push}

-- the literal of a unit clause has room
pub unit_below : (limit room : ℕ) (clauses : List (List Literal)) (place : ℕ) (clause lits ls : List Literal) (l : Literal) → All (IsBelow limit) clauses → room ≡ limit → place < length clauses → clause ≡ get_or clauses place clause → lits ≡ clause → open_literals ls lits ≡ l ∷ [] → l.var < room
unit_below limit room clauses place clause lits ls l low same h is seen opens =
    let below : IsBelow limit lits = subst (IsBelow limit) (sym (seen ∙ is)) (low place clause h) in
    subst (λ n. l.var < n) (sym same) (open_is_below limit ls lits l below opens)

-- where it isn't true, its variable has no value
pub unit_free : (ls clause : List Literal) (l : Literal) → open_literals ls clause ≡ l ∷ [] → false ≡ has_literal ls l → has_variable ls l.var ≡ false
unit_free ls clause l opens not_true = unassigned_from ls l (sym not_true) (open_is_open ls clause l opens)

-- and the trail stays complete with it
pub unit_placed : (clauses : List (List Literal)) (place : ℕ) (clause lits : List Literal) (trail : List Assigned) (l : Literal) → IsComplete (numbered clauses) trail → place < length clauses → clause ≡ get_or clauses place clause → lits ≡ clause → open_literals (literals trail) lits ≡ l ∷ [] → has_variable (literals trail) l.var ≡ false → IsComplete (numbered clauses) (trail ++ assigned l (Some (place + 1)) ∷ [])
unit_placed clauses place clause lits trail l all h is seen opens free =
    let unit : open_literals (literals trail) (get_or clauses place clause) ≡ l ∷ [] = subst (λ c. open_literals (literals trail) c ≡ l ∷ []) (seen ∙ is) opens in
    complete_push (numbered clauses) trail (assigned l (Some (place + 1))) all (record {
      unassigned = free;
      reason = subst (λ o. IsSomeAnd o (λ c. open_literals (literals trail) c ≡ l ∷ [])) (sym (numbered_at clauses place clause h)) unit;
    })

-- a unit clause whose literal is true, or one with two open literals, leaves nothing to do
pub unit_true_closed : (ls clause : List Literal) (l : Literal) → open_literals ls clause ≡ l ∷ [] → true ≡ has_literal ls l → IsClosed ls clause
unit_true_closed ls clause l opens on =
    inl (any_from_has (has_literal ls) clause l (open_has ls clause l (subst (λ ks. has_literal ks l ≡ true) (sym opens) (has_here l []))).0 (sym on))

never_shorter : (done : List (List Literal)) (before trail : LeveledTrail) (b : Bool) → IsPassing done before trail b → length before.entries ≤ length trail.entries
never_shorter done before trail true is = let more : length before.entries < length trail.entries = is.longer in omega arith
never_shorter done before trail false is = let same : length trail.entries ≡ length before.entries = ap (λ (t : LeveledTrail). length t.entries) is.0 in omega arith

-- a false clause is a conflict, and a pass makes no trail shorter
pub passed_conflict : (clauses : List (List Literal)) (place : ℕ) (clause lits : List Literal) (done : List (List Literal)) (before trail : LeveledTrail) (b : Bool) → place < length clauses → clause ≡ get_or clauses place clause → lits ≡ clause → open_literals (literals trail.entries) lits ≡ [] → IsPassing done before trail b → IsConflict (numbered clauses) trail.entries (place + 1) × (length before.entries ≤ length trail.entries)
passed_conflict clauses place clause lits done before trail b h is seen falsified so = (
  subst (λ o. IsSomeAnd o (λ c. open_literals (literals trail.entries) c ≡ [])) (sym (numbered_at clauses place clause h)) (subst (λ c. open_literals (literals trail.entries) c ≡ []) (seen ∙ is) falsified),
  never_shorter done before trail b so,
)

pub passing_longer : (done more : List (List Literal)) (before trail new : LeveledTrail) (b c : Bool) (a : Assigned) → IsPassing done before trail b → new ≡ leveled trail.limit (trail.entries ++ a ∷ []) → length new.entries ≤ new.limit → c ≡ true → IsPassing more before new c
passing_longer done more before trail new b c a is e room extended =
    let at_least : length before.entries ≤ length trail.entries = never_shorter done before trail b is in
    let size : length new.entries ≡ length trail.entries + 1 = ap (λ (t : LeveledTrail). length t.entries) e ∙ length-append trail.entries (a ∷ []) in
    subst (λ x. IsPassing more before new x) (sym extended) (record { longer = omega arith; room = room })

pub passing_closed : (clauses : List (List Literal)) (place : ℕ) (clause lits : List Literal) (before trail new : LeveledTrail) (b c : Bool) → place < length clauses → clause ≡ get_or clauses place clause → lits ≡ clause → IsClosed (literals trail.entries) lits → IsPassing (take place clauses) before trail b → new ≡ trail → c ≡ b → IsPassing (take (place + 1) clauses) before new c
passing_closed clauses place clause lits before trail new b c h is seen closed so e f =
    subst (λ t. IsPassing (take (place + 1) clauses) before t c) (sym e) (subst (IsPassing (take (place + 1) clauses) before trail) (sym f) (first b so))
  where
    first : (x : Bool) → IsPassing (take place clauses) before trail x → IsPassing (take (place + 1) clauses) before trail x
    first true was = was
    first false was = (was.0, All-more (IsClosed (literals trail.entries)) clauses place clause h was.1 (subst (IsClosed (literals trail.entries)) (seen ∙ is) closed))

-- a pass that went over all clauses and assigned nothing
pub passed_closed : (clauses : List (List Literal)) (place : ℕ) (before trail : LeveledTrail) (b : Bool) → length clauses ≤ place → IsPassing (take place clauses) before trail b → b ≡ false → (trail ≡ before) × AllClosed clauses trail.entries
passed_closed clauses place before trail b h is not_extended =
    let end : (trail ≡ before) × AllClosed (take place clauses) trail.entries = subst (IsPassing (take place clauses) before trail) not_extended is in
    (end.0, subst (λ cs. AllClosed cs trail.entries) (take_all place clauses h) end.1)
