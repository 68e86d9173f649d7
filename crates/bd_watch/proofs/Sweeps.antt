-- Going along the watchers of a literal, one after another, and along the literals of a trail.
use Rattle.std.proofs.Common.{◌≡◌, ℕ, ◌+◌, ◌<◌, ◌≤◌, true, [], ◌++◌, Option, None, Some, length, get_or, take, sym, ap, ◌∙◌, subst, arith, length-append, append_assoc}
use Rattle.std.specs.Prelude.{IsSomeAnd}
use Rattle.std.specs.List.{list_any}
use Rattle.std.proofs.lemmas.List.{get_or_append_left, length-map, take-append-le}
use Rattle.bd_cnf.specs.Literal.{Literal, negate, has_literal}
use Rattle.bd_cnf.specs.Trail.{is_false, open_literals}
use Rattle.bd_lrat.specs.Database.{numbered}
use Rattle.bd_watch.specs.declared.watcher.Watcher.{Watcher}
use Rattle.bd_watch.specs.declared.watch.Watch.{Watch}
use Rattle.bd_watch.specs.declared.watch.Visited.TheVariants.{Moved, Blocked, Conflict}
use Rattle.bd_watch.specs.declared.watch.Visited.{Visited}
use Rattle.bd_watch.specs.Levels.{Assigned, assigned, literals}
use Rattle.bd_watch.specs.Trails.{LeveledTrail}
use Rattle.bd_watch.specs.inner.Watchers.{Removes}
use Rattle.bd_watch.specs.Watching.{clause_at, list_at, IsOneOf, IsConflict}
use Rattle.bd_watch.specs.Watch.{IsWatching, IsPropagated, Extends, Propagates}
use Rattle.bd_watch.specs.inner.Visits.{ArePending, IsAt, IsNext, Visits, MayBlock, Renews, Unwatches, Sweeps}
use Rattle.bd_watch.proofs.Parts.{has_left}
use Rattle.bd_watch.proofs.Placed.{literals-append}
use Rattle.bd_watch.proofs.Numbered.{numbered_at}
use Rattle.bd_watch.proofs.PendingWatchers.{pending_kept, pending_reblocked, pending_moved}
use Rattle.bd_watch.proofs.Values.{literal_at}
use Rattle.bd_cnf.proofs.Literals.{has_at, any_from_has, negate_twice}
use Rattle.bd_watch.proofs.WatchedClauses.{swept, all_closed}

pub extends_more : (a b c : Watch) → Extends a b → Extends b c → Extends a c
extends_more a b c first second = record {
  clauses = second.clauses ∙ first.clauses;
  limit = second.limit ∙ first.limit;
  head = second.head ∙ first.head;
  more = first.more ++ second.more;
  grown = second.grown ∙ ap (λ es. es ++ second.more) first.grown ∙ append_assoc a.trail.entries first.more second.more;
}

-- a false literal stays false
pub falsified_still : (a b : Watch) (l : Literal) → Extends a b → is_false (literals a.trail.entries) l ≡ true → is_false (literals b.trail.entries) l ≡ true
falsified_still a b l more bad =
    subst (λ ls. has_literal ls (negate l) ≡ true) (sym (ap literals more.grown ∙ literals-append a.trail.entries more.more)) (has_left (literals a.trail.entries) (literals more.more) (negate l) bad)

-- one was looked at, whose clause is true
pub sweep_true : (w new : Watch) (l : Literal) (place : ℕ) (entry : Watcher) (visited : Visited) → ArePending w.clauses w.pairs.items (list_at w.lists.items l) w.trail.entries l place → IsAt (list_at w.lists.items l) place entry → Visits w new l entry.clause visited → list_any (has_literal (literals new.trail.entries)) (clause_at new.clauses entry.clause) ≡ true → ArePending new.clauses new.pairs.items (list_at new.lists.items l) new.trail.entries l (place + 1)
sweep_true w new l place entry visited is at visits holds =
    let ws = list_at w.lists.items l in
    subst (λ cs. ArePending cs new.pairs.items (list_at new.lists.items l) new.trail.entries l (place + 1)) (sym visits.extends.clauses)
    (subst (λ xs. ArePending w.clauses new.pairs.items xs new.trail.entries l (place + 1)) (sym visits.list)
    (subst (λ es. ArePending w.clauses new.pairs.items ws es l (place + 1)) (sym visits.extends.grown)
    (pending_kept w.clauses w.pairs.items new.pairs.items ws w.trail.entries visits.extends.more l place entry is
    (λ k p apart. visits.pairs k p (λ e. apart (e ∙ ap (λ (x : Watcher). x.clause) (sym (at.is entry)))))
    (subst (λ (x : Watcher). list_any (has_literal (literals (w.trail.entries ++ visits.extends.more))) (clause_at w.clauses x.clause) ≡ true) (sym (at.is entry))
    (subst (λ es. list_any (has_literal (literals es)) (clause_at w.clauses entry.clause) ≡ true) visits.extends.grown
    (subst (λ cs. list_any (has_literal (literals new.trail.entries)) (clause_at cs entry.clause) ≡ true) visits.extends.clauses holds))))))

-- and its watcher was given another blocker
pub sweep_renewed : (w new newer : Watch) (l blocker : Literal) (place : ℕ) (entry : Watcher) → ArePending w.clauses w.pairs.items (list_at w.lists.items l) w.trail.entries l place → IsAt (list_at w.lists.items l) place entry → Visits w new l entry.clause (Blocked blocker) → Renews new newer l place blocker → ArePending newer.clauses newer.pairs.items (list_at newer.lists.items l) newer.trail.entries l (place + 1)
sweep_renewed w new newer l blocker place entry is at visits put =
    subst (λ cs. ArePending cs newer.pairs.items (list_at newer.lists.items l) newer.trail.entries l (place + 1)) (sym put.clauses)
    (subst (λ ps. ArePending new.clauses ps (list_at newer.lists.items l) newer.trail.entries l (place + 1)) (sym put.pairs)
    (subst (λ (t : LeveledTrail). ArePending new.clauses new.pairs.items (list_at newer.lists.items l) t.entries l (place + 1)) (sym put.trail)
    (pending_reblocked new.clauses new.pairs.items (list_at new.lists.items l) (list_at newer.lists.items l) new.trail.entries l blocker place (place + 1) put.list (subst (λ ws. place < length ws) (sym visits.list) at.within)
    (sweep_true w new l place entry (Blocked blocker) is at visits (any_from_has (has_literal (literals new.trail.entries)) (clause_at new.clauses entry.clause) blocker visits.outcome.0 visits.outcome.1)))))

-- the literal by which it is true may be that
pub may_block : (w new : Watch) (l blocker : Literal) (place : ℕ) (entry : Watcher) → IsAt (list_at w.lists.items l) place entry → Visits w new l entry.clause (Blocked blocker) → MayBlock new l place blocker
may_block w new l blocker place entry at visits = record {
  within = subst (λ ws. place < length ws) (sym visits.list) at.within;
  here = λ d. subst (λ (x : Watcher). has_literal (clause_at new.clauses x.clause) blocker ≡ true) (sym (ap (λ ws. get_or ws place d) visits.list ∙ at.is d)) visits.outcome.0;
}

-- one was looked at, and taken out
pub sweep_moved : (w new newer : Watch) (l : Literal) (place : ℕ) (entry : Watcher) → ArePending w.clauses w.pairs.items (list_at w.lists.items l) w.trail.entries l place → IsAt (list_at w.lists.items l) place entry → Visits w new l entry.clause Moved → Unwatches new newer l place → ArePending newer.clauses newer.pairs.items (list_at newer.lists.items l) newer.trail.entries l place
sweep_moved w new newer l place entry is at visits gone =
    let ws = list_at w.lists.items l in
    subst (λ cs. ArePending cs newer.pairs.items (list_at newer.lists.items l) newer.trail.entries l place) (sym (gone.clauses ∙ visits.extends.clauses))
    (subst (λ ps. ArePending w.clauses ps (list_at newer.lists.items l) newer.trail.entries l place) (sym gone.pairs)
    (subst (λ es. ArePending w.clauses new.pairs.items (list_at newer.lists.items l) es l place) (sym (ap (λ (t : LeveledTrail). t.entries) gone.trail ∙ visits.extends.grown))
    (pending_moved w.clauses w.pairs.items new.pairs.items ws w.trail.entries visits.extends.more l place entry (list_at newer.lists.items l) is
    (λ k p apart. visits.pairs k p (λ e. apart (e ∙ ap (λ (x : Watcher). x.clause) (sym (at.is entry)))))
    (λ p. subst (λ (x : Watcher). IsOneOf (get_or new.pairs.items x.clause p) l → ⊥) (sym (at.is entry)) (visits.outcome p))
    (subst (λ xs. Removes xs place (list_at newer.lists.items l)) visits.list gone.removes)
    at.within)))

pub extends_renewed : (a b c : Watch) (l blocker : Literal) (place : ℕ) → Extends a b → Renews b c l place blocker → Extends a c
extends_renewed a b c l blocker place first put = record {
  clauses = put.clauses ∙ first.clauses;
  limit = ap (λ (t : LeveledTrail). t.limit) put.trail ∙ first.limit;
  head = put.head ∙ first.head;
  more = first.more;
  grown = ap (λ (t : LeveledTrail). t.entries) put.trail ∙ first.grown;
}

pub extends_unwatched : (a b c : Watch) (l : Literal) (place : ℕ) → Extends a b → Unwatches b c l place → Extends a c
extends_unwatched a b c l place first gone = record {
  clauses = gone.clauses ∙ first.clauses;
  limit = ap (λ (t : LeveledTrail). t.limit) gone.trail ∙ first.limit;
  head = gone.head ∙ first.head;
  more = first.more;
  grown = ap (λ (t : LeveledTrail). t.entries) gone.trail ∙ first.grown;
}

-- one is of a clause that is false
pub sweep_conflicts : (w now new : Watch) (l : Literal) (i id : ℕ) → Extends w now → Visits now new l i Conflict → i < length now.clauses → id ≡ i + 1 → Sweeps w new l (Some id)
sweep_conflicts w now new l i id more visits low same = record {
  watching = visits.watching;
  extends = extends_more w now new more visits.extends;
  swept = subst (λ n. IsConflict (numbered new.clauses) new.trail.entries n) (sym same)
      (subst (λ o. IsSomeAnd o (λ c. open_literals (literals new.trail.entries) c ≡ [])) (sym (numbered_at new.clauses i [] (subst (λ cs. i < length cs) (sym visits.extends.clauses) low))) visits.outcome);
}

-- one more literal of the trail was propagated
pub propagated_more : (w new : Watch) (l : Literal) (d : Assigned) → IsNext w l → Sweeps w new l None → IsWatching (record { clauses = new.clauses; pairs = new.pairs; lists = new.lists; trail = new.trail; head = new.head + 1 })
propagated_more w new l d next sweeps =
    let low : w.head < length w.trail.entries = next.within in
    let same : get_or new.trail.entries new.head d ≡ get_or w.trail.entries w.head d = ap (λ es. get_or es new.head d) sweeps.extends.grown ∙ ap (λ n. get_or (w.trail.entries ++ sweeps.extends.more) n d) sweeps.extends.head ∙ get_or_append_left w.trail.entries sweeps.extends.more d w.head low in
    let long : length new.trail.entries ≡ length w.trail.entries + length sweeps.extends.more = ap length sweeps.extends.grown ∙ length-append w.trail.entries sweeps.extends.more in
    swept new.clauses new.pairs.items new.lists.items new.trail new.head d sweeps.watching (omega (arith, sweeps.extends.head))
    (λ i p h more one. sweeps.swept i p h more (subst (IsOneOf (get_or new.pairs.items i p)) (sym (next.is d ∙ ap (λ (a : Assigned). negate a.literal) (sym same))) one))

-- the next literal has room, and its negation is true
pub next_below : (w : Watch) (l : Literal) → IsWatching w → IsNext w l → l.var < w.trail.limit
next_below w l is next =
    let d : Assigned = assigned l None in
    let size : length (literals w.trail.entries) ≡ length w.trail.entries = length-map w.trail.entries (λ (a : Assigned). a.literal) in
    subst (λ (m : Literal). m.var < w.trail.limit) (sym (next.is d))
    (subst (λ (m : Literal). m.var < w.trail.limit) (literal_at w.trail.entries w.head d next.within) (is.below w.head d.literal (omega (arith, next.within))))

pub next_false : (w : Watch) (l : Literal) → IsNext w l → is_false (literals w.trail.entries) l ≡ true
next_false w l next =
    let d : Assigned = assigned l None in
    let size : length (literals w.trail.entries) ≡ length w.trail.entries = length-map w.trail.entries (λ (a : Assigned). a.literal) in
    has_at w.head (literals w.trail.entries) d.literal (negate l) (omega (arith, next.within)) (ap negate (next.is d) ∙ negate_twice (get_or w.trail.entries w.head d).literal ∙ sym (literal_at w.trail.entries w.head d next.within))

-- a sweep makes the trail no shorter
pub sweep_longer : (w new : Watch) (l : Literal) (r : Option ℕ) → Sweeps w new l r → length w.trail.entries ≤ length new.trail.entries
sweep_longer w new l r sweeps = omega (arith, ap length sweeps.extends.grown, length-append w.trail.entries sweeps.extends.more)

-- and leaves what was on it
pub sweep_keeps : (w new : Watch) (l : Literal) (r : Option ℕ) (n : ℕ) → n ≤ length w.trail.entries → Sweeps w new l r → take n new.trail.entries ≡ take n w.trail.entries
sweep_keeps w new l r n low sweeps = ap (take n) sweeps.extends.grown ∙ take-append-le n w.trail.entries sweeps.extends.more low

-- propagation has come to an end
pub propagates_all : (w new : Watch) → IsWatching new → new.clauses ≡ w.clauses → new.trail.limit ≡ w.trail.limit → length w.trail.entries ≤ length new.trail.entries → take (length w.trail.entries) new.trail.entries ≡ w.trail.entries → IsPropagated new → Propagates w new None
propagates_all w new is clauses limit longer kept end = record { watching = is; clauses = clauses; limit = limit; longer = longer; kept = kept; end = (end, all_closed new.clauses new.pairs.items new.lists.items new.trail new.head is end) }
