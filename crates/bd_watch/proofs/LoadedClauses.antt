-- Clauses put into a watch, and the literals of clauses that have one alone.
use Rattle.std.proofs.Common.{◌≡◌, ℕ, zero, suc, ◌+◌, ◌<◌, ◌≤◌, true, false, List, [], ◌∷◌, ◌++◌, Option, None, Some, length, get_or, refl, sym, ap, ◌∙◌, subst, inl, inr, arith, length-append}
use Rattle.std.specs.List.{All}
use Rattle.std.proofs.lemmas.Bool.{cases_eq, cases_lt}
use Rattle.std.proofs.lemmas.List.{get_or_append_left, get_or_push, length_push, get_or_at, take_at}
use Rattle.std.proofs.lemmas.List.Elements.{All-push, All-weaker}
use Rattle.bd_cnf.specs.Literal.{Literal, has_literal, has_variable}
use Rattle.bd_cnf.specs.Clause.{IsRising}
use Rattle.bd_cnf.specs.Standing.{IsBelow}
use Rattle.bd_cnf.specs.Trail.{IsClosed}
use Rattle.bd_cnf.proofs.Literals.{any_from_has}
use Rattle.bd_cnf.proofs.Closed.{part_variable}
use Rattle.bd_lrat.specs.Database.{numbered}
use Rattle.bd_lrat.proofs.Standings.{numbered-push}
use Rattle.bd_watch.specs.declared.watcher.WatchedPair.{WatchedPair}
use Rattle.bd_watch.specs.declared.watcher.Watcher.{Watcher}
use Rattle.bd_watch.specs.declared.watch.Watch.{Watch}
use Rattle.bd_cnf.specs.Packed.{literal_index}
use Rattle.bd_watch.specs.Levels.{Assigned, assigned, literals, decisions, IsComplete}
use Rattle.bd_watch.specs.Trails.{LeveledTrail, extended, IsDecisionAt}
use Rattle.bd_watch.specs.Watching.{clause_at, list_at, IsOneOf, IsPair, IsListed, IsRest, IsWatcher, AreWatched, IsGuarded, AreGuarded, front, AreWatching, IsAsserting, pair_of}
use Rattle.bd_watch.specs.Watch.{IsWatching, MayLearn, Learns}
use Rattle.bd_watch.specs.inner.Loading.{Lists, Adds, IsStarting}
use Rattle.bd_watch.proofs.Parts.{has_pushed, all_has, not_false}
use Rattle.bd_watch.proofs.Placed.{literals-append, IsClosedAtDecisions}
use Rattle.bd_watch.proofs.Numbered.{numbered_past}
use Rattle.bd_watch.proofs.AssertedLiterals.{asserted_complete, two_free_closed}
use Rattle.bd_watch.proofs.Values.{index_below}
use Rattle.bd_watch.proofs.Guards.{guarded_grown, front_grown, front_part}
use Rattle.bd_watch.proofs.WatchedClauses.{decision_front}
use Rattle.bd_watch.specs.inner.Watchers.{listed_more}
use Rattle.bd_watch.proofs.VisitedClauses.{with_trail}
use Rattle.bd_watch.proofs.ListedWatchers.{length-listed_more, still_listed, now_in_list, all_listed}

module _ (limit : ℕ) (clauses : List (List Literal)) (pairs : List WatchedPair) (lists : List (List Watcher)) (clause : List Literal) (p : WatchedPair) where
  old_clause : (k : ℕ) → k < length clauses → clause_at (clauses ++ clause ∷ []) k ≡ clause_at clauses k
  old_clause k h = get_or_append_left clauses (clause ∷ []) [] k h

  new_clause : clause_at (clauses ++ clause ∷ []) (length clauses) ≡ clause
  new_clause = get_or_push clauses clause [] (length clauses) refl

  -- a watcher of a clause is one where there are more
  watcher_still : (index : ℕ) (w : Watcher) → IsWatcher clauses index w → IsWatcher (clauses ++ clause ∷ []) index w
  watcher_still index w is = record {
    within = omega (arith, is.within, length_push clauses clause);
    long = subst (λ c. 2 ≤ length c) (sym (old_clause w.clause is.within)) is.long;
    blocker = subst (λ c. has_literal c w.blocker ≡ true) (sym (old_clause w.clause is.within)) is.blocker;
    rest = subst (λ c. IsRest c index w) (sym (old_clause w.clause is.within)) is.rest;
  }

  -- one clause more, in lists that have its watchers
  added : AreWatched limit clauses pairs lists → IsRising clause → IsBelow limit clause → (2 ≤ length clause → IsPair clause p) → (new : List (List Watcher)) → length new ≡ length lists → ((l : Literal) (k : ℕ) → IsListed (list_at lists l) 0 k → IsListed (list_at new l) 0 k) → (2 ≤ length clause → (l : Literal) → IsOneOf p l → IsListed (list_at new l) 0 (length clauses)) → ((index : ℕ) → All (IsWatcher (clauses ++ clause ∷ []) index) (get_or new index [])) → AreWatched limit (clauses ++ clause ∷ []) (pairs ++ p ∷ []) new
  added was rising below pair new size still now watchers = record {
    packable = was.packable;
    paired = omega (arith, was.paired, length_push pairs p, length_push clauses clause);
    sized = size ∙ was.sized;
    rising = All-push IsRising clauses clause was.rising rising;
    below = All-push (IsBelow limit) clauses clause was.below below;
    two = λ k d h long. elim (cases_eq k (length clauses)) [
      | inl e ↦
          let at : clause_at (clauses ++ clause ∷ []) k ≡ clause = ap (clause_at (clauses ++ clause ∷ [])) e ∙ new_clause in
          subst (λ c. IsPair c (get_or (pairs ++ p ∷ []) k d)) (sym at) (subst (IsPair clause) (sym (new_pair k d e)) (pair (subst (λ c. 2 ≤ length c) at long)))
      | inr apart ↦
          let low : k < length clauses = omega (arith, apart, length_push clauses clause) in
          subst (λ c. IsPair c (get_or (pairs ++ p ∷ []) k d)) (sym (old_clause k low)) (subst (IsPair (clause_at clauses k)) (sym (old_pair k d low)) (was.two k d low (subst (λ c. 2 ≤ length c) (old_clause k low) long)))
    ];
    listed = λ k d l h long one. elim (cases_eq k (length clauses)) [
      | inl e ↦
          let at : clause_at (clauses ++ clause ∷ []) k ≡ clause = ap (clause_at (clauses ++ clause ∷ [])) e ∙ new_clause in
          subst (IsListed (list_at new l) 0) (sym e) (now (subst (λ c. 2 ≤ length c) at long) l (subst (λ (q : WatchedPair). IsOneOf q l) (new_pair k d e) one))
      | inr apart ↦
          let low : k < length clauses = omega (arith, apart, length_push clauses clause) in
          still l k (was.listed k d l low (subst (λ c. 2 ≤ length c) (old_clause k low) long) (subst (λ (q : WatchedPair). IsOneOf q l) (old_pair k d low) one))
    ];
    watchers = watchers;
  }
    where
      old_pair : (k : ℕ) (d : WatchedPair) → k < length clauses → get_or (pairs ++ p ∷ []) k d ≡ get_or pairs k d
      old_pair k d h = get_or_append_left pairs (p ∷ []) d k (omega (arith, was.paired))

      new_pair : (k : ℕ) (d : WatchedPair) → k ≡ length clauses → get_or (pairs ++ p ∷ []) k d ≡ p
      new_pair k d e = get_or_push pairs p d k (was.paired ∙ sym e)

  pub added_long : (v w : Watcher) → AreWatched limit clauses pairs lists → IsRising clause → IsBelow limit clause → 2 ≤ length clause → IsPair clause p → v.clause ≡ length clauses → v.blocker ≡ p.second → w.clause ≡ length clauses → w.blocker ≡ p.first → IsRest clause (literal_index p.first) v → IsRest clause (literal_index p.second) w → AreWatched limit (clauses ++ clause ∷ []) (pairs ++ p ∷ []) (listed_more (listed_more lists p.first v) p.second w)
  added_long v w was rising below long pair for blocker also other rest more =
      added was rising below (λ _. pair) (listed_more once p.second w) (length-listed_more once p.second w ∙ length-listed_more lists p.first v)
      (λ l k there. still_listed once p.second w l k second_low (still_listed lists p.first v l k first_low there))
      (λ _ l one. elim one [
        | inl e ↦ subst (λ (m : Literal). IsListed (list_at (listed_more once p.second w) m) 0 (length clauses)) (sym e) (still_listed once p.second w p.first (length clauses) second_low (now_in_list lists p.first v (length clauses) first_low for))
        | inr e ↦ subst (λ (m : Literal). IsListed (list_at (listed_more once p.second w) m) 0 (length clauses)) (sym e) (now_in_list once p.second w (length clauses) second_low also)
      ])
      (all_listed once p.second w (IsWatcher (clauses ++ clause ∷ [])) second_low
      (all_listed lists p.first v (IsWatcher (clauses ++ clause ∷ [])) first_low
      (λ index. All-weaker (IsWatcher clauses index) (IsWatcher (clauses ++ clause ∷ []) index) (watcher_still index) (get_or lists index []) (was.watchers index))
      (entry v p.second (literal_index p.first) for blocker pair.second rest))
      (entry w p.first (literal_index p.second) also other pair.first more))
    where
      once : List (List Watcher)
      once = listed_more lists p.first v

      first_low : literal_index p.first < length lists
      first_low = omega (arith, was.sized, index_below p.first limit (all_has (λ (l : Literal). l.var < limit) clause p.first below pair.first))

      second_low : literal_index p.second < length once
      second_low = omega (arith, was.sized, length-listed_more lists p.first v, index_below p.second limit (all_has (λ (l : Literal). l.var < limit) clause p.second below pair.second))

      entry : (x : Watcher) (l : Literal) (index : ℕ) → x.clause ≡ length clauses → x.blocker ≡ l → has_literal clause l ≡ true → IsRest clause index x → IsWatcher (clauses ++ clause ∷ []) index x
      entry x l index at is here rest = record {
        within = omega (arith, at, length_push clauses clause);
        long = subst (λ c. 2 ≤ length c) (sym whole) long;
        blocker = subst (λ c. has_literal c x.blocker ≡ true) (sym whole) (subst (λ (m : Literal). has_literal clause m ≡ true) (sym is) here);
        rest = subst (λ c. IsRest c index x) (sym whole) rest;
      }
        where
          whole : clause_at (clauses ++ clause ∷ []) x.clause ≡ clause
          whole = ap (clause_at (clauses ++ clause ∷ [])) at ∙ new_clause

-- at level 0 there is no decision
pub no_decision : (trail : List Assigned) (place : ℕ) → decisions trail ≡ [] → IsDecisionAt trail place → ⊥
no_decision [] place none at = let low : place < 0 = at.within in absurd (omega arith)
no_decision (a ∷ rest) zero none at = first a.reason none (at.undecided a)
  where
    first : (r : Option ℕ) → decisions (assigned a.literal r ∷ rest) ≡ [] → r ≡ None → ⊥
    first None e h = cc
    first (Some id) e h = cc
no_decision (a ∷ rest) (suc place) none at = no_decision rest place (later a.reason none) (let low : suc place < length (a ∷ rest) = at.within in record { within = omega arith; undecided = λ d. at.undecided d })
  where
    later : (r : Option ℕ) → decisions (assigned a.literal r ∷ rest) ≡ [] → decisions rest ≡ []
    later None e = cc
    later (Some id) e = e

-- with all units true and nothing propagated, the clauses watch the trail
pub started : (w : Watch) → IsStarting w (length w.clauses) → IsWatching w
started w is = record {
  watched = is.watched;
  complete = is.complete;
  room = is.room;
  below = is.below;
  done = omega (arith, is.head);
  guarded = λ i d h. subst (λ n. IsGuarded (front w.trail.entries n) (literals w.trail.entries) (clause_at w.clauses i) (get_or w.pairs.items i d)) (sym is.head) (guard i d h);
  levels = λ place at. absurd (no_decision w.trail.entries place is.level_zero at);
}
  where
    guard : (i : ℕ) (d : WatchedPair) → i < length w.clauses → IsGuarded [] (literals w.trail.entries) (clause_at w.clauses i) (get_or w.pairs.items i d)
    guard i d h =
        elim (cases_lt (length (clause_at w.clauses i)) 2) [
          | inl short ↦ inl (is.units i h (omega arith))
          | inr long ↦ inr (record { long = long; first = refl; second = refl })
        ]

-- a learned clause keeps all in order, with its first literal true
module _ (clauses : List (List Literal)) (pairs : List WatchedPair) (lists new : List (List Watcher)) (trail : LeveledTrail) (head : ℕ) (clause : List Literal) (p : WatchedPair) where
  module _ (is : AreWatching clauses pairs lists trail head) (asserting : IsAsserting (literals trail.entries) clause p.first) (pair : 2 ≤ length clause → IsPair clause p) (levels : (place : ℕ) → IsDecisionAt trail.entries place → (2 ≤ length clause) × (has_variable (front trail.entries place) p.second.var ≡ false)) where
    first_free : (place : ℕ) → has_variable (front trail.entries place) p.first.var ≡ false
    first_free place = part_variable (front trail.entries place) (literals trail.entries) p.first.var (front_part trail.entries place) asserting.free

    closed : IsClosedAtDecisions trail.entries clause
    closed xs a ys e none =
        let at : IsDecisionAt trail.entries (length xs) = record {
          within = subst (λ es. length xs < length es) (sym e) (omega (arith, length-append xs (a ∷ ys)));
          undecided = λ d. ap (λ es. (get_or es (length xs) d).reason) e ∙ ap (λ (x : Assigned). x.reason) (get_or_at xs a ys d (length xs) refl) ∙ none;
        } in
        let both = levels (length xs) at in
        let two = pair both.0 in
        let same : front trail.entries (length xs) ≡ literals xs = ap (front_of (length xs)) e ∙ ap literals (take_at xs (a ∷ ys) (length xs) refl) in
        subst (λ ls. IsClosed ls clause) same (two_free_closed (front trail.entries (length xs)) clause p.first p.second two.first two.second two.apart (first_free (length xs)) both.1)
      where
        front_of : ℕ → List Assigned → List Literal
        front_of place es = front es place

    guard : (ls : List Literal) (place i : ℕ) (d : WatchedPair) → length pairs ≡ length clauses → i < length (clauses ++ clause ∷ []) → (i < length clauses → IsGuarded (front trail.entries place) ls (clause_at clauses i) (get_or pairs i d)) → IsGuarded (front trail.entries place) ls clause p → IsGuarded (front trail.entries place) ls (clause_at (clauses ++ clause ∷ []) i) (get_or (pairs ++ p ∷ []) i d)
    guard ls place i d paired h old now =
        elim (cases_eq i (length clauses)) [
          | inl e ↦
              subst (λ c. IsGuarded (front trail.entries place) ls c (get_or (pairs ++ p ∷ []) i d)) (sym (get_or_push clauses clause [] i (sym e)))
              (subst (IsGuarded (front trail.entries place) ls clause) (sym (get_or_push pairs p d i (paired ∙ sym e))) now)
          | inr apart ↦
              let low : i < length clauses = omega (arith, apart, length_push clauses clause) in
              subst (λ c. IsGuarded (front trail.entries place) ls c (get_or (pairs ++ p ∷ []) i d)) (sym (get_or_append_left clauses (clause ∷ []) [] i low))
              (subst (IsGuarded (front trail.entries place) ls (clause_at clauses i)) (sym (get_or_append_left pairs (p ∷ []) d i (omega (arith, paired)))) (old low))
        ]

    pub learned : AreWatched trail.limit (clauses ++ clause ∷ []) (pairs ++ p ∷ []) new → IsRising clause → IsBelow trail.limit clause → length (trail.entries ++ assigned p.first (Some (length clauses + 1)) ∷ []) ≤ trail.limit → AreWatching (clauses ++ clause ∷ []) (pairs ++ p ∷ []) new (extended trail (assigned p.first (Some (length clauses + 1)))) head
    learned watched rising below room = record {
      watched = watched;
      complete = subst (λ s. IsComplete s (trail.entries ++ a ∷ [])) (sym (numbered-push clauses clause)) (asserted_complete (numbered clauses) trail.entries (length clauses + 1) clause p.first (numbered_past clauses) rising is.complete closed asserting);
      room = room;
      below = subst (IsBelow trail.limit) (sym whole) (All-push (λ (l : Literal). l.var < trail.limit) (literals trail.entries) p.first is.below (all_has (λ (l : Literal). l.var < trail.limit) clause p.first below asserting.here));
      done = omega (arith, is.done, length_push trail.entries a);
      guarded = λ i d h.
          subst (λ ls. IsGuarded ls (literals (trail.entries ++ a ∷ [])) (clause_at (clauses ++ clause ∷ []) i) (get_or (pairs ++ p ∷ []) i d)) (sym (front_grown trail.entries (a ∷ []) head is.done))
          (guard (literals (trail.entries ++ a ∷ [])) head i d is.watched.paired h
          (λ low. subst (λ ls. IsGuarded (front trail.entries head) ls (clause_at clauses i) (get_or pairs i d)) (sym whole) (guarded_grown (front trail.entries head) (literals trail.entries) (p.first ∷ []) (clause_at clauses i) (get_or pairs i d) (is.guarded i d low)))
          (inl (any_from_has (has_literal (literals (trail.entries ++ a ∷ []))) clause p.first asserting.here (subst (λ ls. has_literal ls p.first ≡ true) (sym whole) (has_pushed (literals trail.entries) p.first)))));
      levels = λ place at. elim (cases_eq place (length trail.entries)) [
        | inl e ↦ absurd (reasoned (ap (λ (x : Assigned). x.reason) (sym (get_or_push trail.entries a a place (sym e))) ∙ at.undecided a))
        | inr apart ↦
            let old = decision_front clauses pairs lists trail.entries a place at apart in
            let low : place < length trail.entries = old.within in
            let both = levels place old in
            subst (λ ls. AreGuarded (clauses ++ clause ∷ []) (pairs ++ p ∷ []) ls ls) (sym (front_grown trail.entries (a ∷ []) place (omega arith)))
            (λ i d h. guard (front trail.entries place) place i d is.watched.paired h (λ small. is.levels place old i d small)
            (inr (record { long = both.0; first = not_false (front trail.entries place) p.first (first_free place); second = not_false (front trail.entries place) p.second both.1 })))
      ];
    }
      where
        a : Assigned
        a = assigned p.first (Some (length clauses + 1))

        whole : literals (trail.entries ++ a ∷ []) ≡ literals trail.entries ++ p.first ∷ []
        whole = literals-append trail.entries (a ∷ [])

        reasoned : Some (length clauses + 1) ≡ None → ⊥
        reasoned e = cc

-- a clause of one literal or none was put in
pub adds_short : (w b : Watch) (clause : List Literal) (one two : Literal) (third : Option Literal) → AreWatched w.trail.limit w.clauses w.pairs.items w.lists.items → IsRising clause → IsBelow w.trail.limit clause → length clause < 2 → b.clauses ≡ w.clauses ++ clause ∷ [] → b.pairs.items ≡ w.pairs.items ++ pair_of one two third ∷ [] → b.lists.items ≡ w.lists.items → b.trail ≡ w.trail → b.head ≡ w.head → Adds w b clause one two
adds_short w b clause one two third was rising below short clauses pairs lists trail head = record {
  third = third;
  pair = λ long. absurd (omega (arith, short, long));
  watched =
      subst (λ (t : LeveledTrail). AreWatched t.limit b.clauses b.pairs.items b.lists.items) (sym trail)
      (subst (λ cs. AreWatched w.trail.limit cs b.pairs.items b.lists.items) (sym clauses)
      (subst (λ ps. AreWatched w.trail.limit (w.clauses ++ clause ∷ []) ps b.lists.items) (sym pairs)
      (subst (AreWatched w.trail.limit (w.clauses ++ clause ∷ []) (w.pairs.items ++ p ∷ [])) (sym lists)
      (added w.trail.limit w.clauses w.pairs.items w.lists.items clause p was rising below (λ long. absurd (omega (arith, short, long))) w.lists.items refl (λ l k there. there) (λ long. absurd (omega (arith, short, long)))
      (λ index. All-weaker (IsWatcher w.clauses index) (IsWatcher (w.clauses ++ clause ∷ []) index) (watcher_still w.trail.limit w.clauses w.pairs.items w.lists.items clause p index) (get_or w.lists.items index []) (was.watchers index))))));
  clauses = clauses;
  pairs = pairs;
  trail = trail;
  head = head;
}
  where
    p : WatchedPair
    p = pair_of one two third

-- a clause of two literals or more was put in
module _ (w base a b : Watch) (clause : List Literal) (one two : Literal) (third : Option Literal) (v x : Watcher) where
  pub adds_long : AreWatched w.trail.limit w.clauses w.pairs.items w.lists.items → IsRising clause → IsBelow w.trail.limit clause → 2 ≤ length clause → IsPair clause (pair_of one two third) → v.clause ≡ length w.clauses → v.blocker ≡ two → x.clause ≡ length w.clauses → x.blocker ≡ one → IsRest clause (literal_index one) v → IsRest clause (literal_index two) x → base.clauses ≡ w.clauses ++ clause ∷ [] → base.pairs.items ≡ w.pairs.items ++ pair_of one two third ∷ [] → base.lists.items ≡ w.lists.items → base.trail ≡ w.trail → base.head ≡ w.head → Lists base a one v → Lists a b two x → Adds w b clause one two
  adds_long was rising below long pair for blocker also other rest more clauses pairs same_lists trail head first second =
      let all_clauses = second.clauses ∙ first.clauses ∙ clauses in
      let all_pairs = second.pairs ∙ first.pairs ∙ pairs in
      let all_trail = second.trail ∙ first.trail ∙ trail in
      let all_lists = second.lists ∙ ap (λ ls. listed_more ls two x) (first.lists ∙ ap (λ ls. listed_more ls one v) same_lists) in
      record {
        third = third;
        pair = λ _. pair;
        watched =
            subst (λ (t : LeveledTrail). AreWatched t.limit b.clauses b.pairs.items b.lists.items) (sym all_trail)
            (subst (λ cs. AreWatched w.trail.limit cs b.pairs.items b.lists.items) (sym all_clauses)
            (subst (λ ps. AreWatched w.trail.limit (w.clauses ++ clause ∷ []) ps b.lists.items) (sym all_pairs)
            (subst (AreWatched w.trail.limit (w.clauses ++ clause ∷ []) (w.pairs.items ++ pair_of one two third ∷ [])) (sym all_lists)
            (added_long w.trail.limit w.clauses w.pairs.items w.lists.items clause (pair_of one two third) v x was rising below long pair for blocker also other rest more))));
        clauses = all_clauses;
        pairs = all_pairs;
        trail = all_trail;
        head = second.head ∙ first.head ∙ head;
      }

-- a learned clause was put in, and its first literal implied
pub learns : (w a : Watch) (t : LeveledTrail) (id : ℕ) (clause : List Literal) (first second : Literal) → IsWatching w → MayLearn w clause first second → Adds w a clause first second → id ≡ length w.clauses + 1 → t ≡ extended a.trail (assigned first (Some id)) → length t.entries ≤ t.limit → Learns w (with_trail a t) clause first
learns w a t id clause first second is may adds same new room = record {
  watching =
      subst (λ cs. AreWatching cs a.pairs.items a.lists.items t a.head) (sym adds.clauses)
      (subst (λ ps. AreWatching (w.clauses ++ clause ∷ []) ps a.lists.items t a.head) (sym adds.pairs)
      (subst (λ n. AreWatching (w.clauses ++ clause ∷ []) (w.pairs.items ++ p ∷ []) a.lists.items t n) (sym adds.head)
      (subst (λ u. AreWatching (w.clauses ++ clause ∷ []) (w.pairs.items ++ p ∷ []) a.lists.items u w.head) (sym now)
      (learned w.clauses w.pairs.items w.lists.items a.lists.items w.trail w.head clause p is may.asserting adds.pair may.levels watched may.rising may.below (subst (λ (u : LeveledTrail). length u.entries ≤ u.limit) now room)))));
  clauses = adds.clauses;
  trail = now;
}
  where
    p : WatchedPair
    p = pair_of first second adds.third

    now : t ≡ extended w.trail (assigned first (Some (length w.clauses + 1)))
    now = new ∙ ap (λ (u : LeveledTrail). extended u (assigned first (Some id))) adds.trail ∙ ap (λ n. extended w.trail (assigned first (Some n))) same

    watched : AreWatched w.trail.limit (w.clauses ++ clause ∷ []) (w.pairs.items ++ p ∷ []) a.lists.items
    watched =
        subst (λ (u : LeveledTrail). AreWatched u.limit (w.clauses ++ clause ∷ []) (w.pairs.items ++ p ∷ []) a.lists.items) adds.trail
        (subst (λ cs. AreWatched a.trail.limit cs (w.pairs.items ++ p ∷ []) a.lists.items) adds.clauses
        (subst (λ ps. AreWatched a.trail.limit a.clauses ps a.lists.items) adds.pairs adds.watched))
