-- Going along the watchers of a literal: what is left to look at, and watchers taken out.
use Rattle.std.proofs.Common.{◌≡◌, ◌≢◌, ℕ, ◌+◌, ◌-◌, ◌<◌, ◌≤◌, true, List, [], ◌++◌, length, get_or, set, sym, ap, ◌∙◌, subst, inl, inr, arith, length-set, get_or-set_same, get_or-set_other}
use Rattle.std.specs.Prelude.{◌⊎◌}
use Rattle.std.specs.List.{All, list_any}
use Rattle.std.proofs.lemmas.Bool.{cases_eq, cases_lt}
use Rattle.std.proofs.lemmas.List.{get_or_past}
use Rattle.std.proofs.lemmas.List.Elements.{All-set}
use Rattle.bd_cnf.specs.Literal.{Literal, has_literal}
use Rattle.bd_watch.specs.declared.watcher.WatchedPair.{WatchedPair}
use Rattle.bd_watch.specs.declared.watcher.Watcher.{Watcher}
use Rattle.bd_cnf.specs.Packed.{literal_index}
use Rattle.bd_watch.specs.Levels.{Assigned, literals}
use Rattle.bd_watch.specs.Trails.{LeveledTrail}
use Rattle.bd_watch.specs.Watching.{clause_at, list_at, IsOneOf, IsListed, IsWatcher, AreWatched, AreWatching}
use Rattle.bd_watch.specs.inner.Watchers.{HasBlocker, Removes}
use Rattle.bd_watch.specs.inner.Visits.{ArePending}
use Rattle.bd_watch.proofs.Placed.{literals-append}
use Rattle.bd_watch.proofs.Guards.{true_grown}
use Rattle.bd_watch.proofs.Values.{same_index}
use Rattle.bd_watch.proofs.ThirdLiterals.{unsaid}

-- a watcher of another clause than the one at a place is listed after it
pub listed_next : (ws : List Watcher) (place k : ℕ) (d : Watcher) → k ≢ (get_or ws place d).clause → IsListed ws place k → IsListed ws (place + 1) k
listed_next ws place k d apart is = record { place = is.place; after = after; within = is.within; is = is.is }
  where
    after : place + 1 ≤ is.place
    after = elim (cases_eq is.place place) [
      | inl e ↦ absurd (apart (sym (is.is d) ∙ ap (λ n. (get_or ws n d).clause) e))
      | inr other ↦ let at_least : place ≤ is.place = is.after in omega (arith, other)
    ]

-- and it still is where that one was taken out
pub listed_removed : (ws new : List Watcher) (place from k : ℕ) (d : Watcher) → Removes ws place new → place < length ws → from ≤ place → k ≢ (get_or ws place d).clause → IsListed ws from k → IsListed new from k
listed_removed ws new place from k d gone low bound apart is =
    elim (cases_lt (is.place + 1) (length ws)) [
      | inl inside ↦ record {
        place = is.place;
        after = is.after;
        within = omega (arith, gone.shorter);
        is = λ e. ap (λ (w : Watcher). w.clause) (gone.kept is.place e other inside) ∙ is.is e;
      }
      | inr last ↦
          let at_end : is.place ≡ length ws - 1 = omega (arith, is.within) in
          let before : place + 1 < length ws = omega (arith, is.within, other) in
          record {
            place = place;
            after = bound;
            within = omega (arith, gone.shorter);
            is = λ e. ap (λ (w : Watcher). w.clause) (gone.moved e before) ∙ ap (λ n. (get_or ws n e).clause) (sym at_end) ∙ is.is e;
          }
    ]
  where
    other : is.place ≢ place
    other e = apart (sym (is.is d) ∙ ap (λ n. (get_or ws n d).clause) e)

-- and where one was given another blocker
pub listed_reblocked : (ws new : List Watcher) (place from k : ℕ) (blocker : Literal) → HasBlocker ws place blocker new → place < length ws → IsListed ws from k → IsListed new from k
listed_reblocked ws new place from k blocker has low is = subst (λ xs. IsListed xs from k) (sym has.set) (record {
  place = is.place;
  after = is.after;
  within = omega (arith, is.within, length-set ws place has.watcher);
  is = λ d. elim (cases_eq is.place place) [
    | inl e ↦ ap (λ n. (get_or (set ws place has.watcher) n d).clause) e ∙ ap (λ (x : Watcher). x.clause) (get_or-set_same ws place has.watcher d low) ∙ sym (has.was d) ∙ ap (λ n. (get_or ws n d).clause) (sym e) ∙ is.is d
    | inr apart ↦ ap (λ (x : Watcher). x.clause) (get_or-set_other ws place is.place has.watcher d apart) ∙ is.is d
  ];
})

all_removed : (P : Watcher → Type 0) (ws new : List Watcher) (place : ℕ) → Removes ws place new → place < length ws → All P ws → All P new
all_removed P ws new place gone low all k d h =
    elim (cases_eq k place) [
      | inl e ↦
          let before : place + 1 < length ws = omega (arith, gone.shorter) in
          subst P (sym (ap (λ n. get_or new n d) e ∙ gone.moved d before)) (all (length ws - 1) d (omega arith))
      | inr apart ↦ let inside : k + 1 < length ws = omega (arith, gone.shorter) in subst P (sym (gone.kept k d apart inside)) (all k d (omega arith))
    ]

-- with another list of a literal, where each clause that watches it is listed, the clauses watch on
module _ (clauses : List (List Literal)) (pairs : List WatchedPair) (lists : List (List Watcher)) (trail : LeveledTrail) (head : ℕ) (l : Literal) (new : List Watcher) where
  relisted : AreWatching clauses pairs lists trail head → literal_index l < length lists → ((i : ℕ) (p : WatchedPair) → i < length clauses → 2 ≤ length (clause_at clauses i) → IsOneOf (get_or pairs i p) l → IsListed (list_at lists l) 0 i → IsListed new 0 i) → All (IsWatcher clauses (literal_index l)) new → AreWatching clauses pairs (set lists (literal_index l) new) trail head
  relisted is at_index still all = record {
    watched = record {
      packable = was.packable;
      paired = was.paired;
      sized = length-set lists (literal_index l) new ∙ was.sized;
      rising = was.rising;
      below = was.below;
      two = was.two;
      listed = listed;
      watchers = watchers;
    };
    complete = is.complete;
    room = is.room;
    below = is.below;
    done = is.done;
    guarded = is.guarded;
    levels = is.levels;
  }
    where
      was : AreWatched trail.limit clauses pairs lists
      was = is.watched

      now : list_at (set lists (literal_index l) new) l ≡ new
      now = get_or-set_same lists (literal_index l) new [] at_index

      listed : (i : ℕ) (p : WatchedPair) (m : Literal) → i < length clauses → 2 ≤ length (clause_at clauses i) → IsOneOf (get_or pairs i p) m → IsListed (list_at (set lists (literal_index l) new) m) 0 i
      listed i p m h long one =
          elim (cases_eq (literal_index m) (literal_index l)) [
            | inl e ↦
                let same : m ≡ l = same_index m l e in
                let there : IsListed (list_at lists l) 0 i = subst (λ (x : Literal). IsListed (list_at lists x) 0 i) same (was.listed i p m h long one) in
                subst (λ (x : Literal). IsListed (list_at (set lists (literal_index l) new) x) 0 i) (sym same) (subst (λ ws. IsListed ws 0 i) (sym now) (still i p h long (subst (IsOneOf (get_or pairs i p)) same one) there))
            | inr apart ↦ subst (λ ws. IsListed ws 0 i) (sym (get_or-set_other lists (literal_index l) (literal_index m) new [] apart)) (was.listed i p m h long one)
          ]

      watchers : (index : ℕ) → All (IsWatcher clauses index) (get_or (set lists (literal_index l) new) index [])
      watchers index =
          elim (cases_eq index (literal_index l)) [
            | inl e ↦ subst (λ n. All (IsWatcher clauses n) (get_or (set lists (literal_index l) new) n [])) (sym e) (subst (All (IsWatcher clauses (literal_index l))) (sym now) all)
            | inr apart ↦ subst (All (IsWatcher clauses index)) (sym (get_or-set_other lists (literal_index l) index new [] apart)) (was.watchers index)
          ]

module _ (clauses : List (List Literal)) (pairs : List WatchedPair) (lists : List (List Watcher)) (trail : LeveledTrail) (head place : ℕ) (l : Literal) where
  -- a list with a watcher is one of those that there are
  has_list : place < length (list_at lists l) → literal_index l < length lists
  has_list low = elim (cases_lt (literal_index l) (length lists)) [
    | inl h ↦ h
    | inr past ↦
        let empty : list_at lists l ≡ [] = get_or_past lists (literal_index l) [] past in
        absurd (omega (arith, ap length empty))
  ]

  -- a watcher is taken out whose clause doesn't watch the literal
  pub unlisted : (new : List Watcher) (d : Watcher) → AreWatching clauses pairs lists trail head → Removes (list_at lists l) place new → place < length (list_at lists l) → ((p : WatchedPair) → IsOneOf (get_or pairs (get_or (list_at lists l) place d).clause p) l → ⊥) → AreWatching clauses pairs (set lists (literal_index l) new) trail head
  unlisted new d is gone low none =
      relisted clauses pairs lists trail head l new is (has_list low)
      (λ i p h long one there.
      let apart : i ≢ (get_or (list_at lists l) place d).clause = λ f. none p (subst (λ n. IsOneOf (get_or pairs n p) l) f one) in
      listed_removed (list_at lists l) new place 0 i d gone low (omega arith) apart there)
      (all_removed (IsWatcher clauses (literal_index l)) (list_at lists l) new place gone low (is.watched.watchers (literal_index l)))

  -- a watcher is given another blocker of its clause
  pub reblocked : (new : List Watcher) (blocker : Literal) → AreWatching clauses pairs lists trail head → HasBlocker (list_at lists l) place blocker new → place < length (list_at lists l) → ((d : Watcher) → has_literal (clause_at clauses (get_or (list_at lists l) place d).clause) blocker ≡ true) → AreWatching clauses pairs (set lists (literal_index l) new) trail head
  reblocked new blocker is has low here =
      relisted clauses pairs lists trail head l new is (has_list low)
      (λ i p h long one there. listed_reblocked (list_at lists l) new place 0 i blocker has low there)
      (subst (All (IsWatcher clauses (literal_index l))) (sym has.set) (All-set (IsWatcher clauses (literal_index l)) (list_at lists l) place has.watcher entry (is.watched.watchers (literal_index l))))
    where
      was : IsWatcher clauses (literal_index l) (get_or (list_at lists l) place has.watcher)
      was = is.watched.watchers (literal_index l) place has.watcher low

      there : has_literal (clause_at clauses has.watcher.clause) blocker ≡ true
      there = subst (λ n. has_literal (clause_at clauses n) blocker ≡ true) (has.was has.watcher) (here has.watcher)

      entry : IsWatcher clauses (literal_index l) has.watcher
      entry = record {
        within = subst (λ n. n < length clauses) (has.was has.watcher) was.within;
        long = subst (λ n. 2 ≤ length (clause_at clauses n)) (has.was has.watcher) was.long;
        blocker = subst (λ (m : Literal). has_literal (clause_at clauses has.watcher.clause) m ≡ true) (sym has.blocker_is) there;
        rest = unsaid (clause_at clauses has.watcher.clause) (literal_index l) has.watcher (has.rest_is ∙ sym has.blocker_is) (subst (λ (m : Literal). has_literal (clause_at clauses has.watcher.clause) m ≡ true) (sym has.rest_is) there);
      }

module _ (clauses : List (List Literal)) (pairs new_pairs : List WatchedPair) (ws : List Watcher) (trail more : List Assigned) (l : Literal) (place : ℕ) (d : Watcher) where
  -- a clause other than the one that was looked at
  pending_other : ArePending clauses pairs ws trail l place → ((k : ℕ) (p : WatchedPair) → k ≢ (get_or ws place d).clause → get_or new_pairs k p ≡ get_or pairs k p) → (i : ℕ) (p : WatchedPair) → i < length clauses → 2 ≤ length (clause_at clauses i) → IsOneOf (get_or new_pairs i p) l → i ≢ (get_or ws place d).clause → (list_any (has_literal (literals (trail ++ more))) (clause_at clauses i) ≡ true) ⊎ IsListed ws place i
  pending_other is kept i p h long one apart =
      elim (is i p h long (subst (λ (q : WatchedPair). IsOneOf q l) (kept i p apart) one)) [
        | inl holds ↦ inl (subst (λ ls. list_any (has_literal ls) (clause_at clauses i) ≡ true) (sym (literals-append trail more)) (true_grown (literals trail) (literals more) (clause_at clauses i) holds))
        | inr there ↦ inr there
      ]

  -- the clause was true, or is now
  pub pending_kept : ArePending clauses pairs ws trail l place → ((k : ℕ) (p : WatchedPair) → k ≢ (get_or ws place d).clause → get_or new_pairs k p ≡ get_or pairs k p) → list_any (has_literal (literals (trail ++ more))) (clause_at clauses (get_or ws place d).clause) ≡ true → ArePending clauses new_pairs ws (trail ++ more) l (place + 1)
  pending_kept is kept holds i p h long one =
      elim (cases_eq i (get_or ws place d).clause) [
        | inl e ↦ inl (subst (λ n. list_any (has_literal (literals (trail ++ more))) (clause_at clauses n) ≡ true) (sym e) holds)
        | inr apart ↦ elim (pending_other is kept i p h long one apart) [ inl holds ↦ inl holds | inr there ↦ inr (listed_next ws place i d apart there) ]
      ]

  -- the clause watches another literal in its place
  pub pending_moved : (new : List Watcher) → ArePending clauses pairs ws trail l place → ((k : ℕ) (p : WatchedPair) → k ≢ (get_or ws place d).clause → get_or new_pairs k p ≡ get_or pairs k p) → ((p : WatchedPair) → IsOneOf (get_or new_pairs (get_or ws place d).clause p) l → ⊥) → Removes ws place new → place < length ws → ArePending clauses new_pairs new (trail ++ more) l place
  pending_moved new is kept none gone low i p h long one =
      elim (cases_eq i (get_or ws place d).clause) [
        | inl e ↦ absurd (none p (subst (λ n. IsOneOf (get_or new_pairs n p) l) e one))
        | inr apart ↦ elim (pending_other is kept i p h long one apart) [ inl holds ↦ inl holds | inr there ↦ inr (listed_removed ws new place place i d gone low (omega arith) apart there) ]
      ]

-- a watcher was given another blocker
pub pending_reblocked : (clauses : List (List Literal)) (pairs : List WatchedPair) (ws new : List Watcher) (trail : List Assigned) (l blocker : Literal) (place from : ℕ) → HasBlocker ws place blocker new → place < length ws → ArePending clauses pairs ws trail l from → ArePending clauses pairs new trail l from
pending_reblocked clauses pairs ws new trail l blocker place from has low is i p h long one =
    elim (is i p h long one) [ inl holds ↦ inl holds | inr there ↦ inr (listed_reblocked ws new place from i blocker has low there) ]
