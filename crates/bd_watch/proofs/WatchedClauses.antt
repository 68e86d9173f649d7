-- Watched clauses and their trail: a clause watches another literal, a literal is implied or decided, more of the trail is done, and the trail goes back.
use Rattle.std.proofs.Common.{◌≡◌, ◌≢◌, ℕ, zero, suc, ◌+◌, ◌<◌, ◌≤◌, true, false, List, [], ◌∷◌, ◌++◌, None, Some, length, get_or, set, take, drop, refl, sym, ap, ◌∙◌, subst, inl, inr, arith, length-set, get_or-set_same, get_or-set_other}
use Rattle.std.specs.Prelude.{IsSomeAnd}
use Rattle.std.specs.List.{All, list_any}
use Rattle.std.proofs.lemmas.Bool.{cases_eq}
use Rattle.std.proofs.lemmas.List.{take-append-drop, get_or_append_left, get_or_push, length_push, length-take-le, get_or-take, take-take}
use Rattle.std.proofs.lemmas.List.Elements.{All-push}
use Rattle.bd_cnf.specs.Literal.{Literal, negate, literal_eq, has_literal, has_variable}
use Rattle.bd_cnf.specs.Standing.{IsBelow}
use Rattle.bd_cnf.specs.Trail.{is_false, open_literals, IsClosed, AreClosed}
use Rattle.bd_lrat.specs.Database.{numbered}
use Rattle.bd_watch.specs.declared.watcher.WatchedPair.{WatchedPair}
use Rattle.bd_watch.specs.declared.watcher.Watcher.{Watcher}
use Rattle.bd_cnf.specs.Packed.{literal_index}
use Rattle.bd_watch.specs.Levels.{Assigned, assigned, literals, IsPlaced, IsComplete}
use Rattle.bd_watch.specs.Trails.{LeveledTrail, leveled, extended, IsDecisionAt}
use Rattle.bd_watch.specs.Watching.{clause_at, list_at, pair_of, IsOneOf, IsPair, IsListed, IsRest, IsWatcher, AreWatched, IsGuarded, AreGuarded, front, AreWatching}
use Rattle.bd_watch.proofs.Parts.{all_has, all_part, unassigned_from}
use Rattle.bd_watch.proofs.Placed.{literals-append, complete_push, complete_front}
use Rattle.bd_watch.proofs.Numbered.{numbered_at, closed_standing}
use Rattle.bd_watch.proofs.Values.{index_below}
use Rattle.bd_watch.proofs.ListedWatchers.{still_listed, now_in_list, all_listed}
use Rattle.bd_watch.proofs.Guards.{front_part, front_grown, front_all, front_more, guarded_grown, front_open, guarded_closed, guarded_more, unit_besides}

module _ (clauses : List (List Literal)) (pairs : List WatchedPair) (lists : List (List Watcher)) where
  -- a literal of a clause has room
  pub literal_below : (limit : ℕ) (i : ℕ) (l : Literal) → AreWatched limit clauses pairs lists → i < length clauses → has_literal (clause_at clauses i) l ≡ true → l.var < limit
  literal_below limit i l is h here = all_has (λ (m : Literal). m.var < limit) (clause_at clauses i) l (is.below i [] h) here

  -- a clause watches another literal in place of one of the two
  module _ (trail : LeveledTrail) (head i : ℕ) (p : WatchedPair) (w : Watcher) where
    new_pairs : List WatchedPair
    new_pairs = set pairs i p

    new_lists : List (List Watcher)
    new_lists = set lists (literal_index p.first) (list_at lists p.first ++ w ∷ [])

    pub replaced : AreWatching clauses pairs lists trail head → i < length clauses → 2 ≤ length (clause_at clauses i) → IsPair (clause_at clauses i) p → ((d : WatchedPair) → IsOneOf (get_or pairs i d) p.second) → is_false (literals trail.entries) p.first ≡ false → w.clause ≡ i → w.blocker ≡ p.second → IsRest (clause_at clauses i) (literal_index p.first) w → AreWatching clauses (set pairs i p) (set lists (literal_index p.first) (list_at lists p.first ++ w ∷ [])) trail head
    unfolding new_pairs new_lists
    replaced is within long two old opens for blocker rest = record {
      watched = record {
        packable = was.packable;
        paired = length-set pairs i p ∙ was.paired;
        sized = length-set lists (literal_index p.first) _ ∙ was.sized;
        rising = was.rising;
        below = was.below;
        two = λ k d h more. pair k d h more;
        listed = listed;
        watchers = watchers;
      };
      complete = is.complete;
      room = is.room;
      below = is.below;
      done = is.done;
      guarded = λ k d h. guard (front trail.entries head) (literals trail.entries) (front_open trail.entries head p.first opens) is.guarded k d h;
      levels = λ place at k d h. guard (front trail.entries place) (front trail.entries place) (front_open trail.entries place p.first opens) (is.levels place at) k d h;
    }
      where
        was : AreWatched trail.limit clauses pairs lists
        was = is.watched

        at_place : i < length pairs
        at_place = omega (arith, was.paired)

        at_index : literal_index p.first < length lists
        at_index = omega (arith, was.sized, index_below p.first trail.limit (literal_below trail.limit i p.first was within two.first))

        here : (d : WatchedPair) → get_or new_pairs i d ≡ p
        here d = get_or-set_same pairs i p d at_place

        pair : (k : ℕ) (d : WatchedPair) → k < length clauses → 2 ≤ length (clause_at clauses k) → IsPair (clause_at clauses k) (get_or new_pairs k d)
        pair k d h more =
            elim (cases_eq k i) [
              | inl e ↦ subst (λ n. IsPair (clause_at clauses n) (get_or new_pairs n d)) (sym e) (subst (IsPair (clause_at clauses i)) (sym (here d)) two)
              | inr apart ↦ subst (IsPair (clause_at clauses k)) (sym (get_or-set_other pairs i k p d apart)) (was.two k d h more)
            ]

        listed : (k : ℕ) (d : WatchedPair) (l : Literal) → k < length clauses → 2 ≤ length (clause_at clauses k) → IsOneOf (get_or new_pairs k d) l → IsListed (list_at new_lists l) 0 k
        listed k d l h more one =
            elim (cases_eq k i) [
              | inl e ↦
                  let both : IsOneOf p l = subst (λ (q : WatchedPair). IsOneOf q l) (ap (λ n. get_or new_pairs n d) e ∙ here d) one in
                  subst (IsListed (list_at new_lists l) 0) (sym e) (elim both [
                    | inl f ↦ subst (λ (m : Literal). IsListed (list_at new_lists m) 0 i) (sym f) (now_in_list lists p.first w i at_index for)
                    | inr f ↦ still_listed lists p.first w l i at_index (was.listed i d l within long (subst (IsOneOf (get_or pairs i d)) (sym f) (old d)))
                  ])
              | inr apart ↦ still_listed lists p.first w l k at_index (was.listed k d l h more (subst (λ (q : WatchedPair). IsOneOf q l) (get_or-set_other pairs i k p d apart) one))
            ]

        watchers : (index : ℕ) → All (IsWatcher clauses index) (get_or new_lists index [])
        watchers index =
            all_listed lists p.first w (IsWatcher clauses) at_index was.watchers (record {
              within = subst (λ n. n < length clauses) (sym for) within;
              long = subst (λ n. 2 ≤ length (clause_at clauses n)) (sym for) long;
              blocker = subst (λ (m : Literal). has_literal (clause_at clauses w.clause) m ≡ true) (sym blocker) (subst (λ n. has_literal (clause_at clauses n) p.second ≡ true) (sym for) two.second);
              rest = subst (λ n. IsRest (clause_at clauses n) (literal_index p.first) w) (sym for) rest;
            }) index

        guard : (done ls : List Literal) → is_false done p.first ≡ false → AreGuarded clauses pairs done ls → AreGuarded clauses new_pairs done ls
        guard done ls not_false so k d h =
            elim (cases_eq k i) [
              | inl e ↦ subst (λ n. IsGuarded done ls (clause_at clauses n) (get_or new_pairs n d)) (sym e) (subst (IsGuarded done ls (clause_at clauses i)) (sym (here d)) (other (get_or pairs i d) (old d) (so i d within)))
              | inr apart ↦ subst (IsGuarded done ls (clause_at clauses k)) (sym (get_or-set_other pairs i k p d apart)) (so k d h)
            ]
          where
            other : (q : WatchedPair) → IsOneOf q p.second → IsGuarded done ls (clause_at clauses i) q → IsGuarded done ls (clause_at clauses i) p
            other q one (inl holds) = inl holds
            other q (inl e) (inr free) = inr (record { long = long; first = not_false; second = subst (λ (m : Literal). is_false done m ≡ false) (sym e) free.first })
            other q (inr e) (inr free) = inr (record { long = long; first = not_false; second = subst (λ (m : Literal). is_false done m ≡ false) (sym e) free.second })

  -- a decision of a longer trail is one of the trail, or the entry that was added
  pub decision_front : (trail : List Assigned) (a : Assigned) (place : ℕ) → IsDecisionAt (trail ++ a ∷ []) place → place ≢ length trail → IsDecisionAt trail place
  decision_front trail a place at apart =
      let low : place < length trail = omega (arith, apart, at.within, length_push trail a) in
      record { within = low; undecided = λ d. ap (λ (e : Assigned). e.reason) (sym (get_or_append_left trail (a ∷ []) d place low)) ∙ at.undecided d }

  -- the trail is one entry longer
  pushed : (trail : LeveledTrail) (head : ℕ) (a : Assigned) → AreWatching clauses pairs lists trail head → IsPlaced (numbered clauses) (literals trail.entries) a → length (trail.entries ++ a ∷ []) ≤ trail.limit → a.literal.var < trail.limit → ((d : Assigned) → a.reason ≡ None → AreGuarded clauses pairs (literals trail.entries) (literals trail.entries)) → AreWatching clauses pairs lists (extended trail a) head
  pushed trail head a is placed room low end = record {
    watched = is.watched;
    complete = complete_push (numbered clauses) trail.entries a is.complete placed;
    room = room;
    below = subst (IsBelow trail.limit) (sym whole) (All-push (λ (l : Literal). l.var < trail.limit) (literals trail.entries) a.literal is.below low);
    done = omega (arith, is.done, length_push trail.entries a);
    guarded = λ i d h.
        subst (λ ls. IsGuarded ls (literals (trail.entries ++ a ∷ [])) (clause_at clauses i) (get_or pairs i d)) (sym (front_grown trail.entries (a ∷ []) head is.done))
        (subst (λ ls. IsGuarded (front trail.entries head) ls (clause_at clauses i) (get_or pairs i d)) (sym whole) (guarded_grown (front trail.entries head) (literals trail.entries) (a.literal ∷ []) (clause_at clauses i) (get_or pairs i d) (is.guarded i d h)));
    levels = λ place at. elim (cases_eq place (length trail.entries)) [
      | inl e ↦
          let same : front (trail.entries ++ a ∷ []) place ≡ literals trail.entries = front_grown trail.entries (a ∷ []) place (omega arith) ∙ front_all trail.entries place (omega arith) in
          let none : a.reason ≡ None = ap (λ (x : Assigned). x.reason) (sym (get_or_push trail.entries a a place (sym e))) ∙ at.undecided a in
          subst (λ ls. AreGuarded clauses pairs ls ls) (sym same) (end a none)
      | inr apart ↦
          let old = decision_front trail.entries a place at apart in
          let low : place < length trail.entries = old.within in
          subst (λ ls. AreGuarded clauses pairs ls ls) (sym (front_grown trail.entries (a ∷ []) place (omega arith))) (is.levels place old)
    ];
  }
    where
      whole : literals (trail.entries ++ a ∷ []) ≡ literals trail.entries ++ a.literal ∷ []
      whole = literals-append trail.entries (a ∷ [])

  -- a literal is implied by a clause whose other literals are false
  pub implied : (trail : LeveledTrail) (head i : ℕ) (l : Literal) → AreWatching clauses pairs lists trail head → i < length clauses → has_literal (clause_at clauses i) l ≡ true → ((m : Literal) → has_literal (clause_at clauses i) m ≡ true → literal_eq m l ≡ false → is_false (literals trail.entries) m ≡ true) → has_literal (literals trail.entries) l ≡ false → is_false (literals trail.entries) l ≡ false → length (trail.entries ++ assigned l (Some (i + 1)) ∷ []) ≤ trail.limit → AreWatching clauses pairs lists (extended trail (assigned l (Some (i + 1)))) head
  implied trail head i l is h here besides not_true not_false room =
      pushed trail head (assigned l (Some (i + 1))) is (record {
        unassigned = unassigned_from (literals trail.entries) l not_true not_false;
        reason = subst (λ o. IsSomeAnd o (λ c. open_literals (literals trail.entries) c ≡ l ∷ [])) (sym (numbered_at clauses i [] h)) (unit_besides (literals trail.entries) (clause_at clauses i) l (is.watched.rising i [] h) here besides not_false);
      }) room (literal_below trail.limit i l is.watched h here) (λ d none. cc)

  -- at the end of propagation no clause is false or unit
  pub all_closed : (trail : LeveledTrail) (head : ℕ) → AreWatching clauses pairs lists trail head → head ≡ length trail.entries → AreClosed (numbered clauses) (literals trail.entries)
  all_closed trail head is end =
      closed_standing clauses (literals trail.entries) (λ i d h.
      let whole : front trail.entries head ≡ literals trail.entries = front_all trail.entries head (omega arith) in
      let zero : Literal = record { var = 0; positive = true } in
      let default : WatchedPair = pair_of zero zero None in
      let at : clause_at clauses i ≡ get_or clauses i d = same_default clauses i d h in
      subst (IsClosed (literals trail.entries)) at
      (guarded_closed (literals trail.entries) (clause_at clauses i) (get_or pairs i default) (is.watched.two i default h) (subst (λ ls. IsGuarded ls (literals trail.entries) (clause_at clauses i) (get_or pairs i default)) whole (is.guarded i default h))))
    where
      same_default : {X : Type 0} → (xs : List (List X)) (i : ℕ) (d : List X) → i < length xs → get_or xs i [] ≡ get_or xs i d
      same_default [] i d h = absurd (omega arith)
      same_default (x ∷ xs) zero d h = refl
      same_default (x ∷ xs) (suc i) d h = same_default xs i d (omega arith)

  -- a literal is decided there
  pub decided : (trail : LeveledTrail) (head : ℕ) (l : Literal) → AreWatching clauses pairs lists trail head → head ≡ length trail.entries → has_variable (literals trail.entries) l.var ≡ false → l.var < trail.limit → length (trail.entries ++ assigned l None ∷ []) ≤ trail.limit → AreWatching clauses pairs lists (extended trail (assigned l None)) head
  decided trail head l is end free low room =
      let whole : front trail.entries head ≡ literals trail.entries = front_all trail.entries head (omega arith) in
      pushed trail head (assigned l None) is (record { unassigned = free; reason = all_closed trail head is end }) room low (λ d none. subst (λ ls. AreGuarded clauses pairs ls (literals trail.entries)) whole is.guarded)

  -- one more literal of the trail is done: each clause is true that watches its negation
  pub swept : (trail : LeveledTrail) (head : ℕ) (d : Assigned) → AreWatching clauses pairs lists trail head → head < length trail.entries → ((i : ℕ) (p : WatchedPair) → i < length clauses → 2 ≤ length (clause_at clauses i) → IsOneOf (get_or pairs i p) (negate (get_or trail.entries head d).literal) → list_any (has_literal (literals trail.entries)) (clause_at clauses i) ≡ true) → AreWatching clauses pairs lists trail (head + 1)
  swept trail head d is h settled = record {
    watched = is.watched;
    complete = is.complete;
    room = is.room;
    below = is.below;
    done = omega arith;
    guarded = λ i p low. subst (λ ls. IsGuarded ls (literals trail.entries) (clause_at clauses i) (get_or pairs i p)) (sym (front_more trail.entries head d h))
        (guarded_more (front trail.entries head) (literals trail.entries) (clause_at clauses i) (get_or trail.entries head d).literal (get_or pairs i p)
        (λ long one. settled i p low long (elim one [ inl e ↦ inl (sym e) | inr e ↦ inr (sym e) ]))
        (is.guarded i p low));
    levels = is.levels;
  }

  -- the trail is taken back to the end of a level
  pub taken_back : (trail : LeveledTrail) (head place : ℕ) → AreWatching clauses pairs lists trail head → IsDecisionAt trail.entries place → AreWatching clauses pairs lists (leveled trail.limit (take place trail.entries)) place
  taken_back trail head place is at = record {
    watched = is.watched;
    complete = complete_front (numbered clauses) (take place trail.entries) (drop place trail.entries) (subst (IsComplete (numbered clauses)) (sym (take-append-drop place trail.entries)) is.complete);
    room = omega (arith, size, is.room);
    below = λ k d h. let long : k < length (literals (take place trail.entries)) = h in all_part (λ (l : Literal). l.var < trail.limit) (front trail.entries place) (literals trail.entries) (front_part trail.entries place) is.below k d h;
    done = omega (arith, size);
    guarded = subst (λ es. AreGuarded clauses pairs (literals es) (front trail.entries place)) (sym (take-take place place trail.entries (omega arith))) (is.levels place at);
    levels = λ p front_at.
        let low : p < place = omega (arith, front_at.within, size) in
        let whole : IsDecisionAt trail.entries p = record { within = omega arith; undecided = λ d. ap (λ (e : Assigned). e.reason) (sym (get_or-take place trail.entries p d low)) ∙ front_at.undecided d } in
        subst (λ es. AreGuarded clauses pairs (literals es) (literals es)) (sym (take-take p place trail.entries (omega arith))) (is.levels p whole);
  }
    where
      inside : place < length trail.entries
      inside = at.within

      size : length (take place trail.entries) ≡ place
      size = length-take-le place trail.entries (omega arith)
