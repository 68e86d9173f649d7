-- One clause is looked at whose watched literal has become false.
use Rattle.std.proofs.Common.{◌≡◌, ◌≢◌, ℕ, ◌+◌, ◌<◌, ◌≤◌, true, false, List, [], ◌∷◌, ◌++◌, Vec, Global, Some, length, get_or, set, refl, sym, ap, ◌∙◌, subst, inl, inr, arith, append-nil, get_or-set_same, get_or-set_other}
use Rattle.std.specs.Prelude.{◌⊎◌}
use Rattle.std.specs.List.{list_any}
use Rattle.std.proofs.lemmas.List.{get_or_read}
use Rattle.bd_cnf.specs.Literal.{Literal, literal_eq, has_literal}
use Rattle.bd_cnf.specs.Trail.{is_false}
use Rattle.bd_cnf.proofs.Literals.{any_from_has}
use Rattle.bd_watch.specs.declared.watcher.WatchedPair.{WatchedPair}
use Rattle.bd_watch.specs.declared.watcher.Watcher.{Watcher}
use Rattle.bd_watch.specs.declared.watch.Watch.{Watch}
use Rattle.bd_watch.specs.declared.watch.Visited.TheVariants.{Moved, Kept, Blocked, Conflict}
use Rattle.bd_cnf.specs.Packed.{literal_index}
use Rattle.bd_watch.specs.Levels.{assigned, literals}
use Rattle.bd_watch.specs.Trails.{LeveledTrail, extended}
use Rattle.bd_watch.specs.Watching.{clause_at, list_at, IsOneOf, IsPair, IsRest, IsWatcher, AreWatching}
use Rattle.bd_watch.specs.Watch.{IsWatching, Extends}
use Rattle.bd_watch.specs.inner.Watchers.{AreTwo, HasBlocker, Removes}
use Rattle.bd_watch.specs.inner.Visits.{Visits, MayWatch, IsLeft, IsLong, MayBlock, Renews, Unwatches}
use Rattle.bd_watch.proofs.Parts.{has_pushed}
use Rattle.bd_watch.proofs.Placed.{literals-append}
use Rattle.bd_watch.proofs.Guards.{false_besides, apart_from}
use Rattle.bd_watch.proofs.Values.{same_index, index_below}
use Rattle.bd_watch.proofs.WatchedClauses.{literal_below, replaced, implied}
use Rattle.bd_watch.proofs.PendingWatchers.{unlisted, reblocked}

pub extends_itself : (w : Watch) → Extends w w
extends_itself w = record { clauses = refl; limit = refl; head = refl; more = []; grown = sym (append-nil w.trail.entries) }

-- the same clauses and watchers over another trail
abbrev pub with_trail : Watch → LeveledTrail → Watch
with_trail w t = record { clauses = w.clauses; pairs = w.pairs; lists = w.lists; trail = t; head = w.head }

-- a literal of a clause that is looked at has room, as its negation has
pub left_below : (w : Watch) (i : ℕ) (l m : Literal) → IsWatching w → IsLong w i → has_literal (clause_at w.clauses i) l ≡ true → m.var ≡ l.var → m.var < w.trail.limit
left_below w i l m is long here same = subst (λ n. n < w.trail.limit) (sym same) (literal_below w.clauses w.pairs.items w.lists.items w.trail.limit i l is.watched long.within here)

-- it is the one left and false
pub visits_false : (w : Watch) (i : ℕ) (l m : Literal) → IsWatching w → IsLeft w i l → is_false (literals w.trail.entries) l ≡ true → Visits w w m i Conflict
visits_false w i l m is left bad = record {
  watching = is;
  extends = extends_itself w;
  list = refl;
  pairs = λ k d apart. refl;
  outcome = false_besides (literals w.trail.entries) (clause_at w.clauses i) l left.besides bad;
}

-- it is the one left, and is implied
pub visits_implied : (w : Watch) (t : LeveledTrail) (i id : ℕ) (l m : Literal) → IsWatching w → IsLong w i → IsLeft w i l → is_false (literals w.trail.entries) l ≡ false → id ≡ i + 1 → t ≡ extended w.trail (assigned l (Some id)) → length t.entries ≤ t.limit → Visits w (with_trail w t) m i Kept
visits_implied w t i id l m is long left not_false same new room =
    subst (λ (u : LeveledTrail). Visits w (with_trail w u) m i Kept) (sym now) (record {
      watching = implied w.clauses w.pairs.items w.lists.items w.trail w.head i l is long.within left.here left.besides left.not_true not_false (subst (λ (u : LeveledTrail). length u.entries ≤ u.limit) now room);
      extends = record { clauses = refl; limit = refl; head = refl; more = assigned l (Some (i + 1)) ∷ []; grown = refl };
      list = refl;
      pairs = λ k d apart. refl;
      outcome = subst (λ ls. list_any (has_literal ls) (clause_at w.clauses i) ≡ true) (sym (literals-append w.trail.entries (assigned l (Some (i + 1)) ∷ [])))
          (any_from_has (has_literal (literals w.trail.entries ++ l ∷ [])) (clause_at w.clauses i) l left.here (has_pushed (literals w.trail.entries) l));
    })
  where
    now : t ≡ extended w.trail (assigned l (Some (i + 1)))
    now = new ∙ ap (λ n. extended w.trail (assigned l (Some n))) same

-- it is true
pub visits_true : (w : Watch) (i : ℕ) (l m : Literal) → IsWatching w → has_literal (clause_at w.clauses i) l ≡ true → has_literal (literals w.trail.entries) l ≡ true → Visits w w m i Kept
visits_true w i l m is here on = record {
  watching = is;
  extends = extends_itself w;
  list = refl;
  pairs = λ k d apart. refl;
  outcome = any_from_has (has_literal (literals w.trail.entries)) (clause_at w.clauses i) l here on;
}

pub visits_blocked : (w : Watch) (i : ℕ) (l m : Literal) → IsWatching w → has_literal (clause_at w.clauses i) l ≡ true → has_literal (literals w.trail.entries) l ≡ true → Visits w w m i (Blocked l)
visits_blocked w i l m is here on = record {
  watching = is;
  extends = extends_itself w;
  list = refl;
  pairs = λ k d apart. refl;
  outcome = (here, on);
}

-- of two watched literals the other is one of the clause's, and differs
pub other_here : (clause : List Literal) (p : WatchedPair) (l other : Literal) → IsPair clause p → AreTwo p l other → (has_literal clause other ≡ true) × ((other ≢ l) × IsOneOf p other)
other_here clause p l other is (inl (first, second)) = (subst (λ (m : Literal). has_literal clause m ≡ true) (sym second) is.second, ((λ e. is.apart (sym first ∙ sym e ∙ second)), inr second))
other_here clause p l other is (inr (second, first)) = (subst (λ (m : Literal). has_literal clause m ≡ true) (sym first) is.first, ((λ e. is.apart (sym first ∙ e ∙ second)), inl first))

-- a literal below the limit has a list
pub index_listed : (w : Watch) (l : Literal) → IsWatching w → l.var < w.trail.limit → literal_index l < length w.lists.items
index_listed w l is low = omega (arith, is.watched.sized, index_below l w.trail.limit low)

-- it watches another literal
pub visits_replaced : (w : Watch) (ps : Vec WatchedPair Global) (ls : Vec (List Watcher) Global) (i index : ℕ) (p : WatchedPair) (old ws : List Watcher) (entry : Watcher) → IsWatching w → IsLong w i → MayWatch w i p → index ≡ literal_index p.first → old ≡ get_or w.lists.items index old → ws ≡ old ++ entry ∷ [] → entry.clause ≡ i → entry.blocker ≡ p.second → IsRest (clause_at w.clauses i) (literal_index p.first) entry → ps.items ≡ set w.pairs.items i p → ls.items ≡ set w.lists.items index ws → (l : Literal) → (IsOneOf p l → ⊥) → Visits w (record { clauses = w.clauses; pairs = ps; lists = ls; trail = w.trail; head = w.head }) l i Moved
visits_replaced w ps ls i index p old ws entry is long may at read pushed for blocker rest new_pairs new_lists l apart = record {
  watching =
      subst (λ xs. AreWatching w.clauses xs ls.items w.trail w.head) (sym new_pairs)
      (subst (λ xs. AreWatching w.clauses (set w.pairs.items i p) xs w.trail w.head) (sym lists)
      (replaced w.clauses w.pairs.items w.lists.items w.trail w.head i p entry is long.within long.long may.two may.second may.first for blocker rest));
  extends = record { clauses = refl; limit = refl; head = refl; more = []; grown = sym (append-nil w.trail.entries) };
  list = ap (λ xs. get_or xs (literal_index l) []) lists ∙ get_or-set_other w.lists.items (literal_index p.first) (literal_index l) _ [] (λ e. apart (inl (same_index l p.first e)));
  pairs = λ k d other. ap (λ xs. get_or xs k d) new_pairs ∙ get_or-set_other w.pairs.items i k p d other;
  outcome = λ d one. apart (subst (λ (q : WatchedPair). IsOneOf q l) (ap (λ xs. get_or xs i d) new_pairs ∙ get_or-set_same w.pairs.items i p d (omega (arith, is.watched.paired, long.within))) one);
}
  where
    low : index < length w.lists.items
    low = subst (λ n. n < length w.lists.items) (sym at) (index_listed w p.first is (literal_below w.clauses w.pairs.items w.lists.items w.trail.limit i p.first is.watched long.within may.two.first))

    was : old ≡ list_at w.lists.items p.first
    was = get_or_read w.lists.items index old low read [] ∙ ap (λ n. get_or w.lists.items n []) at

    lists : ls.items ≡ set w.lists.items (literal_index p.first) (list_at w.lists.items p.first ++ entry ∷ [])
    lists = new_lists ∙ ap (λ n. set w.lists.items n ws) at ∙ ap (set w.lists.items (literal_index p.first)) (pushed ∙ ap (λ xs. xs ++ entry ∷ []) was)

-- what a watcher that was read says of its clause and its blocker
pub watcher_read : (w : Watch) (l : Literal) (place : ℕ) (entry : Watcher) → IsWatching w → place < length (list_at w.lists.items l) → ((d : Watcher) → get_or (list_at w.lists.items l) place d ≡ entry) → IsWatcher w.clauses (literal_index l) entry
watcher_read w l place entry is low at = subst (IsWatcher w.clauses (literal_index l)) (at entry) (is.watched.watchers (literal_index l) place entry low)

-- the list of a literal without a watcher
pub unwatched : (w : Watch) (ls : Vec (List Watcher) Global) (l : Literal) (index place : ℕ) (old ws : List Watcher) → IsWatching w → l.var < w.trail.limit → place < length (list_at w.lists.items l) → ((p : WatchedPair) (d : Watcher) → IsOneOf (get_or w.pairs.items (get_or (list_at w.lists.items l) place d).clause p) l → ⊥) → index ≡ literal_index l → old ≡ get_or w.lists.items index old → Removes old place ws → ls.items ≡ set w.lists.items index ws → Unwatches w (record { clauses = w.clauses; pairs = w.pairs; lists = ls; trail = w.trail; head = w.head }) l place
unwatched w ls l index place old ws is below low none at read removes new_lists = record {
  watching = subst (λ xs. AreWatching w.clauses w.pairs.items xs w.trail w.head) (sym lists)
      (unlisted w.clauses w.pairs.items w.lists.items w.trail w.head place l ws default is gone low (λ p. none p default));
  clauses = refl;
  pairs = refl;
  trail = refl;
  head = refl;
  removes = subst (Removes (list_at w.lists.items l) place) (sym (ap (λ xs. get_or xs (literal_index l) []) lists ∙ get_or-set_same w.lists.items (literal_index l) ws [] (index_listed w l is below))) gone;
}
  where
    default : Watcher
    default = record { clause = 0; blocker = l; rest = l }

    was : old ≡ list_at w.lists.items l
    was = get_or_read w.lists.items index old (subst (λ n. n < length w.lists.items) (sym at) (index_listed w l is below)) read [] ∙ ap (λ n. get_or w.lists.items n []) at

    gone : Removes (list_at w.lists.items l) place ws
    gone = subst (λ xs. Removes xs place ws) was removes

    lists : ls.items ≡ set w.lists.items (literal_index l) ws
    lists = new_lists ∙ ap (λ n. set w.lists.items n ws) at

-- the list of a literal with another blocker for one of its watchers
pub renewed : (w : Watch) (ls : Vec (List Watcher) Global) (l blocker : Literal) (index place : ℕ) (old ws : List Watcher) → IsWatching w → l.var < w.trail.limit → MayBlock w l place blocker → index ≡ literal_index l → old ≡ get_or w.lists.items index old → HasBlocker old place blocker ws → ls.items ≡ set w.lists.items index ws → Renews w (record { clauses = w.clauses; pairs = w.pairs; lists = ls; trail = w.trail; head = w.head }) l place blocker
renewed w ls l blocker index place old ws is below may at read has new_lists = record {
  watching = subst (λ xs. AreWatching w.clauses w.pairs.items xs w.trail w.head) (sym lists) (reblocked w.clauses w.pairs.items w.lists.items w.trail w.head place l ws blocker is new may.within may.here);
  clauses = refl;
  pairs = refl;
  trail = refl;
  head = refl;
  list = subst (HasBlocker (list_at w.lists.items l) place blocker) (sym (ap (λ xs. get_or xs (literal_index l) []) lists ∙ get_or-set_same w.lists.items (literal_index l) ws [] (index_listed w l is below))) new;
}
  where
    was : old ≡ list_at w.lists.items l
    was = get_or_read w.lists.items index old (subst (λ n. n < length w.lists.items) (sym at) (index_listed w l is below)) read [] ∙ ap (λ n. get_or w.lists.items n []) at

    new : HasBlocker (list_at w.lists.items l) place blocker ws
    new = subst (λ xs. HasBlocker xs place blocker ws) was has

    lists : ls.items ≡ set w.lists.items (literal_index l) ws
    lists = new_lists ∙ ap (λ n. set w.lists.items n ws) at

-- a watcher's clause has two literals or more
pub watcher_long : (w : Watch) (index : ℕ) (entry : Watcher) → IsWatcher w.clauses index entry → IsLong w entry.clause
watcher_long w index entry is = record { within = is.within; long = is.long }

-- the pair that was read is the clause's
pub pair_is : (w : Watch) (i : ℕ) (q : WatchedPair) → IsWatching w → IsLong w i → q ≡ get_or w.pairs.items i q → IsPair (clause_at w.clauses i) q
pair_is w i q is long same = subst (IsPair (clause_at w.clauses i)) (sym same) (is.watched.two i q long.within long.long)

-- of a clause of two or three literals one is left, where the others are false
left_besides : (w : Watch) (entry : Watcher) (l left other : Literal) → IsWatcher w.clauses (literal_index l) entry → literal_eq entry.rest entry.blocker ≡ false → is_false (literals w.trail.entries) l ≡ true → is_false (literals w.trail.entries) other ≡ true → has_literal (clause_at w.clauses entry.clause) left ≡ true → ((m : Literal) → (m ≡ entry.blocker) ⊎ (m ≡ entry.rest) → (m ≡ left) ⊎ (m ≡ other)) → has_literal (literals w.trail.entries) left ≡ false → IsLeft w entry.clause left
left_besides w entry l left other is two bad also here both not_true = record {
  here = here;
  besides = λ m h apart. elim (is.rest.all two m h) [
    | inl e ↦ subst (λ (k : Literal). is_false (literals w.trail.entries) k ≡ true) (sym (same_index m l e)) bad
    | inr one ↦ elim (both m one) [
      | inl e ↦ absurd (apart_from m left apart e)
      | inr e ↦ subst (λ (k : Literal). is_false (literals w.trail.entries) k ≡ true) (sym e) also
    ]
  ];
  not_true = not_true;
}

pub left_blocker : (w : Watch) (entry : Watcher) (l : Literal) → IsWatcher w.clauses (literal_index l) entry → literal_eq entry.rest entry.blocker ≡ false → is_false (literals w.trail.entries) l ≡ true → is_false (literals w.trail.entries) entry.rest ≡ true → has_literal (literals w.trail.entries) entry.blocker ≡ false → IsLeft w entry.clause entry.blocker
left_blocker w entry l is two bad also not_true = left_besides w entry l entry.blocker entry.rest is two bad also is.blocker (λ m one. one) not_true

pub left_rest : (w : Watch) (entry : Watcher) (l : Literal) → IsWatcher w.clauses (literal_index l) entry → literal_eq entry.rest entry.blocker ≡ false → is_false (literals w.trail.entries) l ≡ true → is_false (literals w.trail.entries) entry.blocker ≡ true → has_literal (literals w.trail.entries) entry.rest ≡ false → IsLeft w entry.clause entry.rest
left_rest w entry l is two bad also not_true = left_besides w entry l entry.rest entry.blocker is two bad also is.rest.here (λ m one. elim one [ inl e ↦ inr e | inr e ↦ inl e ]) not_true
