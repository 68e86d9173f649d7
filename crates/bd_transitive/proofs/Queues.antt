-- The queue of the vertices that are left: it keeps each of them by how many neighbours it has, and its first entry that
-- is still right has fewest.
use Rattle.std.proofs.Common.{◌≡◌, ◌⊎◌, ℕ, ◌<◌, ◌≤◌, Bool, true, false, not, ◌&&◌, ◌==◌, cond, Option, None, Some, [], length, nat_eq, nat_lt, inl, inr, refl, sym, ap, subst, ◌∙◌, arith}
use Rattle.std.specs.Prelude.{is_some, IsTrue}
use Rattle.std.specs.declared.cmp.Ordering.{Ordering}
use Rattle.std.specs.declared.cmp.Ordering.TheVariants.{Less, Equal, Greater}
use Rattle.std.specs.Ordering.{is_eq, is_gt, nat_cmp, ordering_then}
use Rattle.std.specs.HashMap.{get}
use Rattle.std.specs.BTreeSet.{contains}
use Rattle.std.specs.List.{IsDistinct}
use Rattle.std.proofs.lemmas.Bool.{and_parts, cond-false, cond_both, eqb-true, false≢true, true≢false, ltb-true}
use Rattle.std.proofs.lemmas.Map.Keys.{IsDistinct-from_apart}
use Rattle.bd_transitive.specs.declared.min_degree.EliminationGraph.{EliminationGraph}
use Rattle.bd_transitive.specs.inner.EliminationGraph.{entry_cmp, is_left, keys_of, neighbours, IsQueued, IsSound}

-- nothing stands twice in an empty list
pub distinct-nil : IsDistinct nat_eq []
distinct-nil = IsDistinct-from_apart nat_eq [] (λ i j d lt below. absurd (omega (arith, below)))

-- once a vertex is taken out, the others stand in the queue
pub sound-removed : (l n : EliminationGraph) (v : ℕ) → n.queue ≡ l.queue → ((q : ℕ) → get nat_eq n.neighbours q ≡ cond (nat_eq v q) None (get nat_eq l.neighbours q)) → IsSound l → IsSound n
sound-removed l n v same is sound = record {
  distinct = λ w. subst (λ o. IsDistinct nat_eq (keys_of o)) (sym (is w))
      (cond_both (nat_eq v w) None (get nat_eq l.neighbours w) (λ o. IsDistinct nat_eq (keys_of o)) (λ _. distinct-nil) (λ _. sound.distinct w));
  queued = λ w. subst (λ o. is_some o ≡ true → contains entry_cmp n.queue (length (keys_of o), w) ≡ true) (sym (is w))
      (cond_both (nat_eq v w) None (get nat_eq l.neighbours w) (λ o. is_some o ≡ true → contains entry_cmp n.queue (length (keys_of o), w) ≡ true)
      (λ _ none. absurd (false≢true none))
      (λ _ some. subst (λ q. contains entry_cmp q (length (neighbours l w), w) ≡ true) (sym same) (sound.queued w some)));
}

-- and where its neighbours are noted, it does
pub sound-put : (l n : EliminationGraph) (v : ℕ) (own : _) (b : ℕ × ℕ → Bool)
    → ((q : ℕ) → get nat_eq n.neighbours q ≡ cond (nat_eq v q) (Some own) (get nat_eq l.neighbours q))
    → ((k : ℕ × ℕ) → contains entry_cmp n.queue k ≡ cond (b k) true (contains entry_cmp l.queue k))
    → contains entry_cmp n.queue (length own.keys, v) ≡ true
    → IsDistinct nat_eq own.keys → IsSound l → IsSound n
sound-put l n v own b is up put apart sound = record {
  distinct = λ w. subst (λ o. IsDistinct nat_eq (keys_of o)) (sym (is w))
      (cond_both (nat_eq v w) (Some own) (get nat_eq l.neighbours w) (λ o. IsDistinct nat_eq (keys_of o)) (λ _. apart) (λ _. sound.distinct w));
  queued = λ w. subst (λ o. is_some o ≡ true → contains entry_cmp n.queue (length (keys_of o), w) ≡ true) (sym (is w))
      (cond_both (nat_eq v w) (Some own) (get nat_eq l.neighbours w) (λ o. is_some o ≡ true → contains entry_cmp n.queue (length (keys_of o), w) ≡ true)
      (λ e _. subst (λ x. contains entry_cmp n.queue (length own.keys, x) ≡ true) (eqb-true v w e) put)
      (λ _ some. let k : ℕ × ℕ = (length (neighbours l w), w) in up k ∙ cond_both (b k) true (contains entry_cmp l.queue k) (λ x. x ≡ true) (λ _. refl) (λ _. sound.queued w some)));
}

nat_cmp-not_above : (a b : ℕ) → is_gt (nat_cmp a b) ≡ false → a ≤ b
nat_cmp-not_above a b = cond_both (nat_lt a b) Less (cond (a == b) Equal Greater) (λ o. is_gt o ≡ false → a ≤ b)
    (λ e _. omega (arith, ltb-true a b e))
    (λ _. cond_both (a == b) Equal Greater (λ o. is_gt o ≡ false → a ≤ b) (λ e _. omega (arith, eqb-true a b e)) (λ _ h. absurd (true≢false h)))

-- an entry that isn't above another has a lesser degree, or the same and no greater number
pub entry-not_above : (x y : ℕ × ℕ) → is_gt (entry_cmp x y) ≡ false → (x.0 < y.0) ⊎ ((x.0 ≡ y.0) × (x.1 ≤ y.1))
entry-not_above x y =
    cond_both (nat_lt x.0 y.0) Less (cond (x.0 == y.0) Equal Greater) (λ o. is_gt (ordering_then o (nat_cmp x.1 y.1)) ≡ false → (x.0 < y.0) ⊎ ((x.0 ≡ y.0) × (x.1 ≤ y.1)))
    (λ e _. inl (ltb-true x.0 y.0 e))
    (λ _. cond_both (x.0 == y.0) Equal Greater (λ o. is_gt (ordering_then o (nat_cmp x.1 y.1)) ≡ false → (x.0 < y.0) ⊎ ((x.0 ≡ y.0) × (x.1 ≤ y.1)))
    (λ e h. inr (eqb-true x.0 y.0 e, nat_cmp-not_above x.1 y.1 h)) (λ _ h. absurd (true≢false h)))

-- the least entry that is right is that of a vertex with fewest neighbours
pub first-fewest : (old l : EliminationGraph) (v n : ℕ) → l.neighbours ≡ old.neighbours → ((w : ℕ) → is_left l w ≡ true → IsQueued l w)
    → ((q : ℕ × ℕ) → IsTrue (contains entry_cmp l.queue q) → is_gt (entry_cmp (n, v) q) ≡ false)
    → (is_left l v && (length (neighbours l v) == n)) ≡ true
    → (w : ℕ) → is_left old w ≡ true → (length (neighbours old v) < length (neighbours old w)) ⊎ ((length (neighbours old v) ≡ length (neighbours old w)) × (v ≤ w))
first-fewest old l v n same queued least right w left =
    let degree : length (neighbours l v) ≡ n = eqb-true _ _ (and_parts (is_left l v) (length (neighbours l v) == n) right).1 in
    let left_now : is_left l w ≡ true = subst (λ m. is_some (get nat_eq m w) ≡ true) (sym same) left in
    let found : (length (neighbours l v) < length (neighbours l w)) ⊎ ((length (neighbours l v) ≡ length (neighbours l w)) × (v ≤ w)) =
    subst (λ d. (d < length (neighbours l w)) ⊎ ((d ≡ length (neighbours l w)) × (v ≤ w))) (sym degree) (entry-not_above (n, v) (length (neighbours l w), w) (least (length (neighbours l w), w) (queued w left_now))) in
    subst (λ m. (length (keys_of (get nat_eq m v)) < length (keys_of (get nat_eq m w))) ⊎ ((length (keys_of (get nat_eq m v)) ≡ length (keys_of (get nat_eq m w))) × (v ≤ w))) same found

only : {X : Type 0} (b : Bool) (o : Option X) → is_some (cond b None o) ≡ (is_some o && not b)
only true None = refl
only true (Some x) = refl
only false None = refl
only false (Some x) = refl

-- what is left after a vertex is taken out
pub left-removed : (l n : EliminationGraph) (v : ℕ) → ((q : ℕ) → get nat_eq n.neighbours q ≡ cond (nat_eq v q) None (get nat_eq l.neighbours q)) → (q : ℕ) → is_left n q ≡ (is_left l q && not (v == q))
left-removed l n v is q = ap is_some (is q) ∙ only (nat_eq v q) (get nat_eq l.neighbours q)

-- and the neighbours of the others
pub neighbours-removed : (l n : EliminationGraph) (v : ℕ) → ((q : ℕ) → get nat_eq n.neighbours q ≡ cond (nat_eq v q) None (get nat_eq l.neighbours q)) → (q : ℕ) → (v == q) ≡ false → neighbours n q ≡ neighbours l q
neighbours-removed l n v is q differ = ap keys_of (is q ∙ cond-false (nat_eq v q) None (get nat_eq l.neighbours q) differ)

-- once the vertex that left the queue is taken out, the others stand in it
pub sound-taken : (l m n : EliminationGraph) (v : ℕ) → m.neighbours ≡ l.neighbours → ((q : ℕ) → get nat_eq n.neighbours q ≡ cond (nat_eq v q) None (get nat_eq l.neighbours q)) → IsSound l
    → ((w : ℕ) → is_left l w ≡ true → (v == w) ≡ false → contains entry_cmp m.queue (length (neighbours m w), w) ≡ true)
    → n.queue ≡ m.queue → IsSound n
sound-taken l m n v same is sound queued kept = record {
  distinct = λ w. subst (λ o. IsDistinct nat_eq (keys_of o)) (sym (is w))
      (cond_both (nat_eq v w) None (get nat_eq l.neighbours w) (λ o. IsDistinct nat_eq (keys_of o)) (λ _. distinct-nil) (λ _. sound.distinct w));
  queued = λ w. subst (λ o. is_some o ≡ true → contains entry_cmp n.queue (length (keys_of o), w) ≡ true) (sym (is w))
      (cond_both (nat_eq v w) None (get nat_eq l.neighbours w) (λ o. is_some o ≡ true → contains entry_cmp n.queue (length (keys_of o), w) ≡ true)
      (λ _ none. absurd (false≢true none))
      (λ differ some. subst (λ q. contains entry_cmp q (length (neighbours l w), w) ≡ true) (sym kept) (subst (λ h. contains entry_cmp m.queue (length (keys_of (get nat_eq h w)), w) ≡ true) same (queued w some differ))));
}
