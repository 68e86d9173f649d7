-- The places that no test passes.
use Rattle.std.proofs.Common.{◌≡◌, ◌⊎◌, ◌<◌, ◌+◌, ℕ, zero, suc, Bool, true, false, List, [], ◌∷◌, ◌++◌, length, get_or, refl, sym, ◌∙◌, ap, subst, inl, inr, arith, length-append}
use Rattle.std.specs.Prelude.{◌||◌, ◌↔◌, Contains, if◌then◌else◌}
use Rattle.std.specs.List.Sorted.{IsStrictlyIncreasing}
use Rattle.std.proofs.lemmas.List.{get_or_append_left, get_or-append-add}
use Rattle.std.proofs.lemmas.List.Elements.{Contains-append_left, Contains-push, Contains-push_cases}
use Rattle.bd_about.proofs.Marking.{or_false}
use Rattle.bd_about.specs.Unread.{AreUnread}
use Rattle.bd_about.specs.inner.Marking.{unset_below}
use Rattle.bd_list.proofs.Numbers.{le-cases}
use Rattle.bd_list.proofs.Truths.{or_cases, or_left, or_right}

true_or_false : (b : Bool) → (b ≡ true → ⊥) → b ≡ false
true_or_false true h = absurd (h refl)
true_or_false false h = refl

not_both : (b : Bool) → b ≡ true → b ≡ false → ⊥
not_both true h k = cc k
not_both false h k = cc h

below_suc : (i n : ℕ) → i < suc n → (i ≡ n) ⊎ (i < n)
below_suc i n h = elim (le-cases i n (omega (arith, h))) [ inl p ↦ inr (omega (arith, p)) | inr e ↦ inl e ]

listed_step : (p : ℕ → Bool) (n i : ℕ) → (i < n → Contains (unset_below p n) i) → p i ≡ false → (i ≡ n) ⊎ (i < n) → (b : Bool) → p n ≡ b
    → Contains (if b then unset_below p n else unset_below p n ++ n ∷ []) i
listed_step p n i old off (inl same) true on = absurd (not_both (p n) on (subst (λ k. p k ≡ false) same off))
listed_step p n i old off (inl same) false on = subst (λ k. Contains (unset_below p n ++ n ∷ []) k) (sym same) (Contains-push (unset_below p n) n)
listed_step p n i old off (inr less) true on = old less
listed_step p n i old off (inr less) false on = Contains-append_left (unset_below p n) (n ∷ []) i (old less)

-- a place below a count that doesn't pass is listed
pub listed : (p : ℕ → Bool) (n i : ℕ) → i < n → p i ≡ false → Contains (unset_below p n) i
listed p zero i below off = absurd (omega (arith, below))
listed p (suc n) i below off = listed_step p n i (λ less. listed p n i less off) off (below_suc i n below) (p n) refl

listed_off_step : (p : ℕ → Bool) (n i : ℕ) → (Contains (unset_below p n) i → (i < n) × (p i ≡ false)) → (b : Bool) → p n ≡ b
    → Contains (if b then unset_below p n else unset_below p n ++ n ∷ []) i → (i < suc n) × (p i ≡ false)
listed_off_step p n i old true on h = let r = old h in (omega (arith, r.0), r.1)
listed_off_step p n i old false on h = elim (Contains-push_cases (unset_below p n) n i h) [
  | inl had ↦ let r = old had in (omega (arith, r.0), r.1)
  | inr same ↦ (omega (arith, same), subst (λ k. p k ≡ false) same on)
]

-- only such places are listed
pub listed_off : (p : ℕ → Bool) (n i : ℕ) → Contains (unset_below p n) i → (i < n) × (p i ≡ false)
listed_off p zero i has = absurd (omega (arith, has.1))
listed_off p (suc n) i has = listed_off_step p n i (λ h. listed_off p n i h) (p n) refl has

at_end : (xs : List ℕ) (n j : ℕ) → j ≡ length xs → get_or (xs ++ n ∷ []) j 0 ≡ n
at_end xs n j h = ap (λ i. get_or (xs ++ n ∷ []) i 0) (omega (arith, h)) ∙ get_or-append-add xs (n ∷ []) 0 0

rising_at : (xs : List ℕ) (n k : ℕ) → IsStrictlyIncreasing xs → ((j : ℕ) → j < length xs → get_or xs j 0 < n) → (k + 1 < length xs) ⊎ (k + 1 ≡ length xs)
    → get_or (xs ++ n ∷ []) k 0 < get_or (xs ++ n ∷ []) (k + 1) 0
rising_at xs n k rising below (inl h) =
    let a = get_or_append_left xs (n ∷ []) 0 k (omega (arith, h)) in
    let b = get_or_append_left xs (n ∷ []) 0 (k + 1) h in
    let r = rising k h in
    omega (arith, a, b, r)
rising_at xs n k rising below (inr h) =
    let a = get_or_append_left xs (n ∷ []) 0 k (omega (arith, h)) in
    let b = at_end xs n (k + 1) h in
    let r = below k (omega (arith, h)) in
    omega (arith, a, b, r)

inner_or_last : (xs : List ℕ) (n k : ℕ) → k + 1 < length (xs ++ n ∷ []) → (k + 1 < length xs) ⊎ (k + 1 ≡ length xs)
inner_or_last xs n k h = elim (le-cases (k + 1) (length xs) (omega (arith, h, length-append xs (n ∷ [])))) [ inl p ↦ inl (omega (arith, p)) | inr e ↦ inr e ]

rising_push : (xs : List ℕ) (n : ℕ) → IsStrictlyIncreasing xs → ((k : ℕ) → k < length xs → get_or xs k 0 < n) → IsStrictlyIncreasing (xs ++ n ∷ [])
rising_push xs n rising below k inside = rising_at xs n k rising below (inner_or_last xs n k inside)

same_at : (ys : List ℕ) (j : ℕ) → j < length ys → get_or ys j (get_or ys j 0) ≡ get_or ys j 0
same_at [] j h = absurd (omega (arith, h))
same_at (y ∷ ys) zero h = refl
same_at (y ∷ ys) (suc j) h = same_at ys j (omega (arith, h))

contains_at : (xs : List ℕ) (k : ℕ) → k < length xs → Contains xs (get_or xs k 0)
contains_at xs k h = (k, h, same_at xs k h)

rising_step : (p : ℕ → Bool) (n : ℕ) → IsStrictlyIncreasing (unset_below p n) → (b : Bool) → IsStrictlyIncreasing (if b then unset_below p n else unset_below p n ++ n ∷ [])
rising_step p n h true = h
rising_step p n h false = rising_push (unset_below p n) n h (λ k inside. (listed_off p n (get_or (unset_below p n) k 0) (contains_at (unset_below p n) k inside)).0)

pub rising_below : (p : ℕ → Bool) (n : ℕ) → IsStrictlyIncreasing (unset_below p n)
rising_below p zero = λ k h. absurd (omega (arith, h))
rising_below p (suc n) = rising_step p n (rising_below p n) (p n)

pub are_unread : (p : ℕ → Bool) (R : ℕ → Type 0) (n : ℕ) (places : List ℕ) → ((i : ℕ) → (p i ≡ true) ↔ R i) → places ≡ unset_below p n → AreUnread R n places
are_unread p R n places h same = subst (λ xs. AreUnread R n xs) (sym same) (record {
  rising = rising_below p n;
  each = λ i. (
    (λ has. let r = listed_off p n i has in (r.0, λ read. not_both (p i) ((h i).1 read) r.1)),
    (λ off. listed p n i off.0 (true_or_false (p i) (λ on. off.1 ((h i).0 on)))),
  );
})

-- flags that say what is reached
pub reads_either : (a b : ℕ → Bool) (R S : ℕ → Type 0) → ((i : ℕ) → (a i ≡ true) ↔ R i) → ((i : ℕ) → (b i ≡ true) ↔ S i) → (i : ℕ) → ((a i || b i) ≡ true) ↔ (R i ⊎ S i)
reads_either a b R S h k i = (
  (λ on. elim (or_cases (a i) (b i) on) [ inl p ↦ inl ((h i).0 p) | inr q ↦ inr ((k i).0 q) ]),
  (λ r. elim r [ inl p ↦ or_left (a i) (b i) ((h i).1 p) | inr q ↦ or_right (a i) (b i) ((k i).1 q) ]),
)

pub reads_no_more : (a : ℕ → Bool) (R : ℕ → Type 0) → ((i : ℕ) → (a i ≡ true) ↔ R i) → (i : ℕ) → ((a i || false) ≡ true) ↔ R i
reads_no_more a R h i = ((λ on. (h i).0 (sym (or_false (a i)) ∙ on)), (λ r. or_false (a i) ∙ (h i).1 r))
