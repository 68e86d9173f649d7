-- The memories whose reads wait for others: each stands before the one above it, and none is read yet.
use Rattle.std.proofs.Common.{◌≡◌, ◌≢◌, ℕ, zero, suc, ◌+◌, ◌<◌, ◌≤◌, ◌⊎◌, inl, inr, Bool, true, false, ◌==◌, if◌then◌else◌, List, [], ◌∷◌, ◌++◌, length, slice_get, Option, Some, None, refl, ap, sym, ◌∙◌, subst, arith, length-append}
use Rattle.std.proofs.lemmas.Bool.{eqb-true, eq-eqb, and_parts, and_from}
use Rattle.std.proofs.lemmas.Option.{none-some, slice_get_within}
use Rattle.bd_model.specs.declared.design.Sort.TheVariants as sort
use Rattle.bd_terms.specs.declared.node.Node.{Node}
use Rattle.bd_terms.specs.Graph.{HasSort}
use Rattle.bd_terms.specs.Reaches.{Reaches}
use Rattle.bd_terms.proofs.Places.{get-front, get-push}
use Rattle.bd_terms.proofs.Older.{Reaches-trans}
use Rattle.bd_memory.specs.declared.reads.ReadKey.{ReadKey}
use Rattle.bd_memory.specs.inner.Reads.{is_read, known}
use Rattle.bd_list.proofs.Numbers.{le-cases}

kept-by : (m b n a id : ℕ) (before after : Option ℕ) (t : Bool) → is_read m b n a ≡ t → after ≡ (if t then Some id else before)
    → (after ≡ before) ⊎ ((after ≡ Some id) × (n ≡ m) × (a ≡ b))
kept-by m b n a id before after true e h = let parts = and_parts (m == n) (b == a) e in inr (h, sym (eqb-true m n parts.0), sym (eqb-true b a parts.1))
kept-by m b n a id before after false e h = inl h

-- it is that one, or what was known
pub kept-cases : (reads reads' : List (ReadKey × ℕ)) (m b id : ℕ) → ((n a : ℕ) → known reads' n a ≡ (if is_read m b n a then Some id else known reads n a))
    → (n a : ℕ) → (known reads' n a ≡ known reads n a) ⊎ ((known reads' n a ≡ Some id) × (n ≡ m) × (a ≡ b))
kept-cases reads reads' m b id h n a = kept-by m b n a id (known reads n a) (known reads' n a) (is_read m b n a) refl (h n a)

other : (reads reads' : List (ReadKey × ℕ)) (m b id : ℕ) → ((n a : ℕ) → known reads' n a ≡ (if is_read m b n a then Some id else known reads n a))
    → (n : ℕ) → n ≢ m → known reads' n b ≡ known reads n b
other reads reads' m b id h n differs = elim (kept-cases reads reads' m b id h n b) [ inl e ↦ e | inr p ↦ absurd (differs p.1) ]

-- a memory whose read waits
pub record IsOpen (old : List Node) (root passed : ℕ) (reads : List (ReadKey × ℕ)) (b m : ℕ) : Type 0 where
  pub sorted : HasSort old m sort.Memory
  pub reached : Reaches old root m
  pub inside : m < passed
  pub unread : known reads m b ≡ None

-- the stack of those that wait for the one at hand, over the one that was asked for
pub record IsWaiting (old : List Node) (root passed : ℕ) (reads : List (ReadKey × ℕ)) (b top : ℕ) (waiting : List ℕ) (here : ℕ) : Type 0 where
  pub now : IsOpen old root passed reads b here
  pub room : length waiting + here < passed
  pub alone : length waiting ≡ 0 → here ≡ top
  pub bottom : (p : ℕ) → slice_get waiting 0 ≡ Some p → p ≡ top
  pub each : (i p : ℕ) → slice_get waiting i ≡ Some p → IsOpen old root passed reads b p
  pub above : (i p : ℕ) → slice_get waiting i ≡ Some p → here < p
  pub rooms : (i p : ℕ) → slice_get waiting i ≡ Some p → i + p < passed
  pub order : (i j p q : ℕ) → i < j → slice_get waiting i ≡ Some p → slice_get waiting j ≡ Some q → q < p

-- the one at hand waits too
pub IsWaiting-push : (old : List Node) (root passed : ℕ) (reads : List (ReadKey × ℕ)) (b top : ℕ) (waiting : List ℕ) (here below : ℕ) → IsWaiting old root passed reads b top waiting here
    → (below < here) × HasSort old below sort.Memory × Reaches old here below × (known reads below b ≡ None)
    → IsWaiting old root passed reads b top (waiting ++ here ∷ []) below
IsWaiting-push old root passed reads b top waiting here below w h = record {
  now = record {
    sorted = h.1;
    reached = Reaches-trans old root here below w.now.reached h.2;
    inside = omega (arith, w.now.inside, h.0);
    unread = h.3;
  };
  room = omega (arith, w.room, h.0, length-append waiting (here ∷ []));
  alone = λ e. absurd (omega (arith, e, length-append waiting (here ∷ [])));
  bottom = λ p e. elim (get-push waiting here 0 p e) [
    | inl q ↦ w.bottom p q
    | inr q ↦ q.1 ∙ w.alone (sym q.0)
  ];
  each = λ i p e. elim (get-push waiting here i p e) [
    | inl q ↦ w.each i p q
    | inr q ↦ subst (IsOpen old root passed reads b) (sym q.1) w.now
  ];
  above = λ i p e. elim (get-push waiting here i p e) [
    | inl q ↦ let lower = w.above i p q in omega (arith, lower, h.0)
    | inr q ↦ omega (arith, q.1, h.0)
  ];
  rooms = λ i p e. elim (get-push waiting here i p e) [
    | inl q ↦ w.rooms i p q
    | inr q ↦ omega (arith, q.0, q.1, w.room)
  ];
  order = λ i j p q lt e f. elim (get-push waiting here j q f) [
    | inl y ↦ elim (get-push waiting here i p e) [
      | inl x ↦ w.order i j p q lt x y
      | inr x ↦ let inside = slice_get_within waiting j q y in absurd (omega (arith, lt, x.0, inside))
    ]
    | inr y ↦ elim (get-push waiting here i p e) [
      | inl x ↦ let lower = w.above i p x in omega (arith, lower, y.1)
      | inr x ↦ absurd (omega (arith, lt, x.0, y.0))
    ]
  ];
}

get-last : (xs : List ℕ) (x : ℕ) → slice_get (xs ++ x ∷ []) (length xs) ≡ Some x
get-last [] x = refl
get-last (y ∷ xs) x = get-last xs x

IsOpen-kept : (old : List Node) (root passed : ℕ) (reads reads' : List (ReadKey × ℕ)) (b m id p : ℕ) → ((n a : ℕ) → known reads' n a ≡ (if is_read m b n a then Some id else known reads n a))
    → m < p → IsOpen old root passed reads b p → IsOpen old root passed reads' b p
IsOpen-kept old root passed reads reads' b m id p h lt o = record {
  sorted = o.sorted;
  reached = o.reached;
  inside = o.inside;
  unread = other reads reads' m b id h p (λ e. absurd (omega (arith, lt, e))) ∙ o.unread;
}

-- where the one at hand is read, the one above it is at hand
pub IsWaiting-pop : (old : List Node) (root passed : ℕ) (reads reads' : List (ReadKey × ℕ)) (b top : ℕ) (waiting rest : List ℕ) (here above id : ℕ) → IsWaiting old root passed reads b top waiting here
    → ((n a : ℕ) → known reads' n a ≡ (if is_read here b n a then Some id else known reads n a)) → waiting ≡ rest ++ above ∷ []
    → IsWaiting old root passed reads' b top rest above
IsWaiting-pop old root passed reads reads' b top waiting rest here above id w h e =
    let last : slice_get waiting (length rest) ≡ Some above = ap (λ l. slice_get l (length rest)) e ∙ get-last rest above in
    let front : (i p : ℕ) → slice_get rest i ≡ Some p → slice_get waiting i ≡ Some p = λ i p q. ap (λ l. slice_get l i) e ∙ get-front rest (above ∷ []) i p q in
    record {
      now = IsOpen-kept old root passed reads reads' b here id above h (w.above (length rest) above last) (w.each (length rest) above last);
      room = w.rooms (length rest) above last;
      alone = λ none. w.bottom above (subst (λ i. slice_get waiting i ≡ Some above) none last);
      bottom = λ p q. w.bottom p (front 0 p q);
      each = λ i p q. IsOpen-kept old root passed reads reads' b here id p h (w.above i p (front i p q)) (w.each i p (front i p q));
      above = λ i p q. w.order i (length rest) p above (slice_get_within rest i p q) (front i p q) last;
      rooms = λ i p q. w.rooms i p (front i p q);
      order = λ i j p q lt x y. w.order i j p q lt (front i p x) (front j q y);
    }

open_count : Option ℕ → ℕ
open_count None = 1
open_count (Some x) = 0

-- how many of the first memories are not read at the address
pub missing : List (ReadKey × ℕ) → ℕ → ℕ → ℕ
unfolding open_count
missing reads b zero = 0
missing reads b (suc n) = open_count (known reads n b) + missing reads b n

missing-same : (reads reads' : List (ReadKey × ℕ)) (b k : ℕ) → ((n : ℕ) → n < k → known reads' n b ≡ known reads n b) → missing reads' b k ≡ missing reads b k
unfolding missing
missing-same reads reads' b zero h = refl
missing-same reads reads' b (suc k) h =
    let first = ap open_count (h k (omega arith)) in
    let rest = missing-same reads reads' b k (λ n lt. h n (omega (arith, lt))) in
    omega (arith, first, rest)

-- a read that is kept is one less
pub missing-less : (reads reads' : List (ReadKey × ℕ)) (m b id k : ℕ) → ((n a : ℕ) → known reads' n a ≡ (if is_read m b n a then Some id else known reads n a))
    → known reads m b ≡ None → known reads' m b ≡ Some id → m < k → suc (missing reads' b k) ≡ missing reads b k
unfolding missing open_count
missing-less reads reads' m b id zero h none some lt = absurd (omega (arith, lt))
missing-less reads reads' m b id (suc k) h none some lt = elim (le-cases m k (omega (arith, lt))) [
  | inl below ↦
      let first = ap open_count (other reads reads' m b id h k (λ e. absurd (omega (arith, below, e)))) in
      let rest = missing-less reads reads' m b id k h none some (omega (arith, below)) in
      omega (arith, first, rest)
  | inr e ↦
      let one : open_count (known reads k b) ≡ 1 = ap (λ n. open_count (known reads n b)) (sym e) ∙ ap open_count none in
      let zeroed : open_count (known reads' k b) ≡ 0 = ap (λ n. open_count (known reads' n b)) (sym e) ∙ ap open_count some in
      let rest = missing-same reads reads' b k (λ n below. other reads reads' m b id h n (λ same. absurd (omega (arith, below, same, e)))) in
      omega (arith, one, zeroed, rest)
]

-- a read that is kept is known
pub kept-there : (reads reads' : List (ReadKey × ℕ)) (m b id : ℕ) → ((n a : ℕ) → known reads' n a ≡ (if is_read m b n a then Some id else known reads n a)) → known reads' m b ≡ Some id
kept-there reads reads' m b id h = h m b ∙ ap (λ t. if t then Some id else known reads m b) (and_from (m == m) (b == b) (eq-eqb m m refl) (eq-eqb b b refl))
