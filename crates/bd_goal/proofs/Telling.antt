-- For each two memories there is a word that tells them apart if any does; so there are words for all addresses that
-- tell apart what can be told apart.
use Rattle.std.proofs.Common.{◌≡◌, ℕ, zero, suc, ◌+◌, ◌-◌, ◌*◌, ◌/◌, ◌%◌, ◌<◌, ◌≤◌, max, Bool, true, false, ◌==◌, if◌then◌else◌, List, [], ◌∷◌, length, slice_index_or, refl, ap, sym, ◌∙◌, subst, arith, eqb-true, eq-eqb, ne_eqb, true≢false}
use Rattle.std.proofs.lemmas.Bool.{cond-false}
use Rattle.std.specs.List.{AllByRecursion}
use Rattle.std.proofs.lemmas.Nat.{div-mul-add, mod-mul-add, mul-add-lt}
use Rattle.bd_model.specs.Table.{slot_value, read, ReadSame}
use Rattle.bd_model.specs.DesignView.{DesignView}
use Rattle.bd_model.specs.Cycle.{step, spec_steps}
use Rattle.bd_model.specs.Same.{Same}
use Rattle.bd_model.specs.Conditions.{Abstraction, CommutesBy}
use Rattle.bd_model.specs.declared.table.Scalar.{Scalar}
use Rattle.bd_model.specs.declared.table.Slot.{Slot}
use Rattle.bd_model.specs.declared.table.Memory.{Memory}
use Rattle.bd_model.specs.declared.table.Table.{Table}
use Rattle.bd_model.specs.declared.table.Value.{Value}
use Rattle.bd_model.specs.declared.table.Value.TheVariants as value
use Rattle.bd_model.proofs.Memories.{alike_by_rows}
use Rattle.bd_goal.specs.Formula.{EqualFrom, EqualAt, CommutesAt, address_number}

-- a word above the addresses of all rows
abbrev far : List Slot → ℕ
far [] = 0
far (r ∷ rs) = max (r.address + 1) (far rs)

slot_value-far : (rs : List Slot) (a d : ℕ) → far rs ≤ a → slot_value rs a d ≡ d
slot_value-far [] a d h = refl
slot_value-far (r ∷ rs) a d h =
    let apart = ne_eqb r.address a (λ e. omega arith) in
    cond-false _ _ _ apart ∙ slot_value-far rs a d (omega arith)

-- the address of the first row where the test fails, else the last word
abbrev first_failing : (ℕ → Bool) → List Slot → ℕ → ℕ
first_failing test [] last = last
first_failing test (r ∷ rs) last = if test r.address then first_failing test rs last else r.address

first_failing-none : (test : ℕ → Bool) (rs : List Slot) (last : ℕ) → test (first_failing test rs last) ≡ true → AllByRecursion (λ (r : Slot). test r.address ≡ true) rs × (test last ≡ true)
first_failing-none test [] last h = (tt, h)
first_failing-none test (r ∷ rs) last h = cases (test r.address) refl (first_failing-none test rs last) h where
  cases : (b : Bool) → test r.address ≡ b → (test (first_failing test rs last) ≡ true → AllByRecursion (λ (q : Slot). test q.address ≡ true) rs × (test last ≡ true))
      → test (if b then first_failing test rs last else r.address) ≡ true → AllByRecursion (λ (q : Slot). test q.address ≡ true) (r ∷ rs) × (test last ≡ true)
  cases true e rest k = let found = rest k in ((e, found.0), found.1)
  cases false e rest k = absurd (true≢false (sym k ∙ e))

abbrev equal_at : Memory → Memory → ℕ → Bool
equal_at m n a = read m a == read n a

-- a word at which two memories read differently, if there is one
abbrev pub telling : Memory → Memory → ℕ
telling m n = first_failing (equal_at m n) m.rows (first_failing (equal_at m n) n.rows (max (far m.rows) (far n.rows)))

equal_rows : (m n : Memory) (rs : List Slot) → AllByRecursion (λ (r : Slot). equal_at m n r.address ≡ true) rs → AllByRecursion (λ (r : Slot). read m r.address ≡ read n r.address) rs
equal_rows m n [] h = tt
equal_rows m n (r ∷ rs) h = (eqb-true (read m r.address) (read n r.address) h.0, equal_rows m n rs h.1)

pub telling-tells : (m n : Memory) → read m (telling m n) ≡ read n (telling m n) → ReadSame m n
telling-tells m n h =
    let last : ℕ = max (far m.rows) (far n.rows) in
    let mine = first_failing-none (equal_at m n) m.rows (first_failing (equal_at m n) n.rows last) (eq-eqb (read m (telling m n)) (read n (telling m n)) h) in
    let others = first_failing-none (equal_at m n) n.rows last mine.1 in
    let ends : read m last ≡ read n last = eqb-true (read m last) (read n last) others.1 in
    let defaults : m.default ≡ n.default = sym (slot_value-far m.rows last m.default (omega arith)) ∙ ends ∙ slot_value-far n.rows last n.default (omega arith) in
    alike_by_rows m n defaults (equal_rows m n m.rows mine.0) (equal_rows m n n.rows others.0)

-- the memories of a state
abbrev pub memories : List Value → List Memory
memories [] = []
memories (value.Scalar x ∷ vs) = memories vs
memories (value.Memory m ∷ vs) = m ∷ memories vs

-- the memory of a number
abbrev pub memory_at : List Value → ℕ → Memory
memory_at vs i = slice_index_or (memories vs) i (record { default = 0; rows = [] })

-- states that are the same read equal at all addresses
pub EqualFrom-Same : (address : ℕ → ℕ) (m : ℕ) (a b : List Value) → Same a b → EqualFrom address m a b
EqualFrom-Same address m [] [] h = tt
EqualFrom-Same address m [] (value.Scalar y ∷ b) h = absurd h
EqualFrom-Same address m [] (value.Memory y ∷ b) h = absurd h
EqualFrom-Same address m (value.Scalar x ∷ a) [] h = absurd h
EqualFrom-Same address m (value.Memory x ∷ a) [] h = absurd h
EqualFrom-Same address m (value.Scalar x ∷ a) (value.Scalar y ∷ b) h = (h.0, EqualFrom-Same address m a b h.1)
EqualFrom-Same address m (value.Scalar x ∷ a) (value.Memory y ∷ b) h = absurd h.0
EqualFrom-Same address m (value.Memory x ∷ a) (value.Scalar y ∷ b) h = absurd h.0
EqualFrom-Same address m (value.Memory x ∷ a) (value.Memory y ∷ b) h = (h.0 (address m), EqualFrom-Same address (suc m) a b h.1)

-- states that read equal at words that tell their memories apart are the same
pub Same-EqualFrom : (address : ℕ → ℕ) (m : ℕ) (a b : List Value)
    → ((i : ℕ) → i < length (memories a) → address (m + i) ≡ telling (memory_at a i) (memory_at b i))
    → EqualFrom address m a b → Same a b
Same-EqualFrom address m [] [] told h = tt
Same-EqualFrom address m [] (value.Scalar y ∷ b) told h = absurd h
Same-EqualFrom address m [] (value.Memory y ∷ b) told h = absurd h
Same-EqualFrom address m (value.Scalar x ∷ a) [] told h = absurd h
Same-EqualFrom address m (value.Memory x ∷ a) [] told h = absurd h
Same-EqualFrom address m (value.Scalar x ∷ a) (value.Scalar y ∷ b) told h = (h.0, Same-EqualFrom address m a b told h.1)
Same-EqualFrom address m (value.Scalar x ∷ a) (value.Memory y ∷ b) told h = absurd h
Same-EqualFrom address m (value.Memory x ∷ a) (value.Scalar y ∷ b) told h = absurd h
Same-EqualFrom address m (value.Memory x ∷ a) (value.Memory y ∷ b) told h =
    let here : address m ≡ telling x y = ap address (sym_zero m) ∙ told 0 (omega arith) in (
      telling-tells x y (subst (λ w. read x w ≡ read y w) here h.0),
      Same-EqualFrom address (suc m) a b (λ i within. ap address (next m i) ∙ told (suc i) (omega (arith, within))) h.1,
    ) where
      sym_zero : (n : ℕ) → n ≡ n + 0
      sym_zero n = omega arith

      next : (n i : ℕ) → suc n + i ≡ n + suc i
      next n i = omega arith

-- the values of a function at the first n numbers
abbrev pub listed : (ℕ → ℕ) → ℕ → List ℕ
listed f zero = []
listed f (suc n) = f 0 ∷ listed (λ i. f (suc i)) n

pub get-listed : (f : ℕ → ℕ) (n i : ℕ) → i < n → slice_index_or (listed f n) i 0 ≡ f i
get-listed f zero i h = absurd (omega (arith, h))
get-listed f (suc n) zero h = refl
get-listed f (suc n) (suc i) h = get-listed (λ i. f (suc i)) n i (omega (arith, h))

module _ (d : DesignView) (abs : Abstraction) (interp : List Table) (state : List Value) (inputs : List Scalar) where
  -- what the state after the cycle stands for
  abbrev after : List Value
  after = abs interp (step d.pipe interp state inputs)

  -- the specification's state after j steps
  abbrev joined : ℕ → List Value
  joined j = spec_steps j d interp (abs interp state)

  -- the word of an address: one that tells the memory of its number from the one after so many steps
  abbrev pub told_word : ℕ → ℕ
  told_word i = telling (memory_at after (i / (d.steps + 1))) (memory_at (joined (i % (d.steps + 1))) (i / (d.steps + 1)))

  -- words for all addresses, from a first one on, that tell apart what the cycle tells apart
  abbrev pub told_words : ℕ → List ℕ
  told_words first = listed (λ i. told_word (i - first)) (first + length (memories after) * (d.steps + 1))

  told_at : (first m j : ℕ) → j ≤ d.steps → m < length (memories after)
      → slice_index_or (told_words first) (first + address_number d m j) 0 ≡ telling (memory_at after m) (memory_at (joined j) m)
  told_at first m j few within =
      let n : ℕ = d.steps + 1 in
      let small : j < n = omega (arith, few) in
      let inside : m * n + j < n * length (memories after) = mul-add-lt m n j (length (memories after)) within small in
      let quotient : (m * n + j) / n ≡ m = div-mul-add m n j small in
      let rest : (m * n + j) % n ≡ j = mod-mul-add m n j small in
      get-listed (λ i. told_word (i - first)) (first + length (memories after) * n) (first + (m * n + j)) (omega (arith, inside))
      ∙ ap told_word (gone first (m * n + j))
      ∙ ap (λ i. telling (memory_at after i) (memory_at (joined ((m * n + j) % n)) i)) quotient
      ∙ ap (λ i. telling (memory_at after m) (memory_at (joined i) m)) rest where
        gone : (a b : ℕ) → (a + b) - a ≡ b
        gone a b = omega arith

  -- a cycle that stands for some number of steps as far as these words show does so
  pub told_commutes : (first : ℕ) → CommutesAt d abs interp state inputs first (told_words first) → CommutesBy d abs interp state inputs
  told_commutes first (j, few, stands) = (
    j,
    few,
    (
      stands.0,
      Same-EqualFrom (λ m. slice_index_or (told_words first) (first + address_number d m j) 0) 0 after (joined j)
          (λ i within. ap (λ n. slice_index_or (told_words first) (first + address_number d n j) 0) (start i) ∙ told_at first i j few within) stands.1,
    ),
  ) where
    start : (i : ℕ) → 0 + i ≡ i
    start i = omega arith

  -- a cycle that stands for some number of steps does so as far as any words show
  pub CommutesAt-any : (first : ℕ) (q : List ℕ) → CommutesBy d abs interp state inputs → CommutesAt d abs interp state inputs first q
  CommutesAt-any first q (j, few, stands) =
      (j, few, (stands.0, EqualFrom-Same (λ m. slice_index_or q (first + address_number d m j) 0) 0 after (joined j) stands.1))

-- words that tell apart the memories of two states
abbrev pub told_pairs : List Value → List Value → List ℕ
told_pairs a b = listed (λ i. telling (memory_at a i) (memory_at b i)) (length (memories a))

pub told_same : (a b : List Value) → EqualAt (λ m. m) (told_pairs a b) a b → Same a b
told_same a b equal =
    Same-EqualFrom (λ m. slice_index_or (told_pairs a b) m 0) 0 a b
    (λ i within. ap (λ n. slice_index_or (told_pairs a b) n 0) (first i) ∙ get-listed (λ i. telling (memory_at a i) (memory_at b i)) (length (memories a)) i within) equal where
      first : (i : ℕ) → 0 + i ≡ i
      first i = omega arith
