-- Memories read alike.
use Rattle.std.proofs.Common.{◌≡◌, ℕ, ◌+◌, ◌≤◌, max, ◌⊎◌, inl, inr, true, false, List, [], ◌∷◌, ◌++◌, ⊎_elim, refl, sym, ◌∙◌, ap, subst, eqb, length, take, drop, arith}
use Rattle.std.proofs.lemmas.Bool.{cases_Bool, eqb-true, ne_eqb, cond-false}
use Rattle.std.proofs.lemmas.List.{take-append-drop, take_all, drop_all}
use Rattle.std.proofs.lemmas.List.Elements.{All-from_recursion, recursion_from_All}
use Rattle.std.specs.List.{All, AllByRecursion}
use Rattle.bd_model.specs.Table.{slot_value, read, ReadSame}
use Rattle.bd_model.specs.declared.table.Slot.{Slot}
use Rattle.bd_model.specs.declared.table.Memory.{Memory}

-- where P holds of the address of each row in front, it holds of an address, or the later rows decide
found_or_later : (P : ℕ → Type 0) (front back : List Slot) (a d : ℕ) → AllByRecursion (λ r. P r.address) front → P a ⊎ (slot_value (front ++ back) a d ≡ slot_value back a d)
found_or_later P [] back a d h = inr refl
found_or_later P (r ∷ front) back a d h =
    ⊎_elim
    (λ (e : eqb r.address a ≡ true). inl (subst P (eqb-true r.address a e) h.0))
    (λ (e : eqb r.address a ≡ false). ⊎_elim (λ (p : P a). inl p) (λ same. inr (cond-false _ _ _ e ∙ same)) (found_or_later P front back a d h.1))
    (cases_Bool (eqb r.address a))

-- two memories that agree at the addresses of their rows in front and are equal after them read alike
pub alike : (m n : Memory) (xs ys : List Slot) (i j : ℕ) → xs ≡ m.rows → ys ≡ n.rows → m.default ≡ n.default
    → All (λ (r : Slot). read m r.address ≡ read n r.address) (take i xs)
    → All (λ (r : Slot). read m r.address ≡ read n r.address) (take j ys) → drop i xs ≡ drop j ys → ReadSame m n
alike m n xs ys i j rows_m rows_n defaults mine others same a =
    let P : ℕ → Type 0 = λ b. read m b ≡ read n b in
    let later_m : slot_value (take i xs ++ drop i xs) a m.default ≡ read m a = ap (λ rs. slot_value rs a m.default) (take-append-drop i xs ∙ rows_m) in
    let later_n : slot_value (take j ys ++ drop j ys) a n.default ≡ read n a = ap (λ rs. slot_value rs a n.default) (take-append-drop j ys ∙ rows_n) in
    ⊎_elim
    (λ (here : P a). here)
    (λ (first : slot_value (take i xs ++ drop i xs) a m.default ≡ slot_value (drop i xs) a m.default).
    ⊎_elim
    (λ (here : P a). here)
    (λ (second : slot_value (take j ys ++ drop j ys) a n.default ≡ slot_value (drop j ys) a n.default). cc)
    (found_or_later P (take j ys) (drop j ys) a n.default (recursion_from_All _ _ others)))
    (found_or_later P (take i xs) (drop i xs) a m.default (recursion_from_All _ _ mine))

-- two memories with equal defaults that agree at the addresses of all their rows read alike
pub alike_by_rows : (m n : Memory) → m.default ≡ n.default → AllByRecursion (λ (r : Slot). read m r.address ≡ read n r.address) m.rows → AllByRecursion (λ (r : Slot). read m r.address ≡ read n r.address) n.rows → ReadSame m n
alike_by_rows m n defaults mine others =
    let P : Slot → Type 0 = λ r. read m r.address ≡ read n r.address in
    alike m n m.rows n.rows (length m.rows) (length n.rows) refl refl defaults
    (rw (take_all (length m.rows) m.rows (omega arith)) (All-from_recursion P m.rows mine))
    (rw (take_all (length n.rows) n.rows (omega arith)) (All-from_recursion P n.rows others))
    (rw (drop_all (length m.rows) m.rows (omega arith), drop_all (length n.rows) n.rows (omega arith)) refl)

-- an address above all of the rows
abbrev beyond : List Slot → ℕ
beyond [] = 0
beyond (r ∷ rs) = max (r.address + 1) (beyond rs)

-- past all rows there is the default
slot_value-beyond : (rs : List Slot) (a d : ℕ) → beyond rs ≤ a → slot_value rs a d ≡ d
slot_value-beyond [] a d h = refl
slot_value-beyond (r ∷ rs) a d h =
    let apart = ne_eqb r.address a (λ e. omega arith) in
    cond-false _ _ _ apart ∙ slot_value-beyond rs a d (omega arith)

-- words have no bound: some address is in no row
pub same_default : (m n : Memory) → ReadSame m n → m.default ≡ n.default
same_default m n h =
    let a = max (beyond m.rows) (beyond n.rows) in
    sym (slot_value-beyond m.rows a m.default (omega arith)) ∙ h a ∙ slot_value-beyond n.rows a n.default (omega arith)
