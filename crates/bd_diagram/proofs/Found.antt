-- The addresses at which two memories read differently are found, each once.
use Rattle.std.proofs.Common.{◌≡◌, ◌≢◌, ℕ, suc, Bool, true, false, List, [], ◌∷◌, ◌++◌, refl, sym, ◌∙◌, subst, inl, inr, ◌⊎◌, ⊎_elim, arith}
use Rattle.std.specs.Prelude.{◌||◌, ◌==◌, if◌then◌else◌}
use Rattle.std.specs.List.{list_any, All, AllByRecursion, AllPairs, Contains}
use Rattle.std.proofs.lemmas.Bool.{eqb-true, eq-eqb, ne_eqb}
use Rattle.std.proofs.lemmas.List.Elements.{All-nil, All-cons, All-push, All-contains, Contains-append_left, Contains-push}
use Rattle.std.proofs.lemmas.List.Quantifiers.{all_pairs_push}
use Rattle.bd_model.specs.Table.{slot_value, read}
use Rattle.bd_model.specs.declared.table.Slot.{Slot}
use Rattle.bd_model.specs.declared.table.Memory.{Memory}
use Rattle.bd_diagram.specs.Differs.{with_differing, differing_after, differing}
use Rattle.bd_diagram.specs.Laws.{IsInRow, IsInNoRow, AddressesFound}
use Rattle.bd_list.proofs.Membership.{first}
use Rattle.bd_list.proofs.Truths.{neither}

choose : (P : List ℕ → Type 0) (t u : Bool) (xs ys : List ℕ) → P xs → (t ≡ false → u ≡ false → P ys) → P (if t || u then xs else ys)
choose P true u xs ys h g = h
choose P false true xs ys h g = h
choose P false false xs ys h g = g refl refl

unequal : (x y : ℕ) → (x == y) ≡ false → x ≢ y
unequal x y h = λ e. let yes = eq-eqb x y e in absurd (cc)

-- an address that no test has found is none of those
not_any : (a : ℕ) (xs : List ℕ) → list_any (λ b. b == a) xs ≡ false → All (λ b. b ≢ a) xs
not_any a [] h = All-nil (λ b. b ≢ a)
not_any a (x ∷ xs) h =
    let both = neither (x == a) (list_any (λ b. b == a) xs) h in
    All-cons (λ b. b ≢ a) x xs (unequal x a both.0) (not_any a xs both.1)

contains_cons : {X : Type 0} (x a : X) (xs : List X) → Contains xs a → Contains (x ∷ xs) a
contains_cons x a xs h = (suc h.0, omega (arith, h.1), h.2)

any_in : (a : ℕ) (xs : List ℕ) → list_any (λ b. b == a) xs ≡ true → Contains xs a
any_in a [] h = absurd (cc h)
any_in a (x ∷ xs) h =
    let by : (t : Bool) → t ≡ (x == a) → (t || list_any (λ b. b == a) xs) ≡ true → Contains (x ∷ xs) a = λ t.
    elim t as (λ u. u ≡ (x == a) → (u || list_any (λ b. b == a) xs) ≡ true → Contains (x ∷ xs) a) [
      | true ↦ λ e g. (0, omega arith, eqb-true x a (sym e))
      | false ↦ λ e g. contains_cons x a xs (any_in a xs g)
    ] in
    by (x == a) refl h

-- what holds of the addresses found holds with one more
with_one : (P : List ℕ → Type 0) (m n : Memory) (found : List ℕ) (a : ℕ) → P found → (read m a ≢ read n a → All (λ b. b ≢ a) found → P (found ++ a ∷ [])) → P (with_differing m n found a)
with_one P m n found a here more =
    choose P (read m a == read n a) (list_any (λ b. b == a) found) found (found ++ a ∷ []) here (λ e f. more (unequal (read m a) (read n a) e) (not_any a found f))

-- what holds of each row's address at which the memories read differently holds of those found
all_found : (P : ℕ → Type 0) (m n : Memory) (found : List ℕ) (ss : List Slot) → All P found → ((s : Slot) → Contains ss s → read m s.address ≢ read n s.address → P s.address) → All P (differing_after m n found ss)
all_found P m n found [] h each = h
all_found P m n found (s ∷ ss) h each =
    all_found P m n (with_differing m n found s.address) ss (with_one (λ xs. All P xs) m n found s.address h (λ other none. All-push P found s.address h (each s (first s ss) other)))
    (λ t has. each t (contains_cons s t ss has))

all_differing : (P : ℕ → Type 0) (m n : Memory) → ((s : Slot) → Contains m.rows s → read m s.address ≢ read n s.address → P s.address)
    → ((s : Slot) → Contains n.rows s → read m s.address ≢ read n s.address → P s.address) → All P (differing m n)
all_differing P m n one other = all_found P m n (differing_after m n [] m.rows) n.rows (all_found P m n [] m.rows (All-nil P) one) other

each_once : (m n : Memory) (found : List ℕ) (ss : List Slot) → AllPairs (λ a b. a ≢ b) found → AllPairs (λ a b. a ≢ b) (differing_after m n found ss)
each_once m n found [] h = h
each_once m n found (s ∷ ss) h =
    let apart : ℕ → ℕ → Type 0 = λ a b. a ≢ b in
    each_once m n (with_differing m n found s.address) ss (with_one (λ xs. AllPairs apart xs) m n found s.address h (λ other none. all_pairs_push apart found s.address h none))

-- what is found stays
still_found : (m n : Memory) (a : ℕ) (found : List ℕ) (ss : List Slot) → Contains found a → Contains (differing_after m n found ss) a
still_found m n a found [] h = h
still_found m n a found (s ∷ ss) h =
    still_found m n a (with_differing m n found s.address) ss
    (with_one (λ xs. Contains xs a) m n found s.address h (λ other none. Contains-append_left found (s.address ∷ []) a h))

now_found : (m n : Memory) (a : ℕ) (found : List ℕ) → read m a ≢ read n a → Contains (with_differing m n found a) a
now_found m n a found other =
    let by : (t u : Bool) → t ≡ (read m a == read n a) → u ≡ list_any (λ b. b == a) found → Contains (if t || u then found else found ++ a ∷ []) a = λ t u.
    elim t as (λ s. s ≡ (read m a == read n a) → u ≡ list_any (λ b. b == a) found → Contains (if s || u then found else found ++ a ∷ []) a) [
      | true ↦ λ e f. absurd (other (eqb-true (read m a) (read n a) (sym e)))
      | false ↦ λ e. elim u as (λ s. s ≡ list_any (λ b. b == a) found → Contains (if s then found else found ++ a ∷ []) a) [
        | true ↦ λ f. any_in a found (sym f)
        | false ↦ λ f. Contains-push found a
      ]
    ] in
    by (read m a == read n a) (list_any (λ b. b == a) found) refl refl

-- an address at which they differ is found among rows, or is in none of them
found_or_none : (m n : Memory) (a : ℕ) → read m a ≢ read n a → (found : List ℕ) (ss : List Slot) → Contains (differing_after m n found ss) a ⊎ AllByRecursion (λ (s : Slot). s.address ≢ a) ss
found_or_none m n a other found [] = inr tt
found_or_none m n a other found (s ∷ ss) =
    let next = with_differing m n found s.address in
    let by : (t : Bool) → t ≡ (s.address == a) → Contains (differing_after m n next ss) a ⊎ AllByRecursion (λ (s : Slot). s.address ≢ a) (s ∷ ss) = λ t.
    elim t as (λ u. u ≡ (s.address == a) → Contains (differing_after m n next ss) a ⊎ AllByRecursion (λ (s : Slot). s.address ≢ a) (s ∷ ss)) [
      | true ↦ λ e.
          let here = subst (λ b. Contains (with_differing m n found b) a) (sym (eqb-true s.address a (sym e))) (now_found m n a found other) in
          inl (still_found m n a next ss here)
      | false ↦ λ e. ⊎_elim (λ h. inl h) (λ h. inr (unequal s.address a (sym e), h)) (found_or_none m n a other next ss)
    ] in
    by (s.address == a) refl

-- at an address that is in no row a memory has its default
in_no_row : (ss : List Slot) (a d : ℕ) → AllByRecursion (λ (s : Slot). s.address ≢ a) ss → slot_value ss a d ≡ d
in_no_row [] a d h = refl
in_no_row (s ∷ ss) a d h = rw (ne_eqb s.address a h.0) (in_no_row ss a d h.1)

found_all : (m n : Memory) (a : ℕ) → read m a ≢ read n a → Contains (differing m n) a ⊎ (IsInNoRow m a × IsInNoRow n a × (m.default ≢ n.default))
found_all m n a other =
    let first = differing_after m n [] m.rows in
    ⊎_elim (λ (h : Contains first a). inl (still_found m n a first n.rows h))
    (λ (no : IsInNoRow m a).
    ⊎_elim (λ (h : Contains (differing m n) a). inl h)
    (λ (none : IsInNoRow n a). inr (no, none, λ same. other (in_no_row m.rows a m.default no ∙ same ∙ sym (in_no_row n.rows a n.default none))))
    (found_or_none m n a other first n.rows))
    (found_or_none m n a other [] m.rows)

no_pairs : AllPairs (λ (a b : ℕ). a ≢ b) []
no_pairs i j d below within = absurd (omega (arith, within))

pub found : AddressesFound
found m n =
    let differ : ℕ → Type 0 = λ a. read m a ≢ read n a in
    let in_row : ℕ → Type 0 = λ a. IsInRow m a ⊎ IsInRow n a in
    let all_differ = all_differing differ m n (λ s has other. other) (λ s has other. other) in
    let all_in_row = all_differing in_row m n (λ s has other. inl (s, has, refl)) (λ s has other. inr (s, has, refl)) in
    record {
      differ = λ a h. All-contains differ (differing m n) a all_differ h;
      in_row = λ a h. All-contains in_row (differing m n) a all_in_row h;
      all = λ a other. found_all m n a other;
      once = each_once m n (differing_after m n [] m.rows) n.rows (each_once m n [] m.rows no_pairs);
    }
