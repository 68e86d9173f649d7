-- Inputs that stand once for each cycle.
use Rattle.std.proofs.Common.{◌≡◌, ℕ, zero, suc, ◌+◌, ◌*◌, false, List, [], ◌∷◌, ◌++◌, length, map, slice_get, Some, refl, ap, sym, ◌∙◌, append-nil, append_assoc, length-append, arith}
use Rattle.std.proofs.Math.Nat.{add_comm, suc-mul}
use Rattle.std.proofs.lemmas.List.{map-append}
use Rattle.std.proofs.lemmas.Option.{none-some, same_Some}
use Rattle.bd_model.specs.DesignView.{PortView, port_view}
use Rattle.bd_model.specs.declared.design.Port.{Port}
use Rattle.bd_model.specs.declared.table.Scalar.TheVariants as scalar
use Rattle.bd_symbolic.specs.Widened.{repeated}
use Rattle.bd_lift.specs.inner.Built.{numbered, scalar_as}

-- once more
pub repeated-push : {X : Type 0} → (n : ℕ) (xs : List X) → repeated n xs ++ xs ≡ repeated (suc n) xs
repeated-push zero xs = sym (append-nil xs)
repeated-push (suc n) xs = append_assoc xs (repeated n xs) xs ∙ ap (λ l. xs ++ l) (repeated-push n xs)

pub length-repeated : {X : Type 0} → (n : ℕ) (xs : List X) → length (repeated n xs) ≡ n * length xs
length-repeated zero xs = omega arith
length-repeated (suc n) xs =
    length-append xs (repeated n xs) ∙ ap (λ m. length xs + m) (length-repeated n xs) ∙ add_comm (length xs) (n * length xs) ∙ sym (suc-mul n (length xs))

map-repeated : {X Y : Type 0} → (f : X → Y) (n : ℕ) (xs : List X) → map f (repeated n xs) ≡ repeated n (map f xs)
map-repeated f zero xs = refl
map-repeated f (suc n) xs = map-append f xs (repeated n xs) ∙ ap (λ l. map f xs ++ l) (map-repeated f n xs)

-- the sorts of inputs, as they are seen
seen-sorts : (ports : List Port) → map (λ (p : PortView). p.sort) (map port_view ports) ≡ map (λ (p : Port). p.sort) ports
seen-sorts [] = refl
seen-sorts (p ∷ ports) = ap (λ l. p.sort ∷ l) (seen-sorts ports)

pub repeated-sorts : (n : ℕ) (ports : List Port) → repeated n (map (λ (p : Port). p.sort) ports) ≡ map (λ (p : PortView). p.sort) (repeated n (map port_view ports))
repeated-sorts n ports = ap (repeated n) (sym (seen-sorts ports)) ∙ sym (map-repeated (λ (p : PortView). p.sort) n (map port_view ports))

-- what inputs of these sorts are in a world without tables
pub blank-numbered : (k : ℕ) (ports : List PortView) → map (λ s. scalar_as s (scalar.Bool false)) (map (λ (p : PortView). p.sort) ports) ≡ numbered (λ i (p : PortView). scalar_as p.sort (scalar.Bool false)) k ports
blank-numbered k [] = refl
blank-numbered k (p ∷ ports) = ap (λ l. scalar_as p.sort (scalar.Bool false) ∷ l) (blank-numbered (suc k) ports)

-- the sort of an input at its place
pub sort-there : (ports : List PortView) (i : ℕ) (p : PortView) → slice_get ports i ≡ Some p → slice_get (map (λ (q : PortView). q.sort) ports) i ≡ Some p.sort
sort-there [] i p h = absurd (none-some p h)
sort-there (q ∷ ports) zero p h = ap (λ (r : PortView). Some r.sort) (same_Some q p h)
sort-there (q ∷ ports) (suc i) p h = sort-there ports i p h
