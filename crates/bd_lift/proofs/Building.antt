-- A table more in the making of a case.
use Rattle.std.proofs.Common.{◌≡◌, ℕ, zero, suc, ◌+◌, ◌≤◌, ◌==◌, Bool, true, false, if◌then◌else◌, List, [], ◌∷◌, length, slice_get, slice_set, Option, Some, None, refl, ap, sym, ◌∙◌, arith, eq-eqb}
use Rattle.std.proofs.lemmas.Bool.{ne_eqb}
use Rattle.bd_model.specs.DesignView.{DesignView, PortView}
use Rattle.bd_model.specs.declared.design.Symbol.{Symbol}
use Rattle.bd_model.specs.declared.design.Entry as entry
use Rattle.bd_model.specs.declared.table.Scalar.{Scalar}
use Rattle.bd_model.specs.declared.table.Table.{Table}
use Rattle.bd_model.specs.declared.table.Value.{Value}
use Rattle.bd_terms.specs.declared.node.Sym.TheVariants.{Function, Entry, Input, Address, Var}
use Rattle.bd_terms.specs.Denotation.{World}
use Rattle.bd_lift.specs.inner.Built.{IsBuilt, entry_value, function_table, numbered, scalar_as, with_table}
use Rattle.bd_lift.proofs.Numbered.{set-numbered}

if-yes : {X : Type 0} → (t : Bool) (x y : X) → t ≡ true → x ≡ (if t then x else y)
if-yes t x y h = sym (ap (λ b. if b then x else y) h)

if-other : {X : Type 0} → (t : Bool) (x y : X) → t ≡ false → y ≡ (if t then x else y)
if-other t x y h = sym (ap (λ b. if b then x else y) h)

none-past : {X : Type 0} → (xs : List X) (i : ℕ) → slice_get xs i ≡ None → length xs ≤ i
none-past [] i h = omega arith
none-past (x ∷ xs) zero h = cc
none-past (x ∷ xs) (suc i) h = let rest = none-past xs i h in omega (arith, rest)

-- a list of numbered items with a changed one
put : {X Y : Type 0} → (f g : ℕ → X → Y) (xs : List X) (i : ℕ) (old new : List Y) → old ≡ numbered f 0 xs
    → ((x : X) → slice_get xs i ≡ Some x → new ≡ slice_set old i (g i x)) → (length xs ≤ i → new ≡ old)
    → ((m : ℕ) (x : X) → (m ≡ i → ⊥) → f m x ≡ g m x) → ((length xs ≤ i) → numbered f 0 xs ≡ numbered g 0 xs) → new ≡ numbered g 0 xs
put f g xs i old new is there other same past = tested (slice_get xs i) refl
  where
    tested : (o : Option _) → slice_get xs i ≡ o → new ≡ numbered g 0 xs
    tested (Some x) e = there x e ∙ ap (λ l. slice_set l i (g i x)) is ∙ set-numbered f g 0 xs i i x e (omega arith) same
    tested None e = let out = none-past xs i e in other out ∙ is ∙ past out

-- items before a place don't see a change there
past-same : {X Y : Type 0} → (f g : ℕ → X → Y) (xs : List X) (i k : ℕ) → ((m : ℕ) (x : X) → (m ≡ i → ⊥) → f m x ≡ g m x) → k + length xs ≤ i → numbered f k xs ≡ numbered g k xs
past-same f g [] i k h out = refl
past-same f g (x ∷ xs) i k h out =
    let head = h k x (λ e. absurd (omega (arith, e, out))) in
    let tail = past-same f g xs i (suc k) h (omega (arith, out)) in
    λ n. head n ∷ tail n

put_at : {X Y : Type 0} → (f g : ℕ → X → Y) (xs : List X) (i : ℕ) (old new : List Y) → old ≡ numbered f 0 xs
    → ((x : X) → slice_get xs i ≡ Some x → new ≡ slice_set old i (g i x)) → (length xs ≤ i → new ≡ old)
    → ((m : ℕ) (x : X) → (m ≡ i → ⊥) → f m x ≡ g m x) → new ≡ numbered g 0 xs
put_at f g xs i old new is there other same = put f g xs i old new is there other same (λ out. past-same f g xs i 0 same (omega (arith, out)))

module _ (d : DesignView) (classes : ℕ) (w : World) (i : ℕ) (t : Table) (interp : List Table) (state : List Value) (inputs : List Scalar) where
  pub IsBuilt-Function : (new : List Table) → IsBuilt d classes w interp state inputs → ((y : Symbol) → slice_get d.symbols i ≡ Some y → new ≡ slice_set interp i (function_table classes i y t))
      → (length d.symbols ≤ i → new ≡ interp) → IsBuilt d classes (with_table w (Function i) t) new state inputs
  IsBuilt-Function new b there other = record {
    functions = put_at (λ f y. function_table classes f y (w (Function f))) (λ f y. function_table classes f y (with_table w (Function i) t (Function f))) d.symbols i interp new b.functions
        (λ y e. there y e ∙ ap (λ z. slice_set interp i (function_table classes i y z)) (if-yes (i == i) t (w (Function i)) (eq-eqb i i refl)))
        other
        (λ m y ne. ap (function_table classes m y) (if-other (i == m) t (w (Function m)) (ne_eqb i m (λ e. ne (sym e)))));
    entries = b.entries;
    ports = b.ports;
  }

  pub IsBuilt-Entry : (new : List Value) → IsBuilt d classes w interp state inputs → ((x : entry.Entry) → slice_get d.pipe.entries i ≡ Some x → new ≡ slice_set state i (entry_value x.sort t))
      → (length d.pipe.entries ≤ i → new ≡ state) → IsBuilt d classes (with_table w (Entry i) t) interp new inputs
  IsBuilt-Entry new b there other = record {
    functions = b.functions;
    entries = put_at (λ m (x : entry.Entry). entry_value x.sort (w (Entry m))) (λ m (x : entry.Entry). entry_value x.sort (with_table w (Entry i) t (Entry m))) d.pipe.entries i state new b.entries
        (λ x e. there x e ∙ ap (λ z. slice_set state i (entry_value x.sort z)) (if-yes (i == i) t (w (Entry i)) (eq-eqb i i refl)))
        other
        (λ m x ne. ap (entry_value x.sort) (if-other (i == m) t (w (Entry m)) (ne_eqb i m (λ e. ne (sym e)))));
    ports = b.ports;
  }

  pub IsBuilt-Input : (new : List Scalar) → IsBuilt d classes w interp state inputs → ((p : PortView) → slice_get d.pipe.ports i ≡ Some p → new ≡ slice_set inputs i (scalar_as p.sort t.default))
      → (length d.pipe.ports ≤ i → new ≡ inputs) → IsBuilt d classes (with_table w (Input i) t) interp state new
  IsBuilt-Input new b there other = record {
    functions = b.functions;
    entries = b.entries;
    ports = put_at (λ m (p : PortView). scalar_as p.sort (w (Input m)).default) (λ m (p : PortView). scalar_as p.sort (with_table w (Input i) t (Input m)).default) d.pipe.ports i inputs new b.ports
        (λ p e. there p e ∙ ap (λ (z : Table). slice_set inputs i (scalar_as p.sort z.default)) (if-yes (i == i) t (w (Input i)) (eq-eqb i i refl)))
        other
        (λ m p ne. ap (λ (z : Table). scalar_as p.sort z.default) (if-other (i == m) t (w (Input m)) (ne_eqb i m (λ e. ne (sym e)))));
  }

  -- other symbols are of no part of the case
  pub IsBuilt-Address : IsBuilt d classes w interp state inputs → IsBuilt d classes (with_table w (Address i) t) interp state inputs
  IsBuilt-Address b = record { functions = b.functions; entries = b.entries; ports = b.ports }

  pub IsBuilt-Var : IsBuilt d classes w interp state inputs → IsBuilt d classes (with_table w (Var i) t) interp state inputs
  IsBuilt-Var b = record { functions = b.functions; entries = b.entries; ports = b.ports }
