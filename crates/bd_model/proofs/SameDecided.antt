-- Whether two states can be told apart is decided by the rows of their memories.
use Rattle.std.proofs.Common.{◌≡◌, Bool, true, false, List, [], ◌∷◌, refl, ap}
use Rattle.std.specs.Prelude.{◌&&◌, ◌==◌}
use Rattle.std.specs.Bool.{Decides}
use Rattle.std.specs.List.{list_all, AllByRecursion}
use mathlib.Core.Bool.{beq}
use Rattle.std.specs.Cmp.{booleans_Decides}
use Rattle.std.proofs.lemmas.Bool.{eqb-true, eq-eqb}
use Rattle.std.proofs.lemmas.Bool.Decides.{Decides-and, Decides-eqb}
use Rattle.bd_model.specs.Table.{read, ReadSame}
use Rattle.bd_model.specs.Same.{SameValue, Same}
use Rattle.bd_model.specs.declared.table.Scalar.{Scalar}
use Rattle.bd_model.specs.declared.table.Scalar.TheVariants as scalar
use Rattle.bd_model.specs.declared.table.Slot.{Slot}
use Rattle.bd_model.specs.declared.table.Memory.{Memory}
use Rattle.bd_model.specs.declared.table.Value.{Value}
use Rattle.bd_model.specs.declared.table.Value.TheVariants as value
use Rattle.bd_model.proofs.Memories.{alike_by_rows, same_default}

-- a test of each item
pub Decides-each : {X : Type 0} (P : X → Type 0) (test : X → Bool) → ((x : X) → Decides (test x) (P x)) → (xs : List X) → Decides (list_all test xs) (AllByRecursion P xs)
Decides-each P test h [] = (λ _. tt, λ _. refl)
Decides-each P test h (x ∷ xs) = Decides-and _ _ (h x) (Decides-each P test h xs)

-- the two read equal at the address of each row
abbrev pub agree_at : Memory → Memory → List Slot → Bool
agree_at m n rows = list_all (λ (r : Slot). read m r.address == read n r.address) rows

agree_at-Decides : (m n : Memory) (rows : List Slot) → Decides (agree_at m n rows) (AllByRecursion (λ (r : Slot). read m r.address ≡ read n r.address) rows)
agree_at-Decides m n rows = Decides-each _ _ (λ r. Decides-eqb _ _) rows

read_alike : (m n : Memory) → ReadSame m n → (rows : List Slot) → AllByRecursion (λ (r : Slot). read m r.address ≡ read n r.address) rows
read_alike m n h [] = tt
read_alike m n h (r ∷ rows) = (h r.address, read_alike m n h rows)

-- equal defaults, and agreement at the address of each row of either
abbrev pub same_memory : Memory → Memory → Bool
same_memory m n = (m.default == n.default) && (agree_at m n m.rows && agree_at m n n.rows)

-- the rows and defaults decide whether two memories read equal at every word: some word is in no row
pub same_memory-Decides : (m n : Memory) → Decides (same_memory m n) (ReadSame m n)
same_memory-Decides m n =
    let parts = Decides-and _ _ (Decides-eqb m.default n.default) (Decides-and _ _ (agree_at-Decides m n m.rows) (agree_at-Decides m n n.rows)) in (
      λ t. let h = parts.0 t in alike_by_rows m n h.0 h.1.0 h.1.1,
      λ h. parts.1 (same_default m n h, (read_alike m n h m.rows, read_alike m n h n.rows)),
    )

abbrev pub same_scalar : Scalar → Scalar → Bool
same_scalar (scalar.Bool b) (scalar.Bool c) = beq b c
same_scalar (scalar.Word m) (scalar.Word n) = m == n
same_scalar (scalar.Bool b) (scalar.Word n) = false
same_scalar (scalar.Word m) (scalar.Bool c) = false

pub same_scalar-Decides : (x y : Scalar) → Decides (same_scalar x y) (x ≡ y)
same_scalar-Decides (scalar.Bool b) (scalar.Bool c) =
    (λ h. ap (λ z. scalar.Bool z) ((booleans_Decides b c).0 h), λ e. (booleans_Decides b c).1 (cc e))
same_scalar-Decides (scalar.Word m) (scalar.Word n) =
    (λ h. ap (λ z. scalar.Word z) (eqb-true m n h), λ e. eq-eqb m n (cc e))
same_scalar-Decides (scalar.Bool b) (scalar.Word n) = (λ h. absurd (cc h), λ e. absurd (cc e))
same_scalar-Decides (scalar.Word m) (scalar.Bool c) = (λ h. absurd (cc h), λ e. absurd (cc e))

abbrev pub same_value : Value → Value → Bool
same_value (value.Scalar x) (value.Scalar y) = same_scalar x y
same_value (value.Memory m) (value.Memory n) = same_memory m n
same_value (value.Scalar x) (value.Memory n) = false
same_value (value.Memory m) (value.Scalar y) = false

pub same_value-Decides : (v w : Value) → Decides (same_value v w) (SameValue v w)
same_value-Decides (value.Scalar x) (value.Scalar y) = same_scalar-Decides x y
same_value-Decides (value.Memory m) (value.Memory n) = same_memory-Decides m n
same_value-Decides (value.Scalar x) (value.Memory n) = (λ h. absurd (cc h), λ e. absurd e)
same_value-Decides (value.Memory m) (value.Scalar y) = (λ h. absurd (cc h), λ e. absurd e)

abbrev pub same_values : List Value → List Value → Bool
same_values [] [] = true
same_values [] (w ∷ ws) = false
same_values (v ∷ vs) [] = false
same_values (v ∷ vs) (w ∷ ws) = same_value v w && same_values vs ws

-- two states can be told apart or not
pub same_values-Decides : (vs ws : List Value) → Decides (same_values vs ws) (Same vs ws)
same_values-Decides [] [] = (λ h. tt, λ e. refl)
same_values-Decides [] (w ∷ ws) = (λ h. absurd (cc h), λ e. absurd e)
same_values-Decides (v ∷ vs) [] = (λ h. absurd (cc h), λ e. absurd e)
same_values-Decides (v ∷ vs) (w ∷ ws) = Decides-and (same_value v w) (same_values vs ws) (same_value-Decides v w) (same_values-Decides vs ws)
