-- Nothing is found that tells values apart exactly where they are the same.
use Rattle.std.proofs.Common.{◌≡◌, ◌↔◌, ℕ, suc, Bool, true, false, List, [], ◌∷◌, ◌++◌, length, drop, refl, sym, ◌∙◌, ap, subst, inl, inr, ◌⊎◌, ◌+◌, ◌<◌, add-one, drop-cons, arith}
use Rattle.std.specs.Prelude.{◌&&◌, ◌||◌, ◌==◌, not, slice_index_or, if◌then◌else◌}
use Rattle.std.specs.Bool.{Decides}
use Rattle.std.specs.List.{list_any, AllByRecursion}
use Rattle.std.proofs.lemmas.Bool.{eqb-true, eq-eqb, ne_eqb}
use Rattle.std.proofs.lemmas.List.{append-nil}
use mathlib.Core.Bool.{beq}
use Rattle.bd_model.specs.Table.{read, ReadSame}
use Rattle.bd_model.specs.Same.{SameValue, Same}
use Rattle.bd_model.specs.declared.table.Scalar.{Scalar}
use Rattle.bd_model.specs.declared.table.Scalar.TheVariants as scalar
use Rattle.bd_model.specs.declared.table.Slot.{Slot}
use Rattle.bd_model.specs.declared.table.Memory.{Memory}
use Rattle.bd_model.specs.declared.table.Value.{Value}
use Rattle.bd_model.specs.declared.table.Value.TheVariants as value
use Rattle.bd_model.proofs.SameDecided.{agree_at, same_memory, same_memory-Decides, same_scalar-Decides}
use Rattle.bd_diagram.specs.Differs.{with_differing, differing_after, differing, differ_elsewhere, memory_difference_by, memory_difference, scalar_difference, difference, differences}
use Rattle.bd_diagram.specs.Laws.{SameWhereNoDifference}
use Rattle.bd_diagram.specs.declared.difference.Difference.{Difference}
use Rattle.bd_diagram.specs.declared.difference.Difference.TheVariants.{Nothing, Latch}

-- a test chooses nothing where it is true
chosen : (t : Bool) (e : Difference) → (e ≡ Nothing → ⊥) → ((if t then Nothing else e) ≡ Nothing) ↔ (t ≡ true)
chosen true e other = (λ h. refl, λ h. refl)
chosen false e other = (λ h. absurd (other h), λ h. absurd (cc h))

-- what is found stays
stays : (m n : Memory) (x : ℕ) (xs : List ℕ) (ss : List Slot) → differing_after m n (x ∷ xs) ss ≡ [] → ⊥
stays m n x xs [] h = cc h
stays m n x xs (s ∷ ss) h =
    let either : (t : Bool) → differing_after m n (if t then x ∷ xs else (x ∷ xs) ++ s.address ∷ []) ss ≡ [] → ⊥ = λ t.
    elim t as (λ u. differing_after m n (if u then x ∷ xs else (x ∷ xs) ++ s.address ∷ []) ss ≡ [] → ⊥) [
      | true ↦ λ g. stays m n x xs ss g
      | false ↦ λ g. stays m n x (xs ++ s.address ∷ []) ss g
    ] in
    either _ h

-- none is found exactly where the memories agree at each row
none_found : (m n : Memory) (ss : List Slot) → (differing_after m n [] ss ≡ []) ↔ (agree_at m n ss ≡ true)
none_found m n [] = (λ h. refl, λ h. refl)
none_found m n (s ∷ ss) =
    let rest = none_found m n ss in
    elim (read m s.address == read n s.address)
    as (λ t. (differing_after m n (if t || false then [] else s.address ∷ []) ss ≡ []) ↔ ((t && agree_at m n ss) ≡ true)) [
      | true ↦ rest
      | false ↦ (λ h. absurd (stays m n s.address [] ss h), λ h. absurd (cc h))
    ]

none_after : (m n : Memory) (found : List ℕ) (ss : List Slot) → differing_after m n found ss ≡ [] → (found ≡ []) × (agree_at m n ss ≡ true)
none_after m n [] ss h = (refl, (none_found m n ss).0 h)
none_after m n (x ∷ xs) ss h = absurd (stays m n x xs ss h)

none_differing : (m n : Memory) → (differing m n ≡ []) ↔ ((agree_at m n m.rows ≡ true) × (agree_at m n n.rows ≡ true))
none_differing m n = (
  λ h. let both = none_after m n (differing_after m n [] m.rows) n.rows h in ((none_found m n m.rows).0 both.0, both.1),
  λ h. ap (λ xs. differing_after m n xs n.rows) ((none_found m n m.rows).1 h.0) ∙ (none_found m n n.rows).1 h.1,
)

both_true : (s t : Bool) → ((s && t) ≡ true) ↔ ((s ≡ true) × (t ≡ true))
both_true true t = (λ h. (refl, h), λ h. h.1)
both_true false t = (λ h. absurd (cc h), λ h. absurd (cc h.0))

not_not : (t : Bool) → (not (not t) ≡ true) ↔ (t ≡ true)
not_not true = (λ h. refl, λ h. refl)
not_not false = (λ h. absurd (cc h), λ h. absurd (cc h))

empty : (xs : List ℕ) → ((length xs == 0) ≡ true) ↔ (xs ≡ [])
empty [] = (λ h. refl, λ h. refl)
empty (x ∷ xs) = (λ h. absurd (let e = eqb-true (length (x ∷ xs)) 0 h in omega (arith, e)), λ h. absurd (cc h))

memories : (m n : Memory) → (memory_difference m n ≡ Nothing) ↔ ReadSame m n
memories m n =
    let test = chosen ((length (differing m n) == 0) && not (differ_elsewhere m n)) _ (λ h. cc h) in
    let parts = both_true (length (differing m n) == 0) (not (differ_elsewhere m n)) in
    let rows = none_differing m n in
    let no_rows = empty (differing m n) in
    let default = not_not (m.default == n.default) in
    let decides = same_memory-Decides m n in
    let all = both_true (m.default == n.default) (agree_at m n m.rows && agree_at m n n.rows) in
    let each = both_true (agree_at m n m.rows) (agree_at m n n.rows) in (
      λ h. let p = parts.0 (test.0 h) in decides.0 (all.1 (default.0 p.1, each.1 (rows.0 (no_rows.0 p.0)))),
      λ h. let p = all.0 (decides.1 h) in test.1 (parts.1 (no_rows.1 (rows.1 (each.0 p.1)), default.1 p.0)),
    )

scalars : (x y : Scalar) → (scalar_difference x y ≡ Nothing) ↔ (x ≡ y)
scalars (scalar.Bool b) (scalar.Bool c) =
    let test = chosen (beq b c) Latch (λ h. cc h) in
    let decides = same_scalar-Decides (scalar.Bool b) (scalar.Bool c) in
    (λ h. decides.0 (test.0 h), λ e. test.1 (decides.1 e))
scalars (scalar.Word m) (scalar.Word n) =
    let test = chosen (m == n) Latch (λ h. cc h) in
    let decides = same_scalar-Decides (scalar.Word m) (scalar.Word n) in
    (λ h. decides.0 (test.0 h), λ e. test.1 (decides.1 e))
scalars (scalar.Bool b) (scalar.Word n) = (λ h. absurd (cc h), λ e. absurd (cc e))
scalars (scalar.Word m) (scalar.Bool c) = (λ h. absurd (cc h), λ e. absurd (cc e))

values : (v w : Value) → (difference v w ≡ Nothing) ↔ SameValue v w
values (value.Scalar x) (value.Scalar y) = scalars x y
values (value.Memory m) (value.Memory n) = memories m n
values (value.Scalar x) (value.Memory n) = (λ h. absurd (cc h), λ e. absurd e)
values (value.Memory m) (value.Scalar y) = (λ h. absurd (cc h), λ e. absurd e)

pub no_difference : SameWhereNoDifference
no_difference [] [] = (λ h. (refl, tt), λ h. tt)
no_difference [] (w ∷ ws) = (λ h. absurd h, λ h. absurd (omega (arith, h.0)))
no_difference (v ∷ vs) [] = (λ h. absurd h, λ h. absurd (omega (arith, h.0)))
no_difference (v ∷ vs) (w ∷ ws) =
    let here = values v w in
    let rest = no_difference vs ws in (
      λ h. let r = rest.0 h.1 in (ap suc r.0, (here.1 h.0, r.1)),
      λ h. (here.0 h.1.0, rest.1 (omega (arith, h.0), h.1.1)),
    )

-- ---- the loops that find differences
pub with_same : (m n : Memory) (found : List ℕ) (a : ℕ) → read m a ≡ read n a → with_differing m n found a ≡ found
with_same m n found a e = rw (eq-eqb (read m a) (read n a) e)

pub with_found : (m n : Memory) (found : List ℕ) (a : ℕ) → list_any (λ b. b == a) found ≡ true → with_differing m n found a ≡ found
with_found m n found a h =
    let either : (t u : Bool) → u ≡ true → (if t || u then found else found ++ a ∷ []) ≡ found = λ t u e.
    elim t as (λ s. (if s || u then found else found ++ a ∷ []) ≡ found) [ true ↦ refl | false ↦ rw e ] in
    either _ _ h

pub with_new : (m n : Memory) (found : List ℕ) (a : ℕ) → (read m a ≡ read n a → ⊥) → list_any (λ b. b == a) found ≡ false → with_differing m n found a ≡ found ++ a ∷ []
with_new m n found a other h =
    let both : (t u : Bool) → t ≡ false → u ≡ false → (if t || u then found else found ++ a ∷ []) ≡ found ++ a ∷ [] = λ t u e f. rw (e, f) in
    both _ _ (ne_eqb _ _ other) h

pub differing_step : (m n : Memory) (found new : List ℕ) (rows : List Slot) (i : ℕ) (whole : List ℕ) → i < length rows → differing_after m n found (drop i rows) ≡ whole
    → new ≡ with_differing m n found (slice_index_or rows i (record { address = 0; value = 0 })).address → differing_after m n new (drop (i + 1) rows) ≡ whole
differing_step m n found new rows i whole within before put =
    let front = drop-cons rows i (record { address = 0; value = 0 }) within in
    let moved = subst (λ (rs : List Slot). differing_after m n found rs ≡ whole) front before in
    rw (put, add-one) moved

none_left : (vs ws : List Value) → (vs ≡ []) ⊎ (ws ≡ []) → differences vs ws ≡ []
none_left [] ws h = refl
none_left (v ∷ vs) [] h = refl
none_left (v ∷ vs) (w ∷ ws) (inl h) = absurd (cc)
none_left (v ∷ vs) (w ∷ ws) (inr h) = absurd (cc)

pub differences_end : (out total : List Difference) (vs ws : List Value) → (vs ≡ []) ⊎ (ws ≡ []) → out ++ differences vs ws ≡ total → out ≡ total
differences_end out total vs ws none e = sym (append-nil out) ∙ sym (ap (λ r. out ++ r) (none_left vs ws none)) ∙ e
