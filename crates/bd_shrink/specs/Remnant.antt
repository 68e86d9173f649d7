-- What is left of a case where rows go and values become 0. A list has the fates in order: for each table that of
-- its default and those of its rows; for each entry that of a scalar, or those of a memory's default and rows;
-- and that of each input. What has no fate goes.
use Rattle.std.specs.Prelude.{ℕ, false, List, [], ◌∷◌, ◌++◌, drop}
use Rattle.bd_model.specs.declared.table.Scalar.{Scalar}
use Rattle.bd_model.specs.declared.table.Scalar.TheVariants as scalar
use Rattle.bd_model.specs.declared.table.Row.{Row}
use Rattle.bd_model.specs.declared.table.Table.{Table}
use Rattle.bd_model.specs.declared.table.Slot.{Slot}
use Rattle.bd_model.specs.declared.table.Memory.{Memory}
use Rattle.bd_model.specs.declared.table.Value.{Value}
use Rattle.bd_model.specs.declared.table.Value.TheVariants as value
use Rattle.bd_model.specs.declared.case.Case.{Case}
use Rattle.bd_shrink.specs.declared.fate.Fate.{Fate}
use Rattle.bd_shrink.specs.declared.fate.Fate.TheVariants.{Stays, Zero, Gone}

abbrev pub first_fate : List Fate → Fate
first_fate [] = Gone
first_fate (f ∷ fs) = f

-- 0, or false for a truth value
abbrev pub zero_of : Scalar → Scalar
zero_of (scalar.Bool b) = scalar.Bool false
zero_of (scalar.Word n) = scalar.Word 0

abbrev pub scalar_left : Fate → Scalar → Scalar
scalar_left Stays x = x
scalar_left Zero x = zero_of x
scalar_left Gone x = zero_of x

abbrev pub word_left : Fate → ℕ → ℕ
word_left Stays n = n
word_left Zero n = 0
word_left Gone n = 0

-- a row, no row where it goes
abbrev pub row_left : Fate → Row → List Row
row_left Stays r = r ∷ []
row_left Zero r = record { args = r.args; value = zero_of r.value } ∷ []
row_left Gone r = []

abbrev pub slot_left : Fate → Slot → List Slot
slot_left Stays s = s ∷ []
slot_left Zero s = record { address = s.address; value = 0 } ∷ []
slot_left Gone s = []

-- what is left of each item of a list, the fates of which come before those of the later items
abbrev pub each_left :
    {X : Type 0} → (List Fate → X → List X) → (List Fate → X → List Fate) → List Fate → List X →
    List X
each_left left after fates [] = []
each_left left after fates (x ∷ xs) = left fates x ++ each_left left after (after fates x) xs

-- the fates after those of all items
abbrev pub after_each : {X : Type 0} → (List Fate → X → List Fate) → List Fate → List X → List Fate
after_each after fates [] = fates
after_each after fates (x ∷ xs) = after_each after (after fates x) xs

-- the fates after the first
abbrev pub after_one : {X : Type 0} → List Fate → X → List Fate
after_one fates x = drop 1 fates

abbrev pub rows_left : List Fate → List Row → List Row
rows_left fates rows = each_left (λ (fs : List Fate) (r : Row). row_left (first_fate fs) r) after_one fates rows

abbrev pub slots_left : List Fate → List Slot → List Slot
slots_left fates rows = each_left (λ (fs : List Fate) (s : Slot). slot_left (first_fate fs) s) after_one fates rows

abbrev pub after_table : List Fate → Table → List Fate
after_table fates t = after_each after_one (drop 1 fates) t.rows

abbrev pub table_left : List Fate → Table → Table
table_left fates t = record {
  default = scalar_left (first_fate fates) t.default;
  rows = rows_left (drop 1 fates) t.rows;
}

abbrev pub tables_left : List Fate → List Table → List Table
tables_left fates tables = each_left (λ (fs : List Fate) (t : Table). table_left fs t ∷ []) after_table fates tables

abbrev pub after_value : List Fate → Value → List Fate
after_value fates (value.Scalar x) = drop 1 fates
after_value fates (value.Memory m) = after_each after_one (drop 1 fates) m.rows

abbrev pub memory_left : List Fate → Memory → Memory
memory_left fates m = record {
  default = word_left (first_fate fates) m.default;
  rows = slots_left (drop 1 fates) m.rows;
}

abbrev pub value_left : List Fate → Value → Value
value_left fates (value.Scalar x) = value.Scalar (scalar_left (first_fate fates) x)
value_left fates (value.Memory m) = value.Memory (memory_left fates m)

abbrev pub values_left : List Fate → List Value → List Value
values_left fates values = each_left (λ (fs : List Fate) (v : Value). value_left fs v ∷ []) after_value fates values

abbrev pub scalars_left : List Fate → List Scalar → List Scalar
scalars_left fates scalars =
    each_left (λ (fs : List Fate) (x : Scalar). scalar_left (first_fate fs) x ∷ []) after_one fates scalars

-- what is left of a case
abbrev pub remnant : List Fate → Case → Case
remnant fates c =
    let state_fates = after_each after_table fates c.interp in
    record {
      interp = tables_left fates c.interp;
      state = values_left state_fates c.state;
      inputs = scalars_left (after_each after_value state_fates c.state) c.inputs;
    }
