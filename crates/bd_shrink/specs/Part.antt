-- What is a part of a case: its latches and inputs, and some of the rows of its tables and memories in their order.
-- Some values are 0, or false, in place of what they were.
use Rattle.std.specs.Prelude.{◌≡◌, ◌⊎◌, ℕ, List, [], ◌∷◌}
use Rattle.std.specs.List.{AllZip}
use Rattle.bd_model.specs.declared.table.Scalar.{Scalar}
use Rattle.bd_model.specs.declared.table.Row.{Row}
use Rattle.bd_model.specs.declared.table.Table.{Table}
use Rattle.bd_model.specs.declared.table.Slot.{Slot}
use Rattle.bd_model.specs.declared.table.Memory.{Memory}
use Rattle.bd_model.specs.declared.table.Value.{Value}
use Rattle.bd_model.specs.declared.table.Value.TheVariants as value
use Rattle.bd_model.specs.declared.case.Case.{Case}
use Rattle.bd_shrink.specs.Remnant.{remnant, zero_of}
use Rattle.bd_shrink.specs.declared.fate.Fate.{Fate}

-- the value that it had, or 0 or false
abbrev pub IsScalarPart : Scalar → Scalar → Type 0
IsScalarPart x y = (y ≡ x) ⊎ (y ≡ zero_of x)

abbrev pub IsWordPart : ℕ → ℕ → Type 0
IsWordPart m n = (n ≡ m) ⊎ (n ≡ 0)

-- a row with the same arguments
pub record IsRowPart (r s : Row) : Type 0 where
  pub args : s.args ≡ r.args
  pub value : IsScalarPart r.value s.value

-- a memory's row with the same address
pub record IsSlotPart (r s : Slot) : Type 0 where
  pub address : s.address ≡ r.address
  pub value : IsWordPart r.value s.value

-- parts of some items of a list, in their order
pub data AreSomeOf {X : Type 0} (IsPart : X → X → Type 0) : List X → List X → Type 0 where
  none : AreSomeOf IsPart [] []
  goes : (x : X) (xs ys : List X) → AreSomeOf IsPart xs ys → AreSomeOf IsPart (x ∷ xs) ys
  stays : (x y : X) (xs ys : List X) → IsPart x y → AreSomeOf IsPart xs ys →
      AreSomeOf IsPart (x ∷ xs) (y ∷ ys)

pub record IsTablePart (t u : Table) : Type 0 where
  pub default : IsScalarPart t.default u.default
  pub rows : AreSomeOf IsRowPart t.rows u.rows

pub record IsMemoryPart (m n : Memory) : Type 0 where
  pub default : IsWordPart m.default n.default
  pub rows : AreSomeOf IsSlotPart m.rows n.rows

-- a latch's value stays one, and a memory stays one
abbrev pub IsValuePart : Value → Value → Type 0
IsValuePart (value.Scalar x) (value.Scalar y) = IsScalarPart x y
IsValuePart (value.Scalar x) (value.Memory n) = ⊥
IsValuePart (value.Memory m) (value.Scalar y) = ⊥
IsValuePart (value.Memory m) (value.Memory n) = IsMemoryPart m n

-- a case with all tables, entries and inputs of another, in each of which a part is left
pub record IsPartOf (c s : Case) : Type 0 where
  pub interp : AllZip IsTablePart c.interp s.interp
  pub state : AllZip IsValuePart c.state s.state
  pub inputs : AllZip IsScalarPart c.inputs s.inputs

-- whatever becomes of its rows and values, what is left of a case is a part of it
abbrev pub RemnantIsPart : Type 0
RemnantIsPart = (fates : List Fate) (c : Case) → IsPartOf c (remnant fates c)
