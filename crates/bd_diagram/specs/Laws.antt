-- What a diagram says of the condition `commute`, its differences of what is the same, and two diagrams of what
-- differs in two cases.
use Rattle.std.specs.Prelude.{◌≡◌, ◌≢◌, ◌↔◌, ◌⊎◌, ℕ, IsTrue, List, length, slice_get, Some}
use Rattle.std.specs.List.{AllByRecursion, AllPairs, AllZip, Contains}
use Rattle.bd_model.specs.Table.{read}
use Rattle.bd_model.specs.DesignView.{DesignView}
use Rattle.bd_model.specs.Same.{Same}
use Rattle.bd_model.specs.Conditions.{Commutes}
use Rattle.bd_model.specs.declared.table.Memory.{Memory}
use Rattle.bd_model.specs.declared.table.Slot.{Slot}
use Rattle.bd_model.specs.declared.table.Value.{Value}
use Rattle.bd_model.specs.declared.case.Case.{Case}
use Rattle.bd_diagram.specs.Alike.{IsAlike, DiffersAlike}
use Rattle.bd_diagram.specs.Differs.{differing, differences}
use Rattle.bd_diagram.specs.Diagrams.{IsDiagram}
use Rattle.bd_diagram.specs.declared.comparison.Comparison.{Comparison}
use Rattle.bd_diagram.specs.declared.diagram.Diagram.{Diagram}
use Rattle.bd_diagram.specs.declared.difference.Difference.{Difference}
use Rattle.bd_diagram.specs.declared.difference.Difference.TheVariants.{Nothing}

-- some allowed number of steps is the same exactly where `commute` holds
abbrev pub CommutesWhereSame : Type 0
CommutesWhereSame =
    (d : DesignView) (c : Case) (g : Diagram) → IsDiagram d c g →
    ((j : ℕ) × (x : Comparison) × (slice_get g.comparisons j ≡ Some x)
    × IsTrue x.allowed × IsTrue x.same)
    ↔ Commutes d c.interp c.state c.inputs

-- states are the same exactly where as many values show no difference
abbrev pub SameWhereNoDifference : Type 0
SameWhereNoDifference =
    (first second : List Value) →
    Same first second
    ↔ ((length first ≡ length second)
    × AllByRecursion (λ (e : Difference). e ≡ Nothing) (differences first second))

-- some row of a memory has this address
abbrev pub IsInRow : Memory → ℕ → Type 0
IsInRow m a = (s : Slot) × Contains m.rows s × (s.address ≡ a)

-- no row of a memory has this address
abbrev pub IsInNoRow : Memory → ℕ → Type 0
IsInNoRow m a = AllByRecursion (λ (s : Slot). s.address ≢ a) m.rows

-- the addresses that are found are just those, in a row of either memory, at which the two read differently, each once;
-- at an address that is in no row they read differently where their defaults do
pub record FindsWhereDiffer (m n : Memory) : Type 0 where
  pub differ : (a : ℕ) → Contains (differing m n) a → read m a ≢ read n a
  pub in_row : (a : ℕ) → Contains (differing m n) a → IsInRow m a ⊎ IsInRow n a
  pub all : (a : ℕ) → read m a ≢ read n a →
      Contains (differing m n) a
      ⊎ (IsInNoRow m a × IsInNoRow n a × (m.default ≢ n.default))
  pub once : AllPairs (λ (a b : ℕ). a ≢ b) (differing m n)

abbrev pub AddressesFound : Type 0
AddressesFound = (m n : Memory) → FindsWhereDiffer m n

-- two diagrams say the same of each number of steps exactly where the same differs in their cases
abbrev pub AlikeWhereCompared : Type 0
AlikeWhereCompared =
    (d : DesignView) (c s : Case) (g h : Diagram) → IsDiagram d c g → IsDiagram d s h →
    AllZip IsAlike g.comparisons h.comparisons ↔ DiffersAlike d c s
