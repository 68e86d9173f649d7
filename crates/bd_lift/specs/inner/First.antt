-- Tables of first rows: of rows with the same arguments the first one.
use Rattle.std.specs.Prelude.{◌≡◌, ℕ, List, All, Contains, Vec}
use Rattle.std.specs.List.{AllByRecursion, AllZip}
use Rattle.std.specs.declared.alloc.Global.{Global}
use Rattle.bd_model.specs.declared.table.Scalar.{Scalar}
use Rattle.bd_model.specs.declared.table.Row.{Row}
use Rattle.bd_model.specs.Table.{row_value}
use Rattle.bd_function.specs.declared.symbol_tables.SymTable.{SymTable}
use Rattle.bd_lift.specs.Counting.{ArgumentsDiffer}

-- these rows have the same value as those at all arguments, whatever the default
abbrev pub HaveSameValues : List Row → List Row → Type 0
HaveSameValues rows those =
    (args : List ℕ) (default : Scalar) → row_value rows args default ≡ row_value those args default

-- some of the rows, with the same values as all of them
pub record AreEnough (rows some : List Row) : Type 0 where
  pub same : HaveSameValues some rows
  pub among : All (Contains rows) some

-- the same symbol and default, with enough of the rows
pub record IsAlike (t some : SymTable) : Type 0 where
  pub symbol : some.sym ≡ t.sym
  pub default : some.table.default ≡ t.table.default
  pub rows : AreEnough t.table.rows some.table.rows

abbrev pub AreAlike : List SymTable → List SymTable → Type 0
AreAlike tables some = AllZip IsAlike tables some

-- no two rows of a table have the same arguments
abbrev pub RowsDiffer : List SymTable → Type 0
RowsDiffer tables = AllByRecursion (λ (t : SymTable). ArgumentsDiffer t.table.rows) tables

-- a map's entry as a row
abbrev pub entry_row : Vec ℕ Global × Scalar → Row
entry_row e = record { args = e.0.items; value = e.1 }
