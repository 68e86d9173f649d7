-- The way back from values of the variables: each symbol's rows, read as a table (Bryant, German and Velev 2001).
use Rattle.std.specs.Prelude.{ℕ, Bool, false, ◌==◌, List, [], ◌∷◌, map, if◌then◌else◌}
use Rattle.bd_model.specs.declared.table.Scalar.{Scalar}
use Rattle.bd_model.specs.declared.table.Scalar.TheVariants as scalar
use Rattle.bd_model.specs.declared.table.Row.{Row}
use Rattle.bd_model.specs.declared.table.Table.{Table}
use Rattle.bd_model.specs.Value.{no_table}
use Rattle.bd_terms.specs.declared.node.Node.{Node}
use Rattle.bd_terms.specs.declared.node.Sym.{Sym}
use Rattle.bd_terms.specs.declared.node.Sym.TheVariants.{Function, Entry, Input, Address, Var}
use Rattle.bd_terms.specs.Denotation.{World}
use Rattle.bd_function.specs.declared.flat.FlatSym.{FlatSym}
use Rattle.bd_function.specs.declared.symbol_tables.SymTable.{SymTable}
use Rattle.bd_function.specs.Flat.{row_of}

-- whether two symbols are the same
abbrev pub is_symbol : Sym → Sym → Bool
is_symbol (Function a) (Function b) = a == b
is_symbol (Entry a) (Entry b) = a == b
is_symbol (Input a) (Input b) = a == b
is_symbol (Address a) (Address b) = a == b
is_symbol (Var a) (Var b) = a == b
is_symbol _ _ = false

-- false or 0, by the scalar's sort
abbrev pub zero_like : Scalar → Scalar
zero_like (scalar.Bool b) = scalar.Bool false
zero_like (scalar.Word n) = scalar.Word 0

abbrev pub default_by : List ℕ → Scalar → Scalar
default_by [] value = value
default_by (a ∷ args) value = zero_like value

-- the value at arguments of no row: false or 0, by the sort of the first row's value; without arguments that value
abbrev pub default_of : List Row → Scalar
default_of [] = scalar.Bool false
default_of (r ∷ rs) = default_by r.args r.value

-- the table with these rows
abbrev pub table_with : List Row → Table
table_with rows = record { default = default_of rows; rows = rows }

-- the table of a symbol: its rows in their order, the arguments' values and the variable's
abbrev pub sym_table : (ℕ → Scalar) → List Node → FlatSym → SymTable
sym_table v nodes s = record { sym = s.sym; table = table_with (map (row_of v nodes) s.rows) }

abbrev pub sym_tables : (ℕ → Scalar) → List Node → List FlatSym → List SymTable
sym_tables v nodes syms = map (sym_table v nodes) syms

-- the world that gives each symbol its table in the list, and no table to others
abbrev pub world_of_tables : List SymTable → World
world_of_tables [] s = no_table
world_of_tables (t ∷ ts) s = if is_symbol t.sym s then t.table else world_of_tables ts s
