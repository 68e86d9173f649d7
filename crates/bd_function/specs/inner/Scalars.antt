-- What the terms of a flat graph denote, as scalars.
use Rattle.std.specs.Prelude.{ℕ, Bool, true, false, not, ◌&&◌, ◌||◌, ◌==◌, List, map, slice_index_or, if◌then◌else◌}
use Rattle.bd_model.specs.declared.table.Scalar.{Scalar}
use Rattle.bd_model.specs.declared.table.Scalar.TheVariants as scalar
use Rattle.bd_model.specs.declared.table.Row.{Row}
use Rattle.bd_model.specs.Value.{scalar_truth, scalar_word}
use Rattle.bd_terms.specs.declared.node.Sym.{Sym}
use Rattle.bd_terms.specs.declared.node.Sym.TheVariants.{Var}
use Rattle.bd_terms.specs.declared.node.Node.{Node}
use Rattle.bd_terms.specs.declared.node.Node.TheVariants.{True, Not, And, Or, Ite, Eq, App, Pred}
use Rattle.bd_terms.specs.Denotation.{Denoted, Truth, Word}
use Rattle.bd_function.specs.declared.flat.FlatRow.{FlatRow}
use Rattle.bd_function.specs.declared.flat.FlatSym.{FlatSym}
use Rattle.bd_function.specs.declared.symbol_tables.SymTable.{SymTable}
use Rattle.bd_function.specs.Tables.{table_with}

abbrev pub as_denoted : Scalar → Denoted
as_denoted (scalar.Bool b) = Truth b
as_denoted (scalar.Word n) = Word n

abbrev pub scalar_at : List Scalar → ℕ → Scalar
scalar_at done a = slice_index_or done a (scalar.Bool false)

abbrev pub truth_at : List Scalar → ℕ → Bool
truth_at done a = scalar_truth (scalar_at done a)

abbrev pub word_at : List Scalar → ℕ → ℕ
word_at done a = scalar_word (scalar_at done a)

-- the value of a variable, and false for any other symbol
abbrev pub symbol_value : (ℕ → Scalar) → Sym → Scalar
symbol_value v (Var x) = v x
symbol_value v _ = scalar.Bool false

-- what a node of no memory denotes, from what those before it do
abbrev pub node_scalar : (ℕ → Scalar) → List Scalar → Node → Scalar
node_scalar v done True = scalar.Bool true
node_scalar v done (Not a) = scalar.Bool (not (truth_at done a))
node_scalar v done (And a b) = scalar.Bool (truth_at done a && truth_at done b)
node_scalar v done (Or a b) = scalar.Bool (truth_at done a || truth_at done b)
node_scalar v done (Ite c a b) = if truth_at done c then scalar_at done a else scalar_at done b
node_scalar v done (Eq a b) = scalar.Bool (word_at done a == word_at done b)
node_scalar v done (App s args) = scalar.Word (scalar_word (symbol_value v s))
node_scalar v done (Pred s args) = scalar.Bool (scalar_truth (symbol_value v s))
node_scalar v done _ = scalar.Bool false

-- the row and the table that the terms' scalars give
abbrev pub row_from : (ℕ → Scalar) → List Scalar → FlatRow → Row
row_from v done r = record { args = map (word_at done) r.args; value = v r.var }

abbrev pub sym_table_from : (ℕ → Scalar) → List Scalar → FlatSym → SymTable
sym_table_from v done s = record { sym = s.sym; table = table_with (map (row_from v done) s.rows) }
