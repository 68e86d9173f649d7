-- Tables that get rows.
use Rattle.std.specs.Prelude.{◌≡◌, ◌≤◌, ◌↔◌, ℕ, zero, suc, Bool, false, List, [], ◌∷◌, ◌++◌, Contains, length, map, if◌then◌else◌}
use Rattle.bd_model.specs.declared.table.Scalar.{Scalar}
use Rattle.bd_model.specs.declared.table.Scalar.TheVariants as scalar
use Rattle.bd_model.specs.declared.table.Row.{Row}
use Rattle.bd_model.specs.declared.table.Table.{Table}
use Rattle.bd_model.specs.Table.{at}
use Rattle.bd_model.specs.Value.{scalar_truth, scalar_word}
use Rattle.bd_terms.specs.declared.node.Sym.{Sym}
use Rattle.bd_terms.specs.declared.node.Node.{Node}
use Rattle.bd_terms.specs.declared.node.Node.TheVariants.{App, Pred}
use Rattle.bd_terms.specs.Graph.{IsGraph}
use Rattle.bd_terms.specs.Denotation.{World, applied}
use Rattle.bd_function.specs.Tables.{is_symbol}
use Rattle.bd_function.specs.declared.symbol_tables.SymTable.{SymTable}
use Rattle.bd_function.specs.inner.Scalars.{word_at}
use Rattle.bd_diverse.specs.declared.base_world.BaseWorld.{BaseWorld}
use Rattle.bd_diverse.specs.Positive.{IsPositive}
use Rattle.bd_diverse.specs.inner.Spread.{Spreading, spread_value, with_row}
use Rattle.bd_diverse.specs.inner.Valued.{IsValued, connective}

abbrev pub start_table : SymTable → SymTable
start_table t = record { sym = t.sym; table = record { default = at t.table []; rows = [] } }

-- the place of the symbol's table, or after all
abbrev pub place_of : List SymTable → Sym → ℕ
place_of [] s = 0
place_of (t ∷ ts) s = if is_symbol t.sym s then 0 else suc (place_of ts s)

abbrev pub table_with_row : SymTable → Row → SymTable
table_with_row t r = record { sym = t.sym; table = record { default = t.table.default; rows = t.table.rows ++ r ∷ [] } }

-- a row more in the table at the place
abbrev pub row_pushed : List SymTable → ℕ → Row → List SymTable
row_pushed [] p r = []
row_pushed (t ∷ ts) zero r = table_with_row t r ∷ ts
row_pushed (t ∷ ts) (suc p) r = t ∷ row_pushed ts p r

-- what is known of the old world
pub record IsOld (w : World) (nodes : List Node) (root : ℕ) (old : BaseWorld) : Type 0 where
  pub valued : IsValued w nodes (length nodes) old.scalars.items
  pub exact : (s : Sym) → Contains old.positive s ↔ IsPositive nodes root s
  pub small : (k : ℕ) → word_at old.scalars.items k ≤ old.bound
  pub constants : (s : Sym) → applied w s [] ≤ old.bound

-- the application's row is put after the others, and its value is that of the first row with its arguments
pub record AddsUse (w : World) (old : BaseWorld) (done : List Scalar) (s : Sym) (args : List ℕ) (before after : World) (x : Scalar) : Type 0 where
  pub row : Row
  pub is : row ≡ record { args = map (word_at done) args; value = spread_value old.positive old.bound w (length done) s (map (word_at old.scalars.items) args) }
  pub adds : (t : Sym) → after t ≡ with_row before s row t
  pub value : x ≡ at (with_row before s row s) (map (word_at done) args)

-- a term more
abbrev pub AddsTerm : World → BaseWorld → List Scalar → Node → World → World → Scalar → Type 0
AddsTerm w old done (App s args) before after x = (y : Scalar) × AddsUse w old done s args before after y × (x ≡ scalar.Word (scalar_word y))
AddsTerm w old done (Pred s args) before after x = (y : Scalar) × AddsUse w old done s args before after y × (x ≡ scalar.Bool (scalar_truth y))
AddsTerm w old done node before after x = ((t : Sym) → after t ≡ before t) × (x ≡ connective done node)

-- the world is that of all terms met
pub record SpreadsAll (w : World) (old : BaseWorld) (nodes : List Node) (root : ℕ) (new : World) : Type 0 where
  pub graph : IsGraph nodes
  pub done : List Scalar
  pub spreading : Spreading old.positive old.bound w nodes root (length nodes) done new
