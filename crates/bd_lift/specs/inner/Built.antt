-- The case that tables give: constants and functions, first latches and memories, and inputs.
use Rattle.std.specs.Prelude.{◌≡◌, ◌+◌, ◌*◌, ◌==◌, ◌&&◌, not, ℕ, Bool, true, false, suc, List, [], ◌∷◌, map, slice_index_or, if◌then◌else◌}
use Rattle.bd_model.specs.DesignView.{DesignView, PortView}
use Rattle.bd_model.specs.Fits.{result_sort}
use Rattle.bd_model.specs.Value.{scalar_truth, scalar_word, slot_of}
use Rattle.bd_model.specs.declared.design.Sort.{Sort}
use Rattle.bd_model.specs.declared.design.Sort.TheVariants as sort
use Rattle.bd_model.specs.declared.design.Symbol.{Symbol}
use Rattle.bd_model.specs.declared.design.Entry as entry
use Rattle.bd_model.specs.declared.table.Scalar.{Scalar}
use Rattle.bd_model.specs.declared.table.Scalar.TheVariants as scalar
use Rattle.bd_model.specs.declared.table.Row.{Row}
use Rattle.bd_model.specs.declared.table.Table.{Table}
use Rattle.bd_model.specs.declared.table.Value.{Value}
use Rattle.bd_model.specs.declared.table.Value.TheVariants as value
use Rattle.bd_terms.specs.declared.node.Sym.{Sym}
use Rattle.bd_terms.specs.declared.node.Sym.TheVariants as symbol
use Rattle.bd_terms.specs.Denotation.{World}
use Rattle.bd_function.specs.Tables.{is_symbol}

-- each item with its place, from the first one's on
abbrev pub numbered : {X Y : Type 0} → (ℕ → X → Y) → ℕ → List X → List Y
numbered f place [] = []
numbered f place (x ∷ xs) = f place x ∷ numbered f (suc place) xs

-- the scalar as one of the sort
abbrev pub scalar_as : Sort → Scalar → Scalar
scalar_as sort.Bool x = scalar.Bool (scalar_truth x)
scalar_as sort.Word x = scalar.Word (scalar_word x)
scalar_as sort.Memory x = scalar.Bool (scalar_truth x)

abbrev pub has_no_row : List Row → Bool
has_no_row [] = true
has_no_row (r ∷ rs) = false

-- the default of a function: a constant without a variable has a number of its own
abbrev pub function_default : ℕ → ℕ → Symbol → Table → Scalar
function_default classes f y t =
    if (has_no_row t.rows && (y.arity == 0)) && not y.predicate
    then scalar.Word (classes + 2 * f + 1) else scalar_as (result_sort y) t.default

-- a constant has no rows
abbrev pub function_table : ℕ → ℕ → Symbol → Table → Table
function_table classes f y t =
    record { default = function_default classes f y t; rows = if y.arity == 0 then [] else t.rows }

abbrev pub entry_value : Sort → Table → Value
entry_value sort.Bool t = value.Scalar (scalar_as sort.Bool t.default)
entry_value sort.Word t = value.Scalar (scalar_as sort.Word t.default)
entry_value sort.Memory t =
    value.Memory (record { default = scalar_word t.default; rows = map slot_of t.rows })

-- the case of a world of tables
abbrev pub functions_of : ℕ → World → List Symbol → List Table
functions_of classes w symbols = numbered (λ f y. function_table classes f y (w (symbol.Function f))) 0 symbols

abbrev pub state_of : World → List entry.Entry → List Value
state_of w entries = numbered (λ i (x : entry.Entry). entry_value x.sort (w (symbol.Entry i))) 0 entries

abbrev pub inputs_of : World → List PortView → List Scalar
inputs_of w ports = numbered (λ i (p : PortView). scalar_as p.sort (w (symbol.Input i)).default) 0 ports

-- a case in the making, as one of a world
pub record IsBuilt (d : DesignView) (classes : ℕ) (w : World) (interp : List Table) (state : List Value) (inputs : List Scalar) : Type 0 where
  pub functions : interp ≡ functions_of classes w d.symbols
  pub entries : state ≡ state_of w d.pipe.entries
  pub ports : inputs ≡ inputs_of w d.pipe.ports

-- the world with this table for the symbol
abbrev pub with_table : World → Sym → Table → World
with_table w sym t = λ s. if is_symbol sym s then t else w s
