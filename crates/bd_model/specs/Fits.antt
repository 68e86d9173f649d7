-- Interpretations, states, inputs, cases and trails that fit a design.
use Rattle.std.specs.Prelude.{◌≡◌, ◌≢◌, ℕ, List, [], length, if◌then◌else◌}
use Rattle.std.specs.List.{AllZip, AllByRecursion, AllPairs}
use Rattle.bd_model.specs.DesignView.{DesignView, PortView}
use Rattle.bd_model.specs.Value.{table_of}
use Rattle.bd_model.specs.declared.table.Scalar.{Scalar}
use Rattle.bd_model.specs.declared.table.Scalar.TheVariants as scalar
use Rattle.bd_model.specs.declared.table.Row.{Row}
use Rattle.bd_model.specs.declared.table.Table.{Table}
use Rattle.bd_model.specs.declared.table.Value.{Value}
use Rattle.bd_model.specs.declared.table.Value.TheVariants as value
use Rattle.bd_model.specs.declared.design.Sort.{Sort}
use Rattle.bd_model.specs.declared.design.Sort.TheVariants as sort
use Rattle.bd_model.specs.declared.design.Symbol.{Symbol}
use Rattle.bd_model.specs.declared.design.Entry.{Entry}
use Rattle.bd_model.specs.declared.case.Case.{Case}
use Rattle.bd_model.specs.declared.case.Trail.{Trail}

abbrev pub scalar_sort : Scalar → Sort
scalar_sort (scalar.Bool b) = sort.Bool
scalar_sort (scalar.Word n) = sort.Word

abbrev pub value_sort : Value → Sort
value_sort (value.Scalar x) = scalar_sort x
value_sort (value.Memory m) = sort.Memory

-- the sort of a symbol's applications
abbrev pub result_sort : Symbol → Sort
result_sort s = if s.predicate then sort.Bool else sort.Word

pub record RowFits (s : Symbol) (r : Row) : Type 0 where
  pub arity : length r.args ≡ s.arity
  pub value : scalar_sort r.value ≡ result_sort s

pub record TableFits (s : Symbol) (t : Table) : Type 0 where
  pub default : scalar_sort t.default ≡ result_sort s
  pub rows : AllByRecursion (RowFits s) t.rows

-- two constants have different values
abbrev pub DefaultsDiffer : List Table → ℕ → ℕ → Type 0
DefaultsDiffer interp f g = (table_of interp f).default ≢ (table_of interp g).default

-- the constants of a group have tables without rows, and different values
pub record KeepsApart (interp : List Table) (group : List ℕ) : Type 0 where
  pub no_rows : AllByRecursion (λ f. (table_of interp f).rows ≡ []) group
  pub different : AllPairs (DefaultsDiffer interp) group

-- an interpretation: a table for each symbol, of its arity and sort, that keeps the constants apart
pub record InterpFits (d : DesignView) (interp : List Table) : Type 0 where
  pub tables : AllZip TableFits d.symbols interp
  pub apart : AllByRecursion (KeepsApart interp) d.distinct

-- values of the entries' sorts
abbrev pub ValuesFit : List Entry → List Value → Type 0
ValuesFit entries values = AllZip (λ (e : Entry) v. value_sort v ≡ e.sort) entries values

-- scalars of the inputs' sorts
abbrev pub ScalarsFit : List PortView → List Scalar → Type 0
ScalarsFit ports scalars = AllZip (λ (p : PortView) x. scalar_sort x ≡ p.sort) ports scalars

abbrev pub StateFits : DesignView → List Value → Type 0
StateFits d state = ValuesFit d.pipe.entries state

abbrev pub InputsFit : DesignView → List Scalar → Type 0
InputsFit d inputs = ScalarsFit d.pipe.ports inputs

pub record Fits (d : DesignView) (c : Case) : Type 0 where
  pub interp : InterpFits d c.interp
  pub state : StateFits d c.state
  pub inputs : InputsFit d c.inputs

pub record TrailFits (d : DesignView) (t : Trail) : Type 0 where
  pub interp : InterpFits d t.interp
  pub state : StateFits d t.state
  pub inputs : AllByRecursion (InputsFit d) t.inputs
