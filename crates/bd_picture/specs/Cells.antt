-- What the cells of the tables show: values of the diagram of a case.
use Rattle.std.specs.Prelude.{◌≡◌, ◌≢◌, ◌-◌, ◌==◌, ⊤, ℕ, List, Option, Some, None, slice_get, if◌then◌else◌, IfSome}
use Rattle.std.specs.Option.{option_map, option_and_then}
use Rattle.std.specs.List.{All, AllZip}
use Rattle.bd_model.specs.DesignView.{DesignView}
use Rattle.bd_model.specs.declared.table.Scalar.{Scalar}
use Rattle.bd_model.specs.declared.table.Value.{Value}
use Rattle.bd_model.specs.declared.case.Case.{Case}
use Rattle.bd_diagram.specs.declared.flushing.Flushing.{Flushing}
use Rattle.bd_diagram.specs.declared.diagram.Diagram.{Diagram}
use Rattle.bd_slice.specs.Columns.{spot_value}
use Rattle.bd_slice.specs.declared.place.Column.{Column}
use Rattle.bd_slice.specs.declared.place.Column.TheVariants as column
use Rattle.bd_slice.specs.declared.place.Location.{Location}
use Rattle.bd_picture.specs.declared.grid.Signal.{Signal}
use Rattle.bd_picture.specs.declared.grid.Signal.TheVariants as place
use Rattle.bd_picture.specs.declared.grid.Content.{Content}
use Rattle.bd_picture.specs.declared.grid.Content.TheVariants as content
use Rattle.bd_picture.specs.declared.grid.Cell.{Cell}
use Rattle.bd_picture.specs.declared.grid.Look.{Look}
use Rattle.bd_picture.specs.declared.grid.Look.TheVariants as look
use Rattle.bd_picture.specs.declared.grid.Head.{Head}
use Rattle.bd_picture.specs.declared.grid.GridRow.{GridRow}
use Rattle.bd_picture.specs.declared.picture.Tables.{Tables}
use Rattle.bd_picture.specs.Claims.{IsClaimsRow}

-- a value of one of these states
abbrev pub state_value : List (List Value) → ℕ → Location → Option Scalar
state_value states n s = option_map (λ state. spot_value state s) (slice_get states n)

-- the value of an input in the flush cycle that ends in a state
abbrev pub flush_input : Flushing → ℕ → ℕ → Option Scalar
flush_input f n i =
    if n == 0 then None else option_and_then (λ inputs. slice_get inputs i) (slice_get f.inputs (n - 1))

-- the value of an input in the cycle that leads to a state
abbrev pub input_in : Case → Diagram → ℕ → Column → Option Scalar
input_in c g i (column.Before n) = flush_input g.before n i
input_in c g i (column.After n) =
    if n == 0 then slice_get c.inputs i else flush_input g.after n i
input_in c g i (column.Steps j) = None

-- the value that a line has in a state of the pipeline
abbrev pub value_in : Case → Diagram → Signal → Column → Option Scalar
value_in c g (place.Value s) (column.Before n) = state_value g.before.states n s
value_in c g (place.Value s) (column.After n) = state_value g.after.states n s
value_in c g (place.Value s) (column.Steps j) = None
value_in c g (place.Input i) which = input_in c g i which

-- the state before a state, on the same way
abbrev pub earlier : Column → Option Column
earlier (column.Before n) = if n == 0 then None else Some (column.Before (n - 1))
earlier (column.After n) = if n == 0 then None else Some (column.After (n - 1))
earlier (column.Steps j) = if j == 0 then None else Some (column.Steps (j - 1))

-- there is a state before, on the same way, and the line has the same value there
pub record Stays (c : Case) (g : Diagram) (p : Signal) (which : Column) : Type 0 where
  pub before : Column
  pub is_before : earlier which ≡ Some before
  pub same : value_in c g p which ≡ value_in c g p before

-- what a cell of the states shows: the value that its line has there, that it has the value of the state before, that
-- there is none, or `.`, which says nothing
abbrev pub IsContent : Case → Diagram → Signal → Column → Content → Type 0
IsContent c g p which (content.Value x) = value_in c g p which ≡ Some x
IsContent c g p which content.Unchanged = Stays c g p which
IsContent c g p which content.Nothing = value_in c g p which ≡ None
IsContent c g p which content.Hidden = ⊤

-- a cell of the states, under its heading
abbrev pub IsStatesCell : Case → Diagram → Signal → Head → Cell → Type 0
IsStatesCell c g p h cell = IsContent c g p h.column cell.content

-- the cells of a row of the states, under their headings
abbrev pub IsStatesRow : Case → Diagram → List Head → GridRow → Type 0
IsStatesRow c g heads row = AllZip (IsStatesCell c g row.place) heads row.cells.items

-- the value of the specification's entry in a state that is compared: where the pipeline stands, or after some steps
abbrev pub compared_in : Diagram → Location → Column → Option Scalar
compared_in g s (column.Steps j) =
    option_map (λ x. spot_value x.visible s) (slice_get g.comparisons j)
compared_in g s which = Some (spot_value g.visible s)

-- what a cell of the compared states shows: its value, or that there is none
abbrev pub IsCompared : Diagram → Location → Column → Content → Type 0
IsCompared g s which (content.Value x) = compared_in g s which ≡ Some x
IsCompared g s which content.Nothing = compared_in g s which ≡ None
IsCompared g s which content.Unchanged = ⊥
IsCompared g s which content.Hidden = ⊥

-- `=` stands only by the value that the pipeline has where it stands, and `#` only by another
abbrev pub IsSigned : Diagram → Location → Look → Content → Type 0
IsSigned g s look.Same shown = shown ≡ content.Value (spot_value g.visible s)
IsSigned g s look.Different shown = shown ≢ content.Value (spot_value g.visible s)
IsSigned g s look.Plain shown = ⊤
IsSigned g s look.Changed shown = ⊤

-- a cell of the compared states; there are no inputs among these
abbrev pub IsStepsCell : Diagram → Signal → Head → Cell → Type 0
IsStepsCell g (place.Value s) h cell =
    IsCompared g s h.column cell.content × IsSigned g s cell.look cell.content
IsStepsCell g (place.Input i) h cell = cell.content ≡ content.Nothing

-- the cells of a row of the compared states, under their headings
abbrev pub IsStepsRow : Diagram → List Head → GridRow → Type 0
IsStepsRow g heads row = AllZip (IsStepsCell g row.place) heads row.cells.items

-- the cells of all tables are those of the diagram, and of what the invariant says in its states
pub record ArePrinted (d : DesignView) (c : Case) (g : Diagram) (t : Tables) : Type 0 where
  pub claims : IfSome t.claims (λ s. All (IsClaimsRow d c g s.heads.items) s.rows.items)
  pub states : All (IsStatesRow c g t.states.heads.items) t.states.rows.items
  pub steps : IfSome t.steps (λ s. All (IsStepsRow g s.heads.items) s.rows.items)
