-- What the invariant says in the states before the cycle and after it: the values of its lets and of its conjuncts.
use Rattle.std.specs.Prelude.{◌≡◌, ℕ, false, List, [], ◌∷◌, ◌++◌, Option, Some, None, map, slice_get}
use Rattle.std.specs.List.{AllZip}
use Rattle.bd_model.specs.DesignView.{DesignView}
use Rattle.bd_model.specs.ExprView.{ExprView, And, list_of_views}
use Rattle.bd_model.specs.Value.{Env, let_values, value_of}
use Rattle.bd_model.specs.declared.case.Case.{Case}
use Rattle.bd_model.specs.declared.table.Scalar.{Scalar}
use Rattle.bd_model.specs.declared.table.Scalar.TheVariants as scalar
use Rattle.bd_model.specs.declared.table.Table.{Table}
use Rattle.bd_model.specs.declared.table.Value.{Value}
use Rattle.bd_diagram.specs.declared.diagram.Diagram.{Diagram}
use Rattle.bd_slice.specs.Columns.{spot_value}
use Rattle.bd_slice.specs.declared.place.Column.{Column}
use Rattle.bd_slice.specs.declared.place.Column.TheVariants as column
use Rattle.bd_picture.specs.declared.claims.ClaimValues.{ClaimValues}
use Rattle.bd_picture.specs.declared.grid.Signal.{Signal}
use Rattle.bd_picture.specs.declared.grid.Signal.TheVariants as place
use Rattle.bd_picture.specs.declared.grid.Content.TheVariants as content
use Rattle.bd_picture.specs.declared.grid.Cell.{Cell}
use Rattle.bd_picture.specs.declared.grid.Look.TheVariants as look
use Rattle.bd_picture.specs.declared.grid.Head.{Head}
use Rattle.bd_picture.specs.declared.grid.GridRow.{GridRow}

-- the conjuncts of an expression: the parts of an `and`, or the expression itself
abbrev pub conjuncts : ExprView → List ExprView
conjuncts (And parts) = list_of_views parts
conjuncts e = e ∷ []

-- where an invariant is valued: in a state, where its lets have these values
abbrev pub after_lets : List Table → List Value → List Value → Env
after_lets interp state lets =
    record { interp = interp; state = state; inputs = []; locals = lets }

-- the values of an expression's conjuncts there
abbrev pub conjunct_values : ExprView → List Table → List Value → List Value → List Value
conjunct_values e interp state lets = map (value_of (after_lets interp state lets)) (conjuncts e)

-- the values of the invariant's lets in a state, and after them those of its conjuncts
abbrev pub claim_values : DesignView → List Table → List Value → List Value
claim_values d interp state =
    let lets = let_values interp state [] d.inv_locals in
    lets ++ conjunct_values d.inv interp state lets

abbrev pub claims_of : DesignView → List Table → Option (List Value) → List Value
claims_of d interp (Some state) = claim_values d interp state
claims_of d interp None = []

-- the same in the state of a column: after the cycle, else before it
abbrev pub values_in : DesignView → Case → Diagram → Column → List Value
values_in d c g (column.After n) = claims_of d c.interp (slice_get g.after.states 0)
values_in d c g (column.Before n) = claim_values d c.interp c.state
values_in d c g (column.Steps j) = claim_values d c.interp c.state

-- these values in the state of a column
abbrev pub shown_in : ClaimValues → Column → List Value
shown_in values (column.After n) = values.after.items
shown_in values (column.Before n) = values.before.items
shown_in values (column.Steps j) = values.before.items

-- these are the values in both states
pub record AreClaims (d : DesignView) (c : Case) (g : Diagram) (values : ClaimValues) : Type 0 where
  pub before : values.before.items ≡ claim_values d c.interp c.state
  pub after : values.after.items ≡ claims_of d c.interp (slice_get g.after.states 0)

-- the cell shows this value, and `#` stands only by false
pub record ShowsClaim (value : Scalar) (cell : Cell) : Type 0 where
  pub shown : cell.content ≡ content.Value value
  pub signed : cell.look ≡ look.Different → value ≡ scalar.Bool false

-- a cell of the table, under its heading: the value of a let or conjunct in that state, by its number
abbrev pub IsClaimsCell : DesignView → Case → Diagram → Signal → Head → Cell → Type 0
IsClaimsCell d c g (place.Value s) h cell = ShowsClaim (spot_value (values_in d c g h.column) s) cell
IsClaimsCell d c g (place.Input i) h cell = ⊥

-- the cells of a row, under their headings
abbrev pub IsClaimsRow : DesignView → Case → Diagram → List Head → GridRow → Type 0
IsClaimsRow d c g heads row = AllZip (IsClaimsCell d c g row.place) heads row.cells.items
