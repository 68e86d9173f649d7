-- What decides a value of the diagram: a slice (Weiser 1981) of the run of a case, here of its values.
use Rattle.std.specs.Prelude.{◌≡◌, List, false, slice_index_or}
use Rattle.bd_model.specs.DesignView.{DesignView}
use Rattle.bd_model.specs.Table.{read}
use Rattle.bd_model.specs.Value.{truth, scalar_of, memory_of}
use Rattle.bd_model.specs.Cycle.{step, flush_cycles, flushed, spec_steps}
use Rattle.bd_model.specs.Fits.{Fits}
use Rattle.bd_model.specs.declared.table.Scalar.{Scalar}
use Rattle.bd_model.specs.declared.table.Scalar.TheVariants as scalar
use Rattle.bd_model.specs.declared.table.Value.{Value}
use Rattle.bd_model.specs.declared.case.Case.{Case}
use Rattle.bd_slice.specs.Places.{AgreesOn}
use Rattle.bd_slice.specs.declared.place.CasePlace.{CasePlace}
use Rattle.bd_slice.specs.declared.place.Column.{Column}
use Rattle.bd_slice.specs.declared.place.Column.TheVariants as column
use Rattle.bd_slice.specs.declared.place.Location.{Location}
use Rattle.bd_slice.specs.declared.place.Location.TheVariants as spot

-- a state of the diagram of a case
abbrev pub column_state : DesignView → Case → Column → List Value
column_state d c (column.Before n) = flush_cycles n d.pipe c.interp c.state
column_state d c (column.After n) =
    flush_cycles n d.pipe c.interp (step d.pipe c.interp c.state c.inputs)
column_state d c (column.Steps j) = spec_steps j d c.interp (flushed d c.interp c.state)

-- a value of a state: false where a latch isn't there or is a memory, and 0 where a memory isn't one
abbrev pub spot_value : List Value → Location → Scalar
spot_value state (spot.Latch i) = scalar_of (slice_index_or state i (truth false))
spot_value state (spot.Cell i a) =
    scalar.Word (read (memory_of (slice_index_or state i (truth false))) a)

abbrev pub shown : DesignView → Case → Column → Location → Scalar
shown d c which spot = spot_value (column_state d c which) spot

-- these places of a case decide a value of its diagram: each fitting case that agrees on them has that value
abbrev pub Decides : DesignView → Case → Column → Location → List CasePlace → Type 0
Decides d c which spot places =
    (other : Case) → Fits d other → AgreesOn c places other →
    shown d other which spot ≡ shown d c which spot
