-- The values of cycles one after another, from the state in which the first begins.
use Rattle.std.specs.Prelude.{ℕ, List, []}
use Rattle.bd_model.specs.Cycle.{flush_cycles, idle_inputs, spec_steps}
use Rattle.bd_model.specs.DesignView.{DesignView, LocalView}
use Rattle.bd_model.specs.Value.{let_values}
use Rattle.bd_model.specs.declared.case.Case.{Case}
use Rattle.bd_model.specs.declared.table.Scalar.{Scalar}
use Rattle.bd_model.specs.declared.table.Table.{Table}
use Rattle.bd_model.specs.declared.table.Value.{Value}
use Rattle.bd_slice.specs.declared.moment.Moment.{Moment}

-- a cycle's values, from a state and inputs
abbrev pub values_in : List LocalView → List Table → List Value → List Scalar → Moment
values_in locals interp state inputs =
    record { state = state; inputs = inputs; lets = let_values interp state inputs locals }

-- the flush cycle after so many others, and the step after so many
abbrev pub flush_moment : DesignView → Case → List Value → ℕ → Moment
flush_moment d c state n =
    let reached = flush_cycles n d.pipe c.interp state in
    values_in d.pipe.locals c.interp reached (idle_inputs d.pipe c.interp reached)

abbrev pub step_moment : DesignView → Case → List Value → ℕ → Moment
step_moment d c visible n =
    values_in d.spec.locals c.interp (spec_steps n d c.interp visible) []
