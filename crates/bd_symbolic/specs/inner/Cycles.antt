-- What one cycle of a machine makes of a state of terms, and the inputs of a flush cycle.
use Rattle.std.specs.Prelude.{ℕ, List}
use Rattle.bd_model.specs.DesignView.{DesignView, MachineView}
use Rattle.bd_model.specs.Cycle.{step, idle_inputs}
use Rattle.bd_model.specs.declared.table.Scalar.{Scalar}
use Rattle.bd_model.specs.declared.table.Table.{Table}
use Rattle.bd_model.specs.declared.table.Value.{Value}
use Rattle.bd_terms.specs.declared.node.Node.{Node}
use Rattle.bd_terms.specs.Denotation.{World}
use Rattle.bd_symbolic.specs.declared.state.SymState.{SymState}
use Rattle.bd_symbolic.specs.Symbolic.{HaveSorts, DenoteValues, DenoteScalars}
use Rattle.bd_symbolic.specs.States.{DenotesState, port_sorts}

-- the terms denote the values after a cycle of the machine
pub record DenotesCycle (d : DesignView) (m : MachineView) (old new : List Node) (state : SymState) (ids : List ℕ) : Type 0 where
  pub denotes : (w : World) (interp : List Table) (values : List Value) (inputs : List Scalar)
      → DenotesState d w old state interp values inputs → DenoteValues w new ids (step m interp values inputs)

-- the terms denote the inputs of a flush cycle
pub record DenotesIdle (d : DesignView) (old new : List Node) (state : SymState) (ids : List ℕ) : Type 0 where
  pub sorted : HaveSorts new ids (port_sorts d.pipe)
  pub denotes : (w : World) (interp : List Table) (values : List Value) (inputs : List Scalar)
      → DenotesState d w old state interp values inputs → DenoteScalars w new ids (idle_inputs d.pipe interp values)

-- the terms denote the state after a flush cycle, and its inputs
pub record DenotesFlushCycle (d : DesignView) (old new : List Node) (state next : SymState) : Type 0 where
  pub denotes : (w : World) (interp : List Table) (values : List Value) (inputs : List Scalar)
      → DenotesState d w old state interp values inputs
      → DenotesState d w new next interp (step d.pipe interp values (idle_inputs d.pipe interp values)) (idle_inputs d.pipe interp values)
