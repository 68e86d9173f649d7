-- The flush cycles from a state, one by one (Burch and Dill 1994).
use Rattle.std.specs.Prelude.{◌≡◌, ℕ, zero, suc, List, [], ◌∷◌}
use Rattle.bd_model.specs.DesignView.{MachineView, DesignView}
use Rattle.bd_model.specs.Cycle.{step, idle_inputs}
use Rattle.bd_model.specs.declared.table.Scalar.{Scalar}
use Rattle.bd_model.specs.declared.table.Table.{Table}
use Rattle.bd_model.specs.declared.table.Value.{Value}
use Rattle.bd_diagram.specs.declared.flushing.Flushing.{Flushing}

-- a state, and the states after each of n flush cycles
abbrev pub flush_states : ℕ → MachineView → List Table → List Value → List (List Value)
flush_states zero m interp state = state ∷ []
flush_states (suc n) m interp state =
    state ∷ flush_states n m interp (step m interp state (idle_inputs m interp state))

-- the inputs of each of n flush cycles
abbrev pub flush_inputs : ℕ → MachineView → List Table → List Value → List (List Scalar)
flush_inputs zero m interp state = []
flush_inputs (suc n) m interp state =
    idle_inputs m interp state
    ∷ flush_inputs n m interp (step m interp state (idle_inputs m interp state))

-- the flush cycles of a design from a state
pub record IsFlushing
    (d : DesignView) (interp : List Table) (state : List Value) (f : Flushing) :
    Type 0 where
  pub states : f.states ≡ flush_states d.flush d.pipe interp state
  pub inputs : f.inputs ≡ flush_inputs d.flush d.pipe interp state
