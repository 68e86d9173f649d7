-- A run under the same inputs, state by state.
use Rattle.std.specs.Prelude.{◌≡◌, ◌≤◌, ℕ, zero, suc, List, [], ◌∷◌, Some, slice_get, replicate}
use Rattle.bd_model.specs.DesignView.{MachineView, DesignView}
use Rattle.bd_model.specs.Cycle.{step, after}
use Rattle.bd_model.specs.declared.table.Scalar.{Scalar}
use Rattle.bd_model.specs.declared.table.Table.{Table}
use Rattle.bd_model.specs.declared.table.Value.{Value}

-- a state, and the states after each of n cycles with these inputs
abbrev pub trace_of : ℕ → MachineView → List Table → List Value → List Scalar → List (List Value)
trace_of zero m interp state inputs = state ∷ []
trace_of (suc n) m interp state inputs =
    state ∷ trace_of n m interp (step m interp state inputs) inputs

-- the k-th state of a trace, from 0, is the one after k cycles with these inputs
abbrev pub TraceIsRun : Type 0
TraceIsRun =
    (d : DesignView) (interp : List Table) (state : List Value) (inputs : List Scalar) (n k : ℕ) →
    k ≤ n →
    slice_get (trace_of n d.pipe interp state inputs) k
    ≡ Some (after d interp state (replicate k inputs))
