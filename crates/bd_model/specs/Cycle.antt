-- Cycles of a machine, flushing, and what the specification sees (Burch and Dill 1994).
use Rattle.std.specs.Prelude.{ℕ, zero, suc, Bool, List, [], ◌∷◌, map, take, slice_index_or}
use Rattle.bd_model.specs.DesignView.{MachineView, DesignView, PortView}
use Rattle.bd_model.specs.Value.{value_of, env_of, scalar_of, truth, is_true}
use Rattle.bd_model.specs.declared.table.Scalar.{Scalar}
use Rattle.bd_model.specs.declared.table.Table.{Table}
use Rattle.bd_model.specs.declared.table.Value.{Value}
use Rattle.bd_model.specs.declared.case.Trail.{Trail}
use mathlib.Core.Bool.{false}

-- one cycle: each entry takes the value of its next expression in the old state, all at once
abbrev pub step : MachineView → List Table → List Value → List Scalar → List Value
step m interp state inputs = map (value_of (env_of m.locals interp state inputs)) m.nexts

-- the inputs of a flush cycle: the values of the flush expressions, which use no input
abbrev pub idle_inputs : MachineView → List Table → List Value → List Scalar
idle_inputs m interp state =
    map (λ (p : PortView). scalar_of (value_of (env_of m.locals interp state []) p.idle)) m.ports

-- n flush cycles
abbrev pub flush_cycles : ℕ → MachineView → List Table → List Value → List Value
flush_cycles zero m interp state = state
flush_cycles (suc n) m interp state =
    flush_cycles n m interp (step m interp state (idle_inputs m interp state))

abbrev pub flush : DesignView → List Table → List Value → List Value
flush d interp state = flush_cycles d.flush d.pipe interp state

-- the visible entries, in the specification's order
abbrev pub look : DesignView → List Value → List Value
look d state = map (λ i. slice_index_or state i (truth false)) d.visible

-- where the specification would stand if the pipeline were flushed now
abbrev pub flushed : DesignView → List Table → List Value → List Value
flushed d interp state = look d (flush d interp state)

-- j steps of the specification, which has no inputs
abbrev pub spec_steps : ℕ → DesignView → List Table → List Value → List Value
spec_steps zero d interp a = a
spec_steps (suc j) d interp a = step d.spec interp (spec_steps j d interp a) []

-- the value of the invariant
abbrev pub invariant : DesignView → List Table → List Value → Bool
invariant d interp state = is_true (value_of (env_of d.inv_locals interp state []) d.inv)

-- the state after cycles with these inputs
abbrev pub after : DesignView → List Table → List Value → List (List Scalar) → List Value
after d interp state [] = state
after d interp state (x ∷ xs) = after d interp (step d.pipe interp state x) xs

-- the state after the first n cycles of a trail
abbrev pub state_after : DesignView → Trail → ℕ → List Value
state_after d t n = after d t.interp t.state (take n t.inputs)

-- the inputs of a trail's cycle, by its place from 0
abbrev pub inputs_at : Trail → ℕ → List Scalar
inputs_at t n = slice_index_or t.inputs n []
