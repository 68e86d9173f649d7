-- One cycle of several.
use Rattle.std.proofs.Common.{◌≡◌, ℕ, suc, ◌+◌, ◌-◌, ◌<◌, List, [], ◌∷◌, ◌++◌, append_assoc, sym, ◌∙◌, ap, arith}
use Rattle.bd_model.specs.DesignView.{MachineView}
use Rattle.bd_model.specs.Cycle.{step, idle_inputs, flush_cycles}
use Rattle.bd_model.specs.declared.table.Scalar.{Scalar}
use Rattle.bd_model.specs.declared.table.Table.{Table}
use Rattle.bd_model.specs.declared.table.Value.{Value}
use Rattle.bd_sim.specs.Trace.{trace_of}

left : (n i : ℕ) → i < n → n - i ≡ suc (n - (i + 1))
left n i h = omega arith

pub flush_more : (n i : ℕ) (m : MachineView) (interp : List Table) (s : List Value) → i < n
    → flush_cycles (n - i) m interp s ≡ flush_cycles (n - (i + 1)) m interp (step m interp s (idle_inputs m interp s))
flush_more n i m interp s h = ap (λ k. flush_cycles k m interp s) (left n i h)

pub trace_more : (n i : ℕ) (m : MachineView) (interp : List Table) (s : List Value) (inputs : List Scalar) → i < n
    → trace_of (n - i) m interp s inputs ≡ s ∷ trace_of (n - (i + 1)) m interp (step m interp s inputs) inputs
trace_more n i m interp s inputs h = ap (λ k. trace_of k m interp s inputs) (left n i h)

-- one more item, taken from the front of what is to come
pub joined : {A : Type 0} (old new : List A) (s : A) (rest more whole : List A) → new ≡ old ++ s ∷ [] → rest ≡ s ∷ more → old ++ rest ≡ whole → new ++ more ≡ whole
joined old new s rest more whole put front before = rw (put, append_assoc) (ap (λ xs. old ++ xs) (sym front) ∙ before)
