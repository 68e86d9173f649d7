-- Flush cycles, one by one.
use Rattle.std.proofs.Common.{◌≡◌, ℕ, zero, suc, ◌+◌, ◌-◌, ◌<◌, List, [], ◌∷◌, ◌++◌, length, append_assoc, refl, sym, ◌∙◌, ap, arith}
use Rattle.std.specs.Prelude.{slice_index_or}
use Rattle.bd_model.specs.DesignView.{MachineView, DesignView}
use Rattle.bd_model.specs.Cycle.{step, idle_inputs, flush_cycles, flushed, look}
use Rattle.bd_model.specs.declared.table.Table.{Table}
use Rattle.bd_model.specs.declared.table.Value.{Value}
use Rattle.bd_diagram.specs.Flushes.{flush_states, flush_inputs, IsFlushing}
use Rattle.bd_diagram.specs.declared.flushing.Flushing.{Flushing}

left : (n i : ℕ) → i < n → n - i ≡ suc (n - (i + 1))
left n i h = omega arith

pub states_more : (n i : ℕ) (m : MachineView) (interp : List Table) (s : List Value) → i < n
    → flush_states (n - i) m interp s ≡ s ∷ flush_states (n - (i + 1)) m interp (step m interp s (idle_inputs m interp s))
states_more n i m interp s h = ap (λ k. flush_states k m interp s) (left n i h)

pub inputs_more : (n i : ℕ) (m : MachineView) (interp : List Table) (s : List Value) → i < n
    → flush_inputs (n - i) m interp s ≡ idle_inputs m interp s ∷ flush_inputs (n - (i + 1)) m interp (step m interp s (idle_inputs m interp s))
inputs_more n i m interp s h = ap (λ k. flush_inputs k m interp s) (left n i h)

-- there is one state more than cycles
pub count_states : (n : ℕ) (m : MachineView) (interp : List Table) (s : List Value) → length (flush_states n m interp s) ≡ suc n
count_states zero m interp s = refl
count_states (suc n) m interp s = ap suc (count_states n m interp (step m interp s (idle_inputs m interp s)))

-- the last state is the flushed one
pub last_state : (n : ℕ) (m : MachineView) (interp : List Table) (s d : List Value) → slice_index_or (flush_states n m interp s) n d ≡ flush_cycles n m interp s
last_state zero m interp s d = refl
last_state (suc n) m interp s d = last_state n m interp (step m interp s (idle_inputs m interp s)) d

-- there are enough states
pub enough_states : (d : DesignView) (interp : List Table) (state : List Value) (f : Flushing) → IsFlushing d interp state f → d.flush < length f.states
enough_states d interp state f is = omega (arith, ap length is.states, count_states d.flush d.pipe interp state)

-- what is visible in the last state is where the specification would stand
pub end_visible : (d : DesignView) (interp : List Table) (state shown : List Value) (f : Flushing) → IsFlushing d interp state f → shown ≡ look d (slice_index_or f.states d.flush []) → shown ≡ flushed d interp state
end_visible d interp state shown f is h = h ∙ ap (look d) (ap (λ xs. slice_index_or xs d.flush []) is.states ∙ last_state d.flush d.pipe interp state [])

-- one more item, taken from the front of what is to come
pub joined : {A : Type 0} (old new : List A) (s : A) (rest more whole : List A) → new ≡ old ++ s ∷ [] → rest ≡ s ∷ more → old ++ rest ≡ whole → new ++ more ≡ whole
joined old new s rest more whole put front before = rw (put, append_assoc) (ap (λ xs. old ++ xs) (sym front) ∙ before)
