-- Memories that writes make, each over a memory that was handed in or that an earlier write made.
use Rattle.std.specs.Prelude.{◌≡◌, ⊤, ◌<◌, length, take, ℕ, List, [], ◌++◌, false, Option, None, Some, slice_index_or}
use Rattle.std.specs.Borrow.{Bor}
use Rattle.bd_list.specs.Grown.{grown}
use Rattle.bd_model.specs.Table.{write}
use Rattle.bd_model.specs.Value.{memory_of, truth}
use Rattle.bd_model.specs.declared.table.Slot.{Slot}
use Rattle.bd_model.specs.declared.table.Memory.{Memory}
use Rattle.bd_model.specs.declared.table.Value.{Value}
use Rattle.bd_model.specs.declared.table.Value.TheVariants as value
use Rattle.bd_sim.specs.declared.writes.Chain.{Chain}
use Rattle.bd_sim.specs.declared.writes.Chain.TheVariants as chain
use Rattle.bd_sim.specs.declared.writes.Write.{Write}
use Rattle.bd_sim.specs.declared.writes.Memories.{Memories}
use Rattle.bd_sim.specs.declared.writes.Kept.{Kept}
use Rattle.bd_sim.specs.declared.writes.Kept.TheVariants as kept

abbrev pub zeros : Memory
zeros = record { default = 0; rows = [] }

-- the memory that is referred to, or else that of zeros
abbrev pub or_zeros : Option (Bor Memory) → Memory
or_zeros None = zeros
or_zeros (Some m) = m.now

-- the memory that a chain is, of a state's, of those handed in, or of those that writes made
abbrev pub chain_in : List Value → List Value → List Memory → Chain → Memory
chain_in state given made chain.Zeros = zeros
chain_in state given made (chain.Entry i) = memory_of (slice_index_or state i (truth false))
chain_in state given made (chain.Given i) = memory_of (slice_index_or given i (truth false))
chain_in state given made (chain.Written place) = slice_index_or made place zeros

-- the memory that a write makes
abbrev pub written : List Value → List Value → List Memory → Write → Memory
written state given made w =
    write (chain_in state given made w.below) w.slot.address w.slot.value

-- the memories that writes make, in order
abbrev pub made_by : List Value → List Value → List Write → List Memory
made_by state given writes = grown (written state given) [] writes

-- the memory that a chain is after the first writes
abbrev pub memory_after : Memories → ℕ → Chain → Memory
memory_after m count c =
    chain_in m.state.now m.given.now (made_by m.state.now m.given.now (take count m.writes.items)) c

abbrev pub memory_at : Memories → Chain → Memory
memory_at m c =
    chain_in m.state.now m.given.now (made_by m.state.now m.given.now m.writes.items) c

-- these slots over a memory
abbrev pub with_slots : List Slot → Memory → Memory
with_slots slots m = record { default = m.default; rows = slots ++ m.rows }

abbrev pub kept_value : Memories → Kept → Value
kept_value m (kept.Scalar x) = value.Scalar x
kept_value m (kept.Memory c) = value.Memory (memory_at m c)

-- no write or one of these made it
abbrev pub IsMade : Memories → Kept → Type 0
IsMade m (kept.Memory (chain.Written place)) = place < length m.writes.items
IsMade m (kept.Memory chain.Zeros) = ⊤
IsMade m (kept.Memory (chain.Entry i)) = ⊤
IsMade m (kept.Memory (chain.Given i)) = ⊤
IsMade m (kept.Scalar x) = ⊤

-- what was made stays what it is
abbrev pub Grows : Memories → Memories → Type 0
Grows old new =
    (new.state ≡ old.state)
    × (new.given ≡ old.given)
    × ((k : Kept) → IsMade old k → IsMade new k × (kept_value new k ≡ kept_value old k))
