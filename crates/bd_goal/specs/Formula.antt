-- The correspondence formula in a case, with a word for each fresh address (Burch and Dill 1994): the conditions of
-- a cycle, where memories are compared at one address each.
use Rattle.std.specs.Prelude.{◌≡◌, ◌≤◌, ◌+◌, ◌*◌, ℕ, suc, Bool, true, false, List, [], ◌∷◌, count_by, slice_index_or}
use Rattle.bd_model.specs.Table.{read}
use Rattle.bd_model.specs.DesignView.{DesignView}
use Rattle.bd_model.specs.Cycle.{step, flushed, spec_steps}
use Rattle.bd_model.specs.Conditions.{Abstraction, IsAllowed, MeetsInvariant, KeepsInvariant}
use Rattle.bd_model.specs.declared.case.Case.{Case}
use Rattle.bd_model.specs.declared.design.Sort.{Sort}
use Rattle.bd_model.specs.declared.design.Sort.TheVariants as sort
use Rattle.bd_model.specs.declared.design.Entry as entry
use Rattle.bd_model.specs.declared.table.Scalar.{Scalar}
use Rattle.bd_model.specs.declared.table.Table.{Table}
use Rattle.bd_model.specs.declared.table.Value.{Value}
use Rattle.bd_model.specs.declared.table.Value.TheVariants as value

abbrev pub is_memory : Sort → Bool
is_memory sort.Memory = true
is_memory sort.Bool = false
is_memory sort.Word = false

-- how many of the visible entries are memories
abbrev pub memory_count : DesignView → ℕ
memory_count d = count_by (λ (x : entry.Entry). is_memory x.sort) d.spec.entries

-- the number of the address at which the visible memory number m is read for j steps: one for each pair
abbrev pub address_number : DesignView → ℕ → ℕ → ℕ
address_number d m j = m * (d.steps + 1) + j

abbrev pub address_count : DesignView → ℕ
address_count d = memory_count d * (d.steps + 1)

-- latches are equal, and each memory reads equal at its own address, where memories count from m
abbrev pub EqualFrom : (ℕ → ℕ) → ℕ → List Value → List Value → Type 0
EqualFrom address m [] [] = Unit {0}
EqualFrom address m (value.Scalar x ∷ a) (value.Scalar y ∷ b) = (x ≡ y) × EqualFrom address m a b
EqualFrom address m (value.Memory x ∷ a) (value.Memory y ∷ b) =
    (read x (address m) ≡ read y (address m)) × EqualFrom address (suc m) a b
EqualFrom address m _ _ = ⊥

-- the same, with each address from a list of words by its number
abbrev pub EqualAt : (ℕ → ℕ) → List ℕ → List Value → List Value → Type 0
EqualAt number q a b = EqualFrom (λ m. slice_index_or q (number m) 0) 0 a b

-- the cycle stands for j steps, as far as the addresses from the first one on show
abbrev pub StandsAt :
    DesignView → Abstraction → List Table → List Value → List Scalar → ℕ → List ℕ → ℕ → Type 0
StandsAt d abs interp state inputs first q j =
    IsAllowed d interp state inputs j
    × EqualAt (λ m. first + address_number d m j) q
    (abs interp (step d.pipe interp state inputs))
    (spec_steps j d interp (abs interp state))

-- the cycle stands for some number of steps, at most the design's, as far as these addresses show
abbrev pub CommutesAt :
    DesignView → Abstraction → List Table → List Value → List Scalar → ℕ → List ℕ → Type 0
CommutesAt d abs interp state inputs first q =
    (j : ℕ) × (j ≤ d.steps) × StandsAt d abs interp state inputs first q j

-- the correspondence formula
abbrev pub Corresponds : DesignView → Abstraction → Case → List ℕ → Type 0
Corresponds d abs c q =
    MeetsInvariant d c.interp c.state
    → KeepsInvariant d c.interp c.state c.inputs
    × CommutesAt d abs c.interp c.state c.inputs 0 q

-- the invariant is false in the state
abbrev pub IsOutside : DesignView → Case → List ℕ → Type 0
IsOutside d c q = ¬ MeetsInvariant d c.interp c.state

-- where the invariant is true, the abstraction gives what flushing gives, as far as the addresses show: one for each
-- visible memory, by its number
abbrev pub AgreesAt : DesignView → Abstraction → Case → List ℕ → Type 0
AgreesAt d abs c q =
    MeetsInvariant d c.interp c.state
    → EqualAt (λ m. m) q (abs c.interp c.state) (flushed d c.interp c.state)
