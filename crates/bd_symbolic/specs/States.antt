-- States of terms, and what a cycle, flush cycles and a step of the specification make of them
-- (Burch and Dill 1994).
use Rattle.std.specs.Prelude.{◌≡◌, ◌<◌, ◌+◌, ◌*◌, ℕ, false, List, [], length, map, slice_index_or}
use Rattle.bd_model.specs.DesignView.{DesignView, MachineView, LocalView, PortView}
use Rattle.bd_model.specs.Value.{let_values, truth}
use Rattle.bd_model.specs.Cycle.{step, flush}
use Rattle.bd_model.specs.Fits.{Fits, InputsFit, StateFits}
use Rattle.bd_model.specs.Lawful.{entry_sorts}
use Rattle.bd_model.specs.declared.design.Sort.{Sort}
use Rattle.bd_model.specs.declared.case.Case.{Case}
use Rattle.bd_model.specs.declared.table.Scalar.{Scalar}
use Rattle.bd_model.specs.declared.table.Scalar.TheVariants as scalar
use Rattle.bd_model.specs.declared.table.Table.{Table}
use Rattle.bd_model.specs.declared.table.Value.{Value}
use Rattle.bd_terms.specs.declared.node.Node.{Node}
use Rattle.bd_terms.specs.declared.node.Sym.TheVariants as sym
use Rattle.bd_terms.specs.Denotation.{World}
use Rattle.bd_symbolic.specs.declared.state.SymState.{SymState}
use Rattle.bd_symbolic.specs.World.{IsWorldOf, constant, value_table, world_of}
use Rattle.bd_symbolic.specs.Made.{AreLets}
use Rattle.bd_symbolic.specs.Symbolic.{HaveSorts, DenoteValues, DenoteScalars}

abbrev pub port_sorts : MachineView → List Sort
port_sorts m = map (λ (p : PortView). p.sort) m.ports

abbrev pub local_sorts : List LocalView → List Sort
local_sorts locals = map (λ (l : LocalView). l.sort) locals

-- the terms are in the graph, with the sorts of the machine's entries and inputs
pub record StateHasSorts (m : MachineView) (nodes : List Node) (state : SymState) : Type 0 where
  pub entries : HaveSorts nodes state.entries (entry_sorts m)
  pub inputs : HaveSorts nodes state.inputs (port_sorts m)

-- in a world with the tables of an interpretation, the terms denote these values and these inputs
pub record DenotesState (d : DesignView) (w : World) (nodes : List Node) (state : SymState) (interp : List Table) (values : List Value) (scalars : List Scalar) : Type 0 where
  pub world : IsWorldOf d interp w
  pub entries : DenoteValues w nodes state.entries values
  pub inputs : DenoteScalars w nodes state.inputs scalars

-- in each world whose first contents are the values of a fitting state, the terms denote them
pub record DenotesEntries (d : DesignView) (nodes : List Node) (ids : List ℕ) : Type 0 where
  pub denotes : (w : World) (values : List Value) → StateFits d values
      → ((i : ℕ) → i < length values → w (sym.Entry i) ≡ value_table (slice_index_or values i (truth false)))
      → DenoteValues w nodes ids values

-- the number of input i in a cycle, from 0
abbrev pub input_number : DesignView → ℕ → ℕ → ℕ
input_number d cycle i = cycle * length d.pipe.ports + i

-- in each world whose inputs in this cycle are fitting scalars, the terms denote them
pub record DenotesInputs (d : DesignView) (cycle : ℕ) (nodes : List Node) (ids : List ℕ) : Type 0 where
  pub denotes : (w : World) (scalars : List Scalar) → InputsFit d scalars
      → ((i : ℕ) → i < length scalars → w (sym.Input (input_number d cycle i)) ≡ constant (slice_index_or scalars i (scalar.Bool false)))
      → DenoteScalars w nodes ids scalars

-- in the world of each fitting case, whatever the addresses, the terms denote the case's state and inputs
pub record DenotesCases (d : DesignView) (nodes : List Node) (state : SymState) : Type 0 where
  pub denotes : (c : Case) (addresses : List ℕ) → Fits d c
      → DenotesState d (world_of c.interp c.state c.inputs addresses) nodes state c.interp c.state c.inputs

-- wherever the terms of a state denote values and inputs, the terms of lets denote the values of the lets, of which they
-- were made
pub record DenoteLets (d : DesignView) (old new : List Node) (state : SymState) (locals : List LocalView) (lets : List ℕ) : Type 0 where
  pub sorted : HaveSorts new lets (local_sorts locals)
  pub denotes : (w : World) (interp : List Table) (values : List Value) (inputs : List Scalar)
      → DenotesState d w old state interp values inputs → DenoteValues w new lets (let_values interp values inputs locals)
  pub made : AreLets new d state [] locals lets

-- wherever the terms of a state denote values and inputs, the new entries denote the values after a cycle
pub record DenotesStep (d : DesignView) (old new : List Node) (state next : SymState) : Type 0 where
  pub denotes : (w : World) (interp : List Table) (values : List Value) (inputs : List Scalar)
      → DenotesState d w old state interp values inputs → DenoteValues w new next.entries (step d.pipe interp values inputs)

-- wherever the terms of a state denote values and inputs, the new entries denote the values after the flush cycles
pub record DenotesFlush (d : DesignView) (old new : List Node) (state flushed : SymState) : Type 0 where
  pub denotes : (w : World) (interp : List Table) (values : List Value) (inputs : List Scalar)
      → DenotesState d w old state interp values inputs → DenoteValues w new flushed.entries (flush d interp values)

-- wherever the terms of visible entries denote values, the new entries denote those after a step of the specification
pub record DenotesSpecStep (d : DesignView) (old new : List Node) (visible next : SymState) : Type 0 where
  pub denotes : (w : World) (interp : List Table) (values : List Value)
      → IsWorldOf d interp w → DenoteValues w old visible.entries values → DenoteValues w new next.entries (step d.spec interp values [])
