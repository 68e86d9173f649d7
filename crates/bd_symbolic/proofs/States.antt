-- States of terms: their sorts, and what they denote where the graph grows.
use Rattle.std.proofs.Common.{◌≡◌, ℕ, suc, List, [], ◌∷◌, map, length, refl, ap, ap₂, ◌∙◌}
use Rattle.std.proofs.lemmas.List.{length-map}
use Rattle.bd_model.specs.DesignView.{DesignView, MachineView, LocalView}
use Rattle.bd_model.specs.Value.{env_of, let_values}
use Rattle.bd_model.specs.Lawful.{context_of, entry_sorts}
use Rattle.bd_model.specs.declared.design.Sort.{Sort}
use Rattle.bd_model.specs.declared.table.Scalar.{Scalar}
use Rattle.bd_model.specs.declared.table.Table.{Table}
use Rattle.bd_model.specs.declared.table.Value.{Value}
use Rattle.bd_model.specs.declared.table.Value.TheVariants as value
use Rattle.bd_terms.specs.declared.node.Node.{Node}
use Rattle.bd_terms.specs.Graph.{Extends, sort_at}
use Rattle.bd_terms.specs.Denotation.{World}
use Rattle.bd_terms.proofs.Growth.{HasSort-Extends}
use Rattle.bd_symbolic.specs.World.{denotes_value}
use Rattle.bd_symbolic.specs.DesignSymbols.{KeepsDesign}
use Rattle.bd_symbolic.specs.Symbolic.{HaveSorts, AreInside, AreTerms, DenoteEnv, DenoteValues, context_in, terms_of}
use Rattle.bd_symbolic.specs.States.{StateHasSorts, DenotesState, port_sorts, local_sorts}
use Rattle.bd_symbolic.specs.declared.state.SymState.{SymState}
use Rattle.bd_symbolic.proofs.Growing.{Denote-Extends}

pub HaveSorts-inside : (nodes : List Node) (ids : List ℕ) (sorts : List Sort) → HaveSorts nodes ids sorts → AreInside nodes ids
HaveSorts-inside nodes [] [] h = tt
HaveSorts-inside nodes [] (s ∷ sorts) h = absurd h
HaveSorts-inside nodes (id ∷ ids) [] h = absurd h
HaveSorts-inside nodes (id ∷ ids) (s ∷ sorts) h = (h.0.inside, HaveSorts-inside nodes ids sorts h.1)

-- the sorts that the graph gives them
pub HaveSorts-sorts : (nodes : List Node) (ids : List ℕ) (sorts : List Sort) → HaveSorts nodes ids sorts → map (sort_at nodes) ids ≡ sorts
HaveSorts-sorts nodes [] [] h = refl
HaveSorts-sorts nodes [] (s ∷ sorts) h = absurd h
HaveSorts-sorts nodes (id ∷ ids) [] h = absurd h
HaveSorts-sorts nodes (id ∷ ids) (s ∷ sorts) h = ap₂ (λ x xs. x ∷ xs) h.0.sorted (HaveSorts-sorts nodes ids sorts h.1)

pub HaveSorts-given : (nodes : List Node) (ids : List ℕ) → AreInside nodes ids → HaveSorts nodes ids (map (sort_at nodes) ids)
HaveSorts-given nodes [] h = tt
HaveSorts-given nodes (id ∷ ids) h = (record { inside = h.0; sorted = refl }, HaveSorts-given nodes ids h.1)

pub HaveSorts-Extends : (old new : List Node) → Extends old new → (ids : List ℕ) (sorts : List Sort) → HaveSorts old ids sorts → HaveSorts new ids sorts
HaveSorts-Extends old new e [] [] h = tt
HaveSorts-Extends old new e [] (s ∷ sorts) h = absurd h
HaveSorts-Extends old new e (id ∷ ids) [] h = absurd h
HaveSorts-Extends old new e (id ∷ ids) (s ∷ sorts) h = (HasSort-Extends old new e id s h.0, HaveSorts-Extends old new e ids sorts h.1)

HaveSorts-count : (nodes : List Node) (ids : List ℕ) (sorts : List Sort) → HaveSorts nodes ids sorts → length ids ≡ length sorts
HaveSorts-count nodes [] [] h = refl
HaveSorts-count nodes [] (s ∷ sorts) h = absurd h
HaveSorts-count nodes (id ∷ ids) [] h = absurd h
HaveSorts-count nodes (id ∷ ids) (s ∷ sorts) h = ap suc (HaveSorts-count nodes ids sorts h.1)

-- as many terms as entries
pub StateHasSorts-count : (m : MachineView) (nodes : List Node) (state : SymState) → StateHasSorts m nodes state → length state.entries ≡ length m.entries
StateHasSorts-count m nodes state h = HaveSorts-count nodes state.entries (entry_sorts m) h.entries ∙ simp length-map

-- a state keeps its sorts where the graph grows
pub StateHasSorts-Extends : (m : MachineView) (old new : List Node) (state : SymState) → Extends old new → StateHasSorts m old state → StateHasSorts m new state
StateHasSorts-Extends m old new state e h = record {
  entries = HaveSorts-Extends old new e state.entries (entry_sorts m) h.entries;
  inputs = HaveSorts-Extends old new e state.inputs (port_sorts m) h.inputs;
}

-- and what it denotes
pub DenotesState-Extends : (d : DesignView) (m : MachineView) (w : World) (old new : List Node) (state : SymState) (interp : List Table) (values : List Value) (inputs : List Scalar)
    → Extends old new → StateHasSorts m old state → DenotesState d w old state interp values inputs → DenotesState d w new state interp values inputs
DenotesState-Extends d m w old new state interp values inputs e h k = record {
  world = k.world;
  entries = Denote-Extends denotes_value w old new e state.entries values (HaveSorts-inside old state.entries (entry_sorts m) h.entries) k.entries;
  inputs = Denote-Extends (λ x. denotes_value (value.Scalar x)) w old new e state.inputs inputs (HaveSorts-inside old state.inputs (port_sorts m) h.inputs) k.inputs;
}

-- the terms that names stand for in a state after lets
pub AreTerms-state : (d : DesignView) (m : MachineView) (nodes : List Node) (state : SymState) (lets : List ℕ) → KeepsDesign d nodes → StateHasSorts m nodes state → AreInside nodes lets → AreTerms nodes (terms_of d state lets)
AreTerms-state d m nodes state lets k h inside = record {
  keeps = k;
  entries = HaveSorts-inside nodes state.entries (entry_sorts m) h.entries;
  inputs = HaveSorts-inside nodes state.inputs (port_sorts m) h.inputs;
  lets = inside;
}

-- their sorts are those that the machine declares
pub context_in-state : (d : DesignView) (m : MachineView) (nodes : List Node) (state : SymState) (lets : List ℕ) → StateHasSorts m nodes state → HaveSorts nodes lets (local_sorts m.locals)
    → context_in nodes (terms_of d state lets) ≡ context_of d m
context_in-state d m nodes state lets h k =
    cc (HaveSorts-sorts nodes state.entries (entry_sorts m) h.entries, HaveSorts-sorts nodes state.inputs (port_sorts m) h.inputs, HaveSorts-sorts nodes lets (local_sorts m.locals) k)

-- what the names stand for where a machine's expressions are valued
pub DenoteEnv-state : (d : DesignView) (w : World) (nodes : List Node) (state : SymState) (lets : List ℕ) (locals : List LocalView) (interp : List Table) (values : List Value) (inputs : List Scalar)
    → DenotesState d w nodes state interp values inputs → DenoteValues w nodes lets (let_values interp values inputs locals)
    → DenoteEnv w nodes (terms_of d state lets) (env_of locals interp values inputs)
DenoteEnv-state d w nodes state lets locals interp values inputs h k = record { world = h.world; state = h.entries; inputs = h.inputs; locals = k }
