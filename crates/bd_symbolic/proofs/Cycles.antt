-- What a cycle and flush cycles denote, from the terms of their expressions.
use Rattle.std.proofs.Common.{◌≡◌, ◌≢◌, ℕ, suc, List, [], ◌∷◌, map, Result, Ok, Err, IfOk, refl, ap, sym, ◌∙◌, subst}
use Rattle.std.specs.List.{AllZip, AllByRecursion}
use Rattle.std.specs.Result.{MatchResult}
use Rattle.std.proofs.lemmas.List.Elements.{same_from_all_zip}
use Rattle.bd_model.specs.ExprView.{ExprView}
use Rattle.bd_model.specs.DesignView.{DesignView, LocalView, MachineView, PortView}
use Rattle.bd_model.specs.Value.{value_of, scalar_of, env_of}
use Rattle.bd_model.specs.Cycle.{step, idle_inputs, flush_cycles, flush}
use Rattle.bd_model.specs.Lawful.{Context, HasSort, LetsHaveSorts, without_lets, context_of, entry_sorts, IsLawfulMachine, IsLawfulPort, IsLawful}
use Rattle.bd_model.specs.declared.design.Sort.{Sort}
use Rattle.bd_model.specs.declared.design.Sort.TheVariants as sort
use Rattle.bd_model.specs.declared.design.Entry as entry
use Rattle.bd_model.specs.declared.table.Scalar.{Scalar}
use Rattle.bd_model.specs.declared.table.Table.{Table}
use Rattle.bd_model.specs.declared.table.Value.{Value}
use Rattle.bd_model.specs.declared.table.Value.TheVariants as value
use Rattle.bd_model.proofs.Pairs.{AllZip-map_first}
use Rattle.bd_model.proofs.NoInput.{value_of-whatever_inputs}
use Rattle.bd_terms.specs.declared.node.Node.{Node}
use Rattle.bd_terms.specs.Graph.{Extends, IsGraph, sort_at}
use Rattle.bd_terms.specs.Denotation.{World, denoted_sort}
use Rattle.bd_terms.proofs.Simplifying.{denoted-sort}
use Rattle.bd_symbolic.specs.World.{denotes_value}
use Rattle.bd_symbolic.specs.DesignSymbols.{GrowsWithin, KeepsDesign}
use Rattle.bd_terms.proofs.Growth.{Extends-trans}
use Rattle.bd_symbolic.specs.Made.{AreFlushed, AreMadeOver, IsFlushCycle}
use Rattle.bd_symbolic.specs.Symbolic.{HaveSorts, AreTerms, DenoteValues, DenoteScalars, context_in, terms_of}
use Rattle.bd_symbolic.specs.States.{StateHasSorts, DenotesState, DenoteLets, DenotesSpecStep, port_sorts, local_sorts}
use Rattle.bd_symbolic.specs.inner.Cycles.{DenotesCycle, DenotesIdle, DenotesFlushCycle}
use Rattle.bd_symbolic.specs.inner.Evaluates.{DenoteExprs, HasSomeSort}
use Rattle.bd_symbolic.specs.declared.state.SymState.{SymState}
use Rattle.bd_symbolic.proofs.Growing.{Grows-trans, KeepsDesign-Grows}
use Rattle.bd_symbolic.proofs.States.{HaveSorts-inside, HaveSorts-sorts, HaveSorts-Extends, StateHasSorts-Extends, DenotesState-Extends, AreTerms-state, context_in-state, DenoteEnv-state}
use Rattle.bd_symbolic.proofs.Gathering.{exprs_made, exprs_sorted, exprs_values}
use Rattle.bd_symbolic.proofs.Making.{flush_cycle-Extends, lets-Extends}

-- a fact of an Ok that follows from another
pub IfOk-follows : {A E : Type 0} (P Q : A → Type 0) (r : Result A E) → ((x : A) → P x → Q x) → IfOk r P → IfOk r Q
IfOk-follows P Q (Ok x) f h = f x h
IfOk-follows P Q (Err e) f h = tt

-- a copy, item by item, is the list
pub IfOk-copy : {X E : Type 0} (R : X → X → Type 0) (Q : E → Type 0) (xs : List X) (r : Result (List X) E) → ((x y : X) → R x y → y ≡ x) → MatchResult r (λ ys. AllZip R xs ys) Q → IfOk r (λ ys. ys ≡ xs)
IfOk-copy R Q xs (Ok ys) f h = same_from_all_zip R xs ys h f
IfOk-copy R Q xs (Err e) f h = tt

-- the sorts of a machine's lets, in a state of terms
pub lets_sorted : (d : DesignView) (m : MachineView) (nodes : List Node) (state : SymState) → IsLawfulMachine d m → StateHasSorts m nodes state → LetsHaveSorts (context_in nodes (terms_of d state [])) m.locals
lets_sorted d m nodes state lawful h =
    let entries : map (sort_at nodes) state.entries ≡ entry_sorts m = HaveSorts-sorts nodes state.entries (entry_sorts m) h.entries in
    let inputs : map (sort_at nodes) state.inputs ≡ port_sorts m = HaveSorts-sorts nodes state.inputs (port_sorts m) h.inputs in
    let same : context_in nodes (terms_of d state []) ≡ without_lets (context_of d m) = cc in
    subst (λ c. LetsHaveSorts c m.locals) (sym same) lawful.locals

-- the terms after a machine's lets
pub after_lets : (d : DesignView) (m : MachineView) (old mid : List Node) (state : SymState) (lets : List ℕ) → KeepsDesign d old → StateHasSorts m old state → GrowsWithin d old mid → DenoteLets d old mid state m.locals lets → AreTerms mid (terms_of d state lets)
after_lets d m old mid state lets k h g l =
    AreTerms-state d m mid state lets (KeepsDesign-Grows d old mid g k) (StateHasSorts-Extends m old mid state g.extends h) (HaveSorts-inside mid lets (local_sorts m.locals) l.sorted)

-- their sorts
context_after_lets : (d : DesignView) (m : MachineView) (old mid : List Node) (state : SymState) (lets : List ℕ) → StateHasSorts m old state → GrowsWithin d old mid → DenoteLets d old mid state m.locals lets → context_in mid (terms_of d state lets) ≡ context_of d m
context_after_lets d m old mid state lets h g l = context_in-state d m mid state lets (StateHasSorts-Extends m old mid state g.extends h) l.sorted

some_sorts : (c : Context) (sorts : List Sort) (es : List ExprView) → AllZip (λ s e. HasSort c e s) sorts es → AllByRecursion (HasSomeSort c) es
some_sorts c [] [] h = tt
some_sorts c [] (e ∷ es) h = absurd h
some_sorts c (s ∷ sorts) [] h = absurd h
some_sorts c (s ∷ sorts) (e ∷ es) h = ((s, h.0), some_sorts c sorts es h.1)

next_sorts : (d : DesignView) (m : MachineView) → IsLawfulMachine d m → AllZip (λ s e. HasSort (context_of d m) e s) (entry_sorts m) m.nexts
next_sorts d m lawful = (AllZip-map_first (λ s e. HasSort (context_of d m) e s) (λ (x : entry.Entry). x.sort) m.entries m.nexts).1 lawful.nexts

-- each next expression has a sort after the lets
pub nexts_sorted : (d : DesignView) (m : MachineView) (old mid : List Node) (state : SymState) (lets : List ℕ) → IsLawfulMachine d m → StateHasSorts m old state → GrowsWithin d old mid → DenoteLets d old mid state m.locals lets
    → AllByRecursion (HasSomeSort (context_in mid (terms_of d state lets))) m.nexts
nexts_sorted d m old mid state lets lawful h g l =
    subst (λ c. AllByRecursion (HasSomeSort c) m.nexts) (sym (context_after_lets d m old mid state lets h g l)) (some_sorts (context_of d m) (entry_sorts m) m.nexts (next_sorts d m lawful))

pub cycle_sorted : (d : DesignView) (m : MachineView) (old mid new : List Node) (state : SymState) (lets ids : List ℕ) → IsLawfulMachine d m → StateHasSorts m old state → GrowsWithin d old mid → DenoteLets d old mid state m.locals lets
    → DenoteExprs mid new (terms_of d state lets) m.nexts ids → HaveSorts new ids (entry_sorts m)
cycle_sorted d m old mid new state lets ids lawful h g l x =
    exprs_sorted mid new (terms_of d state lets) m.nexts ids (entry_sorts m) x
    (subst (λ c. AllZip (λ s e. HasSort c e s) (entry_sorts m) m.nexts) (sym (context_after_lets d m old mid state lets h g l)) (next_sorts d m lawful))

-- the terms of the next expressions denote the values after the cycle
pub cycle_denotes : (d : DesignView) (m : MachineView) (old mid new : List Node) (state : SymState) (lets ids : List ℕ) → StateHasSorts m old state → GrowsWithin d old mid → DenoteLets d old mid state m.locals lets
    → DenoteExprs mid new (terms_of d state lets) m.nexts ids → DenotesCycle d m old new state ids
cycle_denotes d m old mid new state lets ids h g l x = record {
  denotes = λ w interp values inputs k.
      exprs_values mid new (terms_of d state lets) w (env_of m.locals interp values inputs) m.nexts ids
      (DenoteEnv-state d w mid state lets m.locals interp values inputs (DenotesState-Extends d m w old mid state interp values inputs g.extends h k) (l.denotes w interp values inputs k)) x;
}

-- the terms of expressions after those of lets
pub over_made : (d : DesignView) (old mid new : List Node) (state : SymState) (locals : List LocalView) (es : List ExprView) (lets ids : List ℕ) → Extends mid new → DenoteLets d old mid state locals lets → DenoteExprs mid new (terms_of d state lets) es ids → AreMadeOver new d state locals es ids
over_made d old mid new state locals es lets ids e l h = record {
  lets = lets;
  first = lets-Extends mid new e d state [] locals lets l.made;
  made = exprs_made mid new (terms_of d state lets) es ids h;
}

-- a step of the specification is a cycle without inputs
pub spec_denotes : (d : DesignView) (old new : List Node) (visible next : SymState) → visible.inputs ≡ [] → DenotesCycle d d.spec old new visible next.entries → DenotesSpecStep d old new visible next
spec_denotes d old new visible next none h = record {
  denotes = λ w interp values is k. h.denotes w interp values [] (record { world = is; entries = k; inputs = subst (λ ids. DenoteScalars w old ids []) (sym none) tt });
}

abbrev pub idles : List PortView → List ExprView
idles ports = map (λ (p : PortView). p.idle) ports

idle_sorts : (d : DesignView) (ports : List PortView) → AllByRecursion (IsLawfulPort d) ports → AllZip (λ s e. HasSort (context_of d d.pipe) e s) (map (λ (p : PortView). p.sort) ports) (idles ports)
idle_sorts d [] h = tt
idle_sorts d (p ∷ ports) h = (h.0.idle, idle_sorts d ports h.1)

-- each flush expression has a sort after the lets
pub idles_sorted : (d : DesignView) (old mid : List Node) (state : SymState) (lets : List ℕ) → IsLawful d → StateHasSorts d.pipe old state → GrowsWithin d old mid → DenoteLets d old mid state d.pipe.locals lets
    → AllByRecursion (HasSomeSort (context_in mid (terms_of d state lets))) (idles d.pipe.ports)
idles_sorted d old mid state lets lawful h g l =
    subst (λ c. AllByRecursion (HasSomeSort c) (idles d.pipe.ports)) (sym (context_after_lets d d.pipe old mid state lets h g l)) (some_sorts (context_of d d.pipe) (port_sorts d.pipe) (idles d.pipe.ports) (idle_sorts d d.pipe.ports lawful.ports))

-- a value that is no memory is its scalar
scalar_denoted : (v : Value) (s : Sort) → denoted_sort (denotes_value v) ≡ s → s ≢ sort.Memory → denotes_value v ≡ denotes_value (value.Scalar (scalar_of v))
scalar_denoted (value.Scalar x) s h k = refl
scalar_denoted (value.Memory m) s h k = absurd (k (sym h))

idle_scalars : (d : DesignView) (nodes : List Node) (w : World) (interp : List Table) (values : List Value) (inputs : List Scalar) → IsGraph nodes → (ports : List PortView) (ids : List ℕ) → AllByRecursion (IsLawfulPort d) ports
    → HaveSorts nodes ids (map (λ (p : PortView). p.sort) ports) → DenoteValues w nodes ids (map (value_of (env_of d.pipe.locals interp values inputs)) (idles ports))
    → DenoteScalars w nodes ids (map (λ (p : PortView). scalar_of (value_of (env_of d.pipe.locals interp values []) p.idle)) ports)
idle_scalars d nodes w interp values inputs graph [] [] h s k = tt
idle_scalars d nodes w interp values inputs graph [] (id ∷ ids) h s k = absurd s
idle_scalars d nodes w interp values inputs graph (p ∷ ports) [] h s k = absurd s
idle_scalars d nodes w interp values inputs graph (p ∷ ports) (id ∷ ids) h s k =
    let v : Value = value_of (env_of d.pipe.locals interp values inputs) p.idle in
    let same : v ≡ value_of (env_of d.pipe.locals interp values []) p.idle = value_of-whatever_inputs d.pipe.locals interp values inputs [] p.idle h.0.no_input in
    let sorted : denoted_sort (denotes_value v) ≡ p.sort = ap denoted_sort (sym k.0) ∙ denoted-sort w nodes graph id s.0.inside ∙ s.0.sorted in
    (k.0 ∙ scalar_denoted v p.sort sorted h.0.sort ∙ ap (λ u. denotes_value (value.Scalar (scalar_of u))) same, idle_scalars d nodes w interp values inputs graph ports ids h.1 s.1 k.1)

-- the terms of the flush expressions denote the inputs of the flush cycle
pub idle_denotes : (d : DesignView) (old mid new : List Node) (state : SymState) (lets ids : List ℕ) → IsLawful d → IsGraph new → StateHasSorts d.pipe old state → GrowsWithin d old mid → DenoteLets d old mid state d.pipe.locals lets
    → DenoteExprs mid new (terms_of d state lets) (idles d.pipe.ports) ids → DenotesIdle d old new state ids
idle_denotes d old mid new state lets ids lawful graph h g l x =
    let sorted : HaveSorts new ids (port_sorts d.pipe) = exprs_sorted mid new (terms_of d state lets) (idles d.pipe.ports) ids (port_sorts d.pipe) x
    (subst (λ c. AllZip (λ s e. HasSort c e s) (port_sorts d.pipe) (idles d.pipe.ports)) (sym (context_after_lets d d.pipe old mid state lets h g l)) (idle_sorts d d.pipe.ports lawful.ports)) in
    record {
      sorted = sorted;
      denotes = λ w interp values inputs k.
          idle_scalars d new w interp values inputs graph d.pipe.ports ids lawful.ports sorted
          (exprs_values mid new (terms_of d state lets) w (env_of d.pipe.locals interp values inputs) (idles d.pipe.ports) ids
          (DenoteEnv-state d w mid state lets d.pipe.locals interp values inputs (DenotesState-Extends d d.pipe w old mid state interp values inputs g.extends h k) (l.denotes w interp values inputs k)) x);
    }

-- the state with the inputs of its flush cycle
pub idle_sorted : (d : DesignView) (old mid : List Node) (state idle : SymState) → StateHasSorts d.pipe old state → GrowsWithin d old mid → DenotesIdle d old mid state idle.inputs → idle.entries ≡ state.entries → StateHasSorts d.pipe mid idle
idle_sorted d old mid state idle h g i same = record {
  entries = subst (λ ids. HaveSorts mid ids (entry_sorts d.pipe)) (sym same) (HaveSorts-Extends old mid g.extends state.entries (entry_sorts d.pipe) h.entries);
  inputs = i.sorted;
}

pub flush_sorted : (d : DesignView) (mid new : List Node) (idle next : SymState) → StateHasSorts d.pipe mid idle → GrowsWithin d mid new → HaveSorts new next.entries (entry_sorts d.pipe) → next.inputs ≡ idle.inputs → StateHasSorts d.pipe new next
flush_sorted d mid new idle next h g s same = record {
  entries = s;
  inputs = subst (λ ids. HaveSorts new ids (port_sorts d.pipe)) (sym same) (HaveSorts-Extends mid new g.extends idle.inputs (port_sorts d.pipe) h.inputs);
}

-- the state after the flush cycle, and its inputs
pub flush_denotes : (d : DesignView) (old mid new : List Node) (state idle next : SymState) → StateHasSorts d.pipe old state → GrowsWithin d old mid → DenotesIdle d old mid state idle.inputs → idle.entries ≡ state.entries → StateHasSorts d.pipe mid idle
    → GrowsWithin d mid new → DenotesCycle d d.pipe mid new idle next.entries → next.inputs ≡ idle.inputs → DenotesFlushCycle d old new state next
flush_denotes d old mid new state idle next h g i same s p c kept = record {
  denotes = λ w interp values inputs k.
      let before : DenotesState d w mid state interp values inputs = DenotesState-Extends d d.pipe w old mid state interp values inputs g.extends h k in
      let xs : List Scalar = idle_inputs d.pipe interp values in
      let within : DenotesState d w mid idle interp values xs = record {
        world = k.world;
        entries = subst (λ ids. DenoteValues w mid ids values) (sym same) before.entries;
        inputs = i.denotes w interp values inputs k;
      } in
      let after : DenotesState d w new idle interp values xs = DenotesState-Extends d d.pipe w mid new idle interp values xs p.extends s within in
      record {
        world = k.world;
        entries = c.denotes w interp values xs within;
        inputs = subst (λ ids. DenoteScalars w new ids xs) (sym kept) after.inputs;
      };
}

-- so many flush cycles are left
pub record FlushesSo (d : DesignView) (old new : List Node) (state now : SymState) (left : ℕ) : Type 0 where
  pub grows : GrowsWithin d old new
  pub sorted : StateHasSorts d.pipe new now
  pub denotes : (w : World) (interp : List Table) (values : List Value) (inputs : List Scalar) → DenotesState d w old state interp values inputs
      → (vs : List Value) × (xs : List Scalar) × DenotesState d w new now interp vs xs × (flush_cycles left d.pipe interp vs ≡ flush d interp values)
  pub made : (later : List Node) (ids : List ℕ) → Extends new later → AreFlushed later d left now ids → AreFlushed later d d.flush state ids

-- one flush cycle more
pub flushes_step : (d : DesignView) (old mid new : List Node) (state now next : SymState) (left less : ℕ) → left ≡ suc less → FlushesSo d old mid state now left → GrowsWithin d mid new → StateHasSorts d.pipe new next → DenotesFlushCycle d mid new now next → IsFlushCycle new d now next
    → FlushesSo d old new state next less
flushes_step d old mid new state now next left less is h g s c m = record {
  grows = Grows-trans d old mid new h.grows g;
  sorted = s;
  denotes = λ w interp values inputs k.
      let one = h.denotes w interp values inputs k in (
        step d.pipe interp one.0 (idle_inputs d.pipe interp one.0),
        idle_inputs d.pipe interp one.0,
        c.denotes w interp one.0 one.1 one.2,
        subst (λ n. flush_cycles n d.pipe interp one.0 ≡ flush d interp values) is one.3,
      );
  made = λ later ids more j.
      h.made later ids (Extends-trans mid new later g.extends more) (subst (λ n. AreFlushed later d n now ids) (sym is) (next, flush_cycle-Extends new later more d now next m, j));
}
