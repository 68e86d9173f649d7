-- Roots that calls made stay so where the graph grows, and how each is put together.
use Rattle.std.proofs.Common.{◌≡◌, ℕ, zero, suc, ◌+◌, ◌≤◌, ◌==◌, Bool, true, false, List, [], ◌∷◌, Some, subst, arith}
use Rattle.std.specs.Prelude.{slice_get, slice_index_or, if◌then◌else◌}
use Rattle.bd_model.specs.DesignView.{DesignView, ExactView}
use Rattle.bd_model.specs.declared.design.Sort.{Sort}
use Rattle.bd_model.specs.declared.design.Sort.TheVariants as sort
use Rattle.bd_model.specs.declared.design.Entry as entry
use Rattle.bd_terms.specs.Graph.{Extends}
use Rattle.bd_terms.specs.declared.node.Node.{Node}
use Rattle.bd_terms.specs.declared.node.Sym.TheVariants as symbol
use Rattle.bd_terms.specs.declared.node.Node.TheVariants as node
use Rattle.bd_symbolic.specs.Made.{IsImplication}
use Rattle.bd_symbolic.specs.declared.state.SymState.{SymState}
use Rattle.bd_symbolic.proofs.Making.{called-Extends, equivalence-Extends, first-Extends, flushed-Extends, over-Extends}
use Rattle.bd_model.specs.declared.abstraction.Abstraction.{Abstraction}
use Rattle.bd_model.specs.declared.abstraction.Abstraction.TheVariants as abstraction
use Rattle.bd_goal.specs.Formula.{is_memory}
use Rattle.bd_goal.specs.Made.{AllowFrom, AreEqual, AreEqualFrom, AreVisible, CyclesFrom, IsAllowance, IsBoundedRoot, IsCommuting, IsCycleOfRun, IsEquation, IsInvariant, IsRunOf, IsStanding, IsStart, IsUnless, StandsFrom, alone}

-- a state with these entries and no inputs
pub alone-is : (state other : SymState) → other.entries ≡ state.entries → other.inputs ≡ [] → other ≡ alone state
alone-is state other h k = λ i. record { entries = h i; inputs = k i }

-- the item at a place
pub item-is : (ids : List ℕ) (i id : ℕ) → slice_get ids i ≡ Some id → id ≡ slice_index_or ids i 0
item-is [] i id h = absurd (cc h)
item-is (x ∷ ids) zero id h = cc
item-is (x ∷ ids) (suc i) id h = item-is ids i id h

pub invariant-Extends : (old new : List Node) → Extends old new → (d : DesignView) (state : SymState) (id : ℕ) → IsInvariant old d state id → IsInvariant new d state id
invariant-Extends old new e d state id h = over-Extends old new e d (alone state) d.inv_locals (d.inv ∷ []) (id ∷ []) h

pub visible-Extends : (old new : List Node) → Extends old new → (d : DesignView) (abs : Abstraction) (state : SymState) (ids : List ℕ) → AreVisible old d abs state ids → AreVisible new d abs state ids
visible-Extends old new e d abstraction.Flushing state ids h = (h.0, flushed-Extends old new e d d.flush state h.0 h.1, h.2)
visible-Extends old new e d (abstraction.Given lets parts) state ids h = over-Extends old new e d (alone state) _ _ ids h

pub equation-Extends : (old new : List Node) → Extends old new → (s : Sort) (a b number id : ℕ) → IsEquation old s a b number id → IsEquation new s a b number id
equation-Extends old new e sort.Bool a b number id h = equivalence-Extends old new e a b id h
equation-Extends old new e sort.Word a b number id h = called-Extends old new e _ id h
equation-Extends old new e sort.Memory a b number id h =
    (h.0, h.1, h.2, called-Extends old new e _ h.0 h.3, called-Extends old new e _ h.1 h.4, called-Extends old new e _ h.2 h.5, called-Extends old new e _ id h.6)

equal_from-Extends : (old new : List Node) → Extends old new → (ours theirs : List ℕ) (stride i number done : ℕ) (entries : List entry.Entry) (id : ℕ) → AreEqualFrom old ours theirs stride i number done entries id → AreEqualFrom new ours theirs stride i number done entries id
equal_from-Extends old new e ours theirs stride i number done [] id h = h
equal_from-Extends old new e ours theirs stride i number done (x ∷ entries) id h =
    (h.0, h.1, equation-Extends old new e x.sort _ _ number h.0 h.2, called-Extends old new e _ h.1 h.3, equal_from-Extends old new e ours theirs stride (i + 1) (number + (if is_memory x.sort then stride else 0)) h.1 entries id h.4)

pub equal-Extends : (old new : List Node) → Extends old new → (d : DesignView) (ours theirs : List ℕ) (first stride id : ℕ) → AreEqual old d ours theirs first stride id → AreEqual new d ours theirs first stride id
equal-Extends old new e d ours theirs first stride id h = (h.0, called-Extends old new e node.True h.0 h.1, equal_from-Extends old new e ours theirs stride 0 first h.0 d.spec.entries id h.2)

pub unless-Extends : (old new : List Node) → Extends old new → (b : Bool) (when id : ℕ) → IsUnless old b when id → IsUnless new b when id
unless-Extends old new e true when id h = called-Extends old new e node.True id h
unless-Extends old new e false when id h = called-Extends old new e (node.Not when) id h

allow_from-Extends : (old new : List Node) → Extends old new → (j : ℕ) (whens : List ℕ) (i done : ℕ) (exact : List ExactView) (id : ℕ) → AllowFrom old j whens i done exact id → AllowFrom new j whens i done exact id
allow_from-Extends old new e j whens i done [] id h = h
allow_from-Extends old new e j whens i done (x ∷ exact) id h =
    (h.0, h.1, unless-Extends old new e (x.count == j) _ h.0 h.2, called-Extends old new e _ h.1 h.3, allow_from-Extends old new e j whens (i + 1) h.1 exact id h.4)

pub allowance-Extends : (old new : List Node) → Extends old new → (d : DesignView) (whens : List ℕ) (j id : ℕ) → IsAllowance old d whens j id → IsAllowance new d whens j id
allowance-Extends old new e d whens j id h = (h.0, called-Extends old new e node.True h.0 h.1, allow_from-Extends old new e j whens 0 h.0 d.exact id h.2)

pub standing-Extends : (old new : List Node) → Extends old new → (d : DesignView) (whens after joined : List ℕ) (first j id : ℕ) → IsStanding old d whens after joined first j id → IsStanding new d whens after joined first j id
standing-Extends old new e d whens after joined first j id h =
    (h.0, h.1, allowance-Extends old new e d whens j h.0 h.2, equal-Extends old new e d after joined (first + j) (d.steps + 1) h.1 h.3, called-Extends old new e _ id h.4)

stands_from-Extends : (old new : List Node) → Extends old new → (d : DesignView) (whens after : List ℕ) (first j : ℕ) (joined : SymState) (done left id : ℕ) → StandsFrom old d whens after first j joined done left id → StandsFrom new d whens after first j joined done left id
stands_from-Extends old new e d whens after first j joined done zero id h = h
stands_from-Extends old new e d whens after first j joined done (suc left) id h = (
  h.0,
  h.1,
  h.2,
  h.3,
  over-Extends old new e d joined d.spec.locals d.spec.nexts h.0.entries h.4,
  standing-Extends old new e d whens after h.0.entries first (j + 1) h.1 h.5,
  called-Extends old new e _ h.2 h.6,
  stands_from-Extends old new e d whens after first (j + 1) h.0 h.2 left id h.7,
)

pub commuting-Extends : (old new : List Node) → Extends old new → (d : DesignView) (state before : SymState) (after : List ℕ) (first id : ℕ) → IsCommuting old d state before after first id → IsCommuting new d state before after first id
commuting-Extends old new e d state before after first id h = record {
  whens = h.whens;
  none = h.none;
  conditions = over-Extends old new e d state d.pipe.locals _ h.whens h.conditions;
  no_steps = standing-Extends old new e d h.whens after before.entries first 0 h.none h.no_steps;
  steps = stands_from-Extends old new e d h.whens after first 0 before h.none d.steps id h.steps;
}

pub start-Extends : (old new : List Node) → Extends old new → (d : DesignView) (entries : List ℕ) (flushed : SymState) (inside base : ℕ) → IsStart old d entries flushed inside base → IsStart new d entries flushed inside base
start-Extends old new e d entries flushed inside base h = record {
  inputs = h.inputs;
  are_entries = first-Extends symbol.Entry old new e _ entries _ h.are_entries;
  are_inputs = first-Extends symbol.Input old new e _ h.inputs _ h.are_inputs;
  is_inside = invariant-Extends old new e d (record { entries = entries; inputs = h.inputs }) inside h.is_inside;
  is_flushed = visible-Extends old new e d abstraction.Flushing (record { entries = entries; inputs = h.inputs }) flushed.entries h.is_flushed;
  no_inputs = h.no_inputs;
  is_yes = called-Extends old new e node.True base h.is_yes;
}

pub cycle-Extends : (old new : List Node) → Extends old new → (d : DesignView) (cycle : ℕ) (entries : List ℕ) (before : SymState) (done : ℕ) (next after : SymState) (id : ℕ) → IsCycleOfRun old d cycle entries before done next after id → IsCycleOfRun new d cycle entries before done next after id
cycle-Extends old new e d cycle entries before done next after id h = record {
  inputs = h.inputs;
  one = h.one;
  are_inputs = first-Extends symbol.Input old new e _ h.inputs _ h.are_inputs;
  is_next = over-Extends old new e d _ d.pipe.locals d.pipe.nexts next.entries h.is_next;
  same_inputs = h.same_inputs;
  is_after = visible-Extends old new e d abstraction.Flushing next after.entries h.is_after;
  no_inputs = h.no_inputs;
  is_commuting = commuting-Extends old new e d _ before after.entries _ h.one h.is_commuting;
  joined = called-Extends old new e (node.And done h.one) id h.joined;
}

-- a run from a start
pub run-started : (d : DesignView) (cycles : ℕ) (cur : List Node) (entries : List ℕ) (flushed : SymState) (inside base : ℕ) → IsStart cur d entries flushed inside base
    → (later : List Node) (left id : ℕ) → Extends cur later → 0 + left ≡ cycles → CyclesFrom later d 0 entries flushed base left id → IsRunOf later d cycles inside id
run-started d cycles cur entries flushed inside base h later left id more all r = record {
  entries = entries;
  flushed = flushed;
  yes = base;
  start = start-Extends cur later more d entries flushed inside base h;
  cycles_made = subst (λ n. CyclesFrom later d 0 entries flushed base n id) (whole left cycles all) r;
} where
  whole : (n m : ℕ) → 0 + n ≡ m → n ≡ m
  whole n m h = omega (arith, h)

-- the formula of one cycle or more
pub bounded-root : (nodes : List Node) (d : DesignView) (cycles inside all root : ℕ) → 1 ≤ cycles → IsRunOf nodes d cycles inside all → IsImplication nodes inside all root → IsBoundedRoot nodes d cycles root
bounded-root nodes d zero inside all root some h k = absurd (omega (arith, some))
bounded-root nodes d (suc n) inside all root some h k = (inside, all, h, k)
