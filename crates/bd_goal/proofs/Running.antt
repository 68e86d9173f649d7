-- The terms of a run, one cycle after another.
use Rattle.std.proofs.Common.{◌≡◌, ℕ, suc, ◌+◌, ◌*◌, ◌<◌, ◌≤◌, inl, inr, true, ◌&&◌, ◌||◌, not, List, length, refl, ap, sym, subst, arith}
use Rattle.std.specs.Prelude.{◌↔◌, ◌⊎◌, IfOk, Result, Ok, Err}
use Rattle.std.specs.declared.alloc.AllocError.{AllocError}
use Rattle.std.proofs.Math.Nat.{eq-or-lt_of_le, mul-le-mul}
use Rattle.bd_model.specs.DesignView.{DesignView}
use Rattle.bd_model.specs.Conditions.{MeetsInvariant}
use Rattle.bd_model.specs.Cycle.{flushed, inputs_at, state_after, step}
use Rattle.bd_model.specs.Fits.{TrailFits}
use Rattle.bd_model.specs.Lawful.{IsLawful, entry_sorts}
use Rattle.bd_model.specs.declared.case.Trail.{Trail}
use Rattle.bd_model.specs.declared.design.Sort.TheVariants as sort
use Rattle.bd_model.specs.declared.table.Scalar.{Scalar}
use Rattle.bd_model.specs.declared.table.Table.{Table}
use Rattle.bd_model.specs.declared.table.Value.{Value}
use Rattle.bd_terms.specs.declared.node.Node.{Node}
use Rattle.bd_terms.specs.Denotation.{World, Denotes, Truth, truth}
use Rattle.bd_terms.specs.Graph.{Extends, HasSort}
use Rattle.bd_terms.proofs.Growth.{Extends-trans, HasSort-Extends}
use Rattle.bd_symbolic.specs.declared.state.SymState.{SymState}
use Rattle.bd_symbolic.specs.Symbolic.{DenoteValues, HaveSorts}
use Rattle.bd_symbolic.specs.States.{DenotesEntries, DenotesInputs, DenotesState, DenotesStep, StateHasSorts, port_sorts}
use Rattle.bd_symbolic.specs.Widened.{case_of_trail, widened}
use Rattle.bd_symbolic.proofs.Widening.{widened-declared, widened-once}
use Rattle.bd_symbolic.proofs.Worlds.{IsWorldOf-world_of}
use Rattle.bd_goal.specs.Bounded.{ClaimsRuns, CycleCommutesAt, trail_world}
use Rattle.bd_goal.specs.declared.bounded.Run.{Run}
use Rattle.bd_goal.specs.Formula.{CommutesAt, address_count, memory_count}
use Rattle.std.proofs.lemmas.Result.{IfOk-weaker}
use Rattle.bd_symbolic.specs.Made.{IsImplication}
use Rattle.bd_goal.specs.Made.{CyclesFrom, IsBoundedRoot, IsCycleOfRun, IsRunOf}
use Rattle.bd_goal.proofs.Making.{bounded-root, cycle-Extends}
use Rattle.bd_goal.specs.Symbols.{GrowsKnown}
use Rattle.bd_goal.specs.inner.Run.{FollowsTrail, IsRun, StartsRun}
use Rattle.bd_goal.specs.inner.Shown.{Says, StandsFor, StandsUpTo}
use Rattle.bd_goal.proofs.Joining.{next-denotes}
use Rattle.bd_goal.proofs.Runs.{inputs-fit, inputs-there, state_after-next}
use Rattle.bd_goal.proofs.Showing.{DenotesState-later, IsVisible-later, Says-and, Says-implies, Says-later, Says-same, Says-true, StateHasSorts-later, values-later}
use Rattle.bd_model.specs.Limits.{most_cycles, most_items}
use Rattle.bd_symbolic.proofs.States.{HaveSorts-Extends}

-- growth by the symbols of fewer cycles is growth by those of more
pub Known-wider : (d : DesignView) (n m k l : ℕ) (old new : List Node) → n ≤ m → k ≤ l → GrowsKnown (widened d n) k old new → GrowsKnown (widened d m) l old new
Known-wider d n m k l old new few less g = record {
  extends = g.extends;
  within = λ u h. elim (g.within u h) [ inl p ↦ inl p | inr (inl p) ↦ inr (inl (widened-declared d n m u few p)) | inr (inr (i, below, is)) ↦ inr (inr (i, omega (arith, below, less), is)) ];
}

-- so is growth by the design's own
pub Known-own : (d : DesignView) (m k l : ℕ) (old new : List Node) → 1 ≤ m → k ≤ l → GrowsKnown d k old new → GrowsKnown (widened d m) l old new
Known-own d m k l old new some less g = Known-wider d 1 m k l old new some less (subst (λ e. GrowsKnown e k old new) (sym (widened-once d)) g)

-- a state of terms for entries and for the inputs of a cycle, in a trail's world
pub state-denotes : (d : DesignView) (old new : List Node) (state : SymState) (n : ℕ) (t : Trail) (q : List ℕ) → Extends old new → HaveSorts old state.entries (entry_sorts d.pipe) → DenotesInputs d n new state.inputs
    → TrailFits d t → n < length t.inputs → DenoteValues (trail_world t q) old state.entries (state_after d t n)
    → DenotesState d (trail_world t q) new state t.interp (state_after d t n) (inputs_at t n)
state-denotes d old new state n t q e sorted inputs fits below values = record {
  world = IsWorldOf-world_of d t.interp t.state (case_of_trail t).inputs q fits.interp;
  entries = values-later (trail_world t q) old new e state.entries (entry_sorts d.pipe) (state_after d t n) sorted values;
  inputs = inputs.denotes (trail_world t q) (inputs_at t n) (inputs-fit d t n fits below) (λ i within. inputs-there d t q n fits below i within);
}

-- before the first cycle
pub run-starts : (d : DesignView) (g1 g2 g3 g4 g5 : List Node) (state visible : SymState) (inside id : ℕ) → Extends g1 g2 → HaveSorts g1 state.entries (entry_sorts d.pipe) → DenotesEntries d g1 state.entries
    → HaveSorts g2 state.inputs (port_sorts d.pipe) → DenotesInputs d 0 g2 state.inputs → Extends g2 g3 → HasSort g3 inside sort.Bool
    → ((w : World) (interp : List Table) (values : List Value) (inputs : List Scalar) → DenotesState d w g2 state interp values inputs → Says w g3 inside (MeetsInvariant d interp values))
    → Extends g3 g4 → StandsFor d g3 g4 state (flushed d) visible → Extends g4 g5 → HasSort g5 id sort.Bool → Denotes g5 id (λ w. Truth true)
    → StartsRun d g5 inside (record { state = state; flushed = visible; commutes = id })
run-starts d g1 g2 g3 g4 g5 state visible inside id e1 sorted entries inputs_sorted inputs e2 inside_sorted says e3 shown e4 id_sorted is = record {
  truth = HasSort-Extends g3 g5 (Extends-trans g3 g4 g5 e3 e4) inside sort.Bool inside_sorted;
  says = λ t q fits some.
      Says-later (trail_world t q) g3 g5 inside sort.Bool (MeetsInvariant d t.interp t.state) (Extends-trans g3 g4 g5 e3 e4) inside_sorted
      (says (trail_world t q) t.interp t.state (inputs_at t 0) (first t q fits some));
  running = record {
    sorted = StateHasSorts-later d g2 g5 (Extends-trans g2 g4 g5 (Extends-trans g2 g3 g4 e2 e3) e4) state stated;
    visible = IsVisible-later d g4 g5 e4 visible shown.sorted;
    truth = id_sorted;
    follows = λ t q fits some few. record {
      state = (DenotesState-later d (trail_world t q) g2 g5 (Extends-trans g2 g4 g5 (Extends-trans g2 g3 g4 e2 e3) e4) state t.interp t.state (inputs_at t 0) stated (first t q fits some)).entries;
      flushed = values-later (trail_world t q) g4 g5 e4 visible.entries (entry_sorts d.spec) (flushed d t.interp t.state) shown.sorted.sorted
          (shown.denotes (trail_world t q) t.interp t.state (inputs_at t 0) (DenotesState-later d (trail_world t q) g2 g3 e2 state t.interp t.state (inputs_at t 0) stated (first t q fits some)));
      commutes = Says-true (trail_world t q) g5 id ((m : ℕ) → m < 0 → CycleCommutesAt d t q m) is (λ m h. absurd (omega (arith, h)));
    };
  };
} where
  stated : StateHasSorts d.pipe g2 state
  stated = record { entries = HaveSorts-Extends g1 g2 e1 state.entries (entry_sorts d.pipe) sorted; inputs = inputs_sorted }

  first : (t : Trail) (q : List ℕ) → TrailFits d t → 1 ≤ length t.inputs → DenotesState d (trail_world t q) g2 state t.interp t.state (inputs_at t 0)
  first t q fits some = state-denotes d g1 g2 state 0 t q e1 sorted inputs fits (omega (arith, some)) (entries.denotes (trail_world t q) t.state fits.state (λ i within. refl))

-- all that is below a number, and it
below-next : (P : ℕ → Type 0) (n : ℕ) → (((m : ℕ) → m < n → P m) × P n) ↔ ((m : ℕ) → m < n + 1 → P m)
below-next P n = (λ h m lt. by_place m (place m n lt) h, λ h. (λ m lt. h m (omega (arith, lt)), h n (omega arith))) where
  place : (m n : ℕ) → m < n + 1 → (m ≡ n) ⊎ (m < n)
  place m n h = eq-or-lt_of_le (omega (arith, h))

  by_place : (m : ℕ) → (m ≡ n) ⊎ (m < n) → ((k : ℕ) → k < n → P k) × P n → P m
  by_place m (inl e) h = subst P (sym e) h.1
  by_place m (inr lt) h = h.0 m lt

-- one cycle more
pub run-more : (d : DesignView) (g0 g1 g2 g3 g4 g5 : List Node) (run : Run) (inputs : List ℕ) (next visible : SymState) (n first one id : ℕ) → IsRun d g0 n run → Extends g0 g1
    → HaveSorts g1 inputs (port_sorts d.pipe) → DenotesInputs d n g1 inputs → Extends g1 g2 → StateHasSorts d.pipe g2 next → next.inputs ≡ inputs
    → DenotesStep d g1 g2 (record { entries = run.state.entries; inputs = inputs }) next → Extends g2 g3 → StandsFor d g2 g3 next (flushed d) visible → Extends g3 g4 → first ≡ n * address_count d → HasSort g4 one sort.Bool
    → ((w : World) (interp : List Table) (values : List Value) (scalars : List Scalar) (a b : List Value) → DenotesState d w g3 (record { entries = run.state.entries; inputs = inputs }) interp values scalars
    → DenoteValues w g3 run.flushed.entries a → DenoteValues w g3 visible.entries b → Says w g4 one (StandsUpTo d w interp values scalars first a b d.steps))
    → Extends g4 g5 → HasSort g5 id sort.Bool → Denotes g5 id (λ w. Truth (truth w g4 run.commutes && truth w g4 one)) → IsRun d g5 (n + 1) (record { state = next; flushed = visible; commutes = id })
run-more d g0 g1 g2 g3 g4 g5 run inputs next visible n first one id h e0 inputs_sorted inputs_denote e1 next_sorted next_inputs steps e2 shown e3 start one_sorted says e4 id_sorted is = record {
  sorted = StateHasSorts-later d g2 g5 late next next_sorted;
  visible = IsVisible-later d g3 g5 (Extends-trans g3 g4 g5 e3 e4) visible shown.sorted;
  truth = id_sorted;
  follows = followed;
} where
  late : Extends g2 g5
  late = Extends-trans g2 g4 g5 (Extends-trans g2 g3 g4 e2 e3) e4

  front : Extends g0 g3
  front = Extends-trans g0 g2 g3 (Extends-trans g0 g1 g2 e0 e1) e2

  state : SymState
  state = record { entries = run.state.entries; inputs = inputs }

  stated : StateHasSorts d.pipe g1 state
  stated = record { entries = HaveSorts-Extends g0 g1 e0 run.state.entries (entry_sorts d.pipe) h.sorted.entries; inputs = inputs_sorted }

  followed : (t : Trail) (q : List ℕ) → TrailFits d t → 1 ≤ length t.inputs → n + 1 ≤ length t.inputs → FollowsTrail d g5 (n + 1) (record { state = next; flushed = visible; commutes = id }) t q
  followed t q fits some few =
      let w : World = trail_world t q in
      let below : n < length t.inputs = omega (arith, few) in
      let values : List Value = state_after d t n in
      let scalars : List Scalar = inputs_at t n in
      let moved : List Value = step d.pipe t.interp values scalars in
      let now = h.follows t q fits some (omega (arith, few)) in
      let here : DenotesState d w g1 state t.interp values scalars = state-denotes d g0 g1 state n t q e0 h.sorted.entries inputs_denote fits below now.state in
      let there : DenotesState d w g2 next t.interp moved scalars = next-denotes d w g1 g2 state next t.interp values scalars e1 stated steps next_inputs here in
      let after : DenoteValues w g3 visible.entries (flushed d t.interp moved) = shown.denotes w t.interp moved scalars there in
      let said : Says w g4 one (CommutesAt d (flushed d) t.interp values scalars first q) =
      says w t.interp values scalars (flushed d t.interp values) (flushed d t.interp moved) (DenotesState-later d w g1 g3 (Extends-trans g1 g2 g3 e1 e2) state t.interp values scalars stated here)
      (values-later w g0 g3 front run.flushed.entries (entry_sorts d.spec) (flushed d t.interp values) h.visible.sorted now.flushed) after in
      let cycle : Says w g4 one (CycleCommutesAt d t q n) = subst (λ k. Says w g4 one (CommutesAt d (flushed d) t.interp values scalars k q)) start said in
      let earlier : Says w g4 run.commutes ((m : ℕ) → m < n → CycleCommutesAt d t q m) =
      Says-later w g0 g4 run.commutes sort.Bool ((m : ℕ) → m < n → CycleCommutesAt d t q m) (Extends-trans g0 g3 g4 front e3) h.truth now.commutes in
      let same : moved ≡ state_after d t (n + 1) = sym (state_after-next d t n below) in
      record {
        state = subst (DenoteValues w g5 next.entries) same (values-later w g2 g5 late next.entries (entry_sorts d.pipe) moved next_sorted.entries there.entries);
        flushed = subst (λ vs. DenoteValues w g5 visible.entries (flushed d t.interp vs)) same
            (values-later w g3 g5 (Extends-trans g3 g4 g5 e3 e4) visible.entries (entry_sorts d.spec) (flushed d t.interp moved) shown.sorted.sorted after);
        commutes =
            Says-same w g5 id (((m : ℕ) → m < n → CycleCommutesAt d t q m) × CycleCommutesAt d t q n) ((m : ℕ) → m < n + 1 → CycleCommutesAt d t q m) (below-next (CycleCommutesAt d t q) n)
            (Says-and w g4 g5 run.commutes one id ((m : ℕ) → m < n → CycleCommutesAt d t q m) (CycleCommutesAt d t q n) earlier cycle is);
      }

-- a run of n cycles from a start
pub record Running (d : DesignView) (cycles : ℕ) (old cur : List Node) (inside : ℕ) (run : Run) (n : ℕ) : Type 0 where
  pub grows : GrowsKnown (widened d cycles) (cycles * address_count d) old cur
  pub inside_truth : HasSort cur inside sort.Bool
  pub inside_says : (t : Trail) (q : List ℕ) → TrailFits d t → 1 ≤ length t.inputs → Says (trail_world t q) cur inside (MeetsInvariant d t.interp t.state)
  pub run_is : IsRun d cur n run
  pub made : (later : List Node) (left id : ℕ) → Extends cur later → n + left ≡ cycles → CyclesFrom later d n run.state.entries run.flushed run.commutes left id → IsRunOf later d cycles inside id

pub running-more : (d : DesignView) (cycles : ℕ) (old cur new : List Node) (inside : ℕ) (run next : Run) (n : ℕ) → n + 1 ≤ cycles → Running d cycles old cur inside run n → IsRun d new (n + 1) next
    → GrowsKnown (widened d (n + 1)) ((n + 1) * address_count d) cur new → GrowsKnown (widened d cycles) (cycles * address_count d) old new
    → IsCycleOfRun new d n run.state.entries run.flushed run.commutes next.state next.flushed next.commutes → Running d cycles old new inside next (n + 1)
running-more d cycles old cur new inside run next n few h is g whole m = record {
  grows = whole;
  inside_truth = HasSort-Extends cur new g.extends inside sort.Bool h.inside_truth;
  inside_says = λ t q fits some. Says-later (trail_world t q) cur new inside sort.Bool (MeetsInvariant d t.interp t.state) g.extends h.inside_truth (h.inside_says t q fits some);
  run_is = is;
  made = λ later left id more all r.
      h.made later (suc left) id (Extends-trans cur new later g.extends more) (omega (arith, all))
      (next.state, next.flushed, next.commutes, cycle-Extends new later more d n run.state.entries run.flushed run.commutes next.state next.flushed next.commutes m, r);
}

-- after all of them the implication claims the run
pub running-claims : (d : DesignView) (cycles : ℕ) (old cur new : List Node) (inside : ℕ) (run : Run) (n id : ℕ) → 1 ≤ cycles → n ≡ cycles → Running d cycles old cur inside run n
    → Denotes new id (λ w. Truth (not (truth w cur inside) || truth w cur run.commutes)) → ClaimsRuns d cycles new id
running-claims d cycles old cur new inside run n id some all h is = record {
  means = λ t q over.
      let w : World = trail_world t q in
      let now = h.run_is.follows t q over.fits (omega (arith, some, over.counted)) (omega (arith, all, over.counted)) in
      let same : n ≡ length t.inputs = omega (arith, all, over.counted) in
      Says-implies w cur new inside run.commutes id (MeetsInvariant d t.interp t.state) ((m : ℕ) → m < length t.inputs → CycleCommutesAt d t q m) (h.inside_says t q over.fits (omega (arith, some, over.counted)))
      (subst (λ k. Says w cur run.commutes ((m : ℕ) → m < k → CycleCommutesAt d t q m)) same now.commutes) is;
}

-- and the calls are those for it
pub running-made : (d : DesignView) (cycles : ℕ) (old cur new : List Node) (inside : ℕ) (run : Run) (n : ℕ) (r : Result ℕ AllocError) → 1 ≤ cycles → n ≡ cycles → Running d cycles old cur inside run n → Extends cur new
    → IfOk r (IsImplication new inside run.commutes) → IfOk r (IsBoundedRoot new d cycles)
running-made d cycles old cur new inside run n r some all h e m =
    IfOk-weaker r (IsImplication new inside run.commutes) (IsBoundedRoot new d cycles) (λ id k. bounded-root new d cycles inside run.commutes id some (h.made new 0 run.commutes e (omega (arith, all)) refl) k) m

-- the addresses of a run of some cycles are among those of more
pub addresses-fewer : (d : DesignView) (n m : ℕ) → n ≤ m → n * address_count d ≤ m * address_count d
addresses-fewer d n m few = mul-le-mul few (omega arith)

pub running-claimed : (d : DesignView) (cycles : ℕ) (old cur new : List Node) (inside : ℕ) (run : Run) (n : ℕ) (r : Result ℕ AllocError) → 1 ≤ cycles → n ≡ cycles → Running d cycles old cur inside run n
    → IfOk r (λ id. Denotes new id (λ w. Truth (not (truth w cur inside) || truth w cur run.commutes))) → IfOk r (ClaimsRuns d cycles new)
running-claimed d cycles old cur new inside run n (Ok id) some all h is = running-claims d cycles old cur new inside run n id some all h is
running-claimed d cycles old cur new inside run n (Err e) some all h is = tt

-- no number of an address is too large
pub each-fit : (d : DesignView) (count : ℕ) → IsLawful d → count ≤ most_items → count * (d.steps + 1) ≤ 18874368
each-fit d count lawful small =
    let more : d.steps + 1 ≤ 9 = omega (arith, lawful.steps) in
    let one : count * (d.steps + 1) ≤ most_items * 9 = mul-le-mul small more in
    omega (arith, one)

pub all-fit : (d : DesignView) (cycles count : ℕ) → IsLawful d → cycles ≤ most_cycles → count ≤ most_items → cycles * (count * (d.steps + 1)) ≤ 301989888
all-fit d cycles count lawful few small =
    let all : cycles * (count * (d.steps + 1)) ≤ 16 * 18874368 = mul-le-mul few (each-fit d count lawful small) in
    omega (arith, all)

pub first-fits : (d : DesignView) (cycle count : ℕ) → IsLawful d → cycle < most_cycles → count ≤ most_items → cycle * (count * (d.steps + 1)) ≤ 283115520
first-fits d cycle count lawful few small =
    let less : cycle ≤ 15 = omega (arith, few) in
    let all : cycle * (count * (d.steps + 1)) ≤ 15 * 18874368 = mul-le-mul less (each-fit d count lawful small) in
    omega (arith, all)

-- the addresses of a cycle are among those of the cycles up to it
pub more-fit : (d : DesignView) (cycle count : ℕ) → count ≡ memory_count d → cycle * (count * (d.steps + 1)) + address_count d ≤ (cycle + 1) * address_count d
more-fit d cycle count same =
    let e : cycle * (count * (d.steps + 1)) ≡ cycle * address_count d = ap (λ k. cycle * (k * (d.steps + 1))) same in
    omega (arith, e)
