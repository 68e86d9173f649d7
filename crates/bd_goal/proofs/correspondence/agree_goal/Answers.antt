use Rattle.std.proofs.Common.{◌*◌, ◌+◌, arith}
use Rattle.bd_model.specs.Conditions.{MeetsInvariant}
use Rattle.bd_model.specs.Cycle.{flushed}
use Rattle.bd_model.specs.DesignView.{DesignView, design_view}
use Rattle.bd_model.specs.Lawful.{entry_sorts}
use Rattle.bd_model.specs.declared.design.Sort.TheVariants as sort
use Rattle.bd_terms.proofs.Growth.{Extends-trans, HasSort-Extends}
use Rattle.bd_symbolic.specs.DesignSymbols.{GrowsWithin}
use Rattle.bd_symbolic.proofs.Growing.{Grows-trans, KeepsDesign-Grows}
use Rattle.bd_model.specs.Abstraction.{abstraction_of}
use Rattle.bd_terms.specs.Graph.{Extends}
use Rattle.bd_model.specs.declared.abstraction.Abstraction.TheVariants as abstraction
use Rattle.bd_symbolic.proofs.Making.{first_state-Extends}
use Rattle.bd_goal.proofs.Making.{equal-Extends, invariant-Extends, visible-Extends}
use Rattle.bd_goal.specs.Claims.{case_world}
use Rattle.bd_goal.specs.Formula.{EqualAt, memory_count}
use Rattle.bd_goal.specs.Symbols.{GrowsKnown}
use Rattle.bd_goal.proofs.Known.{KeepsAddresses-Known, KeepsAddresses-empty, KeepsDesign-empty, Known-none, Known-trans, Known-within, Reaches-Known}
use Rattle.bd_goal.proofs.Equalling.{AreBelow}
use Rattle.bd_goal.proofs.Joining.{plain-address}
use Rattle.bd_goal.proofs.Showing.{DenotesState-later, Says-implies, Says-later, Says-same, StateHasSorts-later, values-later}
use Rattle.bd_goal.proofs.correspondence.agree_goal.Goals as goal
use Rattle.bd_symbolic.proofs.States.{HaveSorts-Extends}

below-once : (d : DesignView) → AreBelow d 0 1 (memory_count d)
below-once d m inside = omega (arith, inside)

pub sym_state-requires-clause-keeps : goal.sym_state-requires-clause-keeps
sym_state-requires-clause-keeps c = KeepsDesign-empty (design_view c.args.design.now) _ c.requires.empty

pub invariant-requires-clause-keeps : goal.invariant-requires-clause-keeps
invariant-requires-clause-keeps c =
    let d = design_view c.args.design.now in
    KeepsDesign-Grows d _ _ c.sym_state.ensures.grows (KeepsDesign-empty d _ c.requires.empty)

pub abstracted-requires-clause-keeps : goal.abstracted-requires-clause-keeps
abstracted-requires-clause-keeps c =
    let d = design_view c.args.design.now in
    KeepsDesign-Grows d _ _ (Grows-trans d _ _ _ c.sym_state.ensures.grows c.invariant.ensures.grows) (KeepsDesign-empty d _ c.requires.empty)

pub abstracted-requires-clause-sorted : goal.abstracted-requires-clause-sorted
abstracted-requires-clause-sorted c = StateHasSorts-later (design_view c.args.design.now) _ _ c.invariant.ensures.grows.extends _ c.in_ok-state.ensures.sorted

pub abstracted-requires-2-clause-keeps : goal.abstracted-requires-2-clause-keeps
abstracted-requires-2-clause-keeps c =
    let d = design_view c.args.design.now in
    KeepsDesign-Grows d _ _ (Grows-trans d _ _ _ (Grows-trans d _ _ _ c.sym_state.ensures.grows c.invariant.ensures.grows) c.abstracted.ensures.grows) (KeepsDesign-empty d _ c.requires.empty)

pub abstracted-requires-2-clause-sorted : goal.abstracted-requires-2-clause-sorted
abstracted-requires-2-clause-sorted c =
    StateHasSorts-later (design_view c.args.design.now) _ _ (Extends-trans _ _ _ c.invariant.ensures.grows.extends c.abstracted.ensures.grows.extends) _ c.in_ok-state.ensures.sorted

pub equal-requires-clause-addresses : goal.equal-requires-clause-addresses
equal-requires-clause-addresses c =
    let d = design_view c.args.design.now in
    let front : GrowsWithin d c.args.graph.now c.abstracted-2.new.graph = Grows-trans d _ _ _ (Grows-trans d _ _ _ (Grows-trans d _ _ _ c.sym_state.ensures.grows c.invariant.ensures.grows) c.abstracted.ensures.grows) c.abstracted-2.ensures.grows in
    KeepsAddresses-Known d 0 _ _ (Known-within d 0 _ _ front) (KeepsAddresses-empty _ c.requires.empty)

pub equal-requires-clause-ours : goal.equal-requires-clause-ours
equal-requires-clause-ours c = HaveSorts-Extends _ _ c.abstracted-2.ensures.grows.extends _ _ c.in_ok-given.ensures.shown.sorted.sorted

pub equal-requires-clause-theirs : goal.equal-requires-clause-theirs
equal-requires-clause-theirs c = c.in_ok-flushed.ensures.shown.sorted.sorted

pub implies-requires-clause-first : goal.implies-requires-clause-first
implies-requires-clause-first c =
    HasSort-Extends _ _ (Extends-trans _ _ _ (Extends-trans _ _ _ c.abstracted.ensures.grows.extends c.abstracted-2.ensures.grows.extends) (c.equal.ensures.grows (memory_count (design_view c.args.design.now)) (below-once (design_view c.args.design.now))).extends) _ sort.Bool c.in_ok-inside.ensures.sorted

pub returns-clause-denotes : goal.returns-clause-denotes
returns-clause-denotes c =
    let d = design_view c.args.design.now in
    let abs = abstraction_of d c.args.abs.now in
    let compared : GrowsKnown d (memory_count d) c.abstracted-2.new.graph c.equal.new.graph = c.equal.ensures.grows (memory_count d) (below-once d) in
    record {
      means = λ x q fits.
          let w = case_world x q in
          let first = c.in_ok-state.ensures.denotes.denotes x q fits in
          let second = DenotesState-later d w _ _ c.invariant.ensures.grows.extends _ x.interp x.state x.inputs c.in_ok-state.ensures.sorted first in
          let third = DenotesState-later d w _ _ (Extends-trans _ _ _ c.invariant.ensures.grows.extends c.abstracted.ensures.grows.extends) _ x.interp x.state x.inputs c.in_ok-state.ensures.sorted first in
          let inside = c.in_ok-inside.ensures.says w x.interp x.state x.inputs first in
          let ours = values-later w _ _ c.abstracted-2.ensures.grows.extends _ (entry_sorts d.spec) (abs x.interp x.state) c.in_ok-given.ensures.shown.sorted.sorted (c.in_ok-given.ensures.shown.denotes w x.interp x.state x.inputs second) in
          let theirs = c.in_ok-flushed.ensures.shown.denotes w x.interp x.state x.inputs third in
          Says-implies w c.equal.new.graph c.implies.new.graph c.in_ok-inside.inside c.in_ok-same.same c.in_ok-root.root (MeetsInvariant d x.interp x.state) (EqualAt (λ m. m) q (abs x.interp x.state) (flushed d x.interp x.state))
          (Says-later w c.invariant.new.graph c.equal.new.graph c.in_ok-inside.inside sort.Bool (MeetsInvariant d x.interp x.state) (Extends-trans _ _ _ (Extends-trans _ _ _ c.abstracted.ensures.grows.extends c.abstracted-2.ensures.grows.extends) compared.extends) c.in_ok-inside.ensures.sorted inside)
          (Says-same w c.equal.new.graph c.in_ok-same.same (EqualAt (λ m. m * 1 + 0) q (abs x.interp x.state) (flushed d x.interp x.state)) (EqualAt (λ m. m) q (abs x.interp x.state) (flushed d x.interp x.state))
          (plain-address q (abs x.interp x.state) (flushed d x.interp x.state)) (c.in_ok-same.ensures.says w (abs x.interp x.state) (flushed d x.interp x.state) ours theirs))
          c.in_ok-root.ensures.denotes;
    }

pub returns-clause-symbols : goal.returns-clause-symbols
returns-clause-symbols c =
    let d = design_view c.args.design.now in
    let front : GrowsWithin d c.args.graph.now c.abstracted-2.new.graph = Grows-trans d _ _ _ (Grows-trans d _ _ _ (Grows-trans d _ _ _ c.sym_state.ensures.grows c.invariant.ensures.grows) c.abstracted.ensures.grows) c.abstracted-2.ensures.grows in
    let n = memory_count d in
    let compared : GrowsKnown d n c.abstracted-2.new.graph c.equal.new.graph = c.equal.ensures.grows n (below-once d) in
    let grows : GrowsKnown d n c.args.graph.now c.implies.new.graph = Known-trans d n _ _ _ (Known-within d n _ _ front) (Known-trans d n _ _ _ compared (Known-none d n _ _ c.implies.ensures.extends c.implies.ensures.uses)) in
    rw c.memory_count.ensures.count (Reaches-Known d n _ _ _ c.requires.empty grows)

pub returns-clause-grows : goal.returns-clause-grows
returns-clause-grows c =
    let d = design_view c.args.design.now in
    let front : GrowsWithin d c.args.graph.now c.abstracted-2.new.graph = Grows-trans d _ _ _ (Grows-trans d _ _ _ (Grows-trans d _ _ _ c.sym_state.ensures.grows c.invariant.ensures.grows) c.abstracted.ensures.grows) c.abstracted-2.ensures.grows in
    let n = memory_count d in
    let compared : GrowsKnown d n c.abstracted-2.new.graph c.equal.new.graph = c.equal.ensures.grows n (below-once d) in
    let grows : GrowsKnown d n c.args.graph.now c.implies.new.graph = Known-trans d n _ _ _ (Known-within d n _ _ front) (Known-trans d n _ _ _ compared (Known-none d n _ _ c.implies.ensures.extends c.implies.ensures.uses)) in
    grows

pub returns-in_err-state-clause-grows : goal.returns-in_err-state-clause-grows
returns-in_err-state-clause-grows c = Known-within (design_view c.args.design.now) (memory_count (design_view c.args.design.now)) _ _ c.sym_state.ensures.grows

pub returns-in_err-inside-clause-grows : goal.returns-in_err-inside-clause-grows
returns-in_err-inside-clause-grows c = Known-within (design_view c.args.design.now) (memory_count (design_view c.args.design.now)) _ _ (Grows-trans (design_view c.args.design.now) _ _ _ c.sym_state.ensures.grows c.invariant.ensures.grows)

pub returns-in_err-given-clause-grows : goal.returns-in_err-given-clause-grows
returns-in_err-given-clause-grows c = Known-within (design_view c.args.design.now) (memory_count (design_view c.args.design.now)) _ _ (Grows-trans (design_view c.args.design.now) _ _ _ (Grows-trans (design_view c.args.design.now) _ _ _ c.sym_state.ensures.grows c.invariant.ensures.grows) c.abstracted.ensures.grows)

pub returns-in_err-flushed-clause-grows : goal.returns-in_err-flushed-clause-grows
returns-in_err-flushed-clause-grows c = Known-within (design_view c.args.design.now) (memory_count (design_view c.args.design.now)) _ _ (Grows-trans (design_view c.args.design.now) _ _ _ (Grows-trans (design_view c.args.design.now) _ _ _ (Grows-trans (design_view c.args.design.now) _ _ _ c.sym_state.ensures.grows c.invariant.ensures.grows) c.abstracted.ensures.grows) c.abstracted-2.ensures.grows)

pub returns-in_err-same-clause-grows : goal.returns-in_err-same-clause-grows
returns-in_err-same-clause-grows c = Known-trans (design_view c.args.design.now) (memory_count (design_view c.args.design.now)) _ _ _ (Known-within (design_view c.args.design.now) (memory_count (design_view c.args.design.now)) _ _ (Grows-trans (design_view c.args.design.now) _ _ _ (Grows-trans (design_view c.args.design.now) _ _ _ (Grows-trans (design_view c.args.design.now) _ _ _ c.sym_state.ensures.grows c.invariant.ensures.grows) c.abstracted.ensures.grows) c.abstracted-2.ensures.grows)) (c.equal.ensures.grows (memory_count (design_view c.args.design.now)) (below-once (design_view c.args.design.now)))

pub returns-in_err-root-clause-grows : goal.returns-in_err-root-clause-grows
returns-in_err-root-clause-grows c = Known-trans (design_view c.args.design.now) (memory_count (design_view c.args.design.now)) _ _ _ (Known-within (design_view c.args.design.now) (memory_count (design_view c.args.design.now)) _ _ (Grows-trans (design_view c.args.design.now) _ _ _ (Grows-trans (design_view c.args.design.now) _ _ _ (Grows-trans (design_view c.args.design.now) _ _ _ c.sym_state.ensures.grows c.invariant.ensures.grows) c.abstracted.ensures.grows) c.abstracted-2.ensures.grows)) (Known-trans (design_view c.args.design.now) (memory_count (design_view c.args.design.now)) _ _ _ (c.equal.ensures.grows (memory_count (design_view c.args.design.now)) (below-once (design_view c.args.design.now))) (Known-none (design_view c.args.design.now) (memory_count (design_view c.args.design.now)) _ _ c.implies.ensures.extends c.implies.ensures.uses))

pub returns-clause-made : goal.returns-clause-made
returns-clause-made c =
    let d = design_view c.args.design.now in
    let from_same : Extends c.equal.new.graph c.implies.new.graph = c.implies.ensures.extends in
    let from_flushed : Extends c.abstracted-2.new.graph c.implies.new.graph = Extends-trans _ _ _ (c.equal.ensures.grows (memory_count d) (below-once d)).extends from_same in
    let from_given : Extends c.abstracted.new.graph c.implies.new.graph = Extends-trans _ _ _ c.abstracted-2.ensures.grows.extends from_flushed in
    let from_inside : Extends c.invariant.new.graph c.implies.new.graph = Extends-trans _ _ _ c.abstracted.ensures.grows.extends from_given in
    let from_state : Extends c.sym_state.new.graph c.implies.new.graph = Extends-trans _ _ _ c.invariant.ensures.grows.extends from_inside in
    record {
      state = c.in_ok-state.state;
      given = c.in_ok-given.given.entries;
      flushed = c.in_ok-flushed.flushed.entries;
      inside = c.in_ok-inside.inside;
      same = c.in_ok-same.same;
      is_first = first_state-Extends _ _ from_state d c.in_ok-state.state c.in_ok-state.ensures.made;
      is_inside = invariant-Extends _ _ from_inside d c.in_ok-state.state _ c.in_ok-inside.ensures.made;
      is_given = visible-Extends _ _ from_given d c.args.abs.now c.in_ok-state.state _ c.in_ok-given.ensures.made;
      is_flushed = visible-Extends _ _ from_flushed d abstraction.Flushing c.in_ok-state.state _ c.in_ok-flushed.ensures.made;
      are_equal = equal-Extends _ _ from_same d _ _ 0 1 _ c.in_ok-same.ensures.made;
      implied = c.in_ok-root.ensures.made;
    }
