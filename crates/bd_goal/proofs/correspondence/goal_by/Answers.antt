use Rattle.std.proofs.Common.{◌+◌, ◌*◌, Ok, ap, arith}
use Rattle.bd_model.specs.Conditions.{KeepsInvariant, MeetsInvariant}
use Rattle.bd_model.specs.Cycle.{step}
use Rattle.bd_model.specs.DesignView.{design_view}
use Rattle.bd_model.specs.Lawful.{entry_sorts}
use Rattle.bd_model.specs.declared.design.Sort.TheVariants as sort
use Rattle.bd_terms.proofs.Growth.{Extends-trans, HasSort-Extends, inside-Extends}
use Rattle.bd_symbolic.proofs.Growing.{Grows-trans, KeepsDesign-Grows}
use Rattle.bd_model.specs.Abstraction.{abstraction_of}
use Rattle.bd_terms.specs.declared.node.Node.TheVariants as node
use Rattle.bd_terms.specs.Graph.{Extends}
use Rattle.bd_symbolic.proofs.Making.{called, called-Extends, first_state-Extends, over-Extends}
use Rattle.bd_goal.proofs.Making.{commuting-Extends, invariant-Extends, visible-Extends}
use Rattle.bd_goal.specs.Claims.{case_world}
use Rattle.bd_goal.specs.Formula.{CommutesAt, address_count}
use Rattle.bd_goal.specs.Symbols.{GrowsKnown}
use Rattle.bd_goal.proofs.Known.{KeepsAddresses-Known, KeepsAddresses-empty, KeepsDesign-empty, Known-more, Known-none, Known-trans, Known-within, Reaches-Known}
use Rattle.bd_goal.proofs.Joining.{next-denotes}
use Rattle.bd_goal.proofs.Showing.{DenotesState-later, IsVisible-later, Says-and, Says-implies, Says-later, StateHasSorts-later, values-later}
use Rattle.bd_goal.proofs.correspondence.goal_by.Goals as goal

pub sym_state-requires-clause-keeps : goal.sym_state-requires-clause-keeps
sym_state-requires-clause-keeps c = KeepsDesign-empty (design_view c.args.design.now) _ c.requires.empty

pub sym_step-requires-clause-keeps : goal.sym_step-requires-clause-keeps
sym_step-requires-clause-keeps c =
    let d = design_view c.args.design.now in
    KeepsDesign-Grows d _ _ (c.sym_state.ensures.grows) (KeepsDesign-empty d _ c.requires.empty)

pub invariant-requires-clause-keeps : goal.invariant-requires-clause-keeps
invariant-requires-clause-keeps c =
    let d = design_view c.args.design.now in
    KeepsDesign-Grows d _ _ (Grows-trans d _ _ _ (c.sym_state.ensures.grows) c.sym_step.ensures.grows) (KeepsDesign-empty d _ c.requires.empty)

pub invariant-requires-clause-sorted : goal.invariant-requires-clause-sorted
invariant-requires-clause-sorted c =
    let d = design_view c.args.design.now in
    StateHasSorts-later d _ _ c.sym_step.ensures.grows.extends _ c.in_ok-state.ensures.sorted

pub invariant-requires-2-clause-keeps : goal.invariant-requires-2-clause-keeps
invariant-requires-2-clause-keeps c =
    let d = design_view c.args.design.now in
    KeepsDesign-Grows d _ _ (Grows-trans d _ _ _ (Grows-trans d _ _ _ (c.sym_state.ensures.grows) c.sym_step.ensures.grows) c.invariant.ensures.grows) (KeepsDesign-empty d _ c.requires.empty)

pub invariant-requires-2-clause-sorted : goal.invariant-requires-2-clause-sorted
invariant-requires-2-clause-sorted c =
    let d = design_view c.args.design.now in
    StateHasSorts-later d _ _ c.invariant.ensures.grows.extends _ c.in_ok-next.ensures.sorted

pub abstracted-requires-clause-keeps : goal.abstracted-requires-clause-keeps
abstracted-requires-clause-keeps c =
    let d = design_view c.args.design.now in
    KeepsDesign-Grows d _ _ (Grows-trans d _ _ _ (Grows-trans d _ _ _ (Grows-trans d _ _ _ (c.sym_state.ensures.grows) c.sym_step.ensures.grows) c.invariant.ensures.grows) c.invariant-2.ensures.grows) (KeepsDesign-empty d _ c.requires.empty)

pub abstracted-requires-clause-sorted : goal.abstracted-requires-clause-sorted
abstracted-requires-clause-sorted c =
    let d = design_view c.args.design.now in
    StateHasSorts-later d _ _ (Extends-trans _ _ _ (c.invariant.ensures.grows.extends) c.invariant-2.ensures.grows.extends) _ c.in_ok-next.ensures.sorted

pub abstracted-requires-2-clause-keeps : goal.abstracted-requires-2-clause-keeps
abstracted-requires-2-clause-keeps c =
    let d = design_view c.args.design.now in
    KeepsDesign-Grows d _ _ (Grows-trans d _ _ _ (Grows-trans d _ _ _ (Grows-trans d _ _ _ (Grows-trans d _ _ _ (c.sym_state.ensures.grows) c.sym_step.ensures.grows) c.invariant.ensures.grows) c.invariant-2.ensures.grows) c.abstracted.ensures.grows) (KeepsDesign-empty d _ c.requires.empty)

pub abstracted-requires-2-clause-sorted : goal.abstracted-requires-2-clause-sorted
abstracted-requires-2-clause-sorted c =
    let d = design_view c.args.design.now in
    StateHasSorts-later d _ _ (Extends-trans _ _ _ (Extends-trans _ _ _ (Extends-trans _ _ _ (c.sym_step.ensures.grows.extends) c.invariant.ensures.grows.extends) c.invariant-2.ensures.grows.extends) c.abstracted.ensures.grows.extends) _ c.in_ok-state.ensures.sorted

pub commutes-requires-clause-keeps : goal.commutes-requires-clause-keeps
commutes-requires-clause-keeps c =
    let d = design_view c.args.design.now in
    KeepsDesign-Grows d _ _ (Grows-trans d _ _ _ (Grows-trans d _ _ _ (Grows-trans d _ _ _ (Grows-trans d _ _ _ (Grows-trans d _ _ _ (c.sym_state.ensures.grows) c.sym_step.ensures.grows) c.invariant.ensures.grows) c.invariant-2.ensures.grows) c.abstracted.ensures.grows) c.abstracted-2.ensures.grows) (KeepsDesign-empty d _ c.requires.empty)

pub commutes-requires-clause-words : goal.commutes-requires-clause-words
commutes-requires-clause-words c =
    let d = design_view c.args.design.now in
    KeepsAddresses-Known d 0 _ _ (Known-within d 0 _ _ (Grows-trans d _ _ _ (Grows-trans d _ _ _ (Grows-trans d _ _ _ (Grows-trans d _ _ _ (Grows-trans d _ _ _ (c.sym_state.ensures.grows) c.sym_step.ensures.grows) c.invariant.ensures.grows) c.invariant-2.ensures.grows) c.abstracted.ensures.grows) c.abstracted-2.ensures.grows)) (KeepsAddresses-empty _ c.requires.empty)

pub commutes-requires-clause-state : goal.commutes-requires-clause-state
commutes-requires-clause-state c =
    let d = design_view c.args.design.now in
    StateHasSorts-later d _ _ (Extends-trans _ _ _ (Extends-trans _ _ _ (Extends-trans _ _ _ (Extends-trans _ _ _ (c.sym_step.ensures.grows.extends) c.invariant.ensures.grows.extends) c.invariant-2.ensures.grows.extends) c.abstracted.ensures.grows.extends) c.abstracted-2.ensures.grows.extends) _ c.in_ok-state.ensures.sorted

pub commutes-requires-clause-before : goal.commutes-requires-clause-before
commutes-requires-clause-before c =
    let d = design_view c.args.design.now in
    c.in_ok-before.ensures.shown.sorted

pub commutes-requires-clause-after : goal.commutes-requires-clause-after
commutes-requires-clause-after c =
    let d = design_view c.args.design.now in
    IsVisible-later d _ _ c.abstracted-2.ensures.grows.extends _ c.in_ok-after.ensures.shown.sorted

pub mk_and-requires-clause-first : goal.mk_and-requires-clause-first
mk_and-requires-clause-first c =
    let d = design_view c.args.design.now in
    HasSort-Extends _ _ (Extends-trans _ _ _ (Extends-trans _ _ _ (c.abstracted.ensures.grows.extends) c.abstracted-2.ensures.grows.extends) c.commutes.ensures.grows.extends) _ sort.Bool c.in_ok-kept.ensures.sorted

pub implies-requires-clause-first : goal.implies-requires-clause-first
implies-requires-clause-first c =
    let d = design_view c.args.design.now in
    HasSort-Extends _ _ (Extends-trans _ _ _ (Extends-trans _ _ _ (Extends-trans _ _ _ (Extends-trans _ _ _ (c.invariant-2.ensures.grows.extends) c.abstracted.ensures.grows.extends) c.abstracted-2.ensures.grows.extends) c.commutes.ensures.grows.extends) c.mk_and.ensures.extends) _ sort.Bool c.in_ok-inside.ensures.sorted

pub returns-clause-denotes : goal.returns-clause-denotes
returns-clause-denotes c =
    let d = design_view c.args.design.now in
    let abs = abstraction_of d c.args.abs.now in
    record {
      means = λ x q fits.
          let w = case_world x q in
          let next = step d.pipe x.interp x.state x.inputs in
          let first = c.in_ok-state.ensures.denotes.denotes x q fits in
          let second = next-denotes d w _ _ _ _ x.interp x.state x.inputs c.sym_step.ensures.grows.extends c.in_ok-state.ensures.sorted c.in_ok-next.ensures.denotes c.in_ok-next.ensures.inputs first in
          let inside = c.in_ok-inside.ensures.says w x.interp x.state x.inputs (DenotesState-later d w _ _ c.sym_step.ensures.grows.extends _ x.interp x.state x.inputs c.in_ok-state.ensures.sorted first) in
          let kept = c.in_ok-kept.ensures.says w x.interp next x.inputs (DenotesState-later d w _ _ c.invariant.ensures.grows.extends _ x.interp next x.inputs c.in_ok-next.ensures.sorted second) in
          let after = c.in_ok-after.ensures.shown.denotes w x.interp next x.inputs (DenotesState-later d w _ _ (Extends-trans _ _ _ (c.invariant.ensures.grows.extends) c.invariant-2.ensures.grows.extends) _ x.interp next x.inputs c.in_ok-next.ensures.sorted second) in
          let before = c.in_ok-before.ensures.shown.denotes w x.interp x.state x.inputs (DenotesState-later d w _ _ (Extends-trans _ _ _ (Extends-trans _ _ _ (Extends-trans _ _ _ (c.sym_step.ensures.grows.extends) c.invariant.ensures.grows.extends) c.invariant-2.ensures.grows.extends) c.abstracted.ensures.grows.extends) _ x.interp x.state x.inputs c.in_ok-state.ensures.sorted first) in
          let commutes = c.in_ok-commutes.ensures.says w x.interp x.state x.inputs (abs x.interp x.state) (abs x.interp next)
          (DenotesState-later d w _ _ (Extends-trans _ _ _ (Extends-trans _ _ _ (Extends-trans _ _ _ (Extends-trans _ _ _ (c.sym_step.ensures.grows.extends) c.invariant.ensures.grows.extends) c.invariant-2.ensures.grows.extends) c.abstracted.ensures.grows.extends) c.abstracted-2.ensures.grows.extends) _ x.interp x.state x.inputs c.in_ok-state.ensures.sorted first) before
          (values-later w _ _ c.abstracted-2.ensures.grows.extends _ (entry_sorts d.spec) (abs x.interp next) c.in_ok-after.ensures.shown.sorted.sorted after) in
          Says-implies w c.mk_and.new.self c.implies.new.graph c.in_ok-inside.inside c.in_ok-holds.holds c.in_ok-root.root (MeetsInvariant d x.interp x.state) (KeepsInvariant d x.interp x.state x.inputs × CommutesAt d abs x.interp x.state x.inputs 0 q)
          (Says-later w c.invariant.new.graph c.mk_and.new.self c.in_ok-inside.inside sort.Bool (MeetsInvariant d x.interp x.state) (Extends-trans _ _ _ (Extends-trans _ _ _ (Extends-trans _ _ _ (Extends-trans _ _ _ (c.invariant-2.ensures.grows.extends) c.abstracted.ensures.grows.extends) c.abstracted-2.ensures.grows.extends) c.commutes.ensures.grows.extends) c.mk_and.ensures.extends) c.in_ok-inside.ensures.sorted inside)
          (Says-and w c.commutes.new.graph c.mk_and.new.self c.in_ok-kept.kept c.in_ok-commutes.commutes c.in_ok-holds.holds (KeepsInvariant d x.interp x.state x.inputs) (CommutesAt d abs x.interp x.state x.inputs 0 q)
          (Says-later w c.invariant-2.new.graph c.commutes.new.graph c.in_ok-kept.kept sort.Bool (KeepsInvariant d x.interp x.state x.inputs) (Extends-trans _ _ _ (Extends-trans _ _ _ (c.abstracted.ensures.grows.extends) c.abstracted-2.ensures.grows.extends) c.commutes.ensures.grows.extends) c.in_ok-kept.ensures.sorted kept) commutes c.in_ok-holds.ensures.denotes)
          c.in_ok-root.ensures.denotes;
    }

pub returns-clause-symbols : goal.returns-clause-symbols
returns-clause-symbols c =
    let d = design_view c.args.design.now in
    let n = address_count d in
    let grows : GrowsKnown d n c.args.graph.now c.implies.new.graph = Known-trans d n _ _ _ (Known-trans d n _ _ _ (Known-trans d n _ _ _ (Known-within d n _ _ (Grows-trans d _ _ _ (Grows-trans d _ _ _ (Grows-trans d _ _ _ (Grows-trans d _ _ _ (Grows-trans d _ _ _ (c.sym_state.ensures.grows) c.sym_step.ensures.grows) c.invariant.ensures.grows) c.invariant-2.ensures.grows) c.abstracted.ensures.grows) c.abstracted-2.ensures.grows)) (Known-more d (0 + n) n _ _ (omega arith) c.commutes.ensures.grows)) (Known-none d n _ _ c.mk_and.ensures.extends c.mk_and.ensures.uses)) (Known-none d n _ _ c.implies.ensures.extends c.implies.ensures.uses) in
    rw c.memory_count.ensures.count (Reaches-Known d n _ _ _ c.requires.empty grows)

pub returns-clause-grows : goal.returns-clause-grows
returns-clause-grows c =
    let d = design_view c.args.design.now in
    let n = address_count d in
    Known-trans d n _ _ _ (Known-trans d n _ _ _ (Known-trans d n _ _ _ (Known-within d n _ _ (Grows-trans d _ _ _ (Grows-trans d _ _ _ (Grows-trans d _ _ _ (Grows-trans d _ _ _ (Grows-trans d _ _ _ (c.sym_state.ensures.grows) c.sym_step.ensures.grows) c.invariant.ensures.grows) c.invariant-2.ensures.grows) c.abstracted.ensures.grows) c.abstracted-2.ensures.grows)) (Known-more d (0 + n) n _ _ (omega arith) c.commutes.ensures.grows)) (Known-none d n _ _ c.mk_and.ensures.extends c.mk_and.ensures.uses)) (Known-none d n _ _ c.implies.ensures.extends c.implies.ensures.uses)

pub returns-clause-addresses : goal.returns-clause-addresses
returns-clause-addresses c = ap (λ k. k * (c.args.design.now.steps + 1)) c.memory_count.ensures.count

pub returns-in_err-state-clause-grows : goal.returns-in_err-state-clause-grows
returns-in_err-state-clause-grows c =
    let d = design_view c.args.design.now in
    Known-within d (address_count d) _ _ (c.sym_state.ensures.grows)

pub returns-in_err-next-clause-grows : goal.returns-in_err-next-clause-grows
returns-in_err-next-clause-grows c =
    let d = design_view c.args.design.now in
    Known-within d (address_count d) _ _ (Grows-trans d _ _ _ (c.sym_state.ensures.grows) c.sym_step.ensures.grows)

pub returns-in_err-inside-clause-grows : goal.returns-in_err-inside-clause-grows
returns-in_err-inside-clause-grows c =
    let d = design_view c.args.design.now in
    Known-within d (address_count d) _ _ (Grows-trans d _ _ _ (Grows-trans d _ _ _ (c.sym_state.ensures.grows) c.sym_step.ensures.grows) c.invariant.ensures.grows)

pub returns-in_err-kept-clause-grows : goal.returns-in_err-kept-clause-grows
returns-in_err-kept-clause-grows c =
    let d = design_view c.args.design.now in
    Known-within d (address_count d) _ _ (Grows-trans d _ _ _ (Grows-trans d _ _ _ (Grows-trans d _ _ _ (c.sym_state.ensures.grows) c.sym_step.ensures.grows) c.invariant.ensures.grows) c.invariant-2.ensures.grows)

pub returns-in_err-after-clause-grows : goal.returns-in_err-after-clause-grows
returns-in_err-after-clause-grows c =
    let d = design_view c.args.design.now in
    Known-within d (address_count d) _ _ (Grows-trans d _ _ _ (Grows-trans d _ _ _ (Grows-trans d _ _ _ (Grows-trans d _ _ _ (c.sym_state.ensures.grows) c.sym_step.ensures.grows) c.invariant.ensures.grows) c.invariant-2.ensures.grows) c.abstracted.ensures.grows)

pub returns-in_err-before-clause-grows : goal.returns-in_err-before-clause-grows
returns-in_err-before-clause-grows c =
    let d = design_view c.args.design.now in
    Known-within d (address_count d) _ _ (Grows-trans d _ _ _ (Grows-trans d _ _ _ (Grows-trans d _ _ _ (Grows-trans d _ _ _ (Grows-trans d _ _ _ (c.sym_state.ensures.grows) c.sym_step.ensures.grows) c.invariant.ensures.grows) c.invariant-2.ensures.grows) c.abstracted.ensures.grows) c.abstracted-2.ensures.grows)

pub returns-in_err-commutes-clause-grows : goal.returns-in_err-commutes-clause-grows
returns-in_err-commutes-clause-grows c =
    let d = design_view c.args.design.now in
    let n = address_count d in
    Known-trans d n _ _ _ (Known-within d n _ _ (Grows-trans d _ _ _ (Grows-trans d _ _ _ (Grows-trans d _ _ _ (Grows-trans d _ _ _ (Grows-trans d _ _ _ (c.sym_state.ensures.grows) c.sym_step.ensures.grows) c.invariant.ensures.grows) c.invariant-2.ensures.grows) c.abstracted.ensures.grows) c.abstracted-2.ensures.grows)) (Known-more d (0 + n) n _ _ (omega arith) c.commutes.ensures.grows)

pub returns-in_err-holds-clause-grows : goal.returns-in_err-holds-clause-grows
returns-in_err-holds-clause-grows c =
    let d = design_view c.args.design.now in
    let n = address_count d in
    Known-trans d n _ _ _ (Known-trans d n _ _ _ (Known-within d n _ _ (Grows-trans d _ _ _ (Grows-trans d _ _ _ (Grows-trans d _ _ _ (Grows-trans d _ _ _ (Grows-trans d _ _ _ (c.sym_state.ensures.grows) c.sym_step.ensures.grows) c.invariant.ensures.grows) c.invariant-2.ensures.grows) c.abstracted.ensures.grows) c.abstracted-2.ensures.grows)) (Known-more d (0 + n) n _ _ (omega arith) c.commutes.ensures.grows)) (Known-none d n _ _ c.mk_and.ensures.extends c.mk_and.ensures.uses)

pub returns-in_err-root-clause-grows : goal.returns-in_err-root-clause-grows
returns-in_err-root-clause-grows c =
    let d = design_view c.args.design.now in
    let n = address_count d in
    Known-trans d n _ _ _ (Known-trans d n _ _ _ (Known-trans d n _ _ _ (Known-within d n _ _ (Grows-trans d _ _ _ (Grows-trans d _ _ _ (Grows-trans d _ _ _ (Grows-trans d _ _ _ (Grows-trans d _ _ _ (c.sym_state.ensures.grows) c.sym_step.ensures.grows) c.invariant.ensures.grows) c.invariant-2.ensures.grows) c.abstracted.ensures.grows) c.abstracted-2.ensures.grows)) (Known-more d (0 + n) n _ _ (omega arith) c.commutes.ensures.grows)) (Known-none d n _ _ c.mk_and.ensures.extends c.mk_and.ensures.uses)) (Known-none d n _ _ c.implies.ensures.extends c.implies.ensures.uses)

pub returns-clause-made : goal.returns-clause-made
returns-clause-made c =
    let d = design_view c.args.design.now in
    let from_and : Extends c.mk_and.new.self c.implies.new.graph = c.implies.ensures.extends in
    let from_commutes : Extends c.commutes.new.graph c.implies.new.graph = Extends-trans _ _ _ c.mk_and.ensures.extends from_and in
    let from_before : Extends c.abstracted-2.new.graph c.implies.new.graph = Extends-trans _ _ _ c.commutes.ensures.grows.extends from_commutes in
    let from_after : Extends c.abstracted.new.graph c.implies.new.graph = Extends-trans _ _ _ c.abstracted-2.ensures.grows.extends from_before in
    let from_kept : Extends c.invariant-2.new.graph c.implies.new.graph = Extends-trans _ _ _ c.abstracted.ensures.grows.extends from_after in
    let from_inside : Extends c.invariant.new.graph c.implies.new.graph = Extends-trans _ _ _ c.invariant-2.ensures.grows.extends from_kept in
    let from_next : Extends c.sym_step.new.graph c.implies.new.graph = Extends-trans _ _ _ c.invariant.ensures.grows.extends from_inside in
    let from_state : Extends c.sym_state.new.graph c.implies.new.graph = Extends-trans _ _ _ c.sym_step.ensures.grows.extends from_next in
    let kept_inside = inside-Extends _ _ (Extends-trans _ _ _ (Extends-trans _ _ _ c.abstracted.ensures.grows.extends c.abstracted-2.ensures.grows.extends) c.commutes.ensures.grows.extends) _ c.in_ok-kept.ensures.sorted.inside in
    record {
      state = c.in_ok-state.state;
      next = c.in_ok-next.next;
      before = c.in_ok-before.before;
      after = c.in_ok-after.after.entries;
      inside = c.in_ok-inside.inside;
      kept = c.in_ok-kept.kept;
      commutes = c.in_ok-commutes.commutes;
      holds = c.in_ok-holds.holds;
      is_first = first_state-Extends _ _ from_state d c.in_ok-state.state c.in_ok-state.ensures.made;
      is_next = over-Extends _ _ from_next d c.in_ok-state.state d.pipe.locals d.pipe.nexts _ c.in_ok-next.ensures.made;
      same_inputs = c.in_ok-next.ensures.inputs;
      is_inside = invariant-Extends _ _ from_inside d c.in_ok-state.state _ c.in_ok-inside.ensures.made;
      is_kept = invariant-Extends _ _ from_kept d c.in_ok-next.next _ c.in_ok-kept.ensures.made;
      is_after = visible-Extends _ _ from_after d c.args.abs.now c.in_ok-next.next _ c.in_ok-after.ensures.made;
      is_before = visible-Extends _ _ from_before d c.args.abs.now c.in_ok-state.state _ c.in_ok-before.ensures.made;
      no_inputs = c.in_ok-before.ensures.shown.sorted.inputs;
      is_commuting = commuting-Extends _ _ from_commutes d c.in_ok-state.state c.in_ok-before.before _ 0 _ c.in_ok-commutes.ensures.made;
      joined = called-Extends _ _ from_and _ _ (called _ _ (node.And c.in_ok-kept.kept c.in_ok-commutes.commutes) (Ok c.in_ok-holds.holds) (kept_inside, (c.in_ok-commutes.ensures.sorted.inside, tt)) c.in_ok-holds.ensures.simplified);
      implied = c.in_ok-root.ensures.made;
    }
