use Rattle.std.proofs.Common.{◌+◌, ◌*◌, Ok, ap, arith, subst}
use Rattle.bd_model.specs.DesignView.{design_view}
use Rattle.bd_model.specs.declared.design.Sort.TheVariants as sort
use Rattle.bd_terms.proofs.Growth.{Extends-trans, HasSort-Extends, inside-Extends}
use Rattle.bd_symbolic.specs.Widened.{widened}
use Rattle.bd_symbolic.proofs.Growing.{Grows-trans, KeepsDesign-Grows}
use Rattle.bd_symbolic.proofs.Widening.{GrowsWithin-own, KeepsDesign-own}
use Rattle.bd_goal.specs.Formula.{address_count}
use Rattle.bd_goal.proofs.Known.{KeepsAddresses-Known, Known-none, Known-trans, Known-within}
use Rattle.bd_terms.specs.declared.node.Node.TheVariants as node
use Rattle.bd_terms.specs.declared.node.Sym.TheVariants as symbol
use Rattle.bd_terms.specs.Graph.{Extends}
use Rattle.bd_model.specs.declared.abstraction.Abstraction.TheVariants as abstraction
use Rattle.bd_symbolic.specs.declared.state.SymState.{SymState}
use Rattle.bd_symbolic.proofs.Making.{called, first-Extends, over-Extends}
use Rattle.bd_goal.specs.Made.{IsCommuting}
use Rattle.bd_goal.proofs.Making.{commuting-Extends, visible-Extends}
use Rattle.bd_goal.proofs.Running.{Known-own, each-fit, first-fits, more-fit, run-more}
use Rattle.bd_goal.proofs.Showing.{IsVisible-later, StateHasSorts-later}
use Rattle.bd_goal.proofs.bounded.one_cycle_more.Goals as goal
use Rattle.bd_symbolic.proofs.States.{HaveSorts-Extends}

pub overflow_mul-first : goal.overflow_mul-first
overflow_mul-first c =
    let d = design_view c.args.design.now in
    let fits = each-fit d c.memory_count.result c.requires.lawful c.memory_count.ensures.few in
    omega (arith, fits)

pub overflow_mul-first-2 : goal.overflow_mul-first-2
overflow_mul-first-2 c =
    let d = design_view c.args.design.now in
    let fits = first-fits d c.args.cycle c.memory_count.result c.requires.lawful c.requires.few c.memory_count.ensures.few in
    omega (arith, fits)

pub sym_step-requires-clause-keeps : goal.sym_step-requires-clause-keeps
sym_step-requires-clause-keeps c =
    let d = design_view c.args.design.now in
    KeepsDesign-own d (c.args.cycle + 1) _ (omega arith) (KeepsDesign-Grows (widened d (c.args.cycle + 1)) _ _ c.sym_inputs.ensures.grows c.requires.keeps)

pub sym_step-requires-clause-sorted : goal.sym_step-requires-clause-sorted
sym_step-requires-clause-sorted c =
    let d = design_view c.args.design.now in
    record { entries = HaveSorts-Extends _ _ c.sym_inputs.ensures.grows.extends _ _ c.requires.run.sorted.entries; inputs = c.in_ok-inputs.ensures.sorted }

pub abstracted-requires-clause-keeps : goal.abstracted-requires-clause-keeps
abstracted-requires-clause-keeps c =
    let d = design_view c.args.design.now in
    KeepsDesign-Grows d _ _ c.sym_step.ensures.grows (KeepsDesign-own d (c.args.cycle + 1) _ (omega arith) (KeepsDesign-Grows (widened d (c.args.cycle + 1)) _ _ c.sym_inputs.ensures.grows c.requires.keeps))

pub commutes-requires-clause-keeps : goal.commutes-requires-clause-keeps
commutes-requires-clause-keeps c =
    let d = design_view c.args.design.now in
    KeepsDesign-Grows d _ _ c.abstracted.ensures.grows (KeepsDesign-Grows d _ _ c.sym_step.ensures.grows (KeepsDesign-own d (c.args.cycle + 1) _ (omega arith) (KeepsDesign-Grows (widened d (c.args.cycle + 1)) _ _ c.sym_inputs.ensures.grows c.requires.keeps)))

pub commutes-requires-clause-words : goal.commutes-requires-clause-words
commutes-requires-clause-words c =
    let d = design_view c.args.design.now in
    KeepsAddresses-Known (widened d (c.args.cycle + 1)) 0 _ _ (Known-within (widened d (c.args.cycle + 1)) 0 _ _ (Grows-trans (widened d (c.args.cycle + 1)) _ _ _ (Grows-trans (widened d (c.args.cycle + 1)) _ _ _ c.sym_inputs.ensures.grows (GrowsWithin-own d (c.args.cycle + 1) _ _ (omega arith) c.sym_step.ensures.grows)) (GrowsWithin-own d (c.args.cycle + 1) _ _ (omega arith) c.abstracted.ensures.grows))) c.requires.words

pub commutes-requires-clause-state : goal.commutes-requires-clause-state
commutes-requires-clause-state c =
    let d = design_view c.args.design.now in
    StateHasSorts-later d _ _ (Extends-trans _ _ _ c.sym_step.ensures.grows.extends c.abstracted.ensures.grows.extends) _ (record { entries = HaveSorts-Extends _ _ c.sym_inputs.ensures.grows.extends _ _ c.requires.run.sorted.entries; inputs = c.in_ok-inputs.ensures.sorted })

pub commutes-requires-clause-before : goal.commutes-requires-clause-before
commutes-requires-clause-before c =
    let d = design_view c.args.design.now in
    IsVisible-later d _ _ (Grows-trans (widened d (c.args.cycle + 1)) _ _ _ (Grows-trans (widened d (c.args.cycle + 1)) _ _ _ c.sym_inputs.ensures.grows (GrowsWithin-own d (c.args.cycle + 1) _ _ (omega arith) c.sym_step.ensures.grows)) (GrowsWithin-own d (c.args.cycle + 1) _ _ (omega arith) c.abstracted.ensures.grows)).extends _ c.requires.run.visible

pub commutes-requires-clause-after : goal.commutes-requires-clause-after
commutes-requires-clause-after c =
    let d = design_view c.args.design.now in
    c.in_ok-after.ensures.shown.sorted

pub commutes-requires-clause-start : goal.commutes-requires-clause-start
commutes-requires-clause-start c =
    let d = design_view c.args.design.now in
    let fits = first-fits d c.args.cycle c.memory_count.result c.requires.lawful c.requires.few c.memory_count.ensures.few in
    omega (arith, fits)

pub mk_and-requires-clause-first : goal.mk_and-requires-clause-first
mk_and-requires-clause-first c =
    let d = design_view c.args.design.now in
    HasSort-Extends _ _ (Extends-trans _ _ _ (Grows-trans (widened d (c.args.cycle + 1)) _ _ _ (Grows-trans (widened d (c.args.cycle + 1)) _ _ _ c.sym_inputs.ensures.grows (GrowsWithin-own d (c.args.cycle + 1) _ _ (omega arith) c.sym_step.ensures.grows)) (GrowsWithin-own d (c.args.cycle + 1) _ _ (omega arith) c.abstracted.ensures.grows)).extends c.commutes.ensures.grows.extends) _ sort.Bool c.requires.run.truth

pub returns-clause-run : goal.returns-clause-run
returns-clause-run c =
    let d = design_view c.args.design.now in
    run-more d _ _ _ _ _ _ _ _ _ _ c.args.cycle _ _ _ c.requires.run c.sym_inputs.ensures.grows.extends c.in_ok-inputs.ensures.sorted c.in_ok-inputs.ensures.denotes c.sym_step.ensures.grows.extends
    c.in_ok-next.ensures.sorted c.in_ok-next.ensures.inputs c.in_ok-next.ensures.denotes c.abstracted.ensures.grows.extends c.in_ok-after.ensures.shown c.commutes.ensures.grows.extends
    (ap (λ k. c.args.cycle * (k * (d.steps + 1))) c.memory_count.ensures.count) c.in_ok-one.ensures.sorted c.in_ok-one.ensures.says c.mk_and.ensures.extends c.in_ok-commutes.ensures.sorted c.in_ok-commutes.ensures.denotes

pub returns-in_err-inputs-clause-grows : goal.returns-in_err-inputs-clause-grows
returns-in_err-inputs-clause-grows c =
    let d = design_view c.args.design.now in
    Known-within (widened d (c.args.cycle + 1)) ((c.args.cycle + 1) * address_count d) _ _ c.sym_inputs.ensures.grows

pub returns-in_err-next-clause-grows : goal.returns-in_err-next-clause-grows
returns-in_err-next-clause-grows c =
    let d = design_view c.args.design.now in
    Known-within (widened d (c.args.cycle + 1)) ((c.args.cycle + 1) * address_count d) _ _ (Grows-trans (widened d (c.args.cycle + 1)) _ _ _ c.sym_inputs.ensures.grows (GrowsWithin-own d (c.args.cycle + 1) _ _ (omega arith) c.sym_step.ensures.grows))

pub returns-in_err-after-clause-grows : goal.returns-in_err-after-clause-grows
returns-in_err-after-clause-grows c =
    let d = design_view c.args.design.now in
    Known-within (widened d (c.args.cycle + 1)) ((c.args.cycle + 1) * address_count d) _ _ (Grows-trans (widened d (c.args.cycle + 1)) _ _ _ (Grows-trans (widened d (c.args.cycle + 1)) _ _ _ c.sym_inputs.ensures.grows (GrowsWithin-own d (c.args.cycle + 1) _ _ (omega arith) c.sym_step.ensures.grows)) (GrowsWithin-own d (c.args.cycle + 1) _ _ (omega arith) c.abstracted.ensures.grows))

pub returns-in_err-one-clause-grows : goal.returns-in_err-one-clause-grows
returns-in_err-one-clause-grows c =
    let d = design_view c.args.design.now in
    Known-trans (widened d (c.args.cycle + 1)) ((c.args.cycle + 1) * address_count d) _ _ _ (Known-within (widened d (c.args.cycle + 1)) ((c.args.cycle + 1) * address_count d) _ _ (Grows-trans (widened d (c.args.cycle + 1)) _ _ _ (Grows-trans (widened d (c.args.cycle + 1)) _ _ _ c.sym_inputs.ensures.grows (GrowsWithin-own d (c.args.cycle + 1) _ _ (omega arith) c.sym_step.ensures.grows)) (GrowsWithin-own d (c.args.cycle + 1) _ _ (omega arith) c.abstracted.ensures.grows))) (Known-own d (c.args.cycle + 1) _ ((c.args.cycle + 1) * address_count d) _ _ (omega arith) (more-fit d c.args.cycle c.memory_count.result c.memory_count.ensures.count) c.commutes.ensures.grows)

pub returns-in_err-commutes-clause-grows : goal.returns-in_err-commutes-clause-grows
returns-in_err-commutes-clause-grows c =
    let d = design_view c.args.design.now in
    Known-trans (widened d (c.args.cycle + 1)) ((c.args.cycle + 1) * address_count d) _ _ _ (Known-trans (widened d (c.args.cycle + 1)) ((c.args.cycle + 1) * address_count d) _ _ _ (Known-within (widened d (c.args.cycle + 1)) ((c.args.cycle + 1) * address_count d) _ _ (Grows-trans (widened d (c.args.cycle + 1)) _ _ _ (Grows-trans (widened d (c.args.cycle + 1)) _ _ _ c.sym_inputs.ensures.grows (GrowsWithin-own d (c.args.cycle + 1) _ _ (omega arith) c.sym_step.ensures.grows)) (GrowsWithin-own d (c.args.cycle + 1) _ _ (omega arith) c.abstracted.ensures.grows))) (Known-own d (c.args.cycle + 1) _ ((c.args.cycle + 1) * address_count d) _ _ (omega arith) (more-fit d c.args.cycle c.memory_count.result c.memory_count.ensures.count) c.commutes.ensures.grows)) (Known-none (widened d (c.args.cycle + 1)) ((c.args.cycle + 1) * address_count d) _ _ c.mk_and.ensures.extends c.mk_and.ensures.uses)

pub returns-clause-grows : goal.returns-clause-grows
returns-clause-grows c =
    let d = design_view c.args.design.now in
    Known-trans (widened d (c.args.cycle + 1)) ((c.args.cycle + 1) * address_count d) _ _ _ (Known-trans (widened d (c.args.cycle + 1)) ((c.args.cycle + 1) * address_count d) _ _ _ (Known-within (widened d (c.args.cycle + 1)) ((c.args.cycle + 1) * address_count d) _ _ (Grows-trans (widened d (c.args.cycle + 1)) _ _ _ (Grows-trans (widened d (c.args.cycle + 1)) _ _ _ c.sym_inputs.ensures.grows (GrowsWithin-own d (c.args.cycle + 1) _ _ (omega arith) c.sym_step.ensures.grows)) (GrowsWithin-own d (c.args.cycle + 1) _ _ (omega arith) c.abstracted.ensures.grows))) (Known-own d (c.args.cycle + 1) _ ((c.args.cycle + 1) * address_count d) _ _ (omega arith) (more-fit d c.args.cycle c.memory_count.result c.memory_count.ensures.count) c.commutes.ensures.grows)) (Known-none (widened d (c.args.cycle + 1)) ((c.args.cycle + 1) * address_count d) _ _ c.mk_and.ensures.extends c.mk_and.ensures.uses)

pub returns-clause-made : goal.returns-clause-made
returns-clause-made c =
    let d = design_view c.args.design.now in
    let from_one : Extends c.commutes.new.graph c.mk_and.new.self = c.mk_and.ensures.extends in
    let from_after : Extends c.abstracted.new.graph c.mk_and.new.self = Extends-trans _ _ _ c.commutes.ensures.grows.extends from_one in
    let from_next : Extends c.sym_step.new.graph c.mk_and.new.self = Extends-trans _ _ _ c.abstracted.ensures.grows.extends from_after in
    let from_inputs : Extends c.sym_inputs.new.graph c.mk_and.new.self = Extends-trans _ _ _ c.sym_step.ensures.grows.extends from_next in
    let front : Extends c.args.graph.now c.commutes.new.graph = Extends-trans _ _ _ (Extends-trans _ _ _ (Extends-trans _ _ _ c.sym_inputs.ensures.grows.extends c.sym_step.ensures.grows.extends) c.abstracted.ensures.grows.extends) c.commutes.ensures.grows.extends in
    let state : SymState = record { entries = c.args.run.state.entries; inputs = c.in_ok-inputs.inputs } in
    record {
      inputs = c.in_ok-inputs.inputs;
      one = c.in_ok-one.one;
      are_inputs = first-Extends (λ x. symbol.Input x) _ _ from_inputs _ _ _ c.in_ok-inputs.ensures.made;
      is_next = over-Extends _ _ from_next d state d.pipe.locals d.pipe.nexts _ c.in_ok-next.ensures.made;
      same_inputs = c.in_ok-next.ensures.inputs;
      is_after = visible-Extends _ _ from_after d abstraction.Flushing c.in_ok-next.next _ c.in_ok-after.ensures.made;
      no_inputs = c.in_ok-after.ensures.shown.sorted.inputs;
      is_commuting =
          subst (λ k. IsCommuting c.mk_and.new.self d state c.args.run.flushed c.in_ok-after.after.entries k c.in_ok-one.one) (ap (λ k. c.args.cycle * (k * (d.steps + 1))) c.memory_count.ensures.count)
          (commuting-Extends _ _ from_one d state c.args.run.flushed _ _ _ c.in_ok-one.ensures.made);
      joined = called _ _ (node.And c.args.run.commutes c.in_ok-one.one) (Ok _) (inside-Extends _ _ front _ c.requires.run.truth.inside, (c.in_ok-one.ensures.sorted.inside, tt)) c.in_ok-commutes.ensures.simplified;
    }
