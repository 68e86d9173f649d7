use Rattle.std.proofs.Common.{◌≡◌, ◌+◌, ◌*◌, ◌∙◌, Some, refl, sym, subst, length}
use Rattle.std.specs.Prelude.{slice_get}
use Rattle.bd_model.specs.DesignView.{design_view, port_view}
use Rattle.bd_model.specs.Lawful.{IsLawfulPort}
use Rattle.bd_terms.specs.declared.node.Sym.TheVariants as symbol
use Rattle.bd_symbolic.specs.DesignSymbols.{sort_use}
use Rattle.bd_symbolic.specs.States.{port_sorts}
use Rattle.bd_symbolic.specs.Widened.{widened}
use Rattle.bd_symbolic.specs.inner.First.{KeepsUse}
use Rattle.bd_symbolic.proofs.Gathering.{map-front, map-none}
use Rattle.bd_symbolic.proofs.Firsts.{FirstsDone, sorts_of_ports, item_seen, input-next, item_of_all, cycle_declared, firsts_keep, firsts_grow, firsts_step, firsts_done}
use Rattle.bd_symbolic.proofs.first.first_inputs.Goals as goal

pub first_latch-requires-clause-latch : goal.first_latch-requires-clause-latch
first_latch-requires-clause-latch c =
    let there : slice_get (design_view c.args.design.now).pipe.ports c.loop-port.port-index ≡ Some (port_view c.port-item.result) = item_seen port_view _ _ _ _ c.as_slice-port-items.ensures c.loop-port-test.true c.port-item.is in
    (item_of_all (IsLawfulPort (design_view c.args.design.now)) (design_view c.args.design.now).pipe.ports c.loop-port.port-index (port_view c.port-item.result) c.requires.lawful.ports there).sort

pub first_latch-requires-clause-keeps : goal.first_latch-requires-clause-keeps
first_latch-requires-clause-keeps c =
    let there : slice_get (design_view c.args.design.now).pipe.ports c.loop-port.port-index ≡ Some (port_view c.port-item.result) = item_seen port_view _ _ _ _ c.as_slice-port-items.ensures c.loop-port-test.true c.port-item.is in
    let place = sym (input-next c.args.design.now c.args.cycle c.len.result c.len-in-loop-port.result c.loop-port.port-index c.len.ensures (c.len-in-loop-port.ensures ∙ c.loop-port.invariant.count)) in
    subst (λ i. KeepsUse c.loop-port.graph (sort_use (symbol.Input i) c.port-item.result.sort)) place
    (firsts_keep (widened (design_view c.args.design.now) (c.args.cycle + 1)) (λ x. symbol.Input x) (c.args.cycle * length (design_view c.args.design.now).pipe.ports) c.args.graph.now c.loop-port.graph _ _ _ _ (sort_use (symbol.Input (c.args.cycle * length (design_view c.args.design.now).pipe.ports + c.loop-port.port-index)) c.port-item.result.sort) c.requires.keeps c.loop-port.invariant
    (cycle_declared (design_view c.args.design.now) c.args.cycle c.loop-port.port-index (port_view c.port-item.result) c.port-item.result.sort there refl))

pub returns-in_err-first_latch-clause-grows : goal.returns-in_err-first_latch-clause-grows
returns-in_err-first_latch-clause-grows c =
    let there : slice_get (design_view c.args.design.now).pipe.ports c.loop-port.port-index ≡ Some (port_view c.port-item.result) = item_seen port_view _ _ _ _ c.as_slice-port-items.ensures c.loop-port-test.true c.port-item.is in
    let place = input-next c.args.design.now c.args.cycle c.len.result c.len-in-loop-port.result c.loop-port.port-index c.len.ensures (c.len-in-loop-port.ensures ∙ c.loop-port.invariant.count) in
    firsts_grow (widened (design_view c.args.design.now) (c.args.cycle + 1)) (λ x. symbol.Input x) (c.args.cycle * length (design_view c.args.design.now).pipe.ports) c.args.graph.now c.loop-port.graph c.first_latch.new.graph _ _ _ _ _ c.port-item.result.sort place
    c.loop-port.invariant (cycle_declared (design_view c.args.design.now) c.args.cycle c.loop-port.port-index (port_view c.port-item.result) c.port-item.result.sort there refl) c.first_latch.ensures.extends c.first_latch.ensures.uses

pub returns-in_err-push-clause-grows : goal.returns-in_err-push-clause-grows
returns-in_err-push-clause-grows c =
    let there : slice_get (design_view c.args.design.now).pipe.ports c.loop-port.port-index ≡ Some (port_view c.port-item.result) = item_seen port_view _ _ _ _ c.as_slice-port-items.ensures c.loop-port-test.true c.port-item.is in
    let place = input-next c.args.design.now c.args.cycle c.len.result c.len-in-loop-port.result c.loop-port.port-index c.len.ensures (c.len-in-loop-port.ensures ∙ c.loop-port.invariant.count) in
    firsts_grow (widened (design_view c.args.design.now) (c.args.cycle + 1)) (λ x. symbol.Input x) (c.args.cycle * length (design_view c.args.design.now).pipe.ports) c.args.graph.now c.loop-port.graph c.first_latch.new.graph _ _ _ _ _ c.port-item.result.sort place
    c.loop-port.invariant (cycle_declared (design_view c.args.design.now) c.args.cycle c.loop-port.port-index (port_view c.port-item.result) c.port-item.result.sort there refl) c.first_latch.ensures.extends c.first_latch.ensures.uses

pub loop-port-preserved : goal.loop-port-preserved
loop-port-preserved c =
    let there : slice_get (design_view c.args.design.now).pipe.ports c.loop-port.port-index ≡ Some (port_view c.port-item.result) = item_seen port_view _ _ _ _ c.as_slice-port-items.ensures c.loop-port-test.true c.port-item.is in
    let place = input-next c.args.design.now c.args.cycle c.len.result c.len-in-loop-port.result c.loop-port.port-index c.len.ensures (c.len-in-loop-port.ensures ∙ c.loop-port.invariant.count) in
    let here = subst (λ rest. FirstsDone (widened (design_view c.args.design.now) (c.args.cycle + 1)) (λ x. symbol.Input x) (c.args.cycle * length (design_view c.args.design.now).pipe.ports) c.args.graph.now c.loop-port.graph (port_sorts (design_view c.args.design.now).pipe) (sorts_of_ports rest) c.loop-port.port-index c.loop-port.inputs)
    (map-front port_view c.as_slice-port-items.result.now c.loop-port.port-index c.port-item.result c.loop-port-test.true c.port-item.is) c.loop-port.invariant in
    rw c.in_ok-push.ensures.ok (firsts_step (widened (design_view c.args.design.now) (c.args.cycle + 1)) (λ x. symbol.Input x) (c.args.cycle * length (design_view c.args.design.now).pipe.ports) c.args.graph.now c.loop-port.graph c.first_latch.new.graph _ _ _ _ _ _ _ place here
    (cycle_declared (design_view c.args.design.now) c.args.cycle c.loop-port.port-index (port_view c.port-item.result) c.port-item.result.sort there refl) c.first_latch.ensures.extends c.first_latch.ensures.uses c.in_ok-first_latch.ensures.term)

pub returns-clause-terms : goal.returns-clause-terms
returns-clause-terms c =
    firsts_done (widened (design_view c.args.design.now) (c.args.cycle + 1)) (λ x. symbol.Input x) (c.args.cycle * length (design_view c.args.design.now).pipe.ports) c.args.graph.now c.loop-port.graph (port_sorts (design_view c.args.design.now).pipe) c.loop-port.port-index _
    (subst (λ rest. FirstsDone (widened (design_view c.args.design.now) (c.args.cycle + 1)) (λ x. symbol.Input x) (c.args.cycle * length (design_view c.args.design.now).pipe.ports) c.args.graph.now c.loop-port.graph (port_sorts (design_view c.args.design.now).pipe) (sorts_of_ports rest) c.loop-port.port-index c.loop-port.inputs)
    (map-none port_view c.as_slice-port-items.result.now c.loop-port.port-index c.loop-port-test.false) c.loop-port.invariant)
