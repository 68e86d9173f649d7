use Rattle.std.proofs.Common.{map, subst}
use Rattle.bd_model.specs.DesignView.{PortView, design_view, port_view}
use Rattle.bd_model.specs.Lawful.{IsWithinLimits}
use Rattle.bd_symbolic.proofs.Firsts.{item_of_all, item_seen}
use Rattle.bd_symbolic.specs.Symbolic.{terms_of}
use Rattle.bd_symbolic.proofs.Growing.{Grows-trans, AreTerms-Grows}
use Rattle.bd_symbolic.proofs.Cycles.{idles}
use Rattle.bd_symbolic.proofs.Gathering.{ExprsDone, map-front, map-none, exprs_sort, exprs_step, exprs_done}
use Rattle.bd_symbolic.proofs.flush.idle_terms.Goals as goal

pub sym_eval-requires-clause-terms : goal.sym_eval-requires-clause-terms
sym_eval-requires-clause-terms c = AreTerms-Grows (terms_of (design_view c.args.design.now) c.args.state.now c.args.lets.now) _ _ c.loop-port.invariant.grows c.requires.terms

pub sym_eval-requires-clause-sorted : goal.sym_eval-requires-clause-sorted
sym_eval-requires-clause-sorted c =
    exprs_sort _ _ (terms_of (design_view c.args.design.now) c.args.state.now c.args.lets.now) (idles (map port_view c.args.ports.now)) _ _ c.loop-port.inputs c.requires.terms
    (subst (λ rest. ExprsDone c.args.graph.now c.loop-port.graph (terms_of (design_view c.args.design.now) c.args.state.now c.args.lets.now) (idles (map port_view c.args.ports.now)) (idles rest) c.loop-port.inputs)
    (map-front port_view c.as_slice-port-items.result.now c.loop-port.port-index c.port-item.result c.loop-port-test.true c.port-item.is) c.loop-port.invariant)

pub sym_eval-requires-clause-limits : goal.sym_eval-requires-clause-limits
sym_eval-requires-clause-limits c =
    item_of_all (λ (p : PortView). IsWithinLimits p.idle) (map port_view c.args.ports.now) c.loop-port.port-index (port_view c.port-item.result) c.requires.limits
    (item_seen port_view c.args.ports.now c.as_slice-port-items.result.now c.loop-port.port-index c.port-item.result c.as_slice-port-items.ensures c.loop-port-test.true c.port-item.is)

pub returns-in_err-id-clause-grows : goal.returns-in_err-id-clause-grows
returns-in_err-id-clause-grows c = Grows-trans (design_view c.args.design.now) _ _ _ c.loop-port.invariant.grows c.sym_eval.ensures.grows

pub returns-in_err-push-clause-grows : goal.returns-in_err-push-clause-grows
returns-in_err-push-clause-grows c = Grows-trans (design_view c.args.design.now) _ _ _ c.loop-port.invariant.grows c.sym_eval.ensures.grows

pub loop-port-preserved : goal.loop-port-preserved
loop-port-preserved c =
    rw c.in_ok-push.ensures.ok (exprs_step _ _ _ (terms_of (design_view c.args.design.now) c.args.state.now c.args.lets.now) (idles (map port_view c.args.ports.now)) _ _ c.loop-port.inputs _ c.requires.terms
    (subst (λ rest. ExprsDone c.args.graph.now c.loop-port.graph (terms_of (design_view c.args.design.now) c.args.state.now c.args.lets.now) (idles (map port_view c.args.ports.now)) (idles rest) c.loop-port.inputs)
    (map-front port_view c.as_slice-port-items.result.now c.loop-port.port-index c.port-item.result c.loop-port-test.true c.port-item.is) c.loop-port.invariant) c.sym_eval.ensures.grows c.in_ok-id.ensures.term)

pub returns-clause-terms : goal.returns-clause-terms
returns-clause-terms c =
    exprs_done _ _ (terms_of (design_view c.args.design.now) c.args.state.now c.args.lets.now) (idles (map port_view c.args.ports.now)) _
    (subst (λ rest. ExprsDone c.args.graph.now c.loop-port.graph (terms_of (design_view c.args.design.now) c.args.state.now c.args.lets.now) (idles (map port_view c.args.ports.now)) (idles rest) c.loop-port.inputs)
    (map-none port_view c.as_slice-port-items.result.now c.loop-port.port-index c.loop-port-test.false) c.loop-port.invariant)
