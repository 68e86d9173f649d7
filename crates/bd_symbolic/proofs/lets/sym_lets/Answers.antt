use Rattle.std.proofs.Common.{map, subst}
use Rattle.bd_model.specs.DesignView.{LocalView, design_view, local_view}
use Rattle.bd_model.specs.Lawful.{IsWithinLimits}
use Rattle.bd_symbolic.proofs.Firsts.{item_of_all, item_seen}
use Rattle.bd_symbolic.proofs.Growing.{Grows-trans}
use Rattle.bd_symbolic.proofs.Gathering.{LetsDone, map-front, map-none, lets_init, lets_terms, lets_step, lets_done}
use Rattle.bd_symbolic.proofs.lets.sym_lets.Goals as goal

pub loop-local-init : goal.loop-local-init
loop-local-init c = rw (c.as_slice-local-items.ensures, c.new-lets.ensures) (lets_init (design_view c.args.design.now) _ c.args.state.now (map local_view c.args.locals.now) c.requires.sorted)

pub sym_eval-requires-clause-terms : goal.sym_eval-requires-clause-terms
sym_eval-requires-clause-terms c = lets_terms (design_view c.args.design.now) _ _ c.args.state.now (map local_view c.args.locals.now) _ _ c.requires.terms c.loop-local.invariant

pub sym_eval-requires-clause-sorted : goal.sym_eval-requires-clause-sorted
sym_eval-requires-clause-sorted c =
    let here = subst (λ rest. LetsDone (design_view c.args.design.now) c.args.graph.now c.loop-local.graph c.args.state.now (map local_view c.args.locals.now) rest c.loop-local.lets)
    (map-front local_view c.as_slice-local-items.result.now c.loop-local.local-index c.local-item.result c.loop-local-test.true c.local-item.is) c.loop-local.invariant in
    (c.local-item.result.sort, here.left.0)

pub sym_eval-requires-clause-limits : goal.sym_eval-requires-clause-limits
sym_eval-requires-clause-limits c =
    item_of_all (λ (l : LocalView). IsWithinLimits l.value) (map local_view c.args.locals.now) c.loop-local.local-index (local_view c.local-item.result) c.requires.limits
    (item_seen local_view c.args.locals.now c.as_slice-local-items.result.now c.loop-local.local-index c.local-item.result c.as_slice-local-items.ensures c.loop-local-test.true c.local-item.is)

pub returns-in_err-id-clause-grows : goal.returns-in_err-id-clause-grows
returns-in_err-id-clause-grows c = Grows-trans (design_view c.args.design.now) _ _ _ c.loop-local.invariant.grows c.sym_eval.ensures.grows

pub returns-in_err-push-clause-grows : goal.returns-in_err-push-clause-grows
returns-in_err-push-clause-grows c = Grows-trans (design_view c.args.design.now) _ _ _ c.loop-local.invariant.grows c.sym_eval.ensures.grows

pub loop-local-preserved : goal.loop-local-preserved
loop-local-preserved c =
    let here = subst (λ rest. LetsDone (design_view c.args.design.now) c.args.graph.now c.loop-local.graph c.args.state.now (map local_view c.args.locals.now) rest c.loop-local.lets)
    (map-front local_view c.as_slice-local-items.result.now c.loop-local.local-index c.local-item.result c.loop-local-test.true c.local-item.is) c.loop-local.invariant in
    rw c.in_ok-push.ensures.ok (lets_step (design_view c.args.design.now) _ _ _ c.args.state.now (map local_view c.args.locals.now) _ _ _ _ c.requires.terms here c.sym_eval.ensures.grows c.in_ok-id.ensures.term)

pub returns-clause-lets : goal.returns-clause-lets
returns-clause-lets c =
    lets_done (design_view c.args.design.now) _ _ c.args.state.now (map local_view c.args.locals.now) _
    (subst (λ rest. LetsDone (design_view c.args.design.now) c.args.graph.now c.loop-local.graph c.args.state.now (map local_view c.args.locals.now) rest c.loop-local.lets)
    (map-none local_view c.as_slice-local-items.result.now c.loop-local.local-index c.loop-local-test.false) c.loop-local.invariant)
