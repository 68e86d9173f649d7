use Rattle.std.proofs.Common.{◌≡◌, ◌∙◌, [], map, sym, ap, refl, subst}
use Rattle.std.specs.List.{AllByRecursion}
use Rattle.bd_model.specs.DesignView.{design_view}
use Rattle.bd_model.specs.ExprView.{expr_view, expr_views, list_of_views}
use Rattle.bd_model.specs.Lawful.{IsWithinLimits}
use Rattle.bd_model.proofs.Views.{list_of-expr_views}
use Rattle.bd_symbolic.proofs.Firsts.{item_of_all, item_seen}
use Rattle.bd_symbolic.specs.Symbolic.{terms_of}
use Rattle.bd_symbolic.proofs.Growing.{Grows-trans, AreTerms-Grows}
use Rattle.bd_symbolic.proofs.Gathering.{ExprsDone, map-front, map-none, exprs_init, exprs_sort, exprs_step, exprs_done}
use Rattle.bd_symbolic.proofs.cycle.next_terms.Goals as goal

pub loop-next-init : goal.loop-next-init
loop-next-init c =
    let whole : list_of_views (expr_views c.args.nexts.now) ≡ map expr_view c.deref-next-items.result.now = list_of-expr_views c.args.nexts.now ∙ ap (map expr_view) (sym c.deref-next-items.ensures.value) in
    rw c.new-entries.ensures (subst (λ rest. ExprsDone c.args.graph.now c.args.graph.now (terms_of (design_view c.args.design.now) c.args.state.now c.args.lets.now) (list_of_views (expr_views c.args.nexts.now)) rest [])
    whole (exprs_init c.args.graph.now (terms_of (design_view c.args.design.now) c.args.state.now c.args.lets.now) (list_of_views (expr_views c.args.nexts.now)) c.requires.sorted))

pub sym_eval-requires-clause-terms : goal.sym_eval-requires-clause-terms
sym_eval-requires-clause-terms c = AreTerms-Grows (terms_of (design_view c.args.design.now) c.args.state.now c.args.lets.now) _ _ c.loop-next.invariant.grows c.requires.terms

pub sym_eval-requires-clause-sorted : goal.sym_eval-requires-clause-sorted
sym_eval-requires-clause-sorted c =
    exprs_sort _ _ (terms_of (design_view c.args.design.now) c.args.state.now c.args.lets.now) (list_of_views (expr_views c.args.nexts.now)) _ _ c.loop-next.entries c.requires.terms
    (subst (λ rest. ExprsDone c.args.graph.now c.loop-next.graph (terms_of (design_view c.args.design.now) c.args.state.now c.args.lets.now) (list_of_views (expr_views c.args.nexts.now)) rest c.loop-next.entries)
    (map-front expr_view c.deref-next-items.result.now c.loop-next.next-index c.next-item.result c.loop-next-test.true c.next-item.is) c.loop-next.invariant)

pub sym_eval-requires-clause-limits : goal.sym_eval-requires-clause-limits
sym_eval-requires-clause-limits c =
    let whole : list_of_views (expr_views c.args.nexts.now) ≡ map expr_view c.deref-next-items.result.now = list_of-expr_views c.args.nexts.now ∙ ap (map expr_view) (sym c.deref-next-items.ensures.value) in
    item_of_all IsWithinLimits (map expr_view c.deref-next-items.result.now) c.loop-next.next-index (expr_view c.next-item.result) (subst (AllByRecursion IsWithinLimits) whole c.requires.limits)
    (item_seen expr_view c.deref-next-items.result.now c.deref-next-items.result.now c.loop-next.next-index c.next-item.result refl c.loop-next-test.true c.next-item.is)

pub returns-in_err-id-clause-grows : goal.returns-in_err-id-clause-grows
returns-in_err-id-clause-grows c = Grows-trans (design_view c.args.design.now) _ _ _ c.loop-next.invariant.grows c.sym_eval.ensures.grows

pub returns-in_err-push-clause-grows : goal.returns-in_err-push-clause-grows
returns-in_err-push-clause-grows c = Grows-trans (design_view c.args.design.now) _ _ _ c.loop-next.invariant.grows c.sym_eval.ensures.grows

pub loop-next-preserved : goal.loop-next-preserved
loop-next-preserved c =
    rw c.in_ok-push.ensures.ok (exprs_step _ _ _ (terms_of (design_view c.args.design.now) c.args.state.now c.args.lets.now) (list_of_views (expr_views c.args.nexts.now)) _ _ c.loop-next.entries _ c.requires.terms
    (subst (λ rest. ExprsDone c.args.graph.now c.loop-next.graph (terms_of (design_view c.args.design.now) c.args.state.now c.args.lets.now) (list_of_views (expr_views c.args.nexts.now)) rest c.loop-next.entries)
    (map-front expr_view c.deref-next-items.result.now c.loop-next.next-index c.next-item.result c.loop-next-test.true c.next-item.is) c.loop-next.invariant) c.sym_eval.ensures.grows c.in_ok-id.ensures.term)

pub returns-clause-terms : goal.returns-clause-terms
returns-clause-terms c =
    exprs_done _ _ (terms_of (design_view c.args.design.now) c.args.state.now c.args.lets.now) (list_of_views (expr_views c.args.nexts.now)) _
    (subst (λ rest. ExprsDone c.args.graph.now c.loop-next.graph (terms_of (design_view c.args.design.now) c.args.state.now c.args.lets.now) (list_of_views (expr_views c.args.nexts.now)) rest c.loop-next.entries)
    (map-none expr_view c.deref-next-items.result.now c.loop-next.next-index c.loop-next-test.false) c.loop-next.invariant)
