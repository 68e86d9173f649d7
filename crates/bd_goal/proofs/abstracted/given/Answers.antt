use Rattle.std.proofs.Common.{◌≤◌, ◌∙◌, [], map, ap, refl, sym, subst, length, arith}
use Rattle.std.specs.List.{AllByRecursion}
use Rattle.std.specs.Prelude.{slice_get}
use Rattle.bd_model.specs.DesignView.{design_view, local_view}
use Rattle.bd_model.specs.ExprView.{expr_view, expr_views, list_of_views}
use Rattle.bd_model.specs.Lawful.{HasSort, IsWithinLimits, entry_sorts}
use Rattle.bd_model.specs.declared.design.Sort.{Sort}
use Rattle.bd_symbolic.specs.Symbolic.{AreTerms, DenotesExpr, context_in, terms_of}
use Rattle.bd_model.specs.declared.expr.Exprs.{out-Exprs}
use Rattle.bd_model.proofs.Views.{list_of-expr_views}
use Rattle.bd_symbolic.proofs.Firsts.{item_of_all, item_seen}
use Rattle.bd_symbolic.proofs.Growing.{Grows-trans}
use Rattle.bd_symbolic.specs.Made.{AreMadeOver}
use Rattle.bd_symbolic.specs.declared.state.SymState.{SymState}
use Rattle.bd_goal.proofs.Making.{alone-is}
use Rattle.bd_goal.proofs.Lists.{map-length, map-there}
use Rattle.bd_goal.proofs.Named.{Gathered, Gathers, alone-stated, gathers-all, gathers-next, gathers-none, gathers-ready, named-terms, stated-lets, stated-terms}
use Rattle.bd_goal.proofs.Standing.{given-sorts, given-stands}
use Rattle.bd_goal.proofs.abstracted.given.Goals as goal

pub sym_lets-requires-clause-terms : goal.sym_lets-requires-clause-terms
sym_lets-requires-clause-terms c =
    let d = design_view c.args.design.now in
    stated-terms d [] c.args.graph.now _ (alone-stated d c.args.graph.now c.args.state.now _ c.requires.keeps c.requires.sorted c.in_ok-alone.ensures.entries c.in_ok-alone.ensures.inputs)

pub sym_lets-requires-clause-sorted : goal.sym_lets-requires-clause-sorted
sym_lets-requires-clause-sorted c =
    let d = design_view c.args.design.now in
    stated-lets d [] c.args.graph.now _ (map local_view c.args.lets.now)
    (alone-stated d c.args.graph.now c.args.state.now _ c.requires.keeps c.requires.sorted c.in_ok-alone.ensures.entries c.in_ok-alone.ensures.inputs) c.requires.given.lets

pub loop-part-init : goal.loop-part-init
loop-part-init c =
    let d = design_view c.args.design.now in
    rw c.new-entries.ensures.items
    (subst (λ ls. Gathers d [] c.args.graph.now c.sym_lets.new.graph c.in_ok-alone.alone (map local_view c.args.lets.now) ls (entry_sorts d.spec) (list_of_views (expr_views c.args.parts.now)) 0 []) (sym c.lets.view_is)
    (gathers-none d [] _ _ _ (map local_view c.args.lets.now) _ (entry_sorts d.spec) (list_of_views (expr_views c.args.parts.now))
    (record {
      stated = alone-stated d c.args.graph.now c.args.state.now _ c.requires.keeps c.requires.sorted c.in_ok-alone.ensures.entries c.in_ok-alone.ensures.inputs;
      grows = c.sym_lets.ensures.grows;
      let_terms = c.in_ok-lets.ensures.lets;
    })))

pub sym_eval-requires-clause-terms : goal.sym_eval-requires-clause-terms
sym_eval-requires-clause-terms c =
    let d = design_view c.args.design.now in
    subst (λ ls. AreTerms c.loop-part.graph (terms_of d c.in_ok-alone.alone ls)) c.lets.view_is (named-terms d [] _ _ _ (map local_view c.args.lets.now) _ c.loop-part.invariant.named)

pub sym_eval-requires-clause-sorted : goal.sym_eval-requires-clause-sorted
sym_eval-requires-clause-sorted c =
    let d = design_view c.args.design.now in
    let there = map-there expr_view c.deref-part-items.result.now (out-Exprs c.args.parts.now).items.items c.loop-part.part-index c.part-item.result c.deref-part-items.ensures.value c.loop-part-test.true c.part-item.is in
    let at = ap (λ l. slice_get l c.loop-part.part-index) (list_of-expr_views c.args.parts.now) ∙ there in
    subst (λ ls. (u : Sort) × HasSort (context_in c.loop-part.graph (terms_of d c.in_ok-alone.alone ls)) (expr_view c.part-item.result) u) c.lets.view_is
    (gathers-ready d [] _ _ _ (map local_view c.args.lets.now) _ (entry_sorts d.spec) (list_of_views (expr_views c.args.parts.now)) c.loop-part.part-index _ _ (given-sorts d (map local_view c.args.lets.now) (list_of_views (expr_views c.args.parts.now)) c.requires.given) at
    c.loop-part.invariant)

pub sym_lets-requires-clause-limits : goal.sym_lets-requires-clause-limits
sym_lets-requires-clause-limits c = c.requires.given.let_limits

pub sym_eval-requires-clause-limits : goal.sym_eval-requires-clause-limits
sym_eval-requires-clause-limits c =
    let whole = list_of-expr_views c.args.parts.now ∙ ap (map expr_view) (sym c.deref-part-items.ensures.value) in
    item_of_all IsWithinLimits (map expr_view c.deref-part-items.result.now) c.loop-part.part-index (expr_view c.part-item.result) (subst (AllByRecursion IsWithinLimits) whole c.requires.given.part_limits)
    (item_seen expr_view c.deref-part-items.result.now c.deref-part-items.result.now c.loop-part.part-index c.part-item.result refl c.loop-part-test.true c.part-item.is)

pub returns-in_err-sym_eval-clause-grows : goal.returns-in_err-sym_eval-clause-grows
returns-in_err-sym_eval-clause-grows c = Grows-trans (design_view c.args.design.now) _ _ _ c.loop-part.invariant.named.grows c.sym_eval.ensures.grows

pub returns-in_err-push-clause-grows : goal.returns-in_err-push-clause-grows
returns-in_err-push-clause-grows c = Grows-trans (design_view c.args.design.now) _ _ _ c.loop-part.invariant.named.grows c.sym_eval.ensures.grows

pub loop-part-preserved : goal.loop-part-preserved
loop-part-preserved c =
    let d = design_view c.args.design.now in
    let there = map-there expr_view c.deref-part-items.result.now (out-Exprs c.args.parts.now).items.items c.loop-part.part-index c.part-item.result c.deref-part-items.ensures.value c.loop-part-test.true c.part-item.is in
    let at = ap (λ l. slice_get l c.loop-part.part-index) (list_of-expr_views c.args.parts.now) ∙ there in
    rw c.in_ok-push.ensures.items
    (gathers-next d [] _ _ _ _ (map local_view c.args.lets.now) _ (entry_sorts d.spec) (list_of_views (expr_views c.args.parts.now)) c.loop-part.part-index _ _ _
    (given-sorts d (map local_view c.args.lets.now) (list_of_views (expr_views c.args.parts.now)) c.requires.given) at c.loop-part.invariant c.sym_eval.ensures.grows (subst (λ ls. DenotesExpr c.loop-part.graph c.sym_eval.new.graph (terms_of d c.in_ok-alone.alone ls) (expr_view c.part-item.result) c.in_ok-sym_eval.field-0) (sym c.lets.view_is) c.in_ok-sym_eval.ensures.term))

pub returns-clause-shown : goal.returns-clause-shown
returns-clause-shown c =
    let d = design_view c.args.design.now in
    let past = map-length expr_view c.deref-part-items.result.now (out-Exprs c.args.parts.now).items.items c.loop-part.part-index c.deref-part-items.ensures.value c.loop-part-test.false in
    let none : length (list_of_views (expr_views c.args.parts.now)) ≤ c.loop-part.part-index = omega (arith, past, ap length (list_of-expr_views c.args.parts.now)) in
    given-stands d _ _ c.args.state.now c.in_ok-alone.alone (map local_view c.args.lets.now) (list_of_views (expr_views c.args.parts.now)) (record { entries = c.from_vec.result; inputs = c.new.result }) c.in_ok-alone.ensures.entries c.in_ok-alone.ensures.inputs c.new.ensures
    (subst (Gathered d c.args.graph.now c.loop-part.graph c.in_ok-alone.alone (map local_view c.args.lets.now) (entry_sorts d.spec) (list_of_views (expr_views c.args.parts.now))) (sym c.from_vec.ensures)
    (gathers-all d [] _ _ _ (map local_view c.args.lets.now) _ (entry_sorts d.spec) (list_of_views (expr_views c.args.parts.now)) c.loop-part.part-index _ (given-sorts d (map local_view c.args.lets.now) (list_of_views (expr_views c.args.parts.now)) c.requires.given) none c.loop-part.invariant))

pub returns-clause-grows : goal.returns-clause-grows
returns-clause-grows c = c.loop-part.invariant.named.grows

pub returns-clause-made : goal.returns-clause-made
returns-clause-made c =
    let d = design_view c.args.design.now in
    let past = map-length expr_view c.deref-part-items.result.now (out-Exprs c.args.parts.now).items.items c.loop-part.part-index c.deref-part-items.ensures.value c.loop-part-test.false in
    let none : length (list_of_views (expr_views c.args.parts.now)) ≤ c.loop-part.part-index = omega (arith, past, ap length (list_of-expr_views c.args.parts.now)) in
    subst (λ (s : SymState). AreMadeOver c.loop-part.graph d s (map local_view c.args.lets.now) (list_of_views (expr_views c.args.parts.now)) c.from_vec.result) (alone-is c.args.state.now c.in_ok-alone.alone c.in_ok-alone.ensures.entries c.in_ok-alone.ensures.inputs)
    (subst (AreMadeOver c.loop-part.graph d c.in_ok-alone.alone (map local_view c.args.lets.now) (list_of_views (expr_views c.args.parts.now))) (sym c.from_vec.ensures)
    (gathers-all d [] _ _ _ (map local_view c.args.lets.now) _ (entry_sorts d.spec) (list_of_views (expr_views c.args.parts.now)) c.loop-part.part-index _ (given-sorts d (map local_view c.args.lets.now) (list_of_views (expr_views c.args.parts.now)) c.requires.given) none c.loop-part.invariant).made)
