use Rattle.std.proofs.Common.{◌∙◌, [], map, ap, sym, subst, arith}
use Rattle.std.specs.Prelude.{slice_get}
use Rattle.std.proofs.lemmas.List.{length-map}
use Rattle.std.proofs.lemmas.Simd.{map-map}
use Rattle.bd_model.specs.DesignView.{ExactView, design_view, exact_view}
use Rattle.bd_model.specs.declared.design.Sort.TheVariants as sort
use Rattle.bd_symbolic.specs.States.{port_sorts}
use Rattle.bd_symbolic.proofs.Firsts.{item_of_all, item_seen}
use Rattle.bd_symbolic.proofs.Growing.{Grows-trans}
use Rattle.bd_goal.proofs.Lists.{map-length, map-there}
use Rattle.bd_model.specs.ExprView.{expr_view}
use Rattle.bd_model.specs.Lawful.{HasSort, IsLawfulExact}
use Rattle.bd_model.specs.declared.design.Sort.{Sort}
use Rattle.bd_symbolic.specs.Symbolic.{AreTerms, DenotesExpr, context_in, terms_of}
use Rattle.bd_goal.proofs.Named.{Gathers, gathers-all, gathers-next, gathers-none, gathers-ready, named-terms, stated-lets, stated-terms, whole-stated}
use Rattle.bd_goal.proofs.Standing.{conditions-are, conditions-denote, exact-sorts}
use Rattle.bd_goal.proofs.commute.conditions.Goals as goal

pub sym_lets-requires-clause-terms : goal.sym_lets-requires-clause-terms
sym_lets-requires-clause-terms c =
    let d = design_view c.args.design.now in
    stated-terms d (port_sorts d.pipe) c.args.graph.now c.args.state.now (whole-stated d c.args.graph.now c.args.state.now c.requires.keeps c.requires.sorted)

pub sym_lets-requires-clause-sorted : goal.sym_lets-requires-clause-sorted
sym_lets-requires-clause-sorted c =
    let d = design_view c.args.design.now in
    stated-lets d (port_sorts d.pipe) c.args.graph.now c.args.state.now d.pipe.locals (whole-stated d c.args.graph.now c.args.state.now c.requires.keeps c.requires.sorted) c.requires.lawful.pipe.locals

pub loop-exact-init : goal.loop-exact-init
loop-exact-init c =
    let d = design_view c.args.design.now in
    rw c.new-whens.ensures.items
    (subst (λ ls. Gathers d (port_sorts d.pipe) c.args.graph.now c.sym_lets.new.graph c.args.state.now d.pipe.locals ls (map (λ (e : ExactView). sort.Bool) d.exact) (map (λ (e : ExactView). e.when) d.exact) 0 []) (sym c.lets.view_is)
    (gathers-none d (port_sorts d.pipe) _ _ c.args.state.now d.pipe.locals _ (map (λ (e : ExactView). sort.Bool) d.exact) (map (λ (e : ExactView). e.when) d.exact)
    (record { stated = whole-stated d c.args.graph.now c.args.state.now c.requires.keeps c.requires.sorted; grows = c.sym_lets.ensures.grows; let_terms = c.in_ok-lets.ensures.lets })))

pub sym_eval-requires-clause-terms : goal.sym_eval-requires-clause-terms
sym_eval-requires-clause-terms c =
    let d = design_view c.args.design.now in
    subst (λ ls. AreTerms c.loop-exact.graph (terms_of d c.args.state.now ls)) c.lets.view_is (named-terms d (port_sorts d.pipe) _ _ c.args.state.now d.pipe.locals _ c.loop-exact.invariant.named)

pub sym_eval-requires-clause-sorted : goal.sym_eval-requires-clause-sorted
sym_eval-requires-clause-sorted c =
    let d = design_view c.args.design.now in
    let there = map-there (λ e. (exact_view e).when) c.as_slice-exact-items.result.now c.args.design.now.exact c.loop-exact.exact-index c.exact-item.result c.as_slice-exact-items.ensures c.loop-exact-test.true c.exact-item.is in
    let at = ap (λ l. slice_get l c.loop-exact.exact-index) (map-map (λ (e : ExactView). e.when) exact_view c.args.design.now.exact) ∙ there in
    subst (λ ls. (u : Sort) × HasSort (context_in c.loop-exact.graph (terms_of d c.args.state.now ls)) (expr_view c.exact-item.result.when) u) c.lets.view_is
    (gathers-ready d (port_sorts d.pipe) _ _ c.args.state.now d.pipe.locals _ (map (λ (e : ExactView). sort.Bool) d.exact) (map (λ (e : ExactView). e.when) d.exact) c.loop-exact.exact-index _ _ (exact-sorts d c.requires.lawful) at c.loop-exact.invariant)

pub sym_lets-requires-clause-limits : goal.sym_lets-requires-clause-limits
sym_lets-requires-clause-limits c = c.requires.lawful.pipe.local_limits

pub sym_eval-requires-clause-limits : goal.sym_eval-requires-clause-limits
sym_eval-requires-clause-limits c =
    let d = design_view c.args.design.now in
    let seen = item_seen exact_view c.args.design.now.exact c.as_slice-exact-items.result.now c.loop-exact.exact-index c.exact-item.result c.as_slice-exact-items.ensures c.loop-exact-test.true c.exact-item.is in
    (item_of_all (IsLawfulExact d) d.exact c.loop-exact.exact-index (exact_view c.exact-item.result) c.requires.lawful.exact seen).limits

pub returns-in_err-sym_eval-clause-grows : goal.returns-in_err-sym_eval-clause-grows
returns-in_err-sym_eval-clause-grows c = Grows-trans (design_view c.args.design.now) _ _ _ c.loop-exact.invariant.named.grows c.sym_eval.ensures.grows

pub returns-in_err-push-clause-grows : goal.returns-in_err-push-clause-grows
returns-in_err-push-clause-grows c = Grows-trans (design_view c.args.design.now) _ _ _ c.loop-exact.invariant.named.grows c.sym_eval.ensures.grows

pub loop-exact-preserved : goal.loop-exact-preserved
loop-exact-preserved c =
    let d = design_view c.args.design.now in
    let there = map-there (λ e. (exact_view e).when) c.as_slice-exact-items.result.now c.args.design.now.exact c.loop-exact.exact-index c.exact-item.result c.as_slice-exact-items.ensures c.loop-exact-test.true c.exact-item.is in
    let at = ap (λ l. slice_get l c.loop-exact.exact-index) (map-map (λ (e : ExactView). e.when) exact_view c.args.design.now.exact) ∙ there in
    rw c.in_ok-push.ensures.items
    (gathers-next d (port_sorts d.pipe) _ _ _ c.args.state.now d.pipe.locals _ (map (λ (e : ExactView). sort.Bool) d.exact) (map (λ (e : ExactView). e.when) d.exact) c.loop-exact.exact-index _ _ _ (exact-sorts d c.requires.lawful) at
    c.loop-exact.invariant c.sym_eval.ensures.grows (subst (λ ls. DenotesExpr c.loop-exact.graph c.sym_eval.new.graph (terms_of d c.args.state.now ls) (expr_view c.exact-item.result.when) c.in_ok-sym_eval.field-0) (sym c.lets.view_is) c.in_ok-sym_eval.ensures.term))

pub returns-clause-whens : goal.returns-clause-whens
returns-clause-whens c =
    let d = design_view c.args.design.now in
    let past = map-length exact_view c.as_slice-exact-items.result.now c.args.design.now.exact c.loop-exact.exact-index c.as_slice-exact-items.ensures c.loop-exact-test.false in
    rw c.from_vec.ensures
    (conditions-are d _ _ c.args.state.now _
    (gathers-all d (port_sorts d.pipe) _ _ c.args.state.now d.pipe.locals _ (map (λ (e : ExactView). sort.Bool) d.exact) (map (λ (e : ExactView). e.when) d.exact) c.loop-exact.exact-index _ (exact-sorts d c.requires.lawful)
    (omega (arith, past, length-map d.exact (λ (e : ExactView). e.when))) c.loop-exact.invariant))

pub returns-clause-denotes : goal.returns-clause-denotes
returns-clause-denotes c =
    let d = design_view c.args.design.now in
    let past = map-length exact_view c.as_slice-exact-items.result.now c.args.design.now.exact c.loop-exact.exact-index c.as_slice-exact-items.ensures c.loop-exact-test.false in
    rw c.from_vec.ensures
    (conditions-denote d _ _ c.args.state.now _
    (gathers-all d (port_sorts d.pipe) _ _ c.args.state.now d.pipe.locals _ (map (λ (e : ExactView). sort.Bool) d.exact) (map (λ (e : ExactView). e.when) d.exact) c.loop-exact.exact-index _ (exact-sorts d c.requires.lawful)
    (omega (arith, past, length-map d.exact (λ (e : ExactView). e.when))) c.loop-exact.invariant))

pub returns-clause-grows : goal.returns-clause-grows
returns-clause-grows c = c.loop-exact.invariant.named.grows

pub returns-clause-made : goal.returns-clause-made
returns-clause-made c =
    let d = design_view c.args.design.now in
    let past = map-length exact_view c.as_slice-exact-items.result.now c.args.design.now.exact c.loop-exact.exact-index c.as_slice-exact-items.ensures c.loop-exact-test.false in
    rw c.from_vec.ensures
    (gathers-all d (port_sorts d.pipe) _ _ c.args.state.now d.pipe.locals _ (map (λ (e : ExactView). sort.Bool) d.exact) (map (λ (e : ExactView). e.when) d.exact) c.loop-exact.exact-index _ (exact-sorts d c.requires.lawful)
    (omega (arith, past, length-map d.exact (λ (e : ExactView). e.when))) c.loop-exact.invariant).made
