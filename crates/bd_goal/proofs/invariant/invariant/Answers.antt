use Rattle.std.proofs.Common.{[], ◌∷◌, subst}
use Rattle.std.proofs.lemmas.Result.{IfOk-weaker}
use Rattle.bd_model.specs.DesignView.{design_view}
use Rattle.bd_model.specs.declared.design.Sort.TheVariants as sort
use Rattle.bd_symbolic.proofs.Growing.{Grows-trans}
use Rattle.bd_goal.proofs.Named.{IsNamed, alone-stated, named-sort, named-terms, stated-lets, stated-terms, term-sort}
use Rattle.bd_symbolic.specs.Made.{AreMadeOver}
use Rattle.bd_symbolic.specs.declared.state.SymState.{SymState}
use Rattle.bd_symbolic.proofs.Cycles.{over_made}
use Rattle.bd_goal.proofs.Making.{alone-is}
use Rattle.bd_goal.proofs.Standing.{invariant-said}
use Rattle.bd_goal.proofs.invariant.invariant.Goals as goal

pub sym_lets-requires-clause-terms : goal.sym_lets-requires-clause-terms
sym_lets-requires-clause-terms c = stated-terms (design_view c.args.design.now) [] c.args.graph.now _ (alone-stated (design_view c.args.design.now) c.args.graph.now c.args.state.now _ c.requires.keeps c.requires.sorted c.in_ok-alone.ensures.entries c.in_ok-alone.ensures.inputs)

pub sym_lets-requires-clause-sorted : goal.sym_lets-requires-clause-sorted
sym_lets-requires-clause-sorted c = stated-lets (design_view c.args.design.now) [] c.args.graph.now _ (design_view c.args.design.now).inv_locals (alone-stated (design_view c.args.design.now) c.args.graph.now c.args.state.now _ c.requires.keeps c.requires.sorted c.in_ok-alone.ensures.entries c.in_ok-alone.ensures.inputs) c.requires.lawful.inv_locals

pub sym_eval-requires-clause-terms : goal.sym_eval-requires-clause-terms
sym_eval-requires-clause-terms c =
    let named : IsNamed (design_view c.args.design.now) [] c.args.graph.now c.sym_lets.new.graph c.in_ok-alone.alone (design_view c.args.design.now).inv_locals c.in_ok-lets.lets = record { stated = alone-stated (design_view c.args.design.now) c.args.graph.now c.args.state.now _ c.requires.keeps c.requires.sorted c.in_ok-alone.ensures.entries c.in_ok-alone.ensures.inputs; grows = c.sym_lets.ensures.grows; let_terms = c.in_ok-lets.ensures.lets } in
    named-terms (design_view c.args.design.now) [] _ _ _ _ _ named

pub sym_eval-requires-clause-sorted : goal.sym_eval-requires-clause-sorted
sym_eval-requires-clause-sorted c =
    let named : IsNamed (design_view c.args.design.now) [] c.args.graph.now c.sym_lets.new.graph c.in_ok-alone.alone (design_view c.args.design.now).inv_locals c.in_ok-lets.lets = record { stated = alone-stated (design_view c.args.design.now) c.args.graph.now c.args.state.now _ c.requires.keeps c.requires.sorted c.in_ok-alone.ensures.entries c.in_ok-alone.ensures.inputs; grows = c.sym_lets.ensures.grows; let_terms = c.in_ok-lets.ensures.lets } in
    named-sort (design_view c.args.design.now) [] _ _ _ _ _ (design_view c.args.design.now).inv sort.Bool named c.requires.lawful.inv

pub sym_lets-requires-clause-limits : goal.sym_lets-requires-clause-limits
sym_lets-requires-clause-limits c = c.requires.lawful.inv_local_limits

pub sym_eval-requires-clause-limits : goal.sym_eval-requires-clause-limits
sym_eval-requires-clause-limits c = c.requires.lawful.inv_limits

pub returns-clause-sorted : goal.returns-clause-sorted
returns-clause-sorted c =
    let named : IsNamed (design_view c.args.design.now) [] c.args.graph.now c.sym_lets.new.graph c.in_ok-alone.alone (design_view c.args.design.now).inv_locals c.in_ok-lets.lets = record { stated = alone-stated (design_view c.args.design.now) c.args.graph.now c.args.state.now _ c.requires.keeps c.requires.sorted c.in_ok-alone.ensures.entries c.in_ok-alone.ensures.inputs; grows = c.sym_lets.ensures.grows; let_terms = c.in_ok-lets.ensures.lets } in
    IfOk-weaker _ _ _ (λ id t. term-sort (design_view c.args.design.now) [] _ _ _ _ _ _ (design_view c.args.design.now).inv sort.Bool id named c.requires.lawful.inv t) c.sym_eval.ensures.term

pub returns-clause-says : goal.returns-clause-says
returns-clause-says c =
    let named : IsNamed (design_view c.args.design.now) [] c.args.graph.now c.sym_lets.new.graph c.in_ok-alone.alone (design_view c.args.design.now).inv_locals c.in_ok-lets.lets = record { stated = alone-stated (design_view c.args.design.now) c.args.graph.now c.args.state.now _ c.requires.keeps c.requires.sorted c.in_ok-alone.ensures.entries c.in_ok-alone.ensures.inputs; grows = c.sym_lets.ensures.grows; let_terms = c.in_ok-lets.ensures.lets } in
    invariant-said (design_view c.args.design.now) _ _ _ c.args.state.now _ _ _ named c.in_ok-alone.ensures.entries c.in_ok-alone.ensures.inputs c.sym_eval.ensures.term

pub returns-clause-grows : goal.returns-clause-grows
returns-clause-grows c = Grows-trans (design_view c.args.design.now) _ _ _ c.sym_lets.ensures.grows c.sym_eval.ensures.grows

pub returns-clause-made : goal.returns-clause-made
returns-clause-made c =
    let d = design_view c.args.design.now in
    IfOk-weaker c.sym_eval.result _ _ (λ id t.
    subst (λ (s : SymState). AreMadeOver c.sym_eval.new.graph d s d.inv_locals (d.inv ∷ []) (id ∷ [])) (alone-is c.args.state.now c.in_ok-alone.alone c.in_ok-alone.ensures.entries c.in_ok-alone.ensures.inputs)
    (over_made d c.args.graph.now c.sym_lets.new.graph c.sym_eval.new.graph c.in_ok-alone.alone d.inv_locals (d.inv ∷ []) c.in_ok-lets.lets (id ∷ []) c.sym_eval.ensures.grows.extends c.in_ok-lets.ensures.lets (t, tt)))
    c.sym_eval.ensures.term
