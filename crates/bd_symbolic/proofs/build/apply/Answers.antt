use Rattle.bd_model.specs.DesignView.{design_view}
use Rattle.bd_model.specs.declared.design.Sort.TheVariants as sort
use Rattle.bd_symbolic.proofs.Applying.{keeps_function, function_declared, result_sort-true, result_sort-false, Grows-one, applied_pred, applied_app, called_pred, called_app}
use Rattle.bd_symbolic.proofs.build.apply.Goals as goal

pub mk_pred-requires-clause-symbol : goal.mk_pred-requires-clause-symbol
mk_pred-requires-clause-symbol c = keeps_function (design_view c.args.design.now) _ c.args.f _ sort.Bool c.get.result.now c.requires.keeps c.get.ensures c.requires.applies (result_sort-true c.get.result.now c.if-get.true)

pub mk_app-requires-clause-symbol : goal.mk_app-requires-clause-symbol
mk_app-requires-clause-symbol c = keeps_function (design_view c.args.design.now) _ c.args.f _ sort.Word c.get.result.now c.requires.keeps c.get.ensures c.requires.applies (result_sort-false c.get.result.now c.if-get.false)

pub returns-then-get-clause-grows : goal.returns-then-get-clause-grows
returns-then-get-clause-grows c =
    Grows-one (design_view c.args.design.now) _ _ _ (function_declared (design_view c.args.design.now) c.args.f _ sort.Bool c.get.result.now c.get.ensures c.requires.applies (result_sort-true c.get.result.now c.if-get.true)) c.mk_pred.ensures.extends c.mk_pred.ensures.uses

pub returns-then-get-clause-applied : goal.returns-then-get-clause-applied
returns-then-get-clause-applied c =
    applied_pred (design_view c.args.design.now) _ _ c.args.f c.args.args.now c.get.result.now _ c.get.ensures (result_sort-true c.get.result.now c.if-get.true) c.mk_pred.ensures.denotes c.mk_pred.ensures.sorted
    (called_pred (design_view c.args.design.now) _ _ c.args.f c.args.args.now c.get.result.now _ c.get.ensures c.if-get.true c.requires.arguments c.mk_pred.ensures.simplified)

pub returns-else-get-clause-grows : goal.returns-else-get-clause-grows
returns-else-get-clause-grows c =
    Grows-one (design_view c.args.design.now) _ _ _ (function_declared (design_view c.args.design.now) c.args.f _ sort.Word c.get.result.now c.get.ensures c.requires.applies (result_sort-false c.get.result.now c.if-get.false)) c.mk_app.ensures.extends c.mk_app.ensures.uses

pub returns-else-get-clause-applied : goal.returns-else-get-clause-applied
returns-else-get-clause-applied c =
    applied_app (design_view c.args.design.now) _ _ c.args.f c.args.args.now c.get.result.now _ c.get.ensures (result_sort-false c.get.result.now c.if-get.false) c.mk_app.ensures.denotes c.mk_app.ensures.sorted
    (called_app (design_view c.args.design.now) _ _ c.args.f c.args.args.now c.get.result.now _ c.get.ensures c.if-get.false c.requires.arguments c.mk_app.ensures.simplified)
