use Rattle.std.proofs.Common.{◌≡◌, ◌<◌, ◌≤◌, length, map, arith}
use Rattle.std.proofs.lemmas.List.{take_all}
use Rattle.std.proofs.lemmas.Simd.{map-map}
use Rattle.bd_model.specs.ExprView.{expr_view, expr_views, list_of_views}
use Rattle.bd_model.specs.Value.{value_of}
use Rattle.bd_model.proofs.Views.{list_of-expr_views}
use Rattle.bd_slice.specs.inner.Followed.{FollowsKept}
use Rattle.bd_slice.proofs.Cycles.{zip_item}
use Rattle.bd_slice.proofs.cycle.trace_each.Goals as goal

pub loop-expr-preserved : goal.loop-expr-preserved
loop-expr-preserved c =
    let case = c.args.names.now.case.now in
    let within : c.loop-expr.expr-index < length c.deref-expr-items.result.now = omega arith in
    record {
      grows = λ d o h. c.loop-expr.invariant.grows d o (c.in_ok-trace.ensures.grows d o h);
      follows = λ o env h f.
          zip_item (FollowsKept o) _ _ (λ x. value_of env (expr_view x)) _ _ c.expr-item.result _ within c.expr-item.is
          (c.loop-expr.invariant.follows o env (c.in_ok-trace.ensures.grows case o h) f) c.in_ok-push.ensures.items (c.in_ok-trace.ensures.follows o env h f);
    }

pub returns-clause-follows : goal.returns-clause-follows
returns-clause-follows c = λ o env h f.
    let items = c.deref-expr-items.result.now in
    let past : length items ≤ c.loop-expr.expr-index = omega arith in
    let whole : map (value_of env) (list_of_views (expr_views c.args.exprs.now)) ≡ map (λ x. value_of env (expr_view x)) items = rw (list_of-expr_views, c.deref-expr-items.ensures.value) (map-map (value_of env) expr_view _) in
    let all = take_all c.loop-expr.expr-index items past in
    rw whole (rw all at (c.loop-expr.invariant.follows o env h f))
